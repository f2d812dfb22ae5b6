use Rattle.std.proofs.Common.{arith}
use Rattle.merkle.proofs.Nodes.{node_count}
use Rattle.merkle.proofs.tree.memory_digest.Goals as goal

pub returns : goal.returns
returns g c =
    let e = c.node_digest.ensures in
    record { value = e.value; seen = e.seen; count = omega (arith, node_count g.D.Digester.hash 16 0 c.args.memory.now) }
