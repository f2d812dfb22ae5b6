use Rattle.witness.proofs.Checks.{next_digest, next_seen}
use Rattle.witness.proofs.Witness.next_digest.Goals as goal

pub returns : goal.returns
returns g c =
    let d = g.D.Digester in
    let r = c.root_next-root.ensures in
    let s = c.state_digest.ensures in
    record {
      value = next_digest d.hash c.args.self.now _ _ _ _ _ _ c.requires.cpu c.requires.instruction c.requires.operand c.execute.ensures r.value s.value;
      seen = next_seen d.hash c.args.self.now _ _ _ _ _ c.state_digest.result c.requires.cpu c.requires.instruction c.requires.operand c.execute.ensures r.value d.adds _ _ _ r.seen s.seen;
    }
