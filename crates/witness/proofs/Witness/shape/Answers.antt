use Rattle.std.proofs.Common.{◌^◌, ◌<◌, rules}
use Rattle.std.proofs.lemmas.Bool.{and_from, lt-ltb}
use Rattle.witness.specs.Witness.{shaped}
use Rattle.witness.proofs.Witness.shape.Goals as goal

pub returns : goal.returns
unfolding shaped
returns c =
    let p : c.args.self.now.place < 2 ^ 32 = search rules in
    let r : c.args.self.now.register < 2 ^ 32 = search rules in
    record { place = p; rest = and_from _ _ (and_from _ _ (and_from _ _ (lt-ltb _ _ r) c.digest.ensures) c.shape.ensures) c.shape-2.ensures }
