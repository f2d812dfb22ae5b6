use Rattle.std.proofs.Common.{◌≡◌, length, rules}
use Rattle.std.proofs.lemmas.Bool.{and_from, lt-ltb, eq-eqb}
use Rattle.merkle.specs.Openings.{well_formed}
use Rattle.merkle.proofs.opening.Opening.shape.Goals as goal

pub returns : goal.returns
unfolding well_formed
returns c =
    let n : length c.args.self.now.siblings ≡ 16 = search rules in
    and_from _ _ (and_from _ _ (lt-ltb _ _ c.word.ensures) (eq-eqb _ _ n)) c.digests.ensures
