use Rattle.std.proofs.Common.{◌≡◌, true, take}
use Rattle.merkle.specs.Bytes.{all_digests}
use Rattle.merkle.proofs.shape.digests.Given as goal

abbrev pub invariant-loop-one : goal.invariant-loop-one
invariant-loop-one l = all_digests (take l.one-index l.digests) ≡ true
