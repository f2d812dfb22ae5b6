use Rattle.std.proofs.Common.{refl}
use Rattle.merkle.specs.Bytes.{all_digests}
use Rattle.merkle.proofs.Shapes.{digests_more}
use Rattle.merkle.proofs.shape.digests.Goals as goal

pub loop-one-init : goal.loop-one-init
unfolding all_digests
loop-one-init c = refl

pub loop-one-preserved : goal.loop-one-preserved
loop-one-preserved c = digests_more c.args.digests.now c.loop-one.one-index c.loop-one-test.true c.loop-one.invariant c.digest.ensures
