use Rattle.history.proofs.Slices.{resumed_more}
use Rattle.history.proofs.History.at_end_of.Goals as goal

pub loop-slice-preserved : goal.loop-slice-preserved
loop-slice-preserved c =
    resumed_more _ _ c.slice-item.result c.loop-slice.state _ _ c.loop-slice-test.true c.slice-item.is c.resume.ensures c.loop-slice.invariant
