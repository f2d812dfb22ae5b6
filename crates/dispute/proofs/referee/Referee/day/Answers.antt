use Rattle.dispute.proofs.Kept.{kept, range_day}
use Rattle.dispute.proofs.referee.Referee.day.Goals as goal

pub invariant_of-result : goal.invariant_of-result
invariant_of-result c = record { ok = range_day c.args.day c.args.self.case _ c.day-answer.ensures c.args.self.ok }

pub returns : goal.returns
returns c = kept _ _ _ _ c.day-answer.ensures
