use Rattle.std.proofs.Common.{arith}
use Rattle.dispute.proofs.referee.Referee.open.Goals as goal

pub invariant_of-result : goal.invariant_of-result
invariant_of-result c = record { ok = rw (c.open.ensures (λ x. x)) (omega arith) }
