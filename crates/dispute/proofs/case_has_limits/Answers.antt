use Rattle.witness.specs.Laws.{machine}
use Rattle.dispute.specs.Bisection.{bisection}
use Rattle.dispute.proofs.Plays.{refuses, days}
use Rattle.dispute.proofs.Moves.{reads}
use Rattle.dispute.proofs.Limits.{ends, ends_all, few, few_in_all, stays_in_range}
use Rattle.dispute.proofs.case_has_limits.Goals as goal

pub returns : goal.returns
returns c =
    record {
      ends = λ h whole. ends (machine h);
      ends_all = λ h whole. ends_all (machine h);
      few = λ h whole. few (machine h);
      few_in_all = λ h whole. few_in_all (machine h);
      refuses = λ h whole g. refuses (bisection (machine h) g);
      days = λ h whole g. days (bisection (machine h) g);
      range = λ h whole. stays_in_range (machine h);
      reads = λ h whole. reads (machine h);
    }
