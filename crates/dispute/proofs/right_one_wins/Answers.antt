use Rattle.witness.specs.Laws.{machine}
use Rattle.witness.proofs.Instances.{machine_lawful}
use Rattle.dispute.proofs.Safe.{claimer_safe, doubter_safe}
use Rattle.dispute.proofs.Limits.{right_one_wins, claimer_wins, doubter_wins, claimer_can, doubter_can}
use Rattle.dispute.proofs.right_one_wins.Goals as goal

pub returns : goal.returns
returns c =
    record {
      claimer_safe = λ h whole s v n es. claimer_safe (machine h) (machine_lawful h whole) s v es n;
      doubter_safe = λ h whole. doubter_safe (machine h) (machine_lawful h whole);
      claimer_wins = λ h whole. claimer_wins (machine h) (machine_lawful h whole);
      doubter_wins = λ h whole. doubter_wins (machine h) (machine_lawful h whole);
      wins = λ h whole. right_one_wins (machine h) (machine_lawful h whole);
      claimer_can = λ h whole. claimer_can (machine h) (machine_lawful h whole);
      doubter_can = λ h whole. doubter_can (machine h);
    }
