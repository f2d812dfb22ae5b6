use Rattle.std.proofs.Common.{◌≡◌, ◌-◌}
use Rattle.machine.specs.Machine.{run}
use Rattle.machine.proofs.run.Given as goal

-- the steps that are left lead where all of them do
abbrev pub invariant-loop-done : goal.invariant-loop-done
invariant-loop-done g l =
    run (l.steps - l.done) (record { cpu = l.cpu; memory = l.memory }) ≡ run l.steps (record { cpu = l.initial.cpu; memory = l.initial.memory })

abbrev pub decreases-loop-done : goal.decreases-loop-done
decreases-loop-done g l = l.steps - l.done
