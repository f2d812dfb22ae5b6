use Rattle.std.proofs.Common.{◌≡◌, ◌-◌}
use Rattle.machine.specs.Machine.{run}
use Rattle.machine.proofs.run_slice.Given as goal

-- the steps that are left lead where all of them do
abbrev pub invariant-loop : goal.invariant-loop
invariant-loop l =
    run (l.steps - l.counter) (record { cpu = l.cpu; memory = l.memory }) ≡ run l.steps (record { cpu = l.initial.cpu; memory = l.initial.memory })
