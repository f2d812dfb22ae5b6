use Rattle.std.proofs.Common.{◌≡◌, drop}
use Rattle.history.specs.Keeping.{resumed}
use Rattle.history.proofs.History.at_end_of.Given as goal

-- the slices that are left lead where all of them do
abbrev pub invariant-loop-slice : goal.invariant-loop-slice
invariant-loop-slice l = resumed (drop l.slice-index l.slice-items) l.state ≡ resumed l.slice-items l.initial.state
