use Rattle.std.proofs.Common.{◌≡◌, ◌*◌, vec_items, vec_len}
use Rattle.machine.specs.Machine.{start, run}
use Rattle.history.specs.Keeping.{spacing}
use Rattle.history.proofs.History.extend.Given as goal

-- the state is the one at the end of the slices so far
abbrev pub invariant-loop-slice : goal.invariant-loop-slice
invariant-loop-slice g l =
    (l.self.program ≡ l.initial.self.program) × (vec_len l.self.slices ≡ l.slice) × (l.state ≡ run (l.slice * spacing) (start (vec_items l.self.program)))
