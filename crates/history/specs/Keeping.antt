-- The states that are kept of a run: after each 2^20 steps, what has changed since the state before.
use Rattle.std.specs.Prelude.{◌≡◌, ℕ, ◌+◌, ◌*◌, ◌≤◌, cond, List, [], ◌∷◌, length, take, vec_items, ◌==◌, slice_set}
use Rattle.machine.specs.Machine.{State, start, run}
use Rattle.history.specs.declared.Change.{Change}
use Rattle.history.specs.declared.Slice.{Slice}

-- How many steps a slice of the run has.
abbrev pub spacing : ℕ
spacing = 1048576

-- A memory after changes, one after another.
unfoldable pub patched : List Change → List ℕ → List ℕ
patched [] m = m
patched (c ∷ cs) m = patched cs (slice_set m c.place c.word)

-- The words of a memory that differ from those of the memory before, from a place on.
unfoldable pub differing : (place : ℕ) (before after : List ℕ) → List Change
differing i [] ys = []
differing i (x ∷ xs) [] = []
differing i (x ∷ xs) (y ∷ ys) = cond (x == y) (differing (i + 1) xs ys) (record { place = i; word = y } ∷ differing (i + 1) xs ys)

-- The state at the end of a slice, from the one at its beginning.
abbrev pub after : Slice → State → State
after x s = record { cpu = x.cpu; memory = patched (vec_items x.changes) s.memory }

-- The state at the end of slices, one after another.
unfoldable pub resumed : List Slice → State → State
resumed [] s = s
resumed (x ∷ xs) s = resumed xs (after x s)

-- What slices say of a program's run: where i of them end, the run has made i times 2^20 steps.
abbrev pub Keeps : (program : List ℕ) → List Slice → Type 0
Keeps p xs = (i : ℕ) → i ≤ length xs → resumed (take i xs) (start p) ≡ run (i * spacing) (start p)
