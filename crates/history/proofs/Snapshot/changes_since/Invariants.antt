use Rattle.std.proofs.Common.{◌≡◌, ◌++◌, drop, vec_items}
use Rattle.history.specs.Keeping.{differing}
use Rattle.history.proofs.Snapshot.changes_since.Given as goal

-- the changes so far, and those that are left
abbrev pub invariant-loop-place : goal.invariant-loop-place
invariant-loop-place l =
    vec_items l.changes ++ differing l.place (drop l.place l.before.memory) (drop l.place l.word-items) ≡ differing 0 l.before.memory l.word-items
