use Rattle.std.proofs.Common.{◌≡◌, drop, vec_items}
use Rattle.history.specs.Keeping.{patched}
use Rattle.history.proofs.Snapshot.resume.Given as goal

-- the changes that are left lead where all of them do
abbrev pub invariant-loop-change : goal.invariant-loop-change
invariant-loop-change l =
    (l.self-inside.memory.len ≡ 65536) ×
    (patched (drop l.change-index l.change-items) (vec_items l.self-inside.memory) ≡ patched l.change-items l.fn.self.memory)
