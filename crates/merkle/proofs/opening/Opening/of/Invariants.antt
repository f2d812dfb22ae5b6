use Rattle.std.proofs.Common.{◌≡◌, ◌-◌, ◌^◌, ◌<◌, ◌++◌, length, take}
use Rattle.merkle.specs.Tree.{siblings_of}
use Rattle.merkle.proofs.opening.Opening.of.Given as goal

abbrev pub invariant-loop-level : goal.invariant-loop-level
invariant-loop-level g l =
    let h = g.D.Digester.hash in
    (take l.level l.beside-items ++ siblings_of h (16 - l.level) l.level l.index l.memory ≡ siblings_of h 16 0 l.place l.memory) ×
    (l.index < 2 ^ (16 - l.level)) × (length l.beside-items ≡ 16)
