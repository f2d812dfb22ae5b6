use Rattle.std.proofs.Common.{◌≡◌, ◌++◌, take, drop}
use Rattle.sha256.specs.Sha256.{rounds, sums}
use Rattle.sha256.proofs.compress.Given as goal

abbrev pub invariant-loop-t : goal.invariant-loop-t
invariant-loop-t l = l.s ≡ rounds l.t l.w l.state

abbrev pub invariant-loop-i : goal.invariant-loop-i
invariant-loop-i l = take l.i l.word-items ++ sums (drop l.i l.word-items) (drop l.i l.state) ≡ sums l.initial.word-items l.state
