use Rattle.std.proofs.Common.{◌≡◌, ◌-◌, length, take}
use Rattle.sha256.specs.Sha256.{words, expand}
use Rattle.sha256.proofs.schedule.Given as goal

abbrev pub invariant-loop-t : goal.invariant-loop-t
invariant-loop-t l = (take l.t l.w ≡ expand (l.t - 16) (words 16 l.block)) × (length l.w ≡ 64)
