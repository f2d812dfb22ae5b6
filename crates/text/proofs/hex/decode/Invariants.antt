use Rattle.std.proofs.Common.{◌≡◌, drop, vec_items}
use Rattle.text.proofs.Unhex.{onto, pairs_value}
use Rattle.text.proofs.hex.decode.Given as goal

-- the bytes so far go on with those of the pairs left
abbrev pub invariant-loop-high : goal.invariant-loop-high
invariant-loop-high l = onto (vec_items l.bytes) (pairs_value (drop l.high-index l.pairs)) ≡ pairs_value l.pairs
