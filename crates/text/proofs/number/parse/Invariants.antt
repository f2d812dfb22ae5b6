use Rattle.std.proofs.Common.{◌≡◌, drop}
use Rattle.text.specs.Text.{number_from, up_to}
use Rattle.text.proofs.number.parse.Given as goal

-- what is left goes on to the number of the whole text
abbrev pub invariant-loop-byte : goal.invariant-loop-byte
invariant-loop-byte l = up_to l.limit (number_from l.value (drop l.byte-index l.text)) ≡ up_to l.limit (number_from 0 l.text)
