-- A witness as the body of message 6: place (4), register (4), memory's digest (32), word (4), 16 digests, word (4), 16 digests.
use Rattle.std.specs.Prelude.{ℕ, ◌+◌, ◌*◌, cond, ◌&&◌, ◌++◌, length, take, drop, Some, None, Option, ◌==◌, slice_index}
use Rattle.std.specs.List.{flat_map}
use Rattle.std.specs.Simd.{first_chunks}
use Rattle.merkle.specs.Bytes.{Bytes, be4}
use Rattle.merkle.specs.declared.opening.Opening.{Opening}
use Rattle.witness.specs.declared.Witness.{Witness}

unfoldable pub opening_bytes : Opening → Bytes
opening_bytes o = be4 o.word ++ flat_map (λ s. s) o.siblings

unfoldable pub witness_bytes : Witness → Bytes
witness_bytes o = be4 o.place ++ (be4 o.register ++ (o.memory ++ (opening_bytes o.instruction ++ opening_bytes o.operand)))

-- The number in four bytes, high byte first.
abbrev pub from_be4 : Bytes → ℕ
from_be4 b = slice_index b 0 * 16777216 + slice_index b 1 * 65536 + slice_index b 2 * 256 + slice_index b 3

-- A word, and sixteen digests.
abbrev pub opening_from : Bytes → Opening
opening_from b = record { word = from_be4 b; siblings = first_chunks 32 16 (drop 4 b) }

unfoldable pub witness_from : Bytes → Witness
witness_from b =
    record { place = from_be4 b; register = from_be4 (drop 4 b); memory = take 32 (drop 8 b); instruction = opening_from (drop 40 b); operand = opening_from (drop 556 b) }

-- The witness in a message, by its first byte and the rest.
unfoldable pub parse : (kind : ℕ) → Bytes → Option Witness
parse k b = cond (k == 6 && length b == 1072) (Some (witness_from b)) None
