-- The strings that the code holds.
use Rattle.std.specs.Prelude.{Option}
use Rattle.std.specs.Option.{option_map}
use Rattle.merkle.specs.declared.preimage.Preimage.{Preimage}
use Rattle.merkle.specs.declared.preimage.Preimage.TheVariants.{Word, Pair, State}
use Rattle.merkle.specs.Bytes.{Bytes}

abbrev pub bytes_of : Preimage → Bytes
bytes_of (Word b) = b
bytes_of (Pair b) = b
bytes_of (State b) = b

-- Two of them, as strings.
abbrev pub two_bytes : Option (Preimage × Preimage) → Option (Bytes × Bytes)
two_bytes o = option_map (λ x. (bytes_of x.0, bytes_of x.1)) o
