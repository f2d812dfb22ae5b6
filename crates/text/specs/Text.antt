-- Hexadecimal, decimal numbers, and the line of a state, as bytes of text.
use Rattle.std.specs.Prelude.{◌≡◌, ℕ, ◌+◌, ◌-◌, ◌*◌, ◌/◌, ◌%◌, ◌^◌, ◌≤◌, Bool, true, false, cond, ◌&&◌, ◌⊎◌, [], ◌∷◌, ◌++◌, Some, None, decimal, Option, nat_le, nat_lt}
use Rattle.std.specs.Option.{option_map}
use Rattle.std.specs.List.{flat_map}
use Rattle.merkle.specs.Bytes.{Bytes, Hash}
use Rattle.machine.specs.declared.Cpu.{Cpu}
use Rattle.machine.specs.Machine.{State, digest}

-- The decimal digits 0 to 9.
abbrev pub is_digit : ℕ → Bool
is_digit c = nat_le 48 c && nat_le c 57

-- A hexadecimal digit, lower case: 0 to 9, then a to f.
abbrev pub hex_digit : ℕ → ℕ
hex_digit d = cond (nat_lt d 10) (48 + d) (87 + d)

-- A byte as two digits, the high one first.
abbrev pub hex_byte : ℕ → Bytes
hex_byte b = hex_digit (b / 16) ∷ hex_digit (b % 16) ∷ []

abbrev pub hexadecimal : Bytes → Bytes
hexadecimal bs = flat_map hex_byte bs

-- The value of a hexadecimal digit: 0 to 9, then a to f or A to F.
abbrev pub hex_value : ℕ → Option ℕ
hex_value c = cond (is_digit c) (Some (c - 48)) (cond (nat_le 97 c && nat_le c 102) (Some (c - 87)) (cond (nat_le 65 c && nat_le c 70) (Some (c - 55)) None))

-- The byte of two digits' values, the high one first.
abbrev pub pair_value : (high low : Option ℕ) → Option ℕ
pair_value None l = None
pair_value (Some h) None = None
pair_value (Some h) (Some l) = Some (h * 16 + l)

-- The byte of two digits.
abbrev pub hex_pair : (high low : ℕ) → Option ℕ
hex_pair c d = pair_value (hex_value c) (hex_value d)

-- A byte before others, where there are both.
abbrev pub before : Option ℕ → Option Bytes → Option Bytes
before None o = None
before (Some b) o = option_map (λ bs. b ∷ bs) o

-- The bytes that a text of hexadecimal digits gives, two digits a byte, the high one first.
unfoldable pub unhex : Bytes → Option Bytes
unhex [] = Some []
unhex (c ∷ []) = None
unhex (c ∷ d ∷ cs) = before (hex_pair c d) (unhex cs)

-- The number that begins with the digits of n and goes on with these.
unfoldable pub number_from : (n : ℕ) → Bytes → Option ℕ
number_from n [] = Some n
number_from n (c ∷ cs) = cond (is_digit c) (number_from (n * 10 + (c - 48)) cs) None

-- One digit more, where it is one and 64 bits hold the number.
abbrev pub Appended : (n c : ℕ) → Option ℕ → Type 0
Appended n c (Some m) = (is_digit c ≡ true) × (m ≡ n * 10 + (c - 48))
Appended n c None = (is_digit c ≡ false) ⊎ (2 ^ 64 ≤ n * 10 + (c - 48))

-- A number is one decimal digit or more and nothing else.
abbrev pub number : Bytes → Option ℕ
number [] = None
number (c ∷ cs) = number_from 0 (c ∷ cs)

-- The same, where it is not above a limit.
abbrev pub up_to : (limit : ℕ) → Option ℕ → Option ℕ
up_to l None = None
up_to l (Some n) = cond (nat_le n l) (Some n) None

-- PLACE REGISTER DIGEST: decimal, decimal, hexadecimal, with a space between.
abbrev pub line : Cpu → (digest : Bytes) → Bytes
line c d = decimal c.place ++ (32 ∷ (decimal c.register ++ (32 ∷ hexadecimal d)))

-- The line of a state.
abbrev pub state_line : Hash → State → Bytes
state_line h s = line s.cpu (digest h s)
