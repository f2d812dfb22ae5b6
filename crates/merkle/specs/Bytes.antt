-- Byte strings, digests of them, and the three kinds of strings that are digested.
use Rattle.std.specs.Prelude.{◌≡◌, ℕ, ◌/◌, ◌%◌, Bool, true, ◌&&◌, List, [], ◌∷◌, ◌++◌, length, ◌==◌, nat_lt}

-- A string of bytes, as numbers.
abbrev pub Bytes : Type 0
Bytes = List ℕ

-- A digest of byte strings: SHA-256 in the programs, any other in tests.
abbrev pub Hash : Type 0
Hash = Bytes → Bytes

-- Every number of the string is a byte.
unfoldable pub all_bytes : Bytes → Bool
all_bytes [] = true
all_bytes (x ∷ xs) = nat_lt x 256 && all_bytes xs

-- The string has 32 bytes.
abbrev pub is_digest : Bytes → Bool
is_digest d = length d == 32 && all_bytes d

-- Every string of the list has 32 bytes.
unfoldable pub all_digests : List Bytes → Bool
all_digests [] = true
all_digests (d ∷ ds) = is_digest d && all_digests ds

-- All that is assumed of a digest: 32 bytes come out. Nothing is assumed about collisions.
abbrev pub Whole : Hash → Type 0
Whole hash = (a : Bytes) → is_digest (hash a) ≡ true

-- A number of 32 bits in four bytes, high byte first.
unfoldable pub be4 : ℕ → Bytes
be4 w = (w / 16777216 % 256) ∷ (w / 65536 % 256) ∷ (w / 256 % 256) ∷ (w % 256) ∷ []

-- What is digested for a word; the first byte tells the three kinds apart.
unfoldable pub word_preimage : (word : ℕ) → Bytes
word_preimage w = 0 ∷ be4 w

-- What is digested for two digests that are joined.
unfoldable pub pair_preimage : (left right : Bytes) → Bytes
pair_preimage l r = 1 ∷ (l ++ r)

-- What is digested for a state: the place, the register and the memory's digest.
unfoldable pub state_preimage : (place register : ℕ) (root : Bytes) → Bytes
state_preimage p a m = 2 ∷ (be4 p ++ (be4 a ++ m))
