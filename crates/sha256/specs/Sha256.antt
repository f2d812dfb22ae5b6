-- SHA-256 as FIPS 180-4 defines it, over lists of bytes. A word is a number below 2 ^ 32.
-- Assumes nothing.
use Rattle.std.specs.Prelude.{ℕ, zero, suc, ◌+◌, ◌-◌, ◌*◌, ◌/◌, ◌%◌, ◌^◌, ◌<◌, List, [], ◌∷◌, ◌++◌, map, length, replicate, bit_and, bit_or, bit_xor, slice_index, slice_index_or}
use Rattle.std.specs.List.{flat_map, fold, zip}
use Rattle.std.specs.Simd.{first_chunks}

-- ---- words: addition modulo 2 ^ 32, rotations and shifts to the right (2.2.2, 3.2)
infixl 65 ◌⊞◌
abbrev pub ◌⊞◌ : ℕ → ℕ → ℕ
x ⊞ y = (x + y) % 2 ^ 32

abbrev pub rotr : ℕ → ℕ → ℕ
rotr n x = bit_or (x / 2 ^ n) (x * 2 ^ (32 - n) % 2 ^ 32)

abbrev pub shr : ℕ → ℕ → ℕ
shr n x = x / 2 ^ n

abbrev pub not32 : ℕ → ℕ
not32 x = 2 ^ 32 - 1 - x

-- ---- the six functions (4.1.2)
abbrev pub ch : ℕ → ℕ → ℕ → ℕ
ch x y z = bit_xor (bit_and x y) (bit_and (not32 x) z)

abbrev pub maj : ℕ → ℕ → ℕ → ℕ
maj x y z = bit_xor (bit_xor (bit_and x y) (bit_and x z)) (bit_and y z)

-- by how many bits they rotate or shift
abbrev pub Amount : ℕ → Type 0
Amount n = (0 < n) × (n < 32)

abbrev pub Σ : (a b c : ℕ) → ℕ → ℕ
Σ a b c x = bit_xor (bit_xor (rotr a x) (rotr b x)) (rotr c x)

abbrev pub Σ₀ : ℕ → ℕ
Σ₀ = Σ 2 13 22

abbrev pub Σ₁ : ℕ → ℕ
Σ₁ = Σ 6 11 25

abbrev pub σ : (a b c : ℕ) → ℕ → ℕ
σ a b c x = bit_xor (bit_xor (rotr a x) (rotr b x)) (shr c x)

abbrev pub σ₀ : ℕ → ℕ
σ₀ = σ 7 18 3

abbrev pub σ₁ : ℕ → ℕ
σ₁ = σ 17 19 10

-- ---- the constants (4.2.2) and the first hash value (5.3.3)
unfoldable pub K : List ℕ
K =
    0x428a_2f98 ∷ 0x7137_4491 ∷ 0xb5c0_fbcf ∷ 0xe9b5_dba5 ∷ 0x3956_c25b ∷ 0x59f1_11f1 ∷ 0x923f_82a4 ∷ 0xab1c_5ed5 ∷
    0xd807_aa98 ∷ 0x1283_5b01 ∷ 0x2431_85be ∷ 0x550c_7dc3 ∷ 0x72be_5d74 ∷ 0x80de_b1fe ∷ 0x9bdc_06a7 ∷ 0xc19b_f174 ∷
    0xe49b_69c1 ∷ 0xefbe_4786 ∷ 0x0fc1_9dc6 ∷ 0x240c_a1cc ∷ 0x2de9_2c6f ∷ 0x4a74_84aa ∷ 0x5cb0_a9dc ∷ 0x76f9_88da ∷
    0x983e_5152 ∷ 0xa831_c66d ∷ 0xb003_27c8 ∷ 0xbf59_7fc7 ∷ 0xc6e0_0bf3 ∷ 0xd5a7_9147 ∷ 0x06ca_6351 ∷ 0x1429_2967 ∷
    0x27b7_0a85 ∷ 0x2e1b_2138 ∷ 0x4d2c_6dfc ∷ 0x5338_0d13 ∷ 0x650a_7354 ∷ 0x766a_0abb ∷ 0x81c2_c92e ∷ 0x9272_2c85 ∷
    0xa2bf_e8a1 ∷ 0xa81a_664b ∷ 0xc24b_8b70 ∷ 0xc76c_51a3 ∷ 0xd192_e819 ∷ 0xd699_0624 ∷ 0xf40e_3585 ∷ 0x106a_a070 ∷
    0x19a4_c116 ∷ 0x1e37_6c08 ∷ 0x2748_774c ∷ 0x34b0_bcb5 ∷ 0x391c_0cb3 ∷ 0x4ed8_aa4a ∷ 0x5b9c_ca4f ∷ 0x682e_6ff3 ∷
    0x748f_82ee ∷ 0x78a5_636f ∷ 0x84c8_7814 ∷ 0x8cc7_0208 ∷ 0x90be_fffa ∷ 0xa450_6ceb ∷ 0xbef9_a3f7 ∷ 0xc671_78f2 ∷ []

unfoldable pub H₀ : List ℕ
H₀ = 0x6a09_e667 ∷ 0xbb67_ae85 ∷ 0x3c6e_f372 ∷ 0xa54f_f53a ∷ 0x510e_527f ∷ 0x9b05_688c ∷ 0x1f83_d9ab ∷ 0x5be0_cd19 ∷ []

-- ---- the message schedule (6.2.2, step 1)

-- the word of four bytes, the high byte first
abbrev pub word : List ℕ → ℕ
word b = slice_index b 0 * 2 ^ 24 + slice_index b 1 * 2 ^ 16 + slice_index b 2 * 2 ^ 8 + slice_index b 3

-- the first n words of a block
unfoldable pub words : ℕ → List ℕ → List ℕ
words n m = map word (first_chunks 4 n m)

-- the word W t from those before it
unfoldable pub next : List ℕ → ℕ → ℕ
next w t = σ₁ (slice_index w (t - 2)) ⊞ slice_index_or w (t - 7) 0 ⊞ σ₀ (slice_index w (t - 15)) ⊞ slice_index_or w (t - 16) 0

unfoldable pub more : List ℕ → ℕ → List ℕ
more w t = w ++ next w t ∷ []

-- n words more than the sixteen of the block
unfoldable pub expand : ℕ → List ℕ → List ℕ
expand zero w = w
expand (suc n) w = more (expand n w) (16 + n)

unfoldable pub schedule : List ℕ → List ℕ
schedule m = expand 48 (words 16 m)

-- ---- the rounds (6.2.2, steps 2 to 4), on the eight working variables a to h
abbrev pub T₁ : ℕ → ℕ → List ℕ → ℕ
T₁ k w s = slice_index_or s 7 0 ⊞ Σ₁ (slice_index s 4) ⊞ ch (slice_index s 4) (slice_index s 5) (slice_index s 6) ⊞ k ⊞ w

abbrev pub T₂ : List ℕ → ℕ
T₂ s = Σ₀ (slice_index s 0) ⊞ maj (slice_index s 0) (slice_index s 1) (slice_index s 2)

abbrev pub round : ℕ → ℕ → List ℕ → List ℕ
round k w s =
    (T₁ k w s ⊞ T₂ s) ∷ slice_index s 0 ∷ slice_index s 1 ∷ slice_index s 2 ∷ (slice_index_or s 3 0 ⊞ T₁ k w s) ∷ slice_index s 4 ∷ slice_index s 5
    ∷ slice_index s 6 ∷ []

unfoldable pub rounds : ℕ → List ℕ → List ℕ → List ℕ
rounds zero w s = s
rounds (suc n) w s = round (slice_index K n) (slice_index w n) (rounds n w s)

unfoldable pub sums : List ℕ → List ℕ → List ℕ
sums xs ys = map (λ (p : ℕ × ℕ). p.0 ⊞ p.1) (zip xs ys)

unfoldable pub compress : List ℕ → List ℕ → List ℕ
compress s block = sums (rounds 64 (schedule block) s) s

-- ---- a whole message (5.1.1, 6.2.2)
abbrev pub be32 : ℕ → List ℕ
be32 x = (x / 2 ^ 24 % 256) ∷ (x / 2 ^ 16 % 256) ∷ (x / 2 ^ 8 % 256) ∷ (x % 256) ∷ []

abbrev pub be64 : ℕ → List ℕ
be64 x =
    (x / 2 ^ 56 % 256) ∷ (x / 2 ^ 48 % 256) ∷ (x / 2 ^ 40 % 256) ∷ (x / 2 ^ 32 % 256) ∷ (x / 2 ^ 24 % 256)
    ∷ (x / 2 ^ 16 % 256) ∷ (x / 2 ^ 8 % 256) ∷ (x % 256) ∷ []

-- how many zero bytes fill up a message of n bytes, a byte 128 and eight bytes to a multiple of 64
unfoldable pub zeros : ℕ → ℕ
zeros n = (119 - n % 64) % 64

-- what ends a message of n bytes: a 1 bit, zeros, and the length in bits
-- (the standard stops below 2 ^ 64 bits; a longer message would have its length modulo 2 ^ 64 here)
unfoldable pub ending : ℕ → List ℕ
ending n = 128 ∷ (replicate (zeros n) 0 ++ be64 (n * 8))

unfoldable pub pad : List ℕ → List ℕ
pad m = m ++ ending (length m)

-- the hash value after these blocks more (6.2.2), and after all the whole blocks of m
unfoldable pub absorb : List ℕ → List (List ℕ) → List ℕ
absorb s bs = fold compress s bs

unfoldable pub hash : List ℕ → List ℕ → List ℕ
hash s m = absorb s (first_chunks 64 (length m / 64) m)

unfoldable pub sha256 : List ℕ → List ℕ
sha256 m = flat_map be32 (hash H₀ (pad m))
