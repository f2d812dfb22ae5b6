-- Bytes from hexadecimal digits, two digits at a time; and digits that were made from bytes give them back.
use Rattle.std.proofs.Common.{◌≡◌, ℕ, suc, ◌+◌, ◌*◌, ◌/◌, ◌%◌, ◌<◌, ◌≤◌, true, List, [], ◌∷◌, ◌++◌, length, get_or, drop, Some, None, Option, sym, refl, ap, ◌∙◌, append_assoc, append-nil, arith}
use Rattle.std.specs.Option.{option_map}
use Rattle.std.specs.Simd.{first_chunks}
use Rattle.std.proofs.lemmas.List.{at_drop_more, at_drop_all}
use Rattle.std.proofs.lemmas.Bool.{and_parts, ltb-true}
use Rattle.std.proofs.lemmas.Bool.Decides.{nat_tests}
use Rattle.merkle.specs.Bytes.{Bytes, all_bytes}
use Rattle.text.specs.Text.{hex_digit, hexadecimal, hex_value, hex_pair, before, unhex}

-- what the digits give, taken in pairs
pub pairs_value : List Bytes → Option Bytes
pairs_value [] = Some []
pairs_value (p ∷ ps) = before (hex_pair (get_or p 0 0) (get_or p 1 0)) (pairs_value ps)

before_none : (b : Option ℕ) → before b None ≡ None
before_none None = refl
before_none (Some b) = refl

pub unhex_pairs : (t : Bytes) → length t % 2 ≡ 0 → unhex t ≡ pairs_value (first_chunks 2 (length t / 2) t)
unfolding unhex pairs_value
unhex_pairs [] h = refl
unhex_pairs (c ∷ []) h = absurd (omega arith)
unhex_pairs (c ∷ d ∷ cs) h =
    let n : suc (length cs / 2) ≡ suc (suc (length cs)) / 2 = omega arith in
    ap (before (hex_pair c d)) (unhex_pairs cs (omega arith)) ∙ ap (λ k. pairs_value (first_chunks 2 k (c ∷ d ∷ cs))) n

pub unhex_odd : (t : Bytes) → length t % 2 ≡ 1 → unhex t ≡ None
unfolding unhex
unhex_odd [] h = absurd (omega arith)
unhex_odd (c ∷ []) h = refl
unhex_odd (c ∷ d ∷ cs) h = ap (before (hex_pair c d)) (unhex_odd cs (omega arith)) ∙ before_none (hex_pair c d)

-- the bytes bs and those that a text goes on with
abbrev pub onto : Bytes → Option Bytes → Option Bytes
onto bs o = option_map (λ more. bs ++ more) o

pub onto_none : (o : Option Bytes) → onto [] o ≡ o
onto_none None = refl
onto_none (Some bs) = refl

onto_more : (bs : Bytes) (b : ℕ) (o : Option Bytes) → onto (bs ++ b ∷ []) o ≡ onto bs (before (Some b) o)
onto_more bs b None = refl
onto_more bs b (Some more) = ap Some (append_assoc bs (b ∷ []) more)

-- the bytes bs came from the first i of the pairs ps
module _ (ps : List Bytes) (i : ℕ) (bs : Bytes) (goes : onto bs (pairs_value (drop i ps)) ≡ pairs_value ps) where
  module _ (within : i < length ps) where
    next : pairs_value (drop i ps) ≡ before (hex_pair (get_or (get_or ps i []) 0 0) (get_or (get_or ps i []) 1 0)) (pairs_value (drop (i + 1) ps))
    unfolding pairs_value
    next = at_drop_more pairs_value ps i [] within

    pub pairs_not : None ≡ hex_pair (get_or (get_or ps i []) 0 0) (get_or (get_or ps i []) 1 0) → None ≡ pairs_value ps
    pairs_not none = ap (λ b. onto bs (before b (pairs_value (drop (i + 1) ps)))) none ∙ ap (onto bs) (sym next) ∙ goes

    pub pairs_more : (b : ℕ) → Some b ≡ hex_pair (get_or (get_or ps i []) 0 0) (get_or (get_or ps i []) 1 0)
        → onto (bs ++ b ∷ []) (pairs_value (drop (i + 1) ps)) ≡ pairs_value ps
    pairs_more b some =
        onto_more bs b _ ∙ ap (λ b. onto bs (before b (pairs_value (drop (i + 1) ps)))) some ∙ ap (onto bs) (sym next) ∙ goes

  pub pairs_end : length ps ≤ i → Some bs ≡ pairs_value ps
  unfolding pairs_value
  pairs_end past = ap Some (sym (append-nil bs)) ∙ ap (onto bs) (sym (at_drop_all pairs_value ps i past)) ∙ goes

-- ---- and back
digit_back : (d : ℕ) → d < 16 → hex_value (hex_digit d) ≡ Some d
digit_back d h = grind (arith, nat_tests)

byte_back : (b : ℕ) → b < 256 → hex_pair (hex_digit (b / 16)) (hex_digit (b % 16)) ≡ Some b
byte_back b h =
    let high = digit_back (b / 16) (omega arith) in
    let low = digit_back (b % 16) (omega arith) in
    let e : b / 16 * 16 + b % 16 ≡ b = omega arith in
    cc

pub unhex_hex : (bs : Bytes) → all_bytes bs ≡ true → unhex (hexadecimal bs) ≡ Some bs
unfolding unhex all_bytes
unhex_hex [] h = refl
unhex_hex (b ∷ bs) h =
    let p = and_parts _ _ h in
    ap (λ x. before x (unhex (hexadecimal bs))) (byte_back b (ltb-true b 256 p.0)) ∙ ap (before (Some b)) (unhex_hex bs p.1)
