-- Strings: equality as a test, and what is digested tells what it was made from.
use Rattle.std.proofs.Common.{◌≡◌, ℕ, ◌/◌, ◌%◌, ◌^◌, ◌<◌, true, false, eqb, ltb, ◌⊎◌, [], ◌∷◌, ◌++◌, length, refl, inl, inr, arith, bytes_eq}
use Rattle.std.proofs.lemmas.Slice.Eq.{bytes_eq-Decides}
use Rattle.std.proofs.lemmas.Bool.{eqb-true, lt-ltb, and_parts, and_from, cases_Bool, both_ways}
use Rattle.merkle.specs.Bytes.{Bytes, all_bytes, is_digest, be4, word_preimage, pair_preimage, state_preimage}

-- ---- equality
pub eq_true : (a b : Bytes) → bytes_eq a b ≡ true → a ≡ b
eq_true a b = (bytes_eq-Decides a b).0

pub true_eq : (a b : Bytes) → a ≡ b → bytes_eq a b ≡ true
true_eq a b = (bytes_eq-Decides a b).1

pub eq_refl : (a : Bytes) → bytes_eq a a ≡ true
eq_refl a = true_eq a a refl

pub eq_false : (a b : Bytes) → bytes_eq a b ≡ false → a ≡ b → ⊥
eq_false a b f e = both_ways (bytes_eq a b) f (true_eq a b e)

pub same_or_not : (a b : Bytes) → (a ≡ b) ⊎ (a ≡ b → ⊥)
same_or_not a b = go (cases_Bool (bytes_eq a b))
  where
    go : (bytes_eq a b ≡ true) ⊎ (bytes_eq a b ≡ false) → (a ≡ b) ⊎ (a ≡ b → ⊥)
    go (inl t) = inl (eq_true a b t)
    go (inr f) = inr (eq_false a b f)

-- ---- bytes
pub bytes_append : (a b : Bytes) → all_bytes a ≡ true → all_bytes b ≡ true → all_bytes (a ++ b) ≡ true
unfolding all_bytes
bytes_append [] b ha hb = hb
bytes_append (x ∷ a) b ha hb =
    let p = and_parts (ltb x 256) (all_bytes a) ha in
    and_from (ltb x 256) (all_bytes (a ++ b)) p.0 (bytes_append a b p.1 hb)

be4_bytes : (w : ℕ) → all_bytes (be4 w) ≡ true
unfolding be4 all_bytes
be4_bytes w =
    and_from _ _ (lt-ltb (w / 16777216 % 256) 256 (omega arith)) (and_from _ _ (lt-ltb (w / 65536 % 256) 256 (omega arith))
    (and_from _ _ (lt-ltb (w / 256 % 256) 256 (omega arith)) (and_from _ _ (lt-ltb (w % 256) 256 (omega arith)) refl)))

pub word_bytes : (w : ℕ) → all_bytes (word_preimage w) ≡ true
unfolding word_preimage all_bytes
word_bytes w = be4_bytes w

pub pair_bytes : (l r : Bytes) → all_bytes l ≡ true → all_bytes r ≡ true → all_bytes (pair_preimage l r) ≡ true
unfolding pair_preimage all_bytes
pair_bytes l r hl hr = bytes_append l r hl hr

pub state_bytes : (p a : ℕ) (m : Bytes) → all_bytes m ≡ true → all_bytes (state_preimage p a m) ≡ true
unfolding state_preimage all_bytes
state_bytes p a m hm = bytes_append (be4 p) (be4 a ++ m) (be4_bytes p) (bytes_append (be4 a) m (be4_bytes a) hm)

pub digest_long : (d : Bytes) → is_digest d ≡ true → length d ≡ 32
digest_long d e = eqb-true _ _ (and_parts (eqb (length d) 32) (all_bytes d) e).0

pub digest_bytes : (d : Bytes) → is_digest d ≡ true → all_bytes d ≡ true
digest_bytes d e = (and_parts (eqb (length d) 32) (all_bytes d) e).1

-- ---- what is digested is injective
tail_same : (a b : ℕ) (x y : Bytes) → ◌≡◌ {A = Bytes} (a ∷ x) (b ∷ y) → x ≡ y
tail_same a b x y e = cc

append_injective : (a c b d : Bytes) → length a ≡ length c → a ++ b ≡ c ++ d → (a ≡ c) × (b ≡ d)
append_injective [] [] b d l e = (refl, e)
append_injective [] (y ∷ c) b d l e = absurd (omega arith)
append_injective (x ∷ a) [] b d l e = absurd (omega arith)
append_injective (x ∷ a) (y ∷ c) b d l e =
    let r = append_injective a c b d (omega arith) (tail_same x y (a ++ b) (c ++ d) e) in
    let u = r.0 in
    let v : x ≡ y = cc in
    (cc, r.1)

be4_injective : (v w : ℕ) → v < 2 ^ 32 → w < 2 ^ 32 → be4 v ≡ be4 w → v ≡ w
unfolding be4
be4_injective v w hv hw e =
    let a : v / 16777216 % 256 ≡ w / 16777216 % 256 = cc in
    let b : v / 65536 % 256 ≡ w / 65536 % 256 = cc in
    let c : v / 256 % 256 ≡ w / 256 % 256 = cc in
    let d : v % 256 ≡ w % 256 = cc in
    omega arith

pub word_injective : (v w : ℕ) → v < 2 ^ 32 → w < 2 ^ 32 → word_preimage v ≡ word_preimage w → v ≡ w
unfolding word_preimage
word_injective v w hv hw e = be4_injective v w hv hw (tail_same 0 0 (be4 v) (be4 w) e)

pub pair_injective : (a b c d : Bytes) → length a ≡ length c → pair_preimage a b ≡ pair_preimage c d → (a ≡ c) × (b ≡ d)
unfolding pair_preimage
pair_injective a b c d l e = append_injective a c b d l (tail_same 1 1 (a ++ b) (c ++ d) e)

be4_long : (v w : ℕ) → length (be4 v) ≡ length (be4 w)
unfolding be4
be4_long v w = refl

pub state_injective : (a r b q : ℕ) (m k : Bytes) → a < 2 ^ 32 → r < 2 ^ 32 → b < 2 ^ 32 → q < 2 ^ 32 → state_preimage a r m ≡ state_preimage b q k → (a ≡ b) × (r ≡ q) × (m ≡ k)
unfolding state_preimage
state_injective a r b q m k ha hr hb hq e =
    let one = append_injective (be4 a) (be4 b) (be4 r ++ m) (be4 q ++ k) (be4_long a b) (tail_same 2 2 _ _ e) in
    let two = append_injective (be4 r) (be4 q) m k (be4_long r q) one.1 in
    (be4_injective a b ha hb one.0, be4_injective r q hr hq two.0, two.1)
