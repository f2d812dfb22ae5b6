-- Openings of one place bind: the same, or the search in their ways finds a collision.
use Rattle.std.proofs.Common.{◌≡◌, ℕ, ◌/◌, ◌%◌, ◌^◌, ◌<◌, Bool, true, false, cond, eqb, ◌⊎◌, List, [], ◌∷◌, length, Some, None, sym, refl, ◌∙◌, inl, inr, arith, bytes_eq}
use Rattle.std.proofs.lemmas.Bool.{eqb-true, ltb-true, and_parts, cases_Bool, cond_both}
use Rattle.merkle.specs.declared.opening.Opening.{Opening}
use Rattle.merkle.specs.Bytes.{Bytes, Hash, Whole, all_bytes, is_digest, all_digests, word_preimage, pair_preimage}
use Rattle.merkle.specs.Tree.{parent_preimage, climb, way_preimages}
use Rattle.merkle.specs.Collision.{Collision, difference, last_difference, WayCollision}
use Rattle.merkle.specs.Openings.{well_formed, Binds}
use Rattle.merkle.proofs.Strings.{eq_true, true_eq, same_or_not, word_bytes, pair_bytes, digest_long, digest_bytes, word_injective, pair_injective}

-- ---- the search
pub difference_some : (x y : Bytes) → (x ≡ y → ⊥) → difference x y ≡ Some (x, y)
difference_some x y d = go (cases_Bool (bytes_eq x y))
  where
    go : (bytes_eq x y ≡ true) ⊎ (bytes_eq x y ≡ false) → difference x y ≡ Some (x, y)
    go (inl t) = absurd (d (eq_true x y t))
    go (inr f) = rw f

pub difference_none : (x y : Bytes) → x ≡ y → difference x y ≡ None
difference_none x y e = rw (true_eq x y e)

last_refl : (xs : List Bytes) → last_difference xs xs ≡ None
unfolding last_difference
last_refl [] = refl
last_refl (x ∷ xs) = rw (last_refl xs, difference_none x x refl)

pub last_none : (xs ys : List Bytes) → xs ≡ ys → last_difference xs ys ≡ None
last_none xs ys e = rw e (last_refl ys)

higher : (h : Hash) (x y : Bytes) (xs ys : List Bytes) → WayCollision h xs ys → WayCollision h (x ∷ xs) (y ∷ ys)
unfolding last_difference
higher h x y xs ys c = record { one = c.one; other = c.other; first = rw c.first; collision = c.collision }

here : (h : Hash) (x y : Bytes) (xs ys : List Bytes) → Collision h x y → xs ≡ ys → WayCollision h (x ∷ xs) (y ∷ ys)
unfolding last_difference
here h x y xs ys c s = record { one = x; other = y; first = rw (last_none xs ys s) (difference_some x y c.differ); collision = c }

-- ---- one level
module _ (i : ℕ) (x y s t : Bytes) (dx : is_digest x ≡ true) (dy : is_digest y ≡ true) (ds : is_digest s ≡ true) (dt : is_digest t ≡ true) where
  parent_injective : parent_preimage i x s ≡ parent_preimage i y t → (x ≡ y) × (s ≡ t)
  parent_injective = go (eqb (i % 2) 0)
    where
      go : (b : Bool) → cond b (pair_preimage x s) (pair_preimage s x) ≡ cond b (pair_preimage y t) (pair_preimage t y) → (x ≡ y) × (s ≡ t)
      go true e = pair_injective x s y t (digest_long x dx ∙ sym (digest_long y dy)) e
      go false e = let r = pair_injective s x t y (digest_long s ds ∙ sym (digest_long t dt)) e in (r.1, r.0)

  pub parent_bytes : all_bytes (parent_preimage i x s) ≡ true
  parent_bytes =
      cond_both (eqb (i % 2) 0) (pair_preimage x s) (pair_preimage s x) (λ p. all_bytes p ≡ true) (λ _. pair_bytes x s (digest_bytes x dx) (digest_bytes s ds))
      (λ _. pair_bytes s x (digest_bytes s ds) (digest_bytes x dx))

-- ---- a way
climb_binds : (h : Hash) → Whole h → (i : ℕ) (x y : Bytes) (ss ts : List Bytes) → is_digest x ≡ true → is_digest y ≡ true → all_digests ss ≡ true → all_digests ts ≡ true → length ss ≡ length ts →
    climb h i x ss ≡ climb h i y ts → ((x ≡ y) × (ss ≡ ts)) ⊎ WayCollision h (way_preimages h i x ss) (way_preimages h i y ts)
unfolding climb way_preimages all_digests
climb_binds h whole i x y [] [] dx dy ds dt l e = inl (e, refl)
climb_binds h whole i x y [] (t ∷ ts) dx dy ds dt l e = absurd (omega arith)
climb_binds h whole i x y (s ∷ ss) [] dx dy ds dt l e = absurd (omega arith)
climb_binds h whole i x y (s ∷ ss) (t ∷ ts) dx dy ds dt l e =
    elim (climb_binds h whole (i / 2) (h p) (h q) ss ts (whole p) (whole q) a.1 b.1 (omega arith) e) [
      | inl r ↦ level r (same_or_not p q)
      | inr c ↦ inr (higher h p q (way_preimages h (i / 2) (h p) ss) (way_preimages h (i / 2) (h q) ts) c)
    ]
  where
    a : (is_digest s ≡ true) × (all_digests ss ≡ true)
    a = and_parts (is_digest s) (all_digests ss) ds

    b : (is_digest t ≡ true) × (all_digests ts ≡ true)
    b = and_parts (is_digest t) (all_digests ts) dt

    p : Bytes
    p = parent_preimage i x s

    q : Bytes
    q = parent_preimage i y t

    level : (h p ≡ h q) × (ss ≡ ts) → (p ≡ q) ⊎ (p ≡ q → ⊥) →
        ((x ≡ y) × (◌≡◌ {A = List Bytes} (s ∷ ss) (t ∷ ts))) ⊎ WayCollision h (p ∷ way_preimages h (i / 2) (h p) ss) (q ∷ way_preimages h (i / 2) (h q) ts)
    level r (inl k) =
        let u = parent_injective i x y s t dx dy a.0 b.0 k in
        let v = u.1 in
        let w = r.1 in
        inl (u.0, cc)
    level r (inr d) =
        inr (here h p q (way_preimages h (i / 2) (h p) ss) (way_preimages h (i / 2) (h q) ts)
        (record { differ = d; same = r.0; one_bytes = parent_bytes i x y s t dx dy a.0 b.0; other_bytes = parent_bytes i y x t s dy dx b.0 a.0 })
        (let u = r.0 in let v = r.1 in cc))

-- ---- an opening
pub record Formed (o : Opening) : Type 0 where
  pub word : o.word < 2 ^ 32
  pub count : length o.siblings ≡ 16
  pub digests : all_digests o.siblings ≡ true

pub formed : (o : Opening) → well_formed o ≡ true → Formed o
unfolding well_formed
formed o e =
    let a = and_parts _ _ e in
    let b = and_parts _ _ a.0 in
    record { word = ltb-true _ _ b.0; count = eqb-true _ _ b.1; digests = a.1 }

pub binds : Binds
binds h whole i a b fa fb e =
    elim (climb_binds h whole i (h p) (h q) a.siblings b.siblings (whole p) (whole q) u.digests v.digests (u.count ∙ sym v.count) e) [
      | inl r ↦ leaf r (same_or_not p q)
      | inr c ↦ inr (higher h p q (way_preimages h i (h p) a.siblings) (way_preimages h i (h q) b.siblings) c)
    ]
  where
    p : Bytes
    p = word_preimage a.word

    q : Bytes
    q = word_preimage b.word

    u : Formed a
    u = formed a fa

    v : Formed b
    v = formed b fb

    leaf : (h p ≡ h q) × (a.siblings ≡ b.siblings) → (p ≡ q) ⊎ (p ≡ q → ⊥) →
        (a ≡ b) ⊎ WayCollision h (p ∷ way_preimages h i (h p) a.siblings) (q ∷ way_preimages h i (h q) b.siblings)
    leaf r (inl k) = let w = word_injective a.word b.word u.word v.word k in inl (λ j. record { word = w j; siblings = r.1 j })
    leaf r (inr d) =
        inr (here h p q (way_preimages h i (h p) a.siblings) (way_preimages h i (h q) b.siblings)
        (record { differ = d; same = r.0; one_bytes = word_bytes a.word; other_bytes = word_bytes b.word }) (let x = r.0 in let y = r.1 in cc))
