-- Honest openings: they give the root, and with another word the new root.
use Rattle.std.proofs.Common.{◌≡◌, ℕ, zero, suc, ◌+◌, ◌-◌, ◌*◌, ◌/◌, ◌%◌, ◌^◌, ◌<◌, true, false, eqb, List, length, set, sym, refl, ap, ◌∙◌, inl, inr, arith}
use Rattle.std.proofs.lemmas.List.{get_or-set_same, get_or-set_other}
use Rattle.std.proofs.lemmas.Bool.{eqb-true, eqb-false, and_from, cases_Bool, cond_both}
use Rattle.merkle.specs.Bytes.{Bytes, Hash, Whole, all_digests, is_digest, word_preimage, pair_preimage}
use Rattle.merkle.specs.Tree.{node, parent_preimage, climb, root_from, sibling, siblings_of}
use Rattle.merkle.specs.Openings.{Opens, Updates}

joins : (h : Hash) (k i : ℕ) (m : List ℕ) → h (parent_preimage i (node h k i m) (node h k (sibling i) m)) ≡ node h (suc k) (i / 2) m
unfolding node
joins h k i m = elim (cases_Bool (eqb (i % 2) 0)) [ inl t ↦ even t | inr f ↦ odd f ]
  where
    Joined : Type 0
    Joined = h (parent_preimage i (node h k i m) (node h k (sibling i) m)) ≡ h (pair_preimage (node h k (2 * (i / 2)) m) (node h k (2 * (i / 2) + 1) m))

    even : eqb (i % 2) 0 ≡ true → Joined
    even t =
        let z = eqb-true (i % 2) 0 t in
        let u : i ≡ 2 * (i / 2) = omega arith in
        let v : i + 1 ≡ 2 * (i / 2) + 1 = omega arith in
        rw t (cc)

    odd : eqb (i % 2) 0 ≡ false → Joined
    odd f =
        let z = eqb-false (i % 2) 0 f in
        let u : i - 1 ≡ 2 * (i / 2) = omega arith in
        let v : i ≡ 2 * (i / 2) + 1 = omega arith in
        rw f (cc)

opens_from : (h : Hash) (c k n i : ℕ) (m : List ℕ) → k + c ≡ n → i < 2 ^ c → climb h i (node h k i m) (siblings_of h c k i m) ≡ node h n 0 m
unfolding climb siblings_of
opens_from h zero k n i m e l =
    let u : i ≡ 0 = omega arith in
    let v : k ≡ n = omega arith in
    cc
opens_from h (suc c) k n i m e l =
    ap (λ (x : Bytes). climb h (i / 2) x (siblings_of h c (suc k) (i / 2) m)) (joins h k i m) ∙ opens_from h c (suc k) n (i / 2) m (omega arith) (omega arith)

pub opens : Opens
unfolding node
opens h i m l = opens_from h 16 0 16 i m refl l

-- ---- another word: the nodes off the way stay
module _ (h : Hash) (a v : ℕ) (m : List ℕ) where
  nodes_same : (k i : ℕ) → ((j : ℕ) → (j ≡ i → ⊥) → node h k j (set m a v) ≡ node h k j m) → (j : ℕ) → (j ≡ i / 2 → ⊥) → node h (suc k) j (set m a v) ≡ node h (suc k) j m
  unfolding node
  nodes_same k i same j d = rw (same (2 * j) (omega arith), same (2 * j + 1) (omega arith))

  siblings_same : (c k i : ℕ) → ((j : ℕ) → (j ≡ i → ⊥) → node h k j (set m a v) ≡ node h k j m) → siblings_of h c k i m ≡ siblings_of h c k i (set m a v)
  unfolding siblings_of
  siblings_same zero k i same = refl
  siblings_same (suc c) k i same =
      let u = same (sibling i) (cond_both (eqb (i % 2) 0) (i + 1) (i - 1) (λ x. x ≡ i → ⊥) (λ t e. omega arith) (λ t e. let z = eqb-false (i % 2) 0 t in omega arith)) in
      let w = siblings_same c (suc k) (i / 2) (nodes_same k i same) in
      cc

pub updates : Updates
unfolding node
updates h i v m l within =
    let elsewhere : (j : ℕ) → (j ≡ i → ⊥) → node h 0 j (set m i v) ≡ node h 0 j m = λ j d. ap (λ w. h (word_preimage w)) (get_or-set_other m i j v 0 d) in
    ap (λ (x : List Bytes). root_from h i v x) (siblings_same h i v m 16 0 i elsewhere)
    ∙ ap (λ (x : ℕ). root_from h i x (siblings_of h 16 0 i (set m i v))) (sym (get_or-set_same m i v 0 within)) ∙ opens_from h 16 0 16 i (set m i v) refl l

-- ---- and they are well formed
pub node_digest : (h : Hash) → Whole h → (k j : ℕ) (m : List ℕ) → is_digest (node h k j m) ≡ true
unfolding node
node_digest h whole zero j m = whole _
node_digest h whole (suc k) j m = whole _

pub siblings_count : (h : Hash) (c k i : ℕ) (m : List ℕ) → length (siblings_of h c k i m) ≡ c
unfolding siblings_of
siblings_count h zero k i m = refl
siblings_count h (suc c) k i m = ap suc (siblings_count h c (suc k) (i / 2) m)

pub siblings_digests : (h : Hash) → Whole h → (c k i : ℕ) (m : List ℕ) → all_digests (siblings_of h c k i m) ≡ true
unfolding siblings_of all_digests
siblings_digests h whole zero k i m = refl
siblings_digests h whole (suc c) k i m = and_from _ _ (node_digest h whole k (sibling i) m) (siblings_digests h whole c (suc k) (i / 2) m)
