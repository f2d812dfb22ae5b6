-- One level down of the tree.
use Rattle.std.proofs.Common.{◌≡◌, ℕ, zero, suc, ◌+◌, ◌-◌, ◌*◌, ◌^◌, ◌<◌, ◌≤◌, List, [], ◌∷◌, ◌++◌, length, get_or, sym, refl, ap, ◌∙◌, mul_assoc, add-mul, mul-le-mul_left, arith, pow_pos}
use native.Mathlib.Nat.{pow-succ'}
use Rattle.std.proofs.lemmas.List.{length-append}
use Rattle.merkle.specs.Bytes.{Bytes, Hash, word_preimage, pair_preimage}
use Rattle.merkle.specs.Tree.{node, node_preimages}
use Rattle.merkle.specs.Seen.{seen_all}
use Rattle.merkle.proofs.Seen.{seen_append, seen_last}

-- a node of level 0
module _ (h : Hash) (k i w : ℕ) (m : List ℕ) (bottom : k ≡ 0) (is : w ≡ get_or m i 0) where
  pub node_leaf : h (word_preimage w) ≡ node h k i m
  unfolding node
  node_leaf = ap (λ x. h (word_preimage x)) is ∙ ap (λ x. node h x i m) (sym bottom)

  pub seen_leaf : {S : Type 0} (adds : S → Bytes → S) (s t : S) → t ≡ adds s (word_preimage w) → t ≡ seen_all adds s (node_preimages h k i m)
  unfolding seen_all node_preimages
  seen_leaf adds s t it = it ∙ ap (λ x. adds s (word_preimage x)) is ∙ ap (λ x. seen_all adds s (node_preimages h x i m)) (sym bottom)

-- a node of a higher level, from its two parts l and r
module _ (h : Hash) (k i : ℕ) (m : List ℕ) (l r : Bytes) (up : k ≡ 0 → ⊥) (il : l ≡ node h (k - 1) (2 * i) m) (ir : r ≡ node h (k - 1) (2 * i + 1) m) where
  level : suc (k - 1) ≡ k
  level = omega arith

  both : pair_preimage l r ≡ pair_preimage (node h (k - 1) (2 * i) m) (node h (k - 1) (2 * i + 1) m)
  both = ap (λ x. pair_preimage x r) il ∙ ap (λ x. pair_preimage (node h (k - 1) (2 * i) m) x) ir

  pub node_join : h (pair_preimage l r) ≡ node h k i m
  unfolding node
  node_join = ap h both ∙ ap (λ x. node h x i m) level

  pub seen_join : {S : Type 0} (adds : S → Bytes → S) (s t u v : S) → t ≡ seen_all adds s (node_preimages h (k - 1) (2 * i) m) →
      u ≡ seen_all adds t (node_preimages h (k - 1) (2 * i + 1) m) → v ≡ adds u (pair_preimage l r) → v ≡ seen_all adds s (node_preimages h k i m)
  unfolding seen_all node_preimages
  seen_join adds s t u v it iu iv =
      let a = node_preimages h (k - 1) (2 * i) m in
      let b = node_preimages h (k - 1) (2 * i + 1) m in
      let p = pair_preimage (node h (k - 1) (2 * i) m) (node h (k - 1) (2 * i + 1) m) in
      seen_last adds t u v b p iu (iv ∙ ap (adds u) both) ∙ ap (λ x. seen_all adds x (b ++ (p ∷ []))) it
      ∙ sym (seen_append adds s a (b ++ (p ∷ []))) ∙ ap (λ x. seen_all adds s (node_preimages h x i m)) level

pub pow_down : (k : ℕ) → (k ≡ 0 → ⊥) → 2 ^ k ≡ 2 * 2 ^ (k - 1)
pow_down k up = let e : k ≡ suc (k - 1) = omega arith in ap (λ x. 2 ^ x) e ∙ pow-succ' 2 (k - 1)

-- the two parts of a node lie in the memory
pub record Parts (k i n : ℕ) : Type 0 where
  pub left : (2 * i + 1) * 2 ^ (k - 1) ≤ n
  pub right : (2 * i + 1 + 1) * 2 ^ (k - 1) ≤ n
  pub small : 2 * i + 1 < n

pub parts : (k i n : ℕ) → (k ≡ 0 → ⊥) → (i + 1) * 2 ^ k ≤ n → Parts k i n
parts k i n up fits =
    let p = 2 ^ (k - 1) in
    let d : 2 ^ k ≡ 2 * p = pow_down k up in
    let some : 0 < p = pow_pos (k - 1) in
    let two : (i + 1) * 2 ≡ 2 * i + 1 + 1 = omega arith in
    let r : (i + 1) * 2 ^ k ≡ (2 * i + 1 + 1) * p = ap (λ x. (i + 1) * x) d ∙ sym (mul_assoc (i + 1) 2 p) ∙ ap (λ x. x * p) two in
    let l : (2 * i + 1 + 1) * p ≡ (2 * i + 1) * p + p = omega (arith, add-mul (2 * i + 1) 1 p) in
    let s : (2 * i + 1 + 1) * 1 ≤ (2 * i + 1 + 1) * p = mul-le-mul_left (2 * i + 1 + 1) some in
    record { left = omega arith; right = omega arith; small = omega arith }

-- so many strings are digested for a node
pub node_count : (h : Hash) (k i : ℕ) (m : List ℕ) → length (node_preimages h k i m) + 1 ≡ 2 * 2 ^ k
unfolding node_preimages
node_count h zero i m = refl
node_count h (suc k) i m =
    let a = node_preimages h k (2 * i) m in
    let b = node_preimages h k (2 * i + 1) m in
    let p = pair_preimage (node h k (2 * i) m) (node h k (2 * i + 1) m) ∷ [] in
    omega (arith, pow-succ' 2 k, length-append a (b ++ p), length-append b p, node_count h k (2 * i) m, node_count h k (2 * i + 1) m)
