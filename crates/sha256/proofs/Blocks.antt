-- The padding, and the hash value block by block.
-- Assumes nothing.
use Rattle.std.proofs.Common.{◌≡◌, ℕ, zero, suc, ◌+◌, ◌-◌, ◌*◌, ◌/◌, ◌%◌, ◌^◌, ◌<◌, ◌≤◌, List, [], ◌∷◌, ◌++◌, length, take, drop, set, replicate, sym, refl, ap, ◌∙◌, arith}
use borrow.Rule.Slice.PartMut.{put_mid, post_of}
use Rattle.std.specs.Simd.{first_chunks}
use Rattle.std.proofs.lemmas.List.{append_assoc, append-nil, length-append, length-drop, length-replicate, replicate-append-replicate, take_all, drop_all, take_at, drop_at, set_at, drop-drop, drop-replicate, take-append-le, drop-append-le}
use Rattle.sha256.specs.Sha256.{compress, be64, zeros, ending, absorb, hash}

-- ---- the arrays of the code
pub padded_is : (rest xs : List ℕ) → length rest < 64 → xs ≡ rest
    → set (xs ++ post_of 0 (length rest - 0) (replicate 64 0)) (length rest) 128 ≡ rest ++ 128 ∷ replicate (63 - length rest) 0
padded_is rest xs h e =
    let n : 64 - (length rest - 0) ≡ suc (63 - length rest) = omega arith in
    let d : drop (length rest - 0) (replicate 64 0) ≡ 0 ∷ replicate (63 - length rest) 0 =
    drop-replicate (length rest - 0) 64 0 ∙ ap (λ k. replicate k 0) n in
    ap (λ ys. set (ys ++ drop (length rest - 0) (replicate 64 0)) (length rest) 128) e
    ∙ ap (λ ys. set (rest ++ ys) (length rest) 128) d
    ∙ set_at rest 0 (replicate (63 - length rest) 0) 128 (length rest) refl

pub with_length_is : (b ys : List ℕ) → length b ≡ 64 → put_mid 56 8 b ys ≡ take 56 b ++ ys
with_length_is b ys h =
    let d : drop 8 (drop 56 b) ≡ [] = drop-drop 8 56 b ∙ drop_all 64 b (omega arith) in
    ap (λ zs. take 56 b ++ (ys ++ zs)) d ∙ ap (λ zs. take 56 b ++ zs) (append-nil ys)

-- eight bytes hold a number modulo 2 ^ 64
pub be64_mod : (x : ℕ) → be64 (x % 2 ^ 64) ≡ be64 x
be64_mod x =
    let a : x % 2 ^ 64 / 2 ^ 56 % 256 ≡ x / 2 ^ 56 % 256 = omega arith in
    let b : x % 2 ^ 64 / 2 ^ 48 % 256 ≡ x / 2 ^ 48 % 256 = omega arith in
    let c : x % 2 ^ 64 / 2 ^ 40 % 256 ≡ x / 2 ^ 40 % 256 = omega arith in
    let d : x % 2 ^ 64 / 2 ^ 32 % 256 ≡ x / 2 ^ 32 % 256 = omega arith in
    let e : x % 2 ^ 64 / 2 ^ 24 % 256 ≡ x / 2 ^ 24 % 256 = omega arith in
    let f : x % 2 ^ 64 / 2 ^ 16 % 256 ≡ x / 2 ^ 16 % 256 = omega arith in
    let g : x % 2 ^ 64 / 2 ^ 8 % 256 ≡ x / 2 ^ 8 % 256 = omega arith in
    let h : x % 2 ^ 64 % 256 ≡ x % 256 = omega arith in
    cc

-- ---- the blocks of a message
pub hash_block : (s m : List ℕ) → 64 ≤ length m → hash s m ≡ hash (compress s (take 64 m)) (drop 64 m)
unfolding hash absorb
hash_block s m h =
    let e : length m / 64 ≡ suc (length (drop 64 m) / 64) = simp length-drop (omega arith) in
    ap (λ k. absorb s (first_chunks 64 k m)) e

pub hash_done : (s m : List ℕ) → length m < 64 → hash s m ≡ s
unfolding hash absorb
hash_done s m h =
    let e : length m / 64 ≡ 0 = omega arith in
    ap (λ k. absorb s (first_chunks 64 k m)) e

hash_one : (s m : List ℕ) → length m ≡ 64 → hash s m ≡ compress s m
hash_one s m h =
    hash_block s m (omega arith) ∙ hash_done (compress s (take 64 m)) (drop 64 m) (simp length-drop (omega arith))
    ∙ ap (compress s) (take_all 64 m (omega arith))

-- p, a whole block, and then q, another
hash_two : (s p q : List ℕ) → length p ≡ 64 → length q ≡ 64 → hash s (p ++ q) ≡ compress (compress s p) q
hash_two s p q h l =
    hash_block s (p ++ q) (simp length-append (omega arith))
    ∙ ap (λ x. hash (compress s x) (drop 64 (p ++ q))) (take_at p q 64 h)
    ∙ ap (hash (compress s p)) (drop_at p q 64 h)
    ∙ hash_one (compress s p) q l

module _ (rest : List ℕ) (n : ℕ) (left : n % 64 ≡ length rest) where
  pub one_block : (s : List ℕ) → length rest < 56
      → compress s (take 56 (rest ++ 128 ∷ replicate (63 - length rest) 0) ++ be64 (n * 8)) ≡ hash s (rest ++ ending n)
  unfolding ending zeros
  one_block s h =
      let z : ℕ = (119 - n % 64) % 64 in
      let zl : z + length rest ≡ 55 = omega arith in
      let zm : 63 - length rest ≡ z + 8 = omega arith in
      let p : List ℕ = rest ++ 128 ∷ replicate z 0 in
      let pl : length p ≡ 56 = simp (length-append, length-replicate) (omega arith) in
      let e : rest ++ 128 ∷ replicate (63 - length rest) 0 ≡ p ++ replicate 8 0 =
      ap (λ k. rest ++ 128 ∷ replicate k 0) zm
      ∙ ap (λ ys. rest ++ 128 ∷ ys) (sym (replicate-append-replicate z 8 0))
      ∙ sym (append_assoc rest (128 ∷ replicate z 0) (replicate 8 0)) in
      let t : take 56 (rest ++ 128 ∷ replicate (63 - length rest) 0) ≡ p = ap (take 56) e ∙ take_at p (replicate 8 0) 56 pl in
      let f : take 56 (rest ++ 128 ∷ replicate (63 - length rest) 0) ++ be64 (n * 8) ≡ rest ++ (128 ∷ (replicate z 0 ++ be64 (n * 8))) =
      ap (λ ys. ys ++ be64 (n * 8)) t ∙ append_assoc rest (128 ∷ replicate z 0) (be64 (n * 8)) in
      ap (compress s) f ∙ sym (hash_one s (rest ++ (128 ∷ (replicate z 0 ++ be64 (n * 8)))) (simp (length-append, length-replicate) (omega arith)))

  pub two_blocks : (s : List ℕ) → 56 ≤ length rest → length rest < 64
      → compress (compress s (rest ++ 128 ∷ replicate (63 - length rest) 0)) (replicate 56 0 ++ be64 (n * 8)) ≡ hash s (rest ++ ending n)
  unfolding ending zeros
  two_blocks s h l =
      let z : ℕ = (119 - n % 64) % 64 in
      let b : List ℕ = be64 (n * 8) in
      let zm : z ≡ (63 - length rest) + 56 = omega arith in
      let p : List ℕ = rest ++ 128 ∷ replicate (63 - length rest) 0 in
      let pl : length p ≡ 64 = simp (length-append, length-replicate) (omega arith) in
      let e : rest ++ (128 ∷ (replicate z 0 ++ b)) ≡ p ++ (replicate 56 0 ++ b) =
      ap (λ k. rest ++ (128 ∷ (replicate k 0 ++ b))) zm
      ∙ ap (λ ys. rest ++ (128 ∷ (ys ++ b))) (sym (replicate-append-replicate (63 - length rest) 56 0))
      ∙ ap (λ ys. rest ++ (128 ∷ ys)) (append_assoc (replicate (63 - length rest) 0) (replicate 56 0) b)
      ∙ sym (append_assoc rest (128 ∷ replicate (63 - length rest) 0) (replicate 56 0 ++ b)) in
      sym (ap (hash s) e ∙ hash_two s p (replicate 56 0 ++ b) pl refl)

-- ---- a message, and what is left of it after k blocks
pub hash_from : (k : ℕ) (s m e : List ℕ) → k * 64 ≤ length m → hash s (m ++ e) ≡ hash (absorb s (first_chunks 64 k m)) (drop (k * 64) m ++ e)
unfolding absorb
hash_from zero s m e h = refl
hash_from (suc k) s m e h =
    let a : 64 ≤ length m = omega arith in
    let l : k * 64 ≤ length (drop 64 m) = simp length-drop (omega arith) in
    let n : 64 + k * 64 ≡ suc k * 64 = omega arith in
    hash_block s (m ++ e) (simp length-append (omega arith))
    ∙ ap (λ x. hash (compress s x) (drop 64 (m ++ e))) (take-append-le 64 m e a)
    ∙ ap (hash (compress s (take 64 m))) (drop-append-le 64 m e a)
    ∙ hash_from k (compress s (take 64 m)) (drop 64 m) e l
    ∙ ap (λ x. hash (absorb s (first_chunks 64 (suc k) m)) (x ++ e)) (drop-drop (k * 64) 64 m ∙ ap (λ j. drop j m) n)
