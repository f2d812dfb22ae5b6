-- The digest of a memory that is 0 but for its first words, without digesting all the zeros.
use Rattle.std.proofs.Common.{◌≡◌, ℕ, zero, suc, ◌+◌, ◌*◌, ◌/◌, ◌^◌, ◌<◌, ◌≤◌, cond, leb, List, [], ◌∷◌, length, get_or, sym, refl, ap, ◌∙◌, arith}
use native.Mathlib.Nat.{pow-succ'}
use Rattle.std.proofs.lemmas.List.{get_or_past}
use Rattle.std.proofs.lemmas.Bool.{cond_both, leb-true}
use Rattle.merkle.specs.Bytes.{Bytes, Hash, word_preimage, pair_preimage}
use Rattle.merkle.specs.Tree.{node, sibling, siblings_of}

module _ (h : Hash) where
  -- Two nodes with one digest, joined; and so on, k times.
  unfoldable pub twin : Bytes → Bytes
  twin d = h (pair_preimage d d)

  pub twins : ℕ → Bytes → Bytes
  twins zero d = d
  twins (suc k) d = twins k (twin d)

  twins_last : (k : ℕ) (d : Bytes) → twins (suc k) d ≡ twin (twins k d)
  unfolding twins
  twins_last zero d = refl
  twins_last (suc k) d = twins_last k (twin d)

  -- All of them in a list, each made once.
  unfoldable pub listed : ℕ → Bytes → List Bytes
  listed zero d = []
  listed (suc n) d = d ∷ listed n (twin d)

  listed_at : (n k : ℕ) (d : Bytes) → k < n → get_or (listed n d) k [] ≡ twins k d
  unfolding listed twins
  listed_at zero k d l = absurd (omega arith)
  listed_at (suc n) zero d l = refl
  listed_at (suc n) (suc k) d l = listed_at n k (twin d) (omega arith)

  -- The nodes of zeros, of levels 0 to 16.
  unfoldable pub blanks : List Bytes
  blanks = listed 17 (h (word_preimage 0))

  -- A node and the siblings beside a way, where the words end after ws.
  unfoldable pub sparse : (zs : List Bytes) (ws : List ℕ) (k i : ℕ) → Bytes
  sparse zs ws zero i = h (word_preimage (get_or ws i 0))
  sparse zs ws (suc k) i = cond (leb (length ws) (i * 2 ^ suc k)) (get_or zs (suc k) []) (h (pair_preimage (sparse zs ws k (2 * i)) (sparse zs ws k (2 * i + 1))))

  unfoldable pub beside : (zs : List Bytes) (ws : List ℕ) (n k i : ℕ) → List Bytes
  beside zs ws zero k i = []
  beside zs ws (suc n) k i = sparse zs ws k (sibling i) ∷ beside zs ws n (suc k) (i / 2)

  module _ (ws m : List ℕ) (same : (i : ℕ) → get_or m i 0 ≡ get_or ws i 0) where
    beyond : (k i : ℕ) → length ws ≤ i * 2 ^ k → node h k i m ≡ twins k (h (word_preimage 0))
    unfolding node twins twin
    beyond zero i l = ap (λ w. h (word_preimage w)) (same i ∙ get_or_past ws i 0 (omega arith))
    beyond (suc k) i l =
        let p = 2 ^ k in
        let e : i * 2 ^ suc k ≡ i * (2 * p) = ap (λ x. i * x) (pow-succ' 2 k) in
        let a = beyond k (2 * i) (omega arith) in
        let b = beyond k (2 * i + 1) (omega arith) in
        rw (a, b) (sym (twins_last k (h (word_preimage 0))))

    pub sparse_node : (k i : ℕ) → k < 17 → node h k i m ≡ sparse blanks ws k i
    unfolding node sparse blanks
    sparse_node zero i l = ap (λ w. h (word_preimage w)) (same i)
    sparse_node (suc k) i l =
        cond_both (leb (length ws) (i * 2 ^ suc k)) _ _ (λ x. node h (suc k) i m ≡ x)
        (λ t. beyond (suc k) i (leb-true _ _ t) ∙ sym (listed_at 17 (suc k) (h (word_preimage 0)) l))
        (λ _. rw (sparse_node k (2 * i) (omega arith), sparse_node k (2 * i + 1) (omega arith)))

    pub sparse_siblings : (n k i : ℕ) → k + n < 18 → siblings_of h n k i m ≡ beside blanks ws n k i
    unfolding siblings_of beside
    sparse_siblings zero k i l = refl
    sparse_siblings (suc n) k i l =
        let a = sparse_node k (sibling i) (omega arith) in
        let b = sparse_siblings n (suc k) (i / 2) (omega arith) in
        cc
