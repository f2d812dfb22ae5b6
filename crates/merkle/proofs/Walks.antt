-- One level up of a climb.
use Rattle.std.proofs.Common.{◌≡◌, ℕ, suc, ◌+◌, ◌/◌, ◌<◌, ◌≤◌, List, [], ◌∷◌, length, get_or, drop, sym, refl, ap, ◌∙◌}
use Rattle.std.proofs.lemmas.List.{at_drop_more, at_drop_all}
use Rattle.merkle.specs.Bytes.{Bytes, Hash, word_preimage}
use Rattle.merkle.specs.Tree.{parent_preimage, climb, way_preimages, opening_preimages}
use Rattle.merkle.specs.Seen.{seen_all}

-- k and e are index and digest of the parent of node j, of digest d
module _ (h : Hash) (j k : ℕ) (d e : Bytes) (ss : List Bytes) (i : ℕ) (within : i < length ss) (half : k ≡ j / 2) (is : e ≡ h (parent_preimage j d (get_or ss i []))) where
  pub climb_more : climb h k e (drop (i + 1) ss) ≡ climb h j d (drop i ss)
  unfolding climb
  climb_more = (λ l. climb h (half l) (is l) (drop (i + 1) ss)) ∙ sym (at_drop_more (climb h j d) ss i [] within)

  pub seen_more : {S : Type 0} (adds : S → Bytes → S) (s t : S) → t ≡ adds s (parent_preimage j d (get_or ss i [])) →
      seen_all adds t (way_preimages h k e (drop (i + 1) ss)) ≡ seen_all adds s (way_preimages h j d (drop i ss))
  unfolding seen_all way_preimages
  seen_more adds s t it = (λ l. seen_all adds (it l) (way_preimages h (half l) (is l) (drop (i + 1) ss))) ∙ sym (at_drop_more (λ xs. seen_all adds s (way_preimages h j d xs)) ss i [] within)

module _ (h : Hash) (j : ℕ) (d : Bytes) (ss : List Bytes) (i : ℕ) (past : length ss ≤ i) where
  pub climb_all : climb h j d (drop i ss) ≡ d
  unfolding climb
  climb_all = at_drop_all (climb h j d) ss i past

  pub seen_all_lem : {S : Type 0} (adds : S → Bytes → S) (s : S) → seen_all adds s (way_preimages h j d (drop i ss)) ≡ s
  unfolding seen_all way_preimages
  seen_all_lem adds s = at_drop_all (λ xs. seen_all adds s (way_preimages h j d xs)) ss i past

-- the word comes first; ts are the siblings as they were handed on
module _ (h : Hash) (i j w : ℕ) (d : Bytes) (ss ts : List Bytes) (at : j ≡ i) (is : d ≡ h (word_preimage w)) (same : ts ≡ ss) where
  pub climb_word : climb h j d ts ≡ climb h i (h (word_preimage w)) ss
  climb_word = λ l. climb h (at l) (is l) (same l)

  pub seen_word : {S : Type 0} (adds : S → Bytes → S) (s t : S) → t ≡ adds s (word_preimage w) → seen_all adds t (way_preimages h j d ts) ≡ seen_all adds s (opening_preimages h i w ss)
  unfolding seen_all
  seen_word adds s t it = λ l. seen_all adds (it l) (way_preimages h (at l) (is l) (same l))

pub way_count : (h : Hash) (j : ℕ) (d : Bytes) (ss : List Bytes) → length (way_preimages h j d ss) ≡ length ss
unfolding way_preimages
way_count h j d [] = refl
way_count h j d (s ∷ ss) = ap suc (way_count h (j / 2) (h (parent_preimage j d s)) ss)
