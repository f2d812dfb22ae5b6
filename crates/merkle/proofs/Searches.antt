-- The search in two ways, level by level.
use Rattle.std.proofs.Common.{◌≡◌, ℕ, ◌+◌, ◌/◌, ◌<◌, ◌≤◌, List, [], ◌∷◌, length, get_or, drop, Some, None, Option, sym, refl, ap, ◌∙◌}
use Rattle.std.proofs.lemmas.List.{at_drop_more, at_drop_all}
use Rattle.merkle.specs.Bytes.{Bytes, Hash, word_preimage}
use Rattle.merkle.specs.Tree.{parent_preimage, way_preimages, opening_preimages}
use Rattle.merkle.specs.Collision.{difference, or_else, last_difference}

or_assoc : {X : Type 0} (x y z : Option X) → or_else (or_else x y) z ≡ or_else x (or_else y z)
or_assoc None y z = refl
or_assoc (Some x) y z = refl

or_none : {X : Type 0} (x : Option X) → or_else x None ≡ x
or_none None = refl
or_none (Some x) = refl

-- the words come first
pub search_start : (h : Hash) (i j i' j' v w : ℕ) (p q d e : Bytes) (ss ts : List Bytes) (f : Option (Bytes × Bytes)) → i' ≡ i → j' ≡ j → p ≡ word_preimage v → q ≡ word_preimage w →
    d ≡ h (word_preimage v) → e ≡ h (word_preimage w) → f ≡ or_else (difference p q) None →
    or_else (last_difference (way_preimages h i' d ss) (way_preimages h j' e ts)) f ≡ last_difference (opening_preimages h i v ss) (opening_preimages h j w ts)
unfolding last_difference
search_start h i j i' j' v w p q d e ss ts f at at' ip iq id ie it =
    ap (or_else (last_difference (way_preimages h i' d ss) (way_preimages h j' e ts))) (it ∙ or_none (difference p q))
    ∙ (λ l. last_difference (ip l ∷ way_preimages h (at l) (id l) ss) (iq l ∷ way_preimages h (at' l) (ie l) ts))

-- i' and u are index and digest of the parent of node i, of digest d, and p is what is digested for it; so j', v and q of node j; f is what was found below, g here or below
module _ (h : Hash) (i j i' j' : ℕ) (d e p q u v : Bytes) (ss ts : List Bytes) (k : ℕ) (ws : k < length ss) (wt : k < length ts) (half : i' ≡ i / 2) (half' : j' ≡ j / 2)
    (iu : u ≡ h (parent_preimage i d (get_or ss k []))) (iv : v ≡ h (parent_preimage j e (get_or ts k [])))
    (ip : p ≡ parent_preimage i d (get_or ss k [])) (iq : q ≡ parent_preimage j e (get_or ts k [])) where
  -- the way goes on behind the node's own string
  behind : (xs : List Bytes) (n n' : ℕ) (a b r : Bytes) → n' ≡ n / 2 → k < length xs → b ≡ h (parent_preimage n a (get_or xs k [])) → r ≡ parent_preimage n a (get_or xs k []) →
      r ∷ way_preimages h n' b (drop (k + 1) xs) ≡ way_preimages h n a (drop k xs)
  unfolding way_preimages
  behind xs n n' a b r half w ib ir = (λ l. ir l ∷ way_preimages h (half l) (ib l) (drop (k + 1) xs)) ∙ sym (at_drop_more (way_preimages h n a) xs k [] w)

  pub search_more : (f g : Option (Bytes × Bytes)) (n : ℕ) → n ≡ k + 1 → g ≡ or_else (difference p q) f →
      or_else (last_difference (way_preimages h i' u (drop n ss)) (way_preimages h j' v (drop n ts))) g ≡
      or_else (last_difference (way_preimages h i d (drop k ss)) (way_preimages h j e (drop k ts))) f
  unfolding last_difference
  search_more f g n next ig =
      let x = way_preimages h i' u (drop (k + 1) ss) in
      let y = way_preimages h j' v (drop (k + 1) ts) in
      let a : p ∷ x ≡ way_preimages h i d (drop k ss) = behind ss i i' d u p half ws iu ip in
      let b : q ∷ y ≡ way_preimages h j e (drop k ts) = behind ts j j' e v q half' wt iv iq in
      (λ l. or_else (last_difference (way_preimages h i' u (drop (next l) ss)) (way_preimages h j' v (drop (next l) ts))) (ig l)) ∙ sym (or_assoc (last_difference x y) (difference p q) f) ∙ (λ l. or_else (last_difference (a l) (b l)) f)

pub search_all : (h : Hash) (i j : ℕ) (d e : Bytes) (ss ts : List Bytes) (k : ℕ) (f : Option (Bytes × Bytes)) → length ss ≤ k →
    or_else (last_difference (way_preimages h i d (drop k ss)) (way_preimages h j e (drop k ts))) f ≡ f
unfolding way_preimages last_difference
search_all h i j d e ss ts k f past = at_drop_all (λ xs. or_else (last_difference (way_preimages h i d xs) (way_preimages h j e (drop k ts))) f) ss k past
