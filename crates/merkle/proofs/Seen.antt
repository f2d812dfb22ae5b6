-- Strings that are digested one after another.
use Rattle.std.proofs.Common.{◌≡◌, List, [], ◌∷◌, ◌++◌, sym, refl, ap, ◌∙◌}
use Rattle.merkle.specs.Bytes.{Bytes}
use Rattle.merkle.specs.Seen.{seen_all}

module _ {S : Type 0} (adds : S → Bytes → S) where
  pub seen_append : (s : S) (xs ys : List Bytes) → seen_all adds s (xs ++ ys) ≡ seen_all adds (seen_all adds s xs) ys
  unfolding seen_all
  seen_append s [] ys = refl
  seen_append s (x ∷ xs) ys = seen_append (adds s x) xs ys

  pub seen_last : (s t u : S) (xs : List Bytes) (x : Bytes) → t ≡ seen_all adds s xs → u ≡ adds t x → u ≡ seen_all adds s (xs ++ (x ∷ []))
  unfolding seen_all
  seen_last s t u xs x before is = is ∙ ap (λ y. adds y x) before ∙ sym (seen_append s xs (x ∷ []))
