-- A hash value has eight words.
use Rattle.std.proofs.Common.{◌≡◌, ℕ, zero, suc, List, [], ◌∷◌, length, refl, ◌∙◌, arith}
use Rattle.std.proofs.lemmas.List.{length-map}
use Rattle.std.proofs.lemmas.Slice.Zip.{length-zip}
use Rattle.sha256.specs.Sha256.{H₀, rounds, sums, schedule, compress, absorb, hash, pad}

rounds_length : (n : ℕ) (w s : List ℕ) → length s ≡ 8 → length (rounds n w s) ≡ 8
unfolding rounds
rounds_length zero w s h = h
rounds_length (suc n) w s h = refl

sums_length : (xs ys : List ℕ) → length xs ≡ length ys → length (sums xs ys) ≡ length xs
unfolding sums
sums_length xs ys h = simp (length-map, length-zip) (omega arith)

absorb_length : (s : List ℕ) (bs : List (List ℕ)) → length s ≡ 8 → length (absorb s bs) ≡ 8
unfolding absorb compress
absorb_length s [] h = h
absorb_length s (b ∷ bs) h =
    let r = rounds_length 64 (schedule b) s h in
    absorb_length (sums (rounds 64 (schedule b) s) s) bs (sums_length (rounds 64 (schedule b) s) s (omega arith) ∙ r)

pub hash_length : (m : List ℕ) → length (hash H₀ (pad m)) ≡ 8
unfolding hash H₀
hash_length m = absorb_length _ _ refl
