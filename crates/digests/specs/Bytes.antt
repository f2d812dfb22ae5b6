-- A hash value of eight words has 32 bytes.
use Rattle.std.specs.Prelude.{◌≡◌, ℕ, ◌*◌, ◌/◌, ◌%◌, ◌^◌, true, List, [], ◌∷◌, length, refl}
use Rattle.std.proofs.Common.{ap, ◌∙◌, arith}
use Rattle.std.specs.List.{flat_map}
use Rattle.std.proofs.lemmas.Bool.{and_from, lt-ltb, eq-eqb}
use Rattle.sha256.specs.Sha256.{H₀, be32, pad, hash, sha256}
use Rattle.sha256.proofs.Lengths.{hash_length}
use Rattle.merkle.specs.Bytes.{all_bytes, Whole}

joined_length : (s : List ℕ) → length (flat_map be32 s) ≡ 4 * length s
joined_length [] = refl
joined_length (x ∷ s) = omega (arith, joined_length s)

joined_bytes : (s : List ℕ) → all_bytes (flat_map be32 s) ≡ true
unfolding all_bytes
joined_bytes [] = refl
joined_bytes (x ∷ s) =
    and_from _ _ (lt-ltb (x / 2 ^ 24 % 256) 256 (omega arith)) (and_from _ _ (lt-ltb (x / 2 ^ 16 % 256) 256 (omega arith))
    (and_from _ _ (lt-ltb (x / 2 ^ 8 % 256) 256 (omega arith)) (and_from _ _ (lt-ltb (x % 256) 256 (omega arith)) (joined_bytes s))))

pub sha256_digest : Whole sha256
unfolding sha256
sha256_digest a =
    let s = hash H₀ (pad a) in
    and_from _ _ (eq-eqb (length (flat_map be32 s)) 32 (joined_length s ∙ ap (λ n. 4 * n) (hash_length a))) (joined_bytes s)
