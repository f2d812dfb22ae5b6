-- What the types say of bytes and digests.
use Rattle.std.proofs.Common.{◌≡◌, ℕ, suc, ◌+◌, ◌^◌, ◌<◌, true, List, [], ◌∷◌, ◌++◌, length, get_or, take, refl, ap, ◌∙◌}
use Rattle.std.proofs.lemmas.List.{take_more}
use Rattle.std.proofs.lemmas.Bool.{and_from, and_parts, lt-ltb}
use Rattle.merkle.specs.Bytes.{Bytes, all_bytes, is_digest, all_digests}

pub bytes_typed : (xs : Bytes) → ((i : ℕ) → get_or xs i 0 < 2 ^ 8) → all_bytes xs ≡ true
unfolding all_bytes
bytes_typed [] small = refl
bytes_typed (x ∷ xs) small = and_from _ _ (lt-ltb x 256 (small 0)) (bytes_typed xs (λ i. small (suc i)))

digests_append : (ds es : List Bytes) → all_digests ds ≡ true → all_digests es ≡ true → all_digests (ds ++ es) ≡ true
unfolding all_digests
digests_append [] es hd he = he
digests_append (d ∷ ds) es hd he = let p = and_parts (is_digest d) (all_digests ds) hd in and_from _ _ p.0 (digests_append ds es p.1 he)

pub digests_more : (ds : List Bytes) (i : ℕ) → i < length ds → all_digests (take i ds) ≡ true → is_digest (get_or ds i []) ≡ true → all_digests (take (i + 1) ds) ≡ true
unfolding all_digests
digests_more ds i within before one =
    ap all_digests (take_more ds i [] within) ∙ digests_append (take i ds) (get_or ds i [] ∷ []) before (and_from _ _ one refl)
