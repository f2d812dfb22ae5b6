-- A program fills the whole memory.
use Rattle.std.proofs.Common.{◌≡◌, ℕ, zero, suc, ◌/◌, ◌≤◌, length, drop, None, refl, ap, arith}
use Rattle.std.specs.Simd.{first_chunks}
use Rattle.std.proofs.lemmas.List.{length-append, length-map, length-replicate}
use Rattle.std.proofs.lemmas.Bool.Decides.{nat_tests}
use Rattle.merkle.specs.Bytes.{Bytes}
use Rattle.text.specs.Program.{program, fault}

chunks_count : (k : ℕ) (b : Bytes) → length (first_chunks 4 k b) ≡ k
chunks_count zero b = refl
chunks_count (suc k) b = ap suc (chunks_count k (drop 4 b))

fits : (f : Bytes) → fault f ≡ None → length f / 4 ≤ 65536
fits f h = grind (arith, nat_tests)

pub program_whole : (f : Bytes) → fault f ≡ None → length (program f) ≡ 65536
program_whole f h =
    let l = fits f h in
    let n = chunks_count (length f / 4) f in
    simp (length-append, length-map, length-replicate) (omega arith)
