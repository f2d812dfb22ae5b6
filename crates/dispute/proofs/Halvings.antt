-- How many steps are in dispute.
use Rattle.std.proofs.Common.{ℕ, ◌+◌, ◌^◌, ◌<◌, leb, inl, inr, arith, pow_mono}
use Rattle.std.proofs.lemmas.Bool.{cases_Bool, leb-true, leb-false}

-- a power of two below 2 ^ 32 has an exponent below 32
pub shiftable : (a n : ℕ) → a + 2 ^ n < 4294967296 → n < 32
shiftable a n l =
    elim (cases_Bool (leb 32 n)) [
      | inl t ↦ (let z = pow_mono {i = 32} {j = n} (leb-true 32 n t) in absurd (omega arith))
      | inr f ↦ (let z = leb-false 32 n f in omega arith)
    ]
