-- Programs: their words, then zeros.
use Rattle.std.proofs.Common.{◌≡◌, ℕ, zero, suc, ◌-◌, ◌≤◌, List, [], ◌∷◌, ◌++◌, length, get_or, replicate, refl, arith}
use Rattle.std.proofs.lemmas.List.{length-append, length-replicate}
use Rattle.cases.specs.Rows.{program}

zeros_at : (n i : ℕ) → get_or {A = ℕ} (replicate n 0) i 0 ≡ 0
zeros_at zero i = refl
zeros_at (suc n) zero = refl
zeros_at (suc n) (suc i) = zeros_at n i

padded_at : (ws : List ℕ) (n i : ℕ) → get_or (ws ++ replicate n 0) i 0 ≡ get_or ws i 0
padded_at [] n i = zeros_at n i
padded_at (w ∷ ws) n zero = refl
padded_at (w ∷ ws) n (suc i) = padded_at ws n i

pub program_at : (ws : List ℕ) (i : ℕ) → get_or (program ws) i 0 ≡ get_or ws i 0
unfolding program
program_at ws i = padded_at ws (65536 - length ws) i

pub program_size : (ws : List ℕ) → length ws ≤ 65536 → length (program ws) ≡ 65536
unfolding program
program_size ws l = let e = length-append ws (replicate (65536 - length ws) 0) in let r = length-replicate {A = ℕ} (65536 - length ws) 0 in omega arith
