-- Runs of a system.
use Rattle.std.proofs.Common.{◌≡◌, ℕ, zero, suc, ◌+◌, ◌^◌, refl, ap, add-one, arith}
use Rattle.system.specs.System.{System, Lawful, run, digest_at}

module _ (S : System) where
  run_suc : (n : ℕ) (s : S.State) → run S (suc n) s ≡ S.step (run S n s)
  unfolding run
  run_suc zero s = refl
  run_suc (suc n) s = run_suc n (S.step s)

  pub digest_start : (s : S.State) → digest_at S s 0 ≡ S.digest s
  unfolding run
  digest_start s = refl

  pub digest_step : (s : S.State) (n : ℕ) → digest_at S s (n + 1) ≡ S.digest (S.step (run S n s))
  digest_step s n = rw add-one (ap S.digest (run_suc n s))

  pub valid_run : Lawful S → (n : ℕ) (s : S.State) → S.Valid s → S.Valid (run S n s)
  unfolding run
  valid_run law zero s v = v
  valid_run law (suc n) s v = valid_run law n (S.step s) (law.valid_step s v)

pub twice : (a n : ℕ) → a + 2 ^ suc n ≡ (a + 2 ^ n) + 2 ^ n
twice a n = omega arith
