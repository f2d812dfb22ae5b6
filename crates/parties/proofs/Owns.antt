-- A party's own run, as the promise speaks of it.
use Rattle.std.proofs.Common.{◌≡◌, ℕ, zero, suc, ◌+◌, ◌^◌, ◌≤◌, leb, refl, subst, inl, inr, arith, pow_mono}
use Rattle.std.proofs.lemmas.Bool.{cases_Bool, leb-true, leb-false}
use Rattle.merkle.specs.Bytes.{Bytes, Hash}
use Rattle.machine.specs.Machine.{State, step}
use Rattle.machine.specs.Machine as machines
use Rattle.system.specs.System as systems
use Rattle.witness.specs.Laws.{machine}
use Rattle.dispute.specs.declared.Dispute.{Dispute}
use Rattle.dispute.specs.declared.Phase.{Phase}
use Rattle.dispute.specs.declared.Phase.TheVariants.{Doubting, Bisecting, Answering}
use Rattle.dispute.specs.Bisection.{reach}

pub own_run : (h : Hash) (n : ℕ) (s : State) → systems.run (machine h) n s ≡ machines.run n s
unfolding machines.run systems.run
own_run h zero s = refl
own_run h (suc n) s = own_run h n (step s)

-- steps within 2 ^ 32 have an exponent of at most 32
pub small : (a n : ℕ) → a + 2 ^ n ≤ 4294967296 → n ≤ 32
small a n l =
    elim (cases_Bool (leb n 32)) [
      | inl t ↦ leb-true n 32 t
      | inr f ↦ (let b = leb-false n 32 f in let z = pow_mono {i = 33} {j = n} b in absurd (omega arith))
    ]

pub power_bound : (n : ℕ) → n ≤ 32 → 2 ^ n ≤ 4294967296
power_bound n l = let z = pow_mono {i = n} {j = 32} l in omega arith

-- what a phase leaves in dispute is within 2 ^ 32
module _ (f : Phase) (range : reach f ≤ 4294967296) where
  pub doubting_small : {g x : Bytes} {n : ℕ} → f ≡ Doubting g n x → n ≤ 32
  doubting_small {n = n} is = let l = subst (λ f. reach f ≤ 4294967296) is range in small 0 n (omega arith)

  pub bisecting_small : {k : ℕ} {p : Dispute} → f ≡ Bisecting k p → k ≤ 32
  bisecting_small {k} {p} is = let l = subst (λ f. reach f ≤ 4294967296) is range in let z = small p.from (suc k) l in omega arith

  pub answering_small : {k : ℕ} {p : Dispute} {x : Bytes} → f ≡ Answering k p x → k ≤ 32
  answering_small {k} {p} is = let l = subst (λ f. reach f ≤ 4294967296) is range in let z = small p.from (suc k) l in omega arith
