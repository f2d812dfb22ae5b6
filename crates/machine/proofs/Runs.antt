-- Runs step by step.
use Rattle.std.proofs.Common.{◌≡◌, ℕ, zero, suc, ◌+◌, ◌-◌, ◌<◌, ◌≤◌, sym, refl, ap, ◌∙◌, suc-add, zero-add, arith}
use Rattle.machine.specs.declared.Instruction.TheVariants.{Halt}
use Rattle.machine.specs.Machine.{State, decode, fetch, step, run}

-- a machine that has halted stands still
halt_step : (s : State) → decode (fetch s) ≡ Halt → step s ≡ s
unfolding step
halt_step s h = rw h

pub halt_run : (n : ℕ) (s : State) → decode (fetch s) ≡ Halt → run n s ≡ s
unfolding run
halt_run zero s h = refl
halt_run (suc n) s h = ap (run n) (halt_step s h) ∙ halt_run n s h

-- n steps, of which i are done
pub run_none : (n : ℕ) (s : State) → run (n - 0) s ≡ run n s
run_none n s = let e : n - 0 ≡ n = omega arith in ap (λ k. run k s) e

pub run_more : (n i : ℕ) (s : State) → i < n → run (n - i) s ≡ run (n - (i + 1)) (step s)
unfolding run
run_more n i s l = let e : n - i ≡ suc (n - (i + 1)) = omega arith in ap (λ k. run k s) e

pub run_done : (n i : ℕ) (s : State) → n ≤ i → run (n - i) s ≡ s
unfolding run
run_done n i s l = let e : n - i ≡ 0 = omega arith in ap (λ k. run k s) e

pub run_add : (a b : ℕ) (s : State) → run b (run a s) ≡ run (a + b) s
unfolding run
run_add zero b s = rw zero-add
run_add (suc a) b s = rw suc-add (run_add a b (step s))

-- k steps more
pub run_some : (n i k : ℕ) (s : State) → i + k ≤ n → run (n - i) s ≡ run (n - (i + k)) (run k s)
run_some n i k s l = let e : n - i ≡ k + (n - (i + k)) = omega arith in ap (λ j. run j s) e ∙ sym (run_add k (n - (i + k)) s)
