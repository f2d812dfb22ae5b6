-- The runs of the two programs.
use Rattle.std.proofs.Common.{◌≡◌, ℕ, zero, suc, ◌^◌, ◌<◌, [], length, get_or, refl, ap, ◌∙◌, arith}
use Rattle.std.proofs.lemmas.List.{get_or-set_same, get_or-set_other}
use Rattle.sha256.specs.Sha256.{sha256}
use Rattle.machine.specs.Machine.{State, decode, step, digest}
use Rattle.system.specs.System.{run}
use Rattle.witness.specs.Witness.{Valid}
use Rattle.witness.proofs.Ranges.{step_valid}
use Rattle.cases.specs.Rows.{real, as_digest, after, still, Holds}
use Rattle.cases.specs.Table.{instructions, sevens, idle, digest_idle}
use Rattle.cases.proofs.Programs.{program_at, program_size}
use Rattle.cases.proofs.Digests.{memory, stored, state, idle_is}

-- ---- the first, step by step
size : length memory ≡ 65536
size = program_size instructions (omega arith)

step0 : step sevens ≡ state 1 7 memory
unfolding step decode
step0 = rw (program_at instructions 0)

step1 : step (state 1 7 memory) ≡ state 2 7 stored
unfolding step decode
step1 = rw (program_at instructions 1)

step2 : step (state 2 7 stored) ≡ state 0 7 stored
unfolding step decode
step2 = rw (get_or-set_other memory 100 2 7 0 (λ e. omega arith) ∙ program_at instructions 2)

pub run1 : run real 1 sevens ≡ state 1 7 memory
unfolding run
run1 = step0

pub run2 : run real 2 sevens ≡ state 2 7 stored
unfolding run
run2 = ap step step0 ∙ step1

pub run3 : run real 3 sevens ≡ state 0 7 stored
unfolding run
run3 = ap step run2 ∙ step2

-- t is the state after n steps
pub row : (s t : State) (n w d : ℕ) → run real n s ≡ t → get_or t.memory 100 0 ≡ w → digest sha256 t ≡ as_digest d → Holds (after s n t.cpu.place t.cpu.register w d)
row s t n w d e f g = (ap (λ (x : State). x.cpu) e, ap (λ (x : State). get_or x.memory 100 0) e ∙ f, ap (digest sha256) e ∙ g)

pub word_before : get_or memory 100 0 ≡ 0
word_before = program_at instructions 100

pub word_after : get_or stored 100 0 ≡ 7
word_after = get_or-set_same memory 100 7 0 (let z = size in omega arith)

-- ---- the second
halts : step idle ≡ idle
unfolding step decode
halts = rw (program_at [] 0)

stays : (n : ℕ) → run real n idle ≡ idle
unfolding run
stays zero = refl
stays (suc n) = ap (run real n) halts ∙ stays n

pub stands : Holds (still idle digest_idle)
stands n = (stays n, ap (digest sha256) (stays n) ∙ idle_is)

-- ---- the first program's states can be shown
pub small : (i : ℕ) → get_or memory i 0 < 2 ^ 32
small i = rw (program_at instructions i) (go i)
  where
    go : (i : ℕ) → get_or instructions i 0 < 2 ^ 32
    go zero = omega arith
    go (suc zero) = omega arith
    go (suc (suc zero)) = omega arith
    go (suc (suc (suc i))) = omega arith

pub valid0 : Valid sevens
valid0 = record { place = omega arith; register = omega arith; size = size; words = small }

pub valid1 : Valid (run real 1 sevens)
unfolding run
valid1 = step_valid sevens valid0
