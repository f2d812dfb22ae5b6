-- Rows of worked cases on real SHA-256, and what each says.
use Rattle.std.specs.Prelude.{◌≡◌, ℕ, zero, suc, ◌-◌, ◌/◌, ◌%◌, ◌^◌, Bool, List, [], ◌∷◌, ◌++◌, length, replicate, Ok, Err, slice_index, bytes_eq}
use Rattle.sha256.specs.Sha256.{sha256}
use Rattle.merkle.specs.Bytes.{Bytes}
use Rattle.machine.specs.Machine.{State}
use Rattle.system.specs.System.{System, run, digest_at}
use Rattle.witness.specs.declared.Witness.{Witness}
use Rattle.witness.specs.Witness.{state_fits, instruction_fits, operand_fits, next_part}
use Rattle.witness.specs.Laws.{machine}
use Rattle.dispute.specs.declared.Phase.{Phase}
use Rattle.dispute.specs.Referee.{Answer, Protocol, CaseOf, Event, opening, take, next, refusal_number}
use Rattle.dispute.specs.Bisection.{bisection}

-- The machine with SHA-256.
abbrev pub real : System
real = machine sha256

-- A memory: some words, and then zeros.
unfoldable pub program : List ℕ → List ℕ
program ws = ws ++ replicate (65536 - length ws) 0

-- A number in so many bytes, high byte first; a digest stands in the table as a number of 32 bytes.
unfoldable pub bytes : (count : ℕ) → ℕ → Bytes
bytes zero n = []
bytes (suc k) n = (n / 256 ^ k % 256) ∷ bytes k n

abbrev pub as_digest : ℕ → Bytes
as_digest n = bytes 32 n

-- What is sent, each with the number of the answer.
abbrev pub Exchange : Type 0
Exchange = List (Event × ℕ)

pub data Row : Type 0 where
  -- after so many steps from a state: place, register, the word at place 100, and the digest
  after : State → (steps place register word digest : ℕ) → Row
  -- the machine stands still in a state with this digest
  still : State → (digest : ℕ) → Row
  -- a step as it is shown, between two digests: whether the state, the instruction and the other word fit the first, and what follows the second
  shown : (from : ℕ) → Witness → (to : ℕ) → (state instruction operand end : Bool) → Row
  -- a dispute about a run from the state with this digest, and its phase at the end
  disputed : (start : ℕ) → Exchange → Phase → Row

-- 0 for what is taken, and the number of a refusal.
abbrev pub answer_number : Answer → ℕ
answer_number (Ok u) = 0
answer_number (Err k) = refusal_number k

-- The answers and the phase at the end are these.
unfoldable pub Goes : (P : Protocol) → CaseOf P → Exchange → P.Phase → Type 0
Goes P c [] f = c.phase ≡ f
Goes P c (e ∷ es) f = (answer_number (take P c e.0).1 ≡ e.1) × Goes P (next P c e.0) es f

abbrev pub Holds : Row → Type 0
Holds (after s n p a w d) = ((run real n s).cpu ≡ record { place = p; register = a }) × (slice_index (run real n s).memory 100 ≡ w) × (digest_at real s n ≡ as_digest d)
Holds (still s d) = (n : ℕ) → (run real n s ≡ s) × (digest_at real s n ≡ as_digest d)
Holds (shown g o d a b c e) =
    (state_fits sha256 (as_digest g) o ≡ a) × (instruction_fits sha256 o ≡ b) × (operand_fits sha256 o ≡ c) × (bytes_eq (sha256 (next_part sha256 o)) (as_digest d) ≡ e)
Holds (disputed g es f) = Goes (bisection real (as_digest g)) (opening (bisection real (as_digest g))) es f

-- Every row of a list holds.
infixr 20 ◌also◌
pub data AllHold : List Row → Type 0 where
  done : AllHold []
  ◌also◌ : {r : Row} {rs : List Row} → Holds r → AllHold rs → AllHold (r ∷ rs)
