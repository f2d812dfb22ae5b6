-- The joint: all that a dispute about runs needs of a machine, and the laws that its proofs use.
use Rattle.std.specs.Prelude.{◌≡◌, ℕ, zero, suc, ◌<◌, Bool, true, ◌⊎◌, length, Some, Option}
use Rattle.merkle.specs.Bytes.{Bytes}

-- A machine whose single steps a referee can check from digests.
pub record System : Type 1 where
  pub State : Type 0
  -- what is shown of one step
  pub Witness : Type 0
  pub step : State → State
  pub digest : State → Bytes
  -- whether the witness leads from the digest at the beginning to the digest at the end
  pub accepts : Bytes → Witness → Bytes → Bool
  -- the honest witness of a state's next step
  pub witness : State → Witness
  -- a witness as a message: its first byte, the rest, and back
  pub kind : Witness → ℕ
  pub body : Witness → Bytes
  pub parse : (kind : ℕ) → Bytes → Option Witness
  -- the states that a run can have
  pub Valid : State → Type 0
  -- two different strings with one digest, the one from the witness, the other from the state itself
  pub Found : State → Witness → Type 0

-- The laws of a system: all that the proofs about a dispute use of it.
pub record Lawful (S : System) : Type 0 where
  pub valid_step : (s : S.State) → S.Valid s → S.Valid (S.step s)
  -- complete: the honest witness is accepted
  pub complete : (s : S.State) → S.Valid s → S.accepts (S.digest s) (S.witness s) (S.digest (S.step s)) ≡ true
  -- sound: what is accepted from a state's digest ends in the digest of its next state, or a collision is at hand
  pub sound : (s : S.State) → S.Valid s → (o : S.Witness) (d : Bytes) → S.accepts (S.digest s) o d ≡ true → (d ≡ S.digest (S.step s)) ⊎ S.Found s o
  -- digests fit their messages, and the honest witness is read as it was meant, in a message that is not one of the dispute's own
  pub digest_long : (s : S.State) → length (S.digest s) ≡ 32
  pub kind_own : (s : S.State) → 5 < S.kind (S.witness s)
  pub legible : (s : S.State) → S.Valid s → S.parse (S.kind (S.witness s)) (S.body (S.witness s)) ≡ Some (S.witness s)

-- The state after n steps, and its digest.
unfoldable pub run : (S : System) → ℕ → S.State → S.State
run S zero s = s
run S (suc n) s = run S n (S.step s)

abbrev pub digest_at : (S : System) → S.State → ℕ → Bytes
digest_at S s n = S.digest (run S n s)
