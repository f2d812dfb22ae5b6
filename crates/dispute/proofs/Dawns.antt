-- What a day makes of a case, and what a message does, outcome by outcome.
use Rattle.std.proofs.Common.{◌≡◌, ℕ, ◌+◌, true, false, cond, leb, Some, None, Err, Option, arith}
use Rattle.std.proofs.lemmas.Bool.{eq-eqb, ne_eqb}
use Rattle.merkle.specs.Bytes.{Bytes}
use Rattle.witness.specs.declared.Party.{Party}
use Rattle.dispute.specs.declared.Refusal.TheVariants.{Unreadable, OutOfTurn}
use Rattle.dispute.specs.Referee.{Taken, Protocol, CaseOf, day, sent, may_move, late, settle, take}

module _ (P : Protocol) (c : CaseOf P) (d : ℕ) where
  pub day_next : d ≡ c.day + 1 → (f : P.Phase) → f ≡ cond (leb (c.since + 2) d) (late P c.phase) c.phase → (record { day = d; since = c.since; phase = f }, Taken) ≡ take P c (day d)
  unfolding take
  day_next dawns f is = rw (ne_eqb d c.day (λ z. omega arith), eq-eqb d (c.day + 1) dawns, is, dawns)

module _ (P : Protocol) (c : CaseOf P) (w : Party) (b : Bytes) where
  pub sent_unread : P.decode b ≡ None → (c, Err Unreadable) ≡ take P c (sent w b)
  unfolding take
  sent_unread e = rw e

  module _ (m : P.Message) (read : P.decode b ≡ Some m) where
    pub sent_early : may_move (P.turn c.phase) w ≡ false → (c, Err OutOfTurn) ≡ take P c (sent w b)
    unfolding take
    sent_early f = rw (read, f)

    pub sent_settled : may_move (P.turn c.phase) w ≡ true → (r : Option P.Phase) → r ≡ P.move c.phase m → settle P c r ≡ take P c (sent w b)
    unfolding take
    sent_settled turn r is = rw (read, turn, is)
