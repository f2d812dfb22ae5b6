-- The referee over any protocol: turns, days and answers; and what it means that a party follows a strategy.
-- The first day is 0, and the first turn begins on it; naming the day that is on again changes nothing; days go on after the end.
use Rattle.std.specs.Prelude.{◌≡◌, ℕ, ◌+◌, Bool, true, false, cond, List, [], ◌∷◌, Some, None, Option, Ok, Err, Result, ◌==◌, nat_le}
use Rattle.merkle.specs.Bytes.{Bytes}
use Rattle.witness.specs.declared.Party.{Party}
use Rattle.witness.specs.declared.Party.TheVariants.{Claimer, Doubter}
use Rattle.dispute.specs.declared.Case.{Case}
use Rattle.dispute.specs.declared.Refusal.{Refusal}
use Rattle.dispute.specs.declared.Refusal.TheVariants.{Unreadable, OutOfTurn, OutOfPlace, WrongDay}

-- The number of a refusal. 1: no message; 2: not this party's turn, or the case is over; 3: not a message for this turn; 4: neither the day that is on nor the next.
abbrev pub refusal_number : Refusal → ℕ
refusal_number Unreadable = 1
refusal_number OutOfTurn = 2
refusal_number OutOfPlace = 3
refusal_number WrongDay = 4

-- What comes of something: it is taken, or refused.
abbrev pub Answer : Type 0
Answer = Result (Unit {0}) Refusal

abbrev pub Taken : Answer
Taken = Ok tt

abbrev pub opponent : Party → Party
opponent Claimer = Doubter
opponent Doubter = Claimer

-- Equality of parties, as a test.
abbrev pub same_party : Party → Party → Bool
same_party Claimer Claimer = true
same_party Claimer Doubter = false
same_party Doubter Claimer = false
same_party Doubter Doubter = true

-- What is said in turns, apart from days and answers.
pub record Protocol : Type 1 where
  pub Message : Type 0
  pub decode : Bytes → Option Message
  pub Phase : Type 0
  pub first : Phase
  pub over : (winner : Party) → Phase
  -- whose turn it is; None: nobody's, the case is over
  pub turn : Phase → Option Party
  -- the phase after a message in its turn; None: the turn is not for it
  pub move : Phase → Message → Option Phase

-- What comes to the referee: a day begins, or a party sends bytes.
pub data Event : Type 0 where
  day : ℕ → Event
  sent : Party → Bytes → Event

-- Whether it is this party's turn.
abbrev pub may_move : Option Party → Party → Bool
may_move None w = false
may_move (Some v) w = same_party v w

-- One for a message that is taken.
abbrev pub counts : Event → Answer → ℕ
counts (day d) a = 0
counts (sent w b) (Ok u) = 1
counts (sent w b) (Err k) = 0

module _ (P : Protocol) where
  abbrev pub CaseOf : Type 0
  CaseOf = Case P.Phase

  -- The case at its opening.
  abbrev pub opening : CaseOf
  opening = record { day = 0; since = 0; phase = P.first }

  -- A turn that began on day D ends when day D + 2 begins.
  abbrev pub expires : CaseOf → Bool
  expires c = nat_le (c.since + 2) (c.day + 1)

  -- Whoever lets the turn run out loses.
  abbrev pub forfeit : P.Phase → Option Party → P.Phase
  forfeit f None = f
  forfeit f (Some w) = P.over (opponent w)

  abbrev pub late : P.Phase → P.Phase
  late f = forfeit f (P.turn f)

  -- The case when the next day begins.
  abbrev pub next_day : CaseOf → CaseOf
  next_day c = record { day = c.day + 1; since = c.since; phase = cond (expires c) (late c.phase) c.phase }

  -- The case after a move; a new turn begins.
  abbrev pub moved : CaseOf → P.Phase → CaseOf
  moved c f = record { day = c.day; since = c.day; phase = f }

  abbrev pub settle : CaseOf → Option P.Phase → CaseOf × Answer
  settle c None = (c, Err OutOfPlace)
  settle c (Some f) = (moved c f, Taken)

  -- What is made of a message: the lowest number that applies is the answer, and a refusal changes nothing.
  abbrev pub receive : CaseOf → Party → Option P.Message → CaseOf × Answer
  receive c w None = (c, Err Unreadable)
  receive c w (Some m) = cond (may_move (P.turn c.phase) w) (settle c (P.move c.phase m)) (c, Err OutOfTurn)

  -- The case after an event, and the answer.
  unfoldable pub take : CaseOf → Event → CaseOf × Answer
  take c (day d) = cond (d == c.day) (c, Taken) (cond (d == c.day + 1) (next_day c, Taken) (c, Err WrongDay))
  take c (sent w b) = receive c w (P.decode b)

  abbrev pub next : CaseOf → Event → CaseOf
  next c e = (take c e).0

  -- The case after a list of events.
  unfoldable pub play : CaseOf → List Event → CaseOf
  play c [] = c
  play c (e ∷ es) = play (next c e) es

  -- How many messages are taken.
  unfoldable pub count : CaseOf → List Event → ℕ
  count c [] = 0
  count c (e ∷ es) = counts e (take c e).1 + count (next c e) es

  -- What to send in a phase; None: nothing.
  abbrev pub Strategy : Type 0
  Strategy = P.Phase → Option P.Message

  -- An event, as it may come to a party w that follows σ: no day ends a turn in which w has something to send, and what is taken of w is what σ says.
  -- What is refused changes nothing, so w may send it again; and what the other party sends is any bytes at any time.
  abbrev pub Obeys : Party → Strategy → CaseOf → Event → Type 0
  Obeys w σ c (day d) = d ≡ c.day + 1 → expires c ≡ true → σ c.phase ≡ None
  Obeys w σ c (sent v b) = v ≡ w → (take c (sent v b)).1 ≡ Taken → P.decode b ≡ σ c.phase

  -- So all the events, one after another.
  unfoldable pub Follows : Party → Strategy → CaseOf → List Event → Type 0
  Follows w σ c [] = Unit {0}
  Follows w σ c (e ∷ es) = Obeys w σ c e × Follows w σ (next c e) es

  -- Among the events is a message, sent in its turn, for which Q holds.
  pub data Occurs (Q : P.Phase → P.Message → Type 0) : CaseOf → List Event → Type 0 where
    here : {c : CaseOf} {w : Party} {b : Bytes} {es : List Event} (m : P.Message) → P.turn c.phase ≡ Some w → P.decode b ≡ Some m → Q c.phase m → Occurs Q c (sent w b ∷ es)
    there : {c : CaseOf} {e : Event} {es : List Event} → Occurs Q (next c e) es → Occurs Q c (e ∷ es)
