-- What is promised of a dispute over a system. Each is a type; a proof of it for every lawful system is the theorem.
use Rattle.std.specs.Prelude.{◌≡◌, ℕ, suc, ◌+◌, ◌*◌, ◌^◌, ◌<◌, ◌≤◌, ◌⊎◌, List, [], ◌∷◌, ◌++◌, Some, Err, ◌≢◌}
use Rattle.merkle.specs.Bytes.{Bytes, Hash, Whole}
use Rattle.system.specs.System.{System, Lawful}
use Rattle.witness.specs.declared.Party.{Party}
use Rattle.witness.specs.declared.Party.TheVariants.{Claimer, Doubter}
use Rattle.witness.specs.Laws.{machine}
use Rattle.dispute.specs.declared.Case.{Case}
use Rattle.dispute.specs.declared.Refusal.{Refusal}
use Rattle.dispute.specs.declared.Phase.{Phase}
use Rattle.dispute.specs.declared.Phase.TheVariants.{Claiming, Doubting, Bisecting, Answering, Proving, Over}
use Rattle.dispute.specs.Referee.{Taken, Protocol, CaseOf, Event, day, sent, opening, late, take, play, count, Follows, Occurs}
use Rattle.dispute.specs.Bisection.{MessageOf, decode, encode, Sendable, bisection, game, honest_claimer, honest_doubter, Collides, ClaimsRight, Claims}

-- Of the referee, over any protocol: a refusal changes nothing.
abbrev pub Refuses : Protocol → Type 0
Refuses P = (c : CaseOf P) (e : Event) (k : Refusal) → (take P c e).1 ≡ Err k → (take P c e).0 ≡ c

-- Of the referee, over any protocol: a turn that began on day D ends when day D + 2 begins, and not before.
abbrev pub Days : Protocol → Type 0
Days P =
    (c : CaseOf P) (d : ℕ) → d ≡ c.day + 1 →
    ((take P c (day d)).0.day ≡ d) × (d < c.since + 2 → (take P c (day d)).0.phase ≡ c.phase) × (c.since + 2 ≤ d → (take P c (day d)).0.phase ≡ late P c.phase)

-- The steps in dispute are among the first 2 ^ 32.
abbrev pub InRange : Phase → Type 0
InRange (Claiming g) = Unit {0}
InRange (Doubting g n x) = n ≤ 32
InRange (Bisecting n p) = p.from + 2 ^ suc n ≤ 4294967296
InRange (Answering n p x) = p.from + 2 ^ suc n ≤ 4294967296
InRange (Proving p) = p.from + 1 ≤ 4294967296
InRange (Over w) = Unit {0}

-- A promise of every lawful system, and of the machine with any digest.
abbrev pub AnySystem : (System → Type 0) → Type 1
AnySystem P = (S : System) → Lawful S → P S

abbrev pub Here : (System → Type 0) → Type 0
Here P = (h : Hash) → Whole h → P (machine h)

module _ (S : System) (s : S.State) where
  -- The promise of one case, over every list of events from the opening on and the case c that they led to, whatever the other party sends. s is the state at the start.
  -- An honest claimer, of a case about 2 ^ n steps, has not lost.
  abbrev pub ClaimerSafeIn : List Event → Case Phase → Type 0
  ClaimerSafeIn es c = (n : ℕ) → Follows (game S s) Claimer (honest_claimer S s n) (opening (game S s)) es → c.phase ≢ Over Doubter

  -- The claim was right, or a collision stands in the step that the claimer showed.
  abbrev pub Excused : List Event → Type 0
  Excused es = Occurs (game S s) (λ f m. Collides S s f m ⊎ ClaimsRight S s f m) (opening (game S s)) es

  -- An honest doubter has not lost, or it is excused.
  abbrev pub DoubterSafeIn : List Event → Case Phase → Type 0
  DoubterSafeIn es c = Follows (game S s) Doubter (honest_doubter S s) (opening (game S s)) es → c.phase ≡ Over Claimer → Excused es

  -- Once 68 days have begun they have won.
  abbrev pub ClaimerWinsIn : List Event → Case Phase → Type 0
  ClaimerWinsIn es c = (n : ℕ) → Follows (game S s) Claimer (honest_claimer S s n) (opening (game S s)) es → 68 ≤ c.day → c.phase ≡ Over Claimer

  abbrev pub DoubterWinsIn : List Event → Case Phase → Type 0
  DoubterWinsIn es c = Follows (game S s) Doubter (honest_doubter S s) (opening (game S s)) es → 68 ≤ c.day → (c.phase ≡ Over Doubter) ⊎ Excused es

  -- All of it.
  pub record Promised (es : List Event) (c : Case Phase) : Type 0 where
    pub claimer_safe : ClaimerSafeIn es c
    pub claimer_wins : ClaimerWinsIn es c
    pub doubter_safe : DoubterSafeIn es c
    pub doubter_wins : DoubterWinsIn es c

module _ (S : System) where
  -- THE PROMISE, over every list of events, whatever the other party sends.
  -- An honest claimer does not lose.
  abbrev pub ClaimerSafe : Type 0
  ClaimerSafe =
      (s : S.State) → S.Valid s → (n : ℕ) (es : List Event) → Follows (game S s) Claimer (honest_claimer S s n) (opening (game S s)) es →
      (play (game S s) (opening (game S s)) es).phase ≢ Over Doubter

  -- An honest doubter loses only to a right claim, or a collision stands in the claimer's step.
  abbrev pub DoubterSafe : Type 0
  DoubterSafe =
      (s : S.State) → S.Valid s → (es : List Event) → Follows (game S s) Doubter (honest_doubter S s) (opening (game S s)) es →
      (play (game S s) (opening (game S s)) es).phase ≡ Over Claimer → Occurs (game S s) (λ f m. Collides S s f m ⊎ ClaimsRight S s f m) (opening (game S s)) es

  -- Who is right and keeps the rules wins.
  abbrev pub RightOneWins : Type 0
  RightOneWins = (s : S.State) → S.Valid s → (es : List Event) → Promised S s es (play (game S s) (opening (game S s)) es)

  -- The same of a call that makes c' of c at the event e: whatever events led to c, the promise holds of c'.
  abbrev pub Keeps : (c : Case Phase) (e : Event) (c' : Case Phase) → Type 0
  Keeps c e c' = (s : S.State) → S.Valid s → (es : List Event) → c ≡ play (game S s) (opening (game S s)) es → (c' ≡ play (game S s) (opening (game S s)) (es ++ e ∷ [])) × Promised S s (es ++ e ∷ []) c'

  -- 2 n + 3 days after a claim the case is over, whatever is sent.
  abbrev pub Ends : Type 0
  Ends =
      (g : Bytes) (c : Case Phase) (start : Bytes) (n : ℕ) (x : Bytes) (es : List Event) → c.phase ≡ Doubting start n x → c.day ≤ c.since + 1 → c.since + 2 * n + 3 ≤ (play (bisection S g) c es).day →
      (w : Party) × ((play (bisection S g) c es).phase ≡ Over w)

  -- 68 days after its opening the case is over.
  abbrev pub EndsAll : Type 0
  EndsAll = (g : Bytes) (es : List Event) → 68 ≤ (play (bisection S g) (opening (bisection S g)) es).day → (w : Party) × ((play (bisection S g) (opening (bisection S g)) es).phase ≡ Over w)

  -- So an honest claimer has won by then.
  abbrev pub ClaimerWins : Type 0
  ClaimerWins =
      (s : S.State) → S.Valid s → (n : ℕ) (es : List Event) → Follows (game S s) Claimer (honest_claimer S s n) (opening (game S s)) es →
      68 ≤ (play (game S s) (opening (game S s)) es).day → (play (game S s) (opening (game S s)) es).phase ≡ Over Claimer

  -- And an honest doubter has won by then, or the claim was right, or a collision stands in the claimer's step.
  abbrev pub DoubterWins : Type 0
  DoubterWins =
      (s : S.State) → S.Valid s → (es : List Event) → Follows (game S s) Doubter (honest_doubter S s) (opening (game S s)) es →
      68 ≤ (play (game S s) (opening (game S s)) es).day →
      ((play (game S s) (opening (game S s)) es).phase ≡ Over Doubter) ⊎ Occurs (game S s) (λ f m. Collides S s f m ⊎ ClaimsRight S s f m) (opening (game S s)) es

  -- The rules can be kept: what an honest claimer has to send is read and taken.
  abbrev pub ClaimerCan : Type 0
  ClaimerCan =
      (s : S.State) → S.Valid s → (c : Case Phase) (n : ℕ) → 1 ≤ n → n ≤ 32 → (m : MessageOf S) → honest_claimer S s n c.phase ≡ Some m →
      (decode S (encode S m) ≡ Some m) × ((take (game S s) c (sent Claimer (encode S m))).1 ≡ Taken)

  -- And what an honest doubter has to send.
  abbrev pub DoubterCan : Type 0
  DoubterCan =
      (s : S.State) (c : Case Phase) (m : MessageOf S) → honest_doubter S s c.phase ≡ Some m →
      (decode S (encode S m) ≡ Some m) × ((take (game S s) c (sent Doubter (encode S m))).1 ≡ Taken)

  -- What is sent is read as it was meant.
  abbrev pub Reads : Type 0
  Reads = (m : MessageOf S) → Sendable S m → decode S (encode S m) ≡ Some m

  -- After a claim about 2 ^ n steps at most 2 n + 2 messages are taken: with the claim 2 n + 3 in a case.
  abbrev pub Few : Type 0
  Few = (g : Bytes) (c : Case Phase) (start : Bytes) (n : ℕ) (x : Bytes) (es : List Event) → c.phase ≡ Doubting start n x → count (bisection S g) c es ≤ 2 * n + 2

  -- In a case with a claim about 2 ^ n steps at most 2 n + 3 messages are taken.
  abbrev pub FewInAll : Type 0
  FewInAll = (g : Bytes) (n : ℕ) (es : List Event) → Occurs (bisection S g) (Claims S n) (opening (bisection S g)) es → count (bisection S g) (opening (bisection S g)) es ≤ 2 * n + 3

  -- Whatever is sent, the steps in dispute are among the first 2 ^ 32.
  abbrev pub StaysInRange : Type 0
  StaysInRange = (g : Bytes) (es : List Event) → InRange (play (bisection S g) (opening (bisection S g)) es).phase

  abbrev pub RefusesIn : Type 0
  RefusesIn = (g : Bytes) → Refuses (bisection S g)

  abbrev pub DaysIn : Type 0
  DaysIn = (g : Bytes) → Days (bisection S g)
