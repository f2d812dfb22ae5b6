-- What a party has to do, by its role, and what comes of it.
use Rattle.std.specs.Prelude.{◌≡◌, ℕ, ◌^◌, Bool, ◌&&◌, true, List, [], ◌∷◌, ◌++◌, Some, vec_items, Option, nat_le}
use Rattle.machine.specs.Machine.{State, start}
use Rattle.system.specs.System.{System}
use Rattle.witness.specs.declared.Party as parties
use Rattle.witness.specs.declared.Party.TheVariants as sides
use Rattle.dispute.specs.declared.Case.{Case}
use Rattle.dispute.specs.declared.Phase.{Phase}
use Rattle.dispute.specs.declared.Dispute.{Dispute}
use Rattle.dispute.specs.declared.Phase.TheVariants.{Claiming, Doubting, Bisecting, Answering, Proving, Over}
use Rattle.dispute.specs.Referee.{Taken, Event, sent, opening, take, play, Follows}
use Rattle.dispute.specs.Bisection.{MessageOf, encode, game, honest_claimer, honest_doubter}
use Rattle.dispute.specs.Promise.{Promised, Excused}
use Rattle.history.specs.declared.History.{History}
use Rattle.parties.specs.declared.Role.{Role}
use Rattle.parties.specs.declared.Role.TheVariants.{Claimer, Doubter}

-- The state at the start of a party's own run.
abbrev pub own : History → State
own h = start (vec_items h.program)

abbrev pub side : Role → parties.Party
side (Claimer n) = sides.Claimer
side Doubter = sides.Doubter

-- A claimer's case is about 2 ^ n steps, n from 1 to 32.
abbrev pub in_range : Role → Bool
in_range (Claimer n) = nat_le 1 n && nat_le n 32
in_range Doubter = true

-- The steps that a claim is about, while it can be doubted.
abbrev pub claimed_span : Phase → ℕ
claimed_span (Claiming g) = 0
claimed_span (Doubting g n x) = 2 ^ n
claimed_span (Bisecting n p) = 0
claimed_span (Answering n p x) = 0
claimed_span (Proving p) = 0
claimed_span (Over w) = 0

-- The steps that the case is about, once the party knows.
abbrev pub span_of : Role → Phase → ℕ
span_of (Claimer n) f = 2 ^ n
span_of Doubter f = claimed_span f

module _ (S : System) where
  -- The strategy of the honest party in a role, over its own run from s.
  abbrev pub strategy : S.State → Role → Phase → Option (MessageOf S)
  strategy s (Claimer n) = honest_claimer S s n
  strategy s Doubter = honest_doubter S s

  -- The events so far are such that the party kept the rules.
  abbrev pub KeptBy : S.State → Role → List Event → Type 0
  KeptBy s r es = Follows (game S s) (side r) (strategy s r) (opening (game S s)) es

  -- A message of the party is sent.
  abbrev pub sends : Role → MessageOf S → Event
  sends r m = sent (side r) (encode S m)

  -- A party in the case c says m, if anything: whatever events led to c, the promise holds of c; and what it says is taken, and with it the rules are kept as before.
  abbrev pub Plays : Role → Case Phase → Option (MessageOf S) → Type 0
  Plays r c said =
      (s : S.State) → S.Valid s → said ≡ strategy s r c.phase → (es : List Event) → c ≡ play (game S s) (opening (game S s)) es →
      Promised S s es c × (KeptBy s r es → (m : MessageOf S) → said ≡ Some m → ((take (game S s) c (sends r m)).1 ≡ Taken) × KeptBy s r (es ++ sends r m ∷ []))

  -- A doubter that kept the rules has lost by the step o of the dispute p, though nothing before excuses it.
  pub record LostAt (s : S.State) (p : Dispute) (o : S.Witness) : Type 0 where
    pub valid : S.Valid s
    pub before : List Event
    pub proving : (play (game S s) (opening (game S s)) before).phase ≡ Proving p
    pub kept : KeptBy s Doubter before
    pub unexcused : Excused S s before → ⊥
    pub accepted : S.accepts p.agreed o p.disputed ≡ true
