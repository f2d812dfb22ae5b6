-- A party that says what its strategy says keeps the rules.
use Rattle.std.proofs.Common.{rules, ◌≡◌, IsTrue, List, [], ◌∷◌, ◌++◌, IfOk, Some, Ok, Err, Option, Result, sym, ap, ◌∙◌, subst}
use Rattle.merkle.specs.Bytes.{Hash, Whole}
use Rattle.witness.specs.Laws.{machine}
use Rattle.witness.proofs.Instances.{machine_lawful}
use Rattle.system.specs.System.{System, Lawful}
use Rattle.witness.specs.declared.Party.{Party}
use Rattle.dispute.specs.declared.Case.{Case}
use Rattle.dispute.specs.declared.Phase.{Phase}
use Rattle.dispute.specs.Referee.{Taken, Protocol, CaseOf, Event, opening, take, next, play, Strategy, Obeys, Follows}
use Rattle.dispute.specs.Bisection.{MessageOf, decode, encode, game}
use Rattle.dispute.specs.Promise.{Promised}
use Rattle.dispute.proofs.Limits.{right_one_wins, claimer_can, doubter_can}
use Rattle.parties.specs.declared.Role.{Role}
use Rattle.parties.specs.declared.Role.TheVariants.{Claimer, Doubter}
use Rattle.parties.specs.Parties.{in_range, strategy, side, sends, KeptBy, Plays}

follows_last : (P : Protocol) (w : Party) (σ : Strategy P) (c : CaseOf P) (es : List Event) (e : Event) → Follows P w σ c es → Obeys P w σ (play P c es) e → Follows P w σ c (es ++ e ∷ [])
unfolding Follows play
follows_last P w σ c [] e kept obeys = (obeys, tt)
follows_last P w σ c (d ∷ es) e kept obeys = (kept.0, follows_last P w σ (next P c d) es e kept.1 obeys)

module _ (S : System) (law : Lawful S) where
  -- what the strategy says is read and taken
  can : (r : Role) → IsTrue (in_range r) → (s : S.State) → S.Valid s → (c : Case Phase) (m : MessageOf S) → strategy S s r c.phase ≡ Some m →
      (decode S (encode S m) ≡ Some m) × ((take (game S s) c (sends S r m)).1 ≡ Taken)
  can (Claimer n) ok s v c m e = claimer_can S law s v c n (search rules) (search rules) m e
  can Doubter ok s v c m e = doubter_can S s c m e

  pub plays : (r : Role) → IsTrue (in_range r) → (c : Case Phase) (said : Option (MessageOf S)) → Plays S r c said
  plays r ok c said s v is es led = (subst (Promised S s es) (sym led) (right_one_wins S law s v es), keeps)
    where
      keeps : KeptBy S s r es → (m : MessageOf S) → said ≡ Some m → ((take (game S s) c (sends S r m)).1 ≡ Taken) × KeptBy S s r (es ++ sends S r m ∷ [])
      keeps kept m says =
          let has : strategy S s r c.phase ≡ Some m = sym is ∙ says in
          let y = can r ok s v c m has in
          let reads : decode S (encode S m) ≡ strategy S s r (play (game S s) (opening (game S s)) es).phase = y.0 ∙ sym has ∙ ap (λ (x : Case Phase). strategy S s r x.phase) led in
          (y.1, follows_last (game S s) (side r) (strategy S s r) (opening (game S s)) es (sends S r m) kept (λ _ _. reads))

  pub all_play : {E : Type 0} (r : Role) → IsTrue (in_range r) → (c : Case Phase) (x : Result (Option (MessageOf S)) E) → IfOk x (λ m. Plays S r c m)
  all_play r ok c (Ok m) = plays r ok c m
  all_play r ok c (Err e) = tt

pub machine_plays : {E : Type 0} (h : Hash) → Whole h → (r : Role) → IsTrue (in_range r) → (c : Case Phase) (x : Result (Option (MessageOf (machine h))) E) → IfOk x (λ m. Plays (machine h) r c m)
machine_plays h whole r ok c x = all_play (machine h) (machine_lawful h whole) r ok c x
