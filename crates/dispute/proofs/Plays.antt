-- The referee over any protocol: what one event can do, invariants of whole plays, followed strategies, and ending by a measure.
use Rattle.std.proofs.Common.{◌≡◌, ℕ, ◌+◌, ◌≤◌, true, cond, eqb, ◌⊎◌, List, [], ◌∷◌, ◌++◌, Some, None, Ok, Err, Option, sym, refl, ap, ◌∙◌, inl, inr, arith}
use Rattle.std.proofs.lemmas.Bool.{eqb-true, eq-eqb, ne_eqb, le-leb, lt-leb, leb-false, cases_Bool, cond_both}
use Rattle.merkle.specs.Bytes.{Bytes}
use Rattle.witness.specs.declared.Party.{Party}
use Rattle.witness.specs.declared.Party.TheVariants.{Claimer, Doubter}
use Rattle.dispute.specs.declared.Refusal.{Refusal}
use Rattle.dispute.specs.declared.Refusal.TheVariants.{Unreadable, OutOfTurn, OutOfPlace, WrongDay}
use Rattle.dispute.specs.Referee.{Answer, Taken, opponent, same_party, Protocol, CaseOf, Event, day, sent, may_move, counts, expires, forfeit, late, next_day, moved, settle, receive, take, next, play, count, Strategy, Obeys, Follows, Occurs, here, there}
use Rattle.dispute.specs.Promise.{Refuses, Days}

pub same_party_lem : (v w : Party) → same_party v w ≡ true → v ≡ w
same_party_lem Claimer Claimer e = refl
same_party_lem Claimer Doubter e = cc
same_party_lem Doubter Claimer e = cc
same_party_lem Doubter Doubter e = refl

pub same_self : (w : Party) → same_party w w ≡ true
same_self Claimer = refl
same_self Doubter = refl

pub counts_one : (e : Event) (a : Answer) → counts e a ≤ 1
counts_one (day d) a = omega arith
counts_one (sent w b) (Ok u) = omega arith
counts_one (sent w b) (Err k) = omega arith

may_move_lem : (t : Option Party) (w : Party) → may_move t w ≡ true → t ≡ Some w
may_move_lem None w e = cc
may_move_lem (Some v) w e = ap Some (same_party_lem v w e)

module _ (P : Protocol) where
  -- a fact of what is made of a day, and of a message
  pub on_day : (c : CaseOf P) (d : ℕ) (Q : CaseOf P × Answer → Type 0) → Q (c, Taken) → (d ≡ c.day + 1 → Q (next_day P c, Taken)) → Q (c, Err WrongDay) → Q (take P c (day d))
  unfolding take
  on_day c d Q same dawns no' =
      cond_both (eqb d c.day) (c, Taken) (cond (eqb d (c.day + 1)) (next_day P c, Taken) (c, Err WrongDay)) Q (λ _. same)
      (λ _. cond_both (eqb d (c.day + 1)) (next_day P c, Taken) (c, Err WrongDay) Q (λ e. dawns (eqb-true d (c.day + 1) e)) (λ _. no'))

  pub on_sent : (c : CaseOf P) (w : Party) (b : Bytes) (Q : CaseOf P × Answer → Type 0) → ((k : Refusal) → Q (c, Err k)) →
      ((m : P.Message) (f : P.Phase) → P.decode b ≡ Some m → P.turn c.phase ≡ Some w → P.move c.phase m ≡ Some f → Q (moved P c f, Taken)) → Q (take P c (sent w b))
  unfolding take
  on_sent c w b Q same makes = read (P.decode b) refl
    where
      settled : (m : P.Message) (r : Option P.Phase) → P.decode b ≡ Some m → P.turn c.phase ≡ Some w → P.move c.phase m ≡ r → Q (settle P c r)
      settled m None e t k = same OutOfPlace
      settled m (Some f) e t k = makes m f e t k

      read : (o : Option P.Message) → P.decode b ≡ o → Q (receive P c w o)
      read None e = same Unreadable
      read (Some m) e =
          cond_both (may_move (P.turn c.phase) w) (settle P c (P.move c.phase m)) (c, Err OutOfTurn) Q
          (λ t. settled m (P.move c.phase m) e (may_move_lem (P.turn c.phase) w t) refl) (λ _. same OutOfTurn)

  pub refuses : Refuses P
  refuses c (day d) k = on_day c d (λ r. r.1 ≡ Err k → r.0 ≡ c) (λ _. refl) (λ _ e. cc) (λ _. refl)
  refuses c (sent w b) k = on_sent c w b (λ r. r.1 ≡ Err k → r.0 ≡ c) (λ _ _. refl) (λ m f e t v x. cc)

  pub days : Days P
  unfolding take
  days c d e =
      let a = ne_eqb d c.day (λ u. omega arith) in
      let b = eq-eqb d (c.day + 1) e in
      (rw (a, b) (sym e), λ l. rw (a, b, lt-leb (c.since + 2) (c.day + 1) (omega arith)), λ l. rw (a, b, le-leb (c.since + 2) (c.day + 1) (omega arith)))

  pub play_last : (c : CaseOf P) (es : List Event) (e : Event) → play P c (es ++ e ∷ []) ≡ next P (play P c es) e
  unfolding play
  play_last c [] e = refl
  play_last c (d ∷ es) e = play_last (next P c d) es e

  -- an invariant of the phase, whatever is sent
  module _ (Inv : P.Phase → Type 0) (kept_late : (f : P.Phase) → Inv f → Inv (late P f))
      (kept : (b : Bytes) (m : P.Message) (f f' : P.Phase) → P.decode b ≡ Some m → P.move f m ≡ Some f' → Inv f → Inv f') where
    pub invariant_next : (c : CaseOf P) (e : Event) → Inv c.phase → Inv (next P c e).phase
    invariant_next c (day d) i = on_day c d (λ r. Inv r.0.phase) i (λ _. cond_both (expires P c) (late P c.phase) c.phase Inv (λ _. kept_late c.phase i) (λ _. i)) i
    invariant_next c (sent w b) i = on_sent c w b (λ r. Inv r.0.phase) (λ _. i) (λ m f e t v. kept b m c.phase f e v i)

    pub invariant : (c : CaseOf P) (es : List Event) → Inv c.phase → Inv (play P c es).phase
    unfolding play
    invariant c [] i = i
    invariant c (e ∷ es) i = invariant (next P c e) es (invariant_next c e i)

  -- an invariant of the phase where the party w follows σ; or a message with Q occurs on the way
  module _ (w : Party) (σ : Strategy P) (Inv : P.Phase → Type 0) (Q : P.Phase → P.Message → Type 0)
      (kept_late : (f : P.Phase) → σ f ≡ None → Inv f → Inv (late P f))
      (kept : (b : Bytes) (m : P.Message) (f f' : P.Phase) (v : Party) → P.decode b ≡ Some m → P.turn f ≡ Some v → P.move f m ≡ Some f' → (v ≡ w → Some m ≡ σ f) → Inv f → Inv f' ⊎ Q f m) where
    followed_next : (c : CaseOf P) (e : Event) (es : List Event) → Obeys P w σ c e → Inv c.phase → Inv (next P c e).phase ⊎ Occurs P Q c (e ∷ es)
    followed_next c (day d) es obeys i =
        on_day c d (λ r. Inv r.0.phase ⊎ Occurs P Q c (day d ∷ es)) (inl i)
        (λ e. inl (cond_both (expires P c) (late P c.phase) c.phase Inv (λ t. kept_late c.phase (obeys e t) i) (λ _. i))) (inl i)
    followed_next c (sent v b) es obeys i =
        on_sent c v b (λ r. (v ≡ w → r.1 ≡ Taken → P.decode b ≡ σ c.phase) → Inv r.0.phase ⊎ Occurs P Q c (sent v b ∷ es)) (λ _ _. inl i)
        (λ m f e t k says. elim (kept b m c.phase f v e t k (λ q. sym e ∙ says q refl) i) [ inl j ↦ inl j | inr q ↦ inr (here m t e q) ]) obeys

    pub followed : (c : CaseOf P) (es : List Event) → Follows P w σ c es → Inv c.phase → Inv (play P c es).phase ⊎ Occurs P Q c es
    unfolding play Follows
    followed c [] follows i = inl i
    followed c (e ∷ es) follows i =
        elim (followed_next c e es follows.0 i) [
          | inl j ↦ elim (followed (next P c e) es follows.1 j) [ inl k ↦ inl k | inr x ↦ inr (there x) ]
          | inr x ↦ inr x
        ]

  pub never : {c : CaseOf P} {es : List Event} → Occurs P (λ _ _. ⊥) c es → ⊥
  never (here m t e q) = q
  never (there x) = never x

  -- ending, by the number of messages that may still be Taken
  unfoldable pub IsOver : P.Phase → Type 0
  IsOver f = (w : Party) × (f ≡ P.over w)

  pub record Measure (left : P.Phase → ℕ) : Type 0 where
    pub at_end : (w : Party) → left (P.over w) ≡ 0
    pub none_left : (f : P.Phase) → left f ≡ 0 → IsOver f
    pub no_turn : (f : P.Phase) → P.turn f ≡ None → IsOver f
    pub falls : (b : Bytes) (m : P.Message) (f f' : P.Phase) → P.decode b ≡ Some m → P.move f m ≡ Some f' → left f' + 1 ≤ left f

  module _ (left : P.Phase → ℕ) (μ : Measure left) where
    late_over : (f : P.Phase) → IsOver (late P f)
    unfolding IsOver
    late_over f = go (P.turn f) refl
      where
        go : (t : Option Party) → P.turn f ≡ t → IsOver (forfeit P f t)
        go None e = μ.no_turn f e
        go (Some w) e = (opponent w, refl)

    over_left : (f : P.Phase) → IsOver f → left f ≡ 0
    unfolding IsOver
    over_left f o = rw o.1 (μ.at_end o.0)

    -- Over, or in time for the day E
    abbrev Timely : ℕ → CaseOf P → Type 0
    Timely E c = IsOver c.phase ⊎ ((c.day ≤ c.since + 1) × (c.since + left c.phase + 1 ≤ E))

    timely_next : (E : ℕ) (c : CaseOf P) (e : Event) → Timely E c → Timely E (next P c e)
    timely_next E c (day d) t =
        on_day c d (λ r. Timely E r.0) t
        (λ _. elim (cases_Bool (expires P c)) [
          | inl y ↦ inl (rw y (late_over c.phase))
          | inr y ↦ rw y (elim t [ inl o ↦ inl o | inr u ↦ inr (let z = leb-false (c.since + 2) (c.day + 1) y in omega arith) ])
        ])
        t
    timely_next E c (sent w b) t =
        on_sent c w b (λ r. Timely E r.0) (λ _. t)
        (λ m f e _ v. let l = μ.falls b m c.phase f e v in elim t [ inl o ↦ (let z = over_left c.phase o in absurd (omega arith)) | inr u ↦ inr (omega arith) ])

    timely_play : (E : ℕ) (c : CaseOf P) (es : List Event) → Timely E c → Timely E (play P c es)
    unfolding play
    timely_play E c [] t = t
    timely_play E c (e ∷ es) t = timely_play E (next P c e) es (timely_next E c e t)

    pub ends_by : (E : ℕ) (c : CaseOf P) (es : List Event) → c.day ≤ c.since + 1 → c.since + left c.phase + 1 ≤ E → E ≤ (play P c es).day → (w : Party) × ((play P c es).phase ≡ P.over w)
    unfolding IsOver
    ends_by E c es a b l = go (timely_play E c es (inr (a, b)))
      where
        go : Timely E (play P c es) → IsOver (play P c es).phase
        go (inl o) = o
        go (inr u) = μ.none_left (play P c es).phase (omega arith)

    pub count_step : (c : CaseOf P) (e : Event) (es : List Event) → count P c (e ∷ es) ≡ counts e (take P c e).1 + count P (next P c e) es
    unfolding count
    count_step c e es = refl

    count_next : (c : CaseOf P) (e : Event) → counts e (take P c e).1 + left (next P c e).phase ≤ left c.phase
    count_next c (day d) =
        on_day c d (λ r. counts (day d) r.1 + left r.0.phase ≤ left c.phase) (omega arith)
        (λ _. cond_both (expires P c) (late P c.phase) c.phase (λ f. 0 + left f ≤ left c.phase) (λ _. let z = over_left (late P c.phase) (late_over c.phase) in omega arith) (λ _. omega arith)) (omega arith)
    count_next c (sent w b) =
        on_sent c w b (λ r. counts (sent w b) r.1 + left r.0.phase ≤ left c.phase) (λ _. omega arith) (λ m f e t v. let z = μ.falls b m c.phase f e v in omega arith)

    pub count_play : (c : CaseOf P) (es : List Event) → count P c es ≤ left c.phase
    unfolding count
    count_play c [] = omega arith
    count_play c (e ∷ es) = let one = count_next c e in let rest = count_play (next P c e) es in omega arith

    -- where a bound holds from a message with Q on, it holds from the beginning
    pub count_from : (Q : P.Phase → P.Message → Type 0) (t k : ℕ) →
        ((c : CaseOf P) (w : Party) (b : Bytes) (m : P.Message) (es : List Event) → P.turn c.phase ≡ Some w → P.decode b ≡ Some m → Q c.phase m → count P c (sent w b ∷ es) + t ≤ left c.phase + k) →
        {c : CaseOf P} {es : List Event} → Occurs P Q c es → count P c es + t ≤ left c.phase + k
    count_from Q t k base (here m turn read q) = base _ _ _ m _ turn read q
    count_from Q t k base (there {c} {e} {es} o) = count_later c e es (count_from Q t k base o)
      where
        count_later : (c : CaseOf P) (e : Event) (es : List Event) → count P (next P c e) es + t ≤ left (next P c e).phase + k → count P c (e ∷ es) + t ≤ left c.phase + k
        count_later c e es l = let one = count_next c e in let z = count_step c e es in omega arith

-- who does not lose wins
pub not_doubter : {F : Type 0} {over : Party → F} (f : F) → (w : Party) × (f ≡ over w) → (f ≡ over Doubter → ⊥) → f ≡ over Claimer
not_doubter f (Claimer, e) no' = e
not_doubter f (Doubter, e) no' = absurd (no' e)

pub not_claimer : {F X : Type 0} {over : Party → F} (f : F) → (w : Party) × (f ≡ over w) → (f ≡ over Claimer → X) → (f ≡ over Doubter) ⊎ X
not_claimer f (Claimer, e) found = inr (found e)
not_claimer f (Doubter, e) found = inl e
