-- An honest party that is right does not lose.
use Rattle.std.proofs.Common.{◌≡◌, ℕ, zero, suc, ◌+◌, ◌^◌, Bool, true, false, cond, ◌⊎◌, List, Some, None, Option, sym, refl, ap, ◌∙◌, subst, inl, inr, zero-add, bytes_eq}
use Rattle.std.proofs.lemmas.Bool.{cond_both}
use Rattle.merkle.proofs.Strings.{eq_true, eq_false, same_or_not}
use Rattle.system.specs.System.{System, Lawful, run, digest_at}
use Rattle.witness.specs.declared.Party.{Party}
use Rattle.witness.specs.declared.Party.TheVariants.{Claimer, Doubter}
use Rattle.dispute.specs.declared.Message.{Message}
use Rattle.dispute.specs.declared.Message.TheVariants.{Doubt, Right, Wrong}
use Rattle.dispute.specs.declared.Dispute.{Dispute}
use Rattle.dispute.specs.declared.Phase.{Phase}
use Rattle.dispute.specs.declared.Phase.TheVariants.{Claiming, Doubting, Bisecting, Answering, Proving, Over}
use Rattle.dispute.specs.Referee.{Event, opening, late, play, Follows}
use Rattle.dispute.specs.Bisection.{turn, disputing, whole, first_half, second_half, MessageOf, verdict, game, honest_claimer, honest_doubter, Collides, collides, ClaimsRight, claims_right}
use Rattle.dispute.specs.Promise.{ClaimerSafeIn, DoubterSafeIn, Excused}
use Rattle.dispute.proofs.Basics.{digest_start, digest_step, valid_run, twice}
use Rattle.dispute.proofs.Plays.{followed, never}
use Rattle.dispute.proofs.Moves.{Move, claims, doubts, names, agrees, denies, proves, made}

-- disputes about 2 ^ n steps in which the claimer is right, and in which the doubter is
record Rightly (S : System) (s : S.State) (n : ℕ) (p : Dispute) : Type 0 where
  agreed : p.agreed ≡ digest_at S s p.from
  disputed : p.disputed ≡ digest_at S s (p.from + 2 ^ n)

pub record Wrongly (S : System) (s : S.State) (n : ℕ) (p : Dispute) : Type 0 where
  pub agreed : p.agreed ≡ digest_at S s p.from
  pub disputed : p.disputed ≡ digest_at S s (p.from + 2 ^ n) → ⊥

-- ---- the one step
module _ (S : System) (law : Lawful S) (s : S.State) (v : S.Valid s) where
  step_accepted : (p : Dispute) → Rightly S s 0 p → verdict S p (S.witness (run S p.from s)) ≡ Claimer
  step_accepted p r =
      let t : S.accepts p.agreed (S.witness (run S p.from s)) p.disputed ≡ true =
      rw (r.agreed, r.disputed, digest_step S s p.from) (law.complete (run S p.from s) (valid_run S law p.from s v)) in
      rw t

  pub step_refused : (p : Dispute) (o : S.Witness) → Wrongly S s 0 p → (verdict S p o ≡ Doubter) ⊎ S.Found (run S p.from s) o
  step_refused p o r = cond_both (S.accepts p.agreed o p.disputed) Claimer Doubter (λ w. (w ≡ Doubter) ⊎ S.Found (run S p.from s) o) won (λ _. inl refl)
    where
      won : S.accepts p.agreed o p.disputed ≡ true → (Claimer ≡ Doubter) ⊎ S.Found (run S p.from s) o
      won t =
          elim (law.sound (run S p.from s) (valid_run S law p.from s v) o p.disputed (rw r.agreed at t))
          [ inl e ↦ absurd (r.disputed (e ∙ sym (digest_step S s p.from))) | inr x ↦ inr x ]

-- ---- the claimer: the phases in which it is right
abbrev Fine : (S : System) → S.State → Phase → Type 0
Fine S s (Claiming g) = g ≡ S.digest s
Fine S s (Doubting g n x) = (g ≡ S.digest s) × (x ≡ digest_at S s (2 ^ n))
Fine S s (Bisecting n p) = Rightly S s (suc n) p
Fine S s (Answering n p x) = Rightly S s (suc n) p × (x ≡ digest_at S s (p.from + 2 ^ n))
Fine S s (Proving p) = Rightly S s 0 p
Fine S s (Over Claimer) = Unit {0}
Fine S s (Over Doubter) = ⊥

fine_disputing : (S : System) (s : S.State) (n : ℕ) (p : Dispute) → Rightly S s n p → Fine S s (disputing n p)
fine_disputing S s zero p r = r
fine_disputing S s (suc n) p r = r

module _ (S : System) (law : Lawful S) (s : S.State) (v : S.Valid s) (n : ℕ) where
  fine_move : {f f' : Phase} {m : MessageOf S} {w : Party} → Move S f m f' → turn f ≡ Some w → (w ≡ Claimer → Some m ≡ honest_claimer S s n f) → Fine S s f → Fine S s f'
  fine_move (claims {n = k} {d}) t says i =
      let z = says (cc) in
      let u : k ≡ n = cc in
      let x : d ≡ digest_at S s (2 ^ n) = cc in
      (i, rw u x)
  fine_move (doubts {g} {n} {x}) t says i = fine_disputing S s n (whole g x) (record { agreed = i.0 ∙ sym (digest_start S s); disputed = rw zero-add i.1 })
  fine_move names t says i = let z = says (cc) in (i, cc)
  fine_move (agrees {n} {p} {x}) t says i = fine_disputing S s n (second_half n p x) (record { agreed = i.1; disputed = i.0.disputed ∙ ap (digest_at S s) (twice p.from n) })
  fine_move (denies {n} {p} {x}) t says i = fine_disputing S s n (first_half p x) (record { agreed = i.0.agreed; disputed = i.1 })
  fine_move (proves {p} {o}) t says i =
      let z = says (cc) in
      let e : o ≡ S.witness (run S p.from s) = cc in
      rw e (rw (step_accepted S law s v p i) tt)

fine_late : (S : System) (s : S.State) (n : ℕ) (f : Phase) → honest_claimer S s n f ≡ None → Fine S s f → Fine S s (late (game S s) f)
fine_late S s n (Claiming g) r i = cc
fine_late S s n (Doubting g m x) r i = tt
fine_late S s n (Bisecting m p) r i = cc
fine_late S s n (Answering m p x) r i = tt
fine_late S s n (Proving p) r i = cc
fine_late S s n (Over w) r i = i

pub claimer_safe : (S : System) → Lawful S → (s : S.State) → S.Valid s → (es : List Event) → ClaimerSafeIn S s es (play (game S s) (opening (game S s)) es)
claimer_safe S law s v es n follows lost =
    elim (followed (game S s) Claimer (honest_claimer S s n) (Fine S s) (λ _ _. ⊥) (fine_late S s n)
    (λ b m f f' w e t k says i. inl (fine_move S law s v n (made S f m f' k) t says i)) (opening (game S s)) es follows refl)
    [ inl i ↦ subst (Fine S s) lost i | inr x ↦ never (game S s) x ]

-- ---- the doubter: the phases in which it is right
abbrev pub Firm : (S : System) → S.State → Phase → Type 0
Firm S s (Claiming g) = g ≡ S.digest s
Firm S s (Doubting g n x) = (g ≡ S.digest s) × (x ≡ digest_at S s (2 ^ n) → ⊥)
Firm S s (Bisecting n p) = Wrongly S s (suc n) p
Firm S s (Answering n p x) = Wrongly S s (suc n) p
Firm S s (Proving p) = Wrongly S s 0 p
Firm S s (Over Claimer) = ⊥
Firm S s (Over Doubter) = Unit {0}

firm_disputing : (S : System) (s : S.State) (n : ℕ) (p : Dispute) → Wrongly S s n p → Firm S s (disputing n p)
firm_disputing S s zero p r = r
firm_disputing S s (suc n) p r = r

said_right : {W : Type 0} (b : Bool) → ◌≡◌ {A = Option (Message W)} (Some Right) (Some (cond b Right Wrong)) → b ≡ true
said_right true e = refl
said_right false e = cc

said_wrong : {W : Type 0} (b : Bool) → ◌≡◌ {A = Option (Message W)} (Some Wrong) (Some (cond b Right Wrong)) → b ≡ false
said_wrong true e = cc
said_wrong false e = refl

said_nothing : {W : Type 0} (b : Bool) → ◌≡◌ {A = Option (Message W)} (cond b None (Some Doubt)) None → b ≡ true
said_nothing true e = refl
said_nothing false e = cc

module _ (S : System) (law : Lawful S) (s : S.State) (v : S.Valid s) where
  -- what excuses a doubter that has lost
  abbrev Excuse : Phase → MessageOf S → Type 0
  Excuse f m = Collides S s f m ⊎ ClaimsRight S s f m

  firm_move : {f f' : Phase} {m : MessageOf S} {w : Party} → Move S f m f' → turn f ≡ Some w → (w ≡ Doubter → Some m ≡ honest_doubter S s f) → Firm S s f → Firm S s f' ⊎ Excuse f m
  firm_move (claims {g} {n} {d}) t says i = elim (same_or_not d (digest_at S s (2 ^ n))) [ inl e ↦ inr (inr (claims_right e)) | inr differ ↦ inl (i, differ) ]
  firm_move (doubts {g} {n} {x}) t says i = inl (firm_disputing S s n (whole g x) (record { agreed = i.0 ∙ sym (digest_start S s); disputed = rw zero-add i.1 }))
  firm_move names t says i = inl i
  firm_move (agrees {n} {p} {x}) t says i =
      let same = eq_true x (digest_at S s (p.from + 2 ^ n)) (said_right (bytes_eq x (digest_at S s (p.from + 2 ^ n))) (says (cc))) in
      inl (firm_disputing S s n (second_half n p x) (record { agreed = same; disputed = λ e. i.disputed (e ∙ sym (ap (digest_at S s) (twice p.from n))) }))
  firm_move (denies {n} {p} {x}) t says i =
      let differ = eq_false x (digest_at S s (p.from + 2 ^ n)) (said_wrong (bytes_eq x (digest_at S s (p.from + 2 ^ n))) (says (cc))) in
      inl (firm_disputing S s n (first_half p x) (record { agreed = i.agreed; disputed = differ }))
  firm_move (proves {p} {o}) t says i =
      elim (step_refused S law s v p o i)
      [ inl e ↦ inl (rw e tt) | inr x ↦ inr (inl (collides x)) ]

firm_late : (S : System) (s : S.State) (f : Phase) → honest_doubter S s f ≡ None → Firm S s f → Firm S s (late (game S s) f)
firm_late S s (Claiming g) r i = tt
firm_late S s (Doubting g n x) r i = i.1 (eq_true x (digest_at S s (2 ^ n)) (said_nothing (bytes_eq x (digest_at S s (2 ^ n))) r))
firm_late S s (Bisecting n p) r i = tt
firm_late S s (Answering n p x) r i = cc
firm_late S s (Proving p) r i = tt
firm_late S s (Over w) r i = i

pub doubter_stands : (S : System) → Lawful S → (s : S.State) → S.Valid s → (es : List Event) → Follows (game S s) Doubter (honest_doubter S s) (opening (game S s)) es →
    Firm S s (play (game S s) (opening (game S s)) es).phase ⊎ Excused S s es
doubter_stands S law s v es follows =
    followed (game S s) Doubter (honest_doubter S s) (Firm S s) (Excuse S law s v) (firm_late S s)
    (λ b m f f' w e t k says i. firm_move S law s v (made S f m f' k) t says i) (opening (game S s)) es follows refl

pub doubter_safe : (S : System) → Lawful S → (s : S.State) → S.Valid s → (es : List Event) → DoubterSafeIn S s es (play (game S s) (opening (game S s)) es)
doubter_safe S law s v es follows lost = elim (doubter_stands S law s v es follows) [ inl i ↦ absurd (subst (Firm S s) lost i) | inr x ↦ x ]
