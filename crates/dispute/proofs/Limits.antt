-- The halving game ends, takes few messages and stays within the run; and its rules can be kept.
use Rattle.std.proofs.Common.{◌≡◌, ℕ, zero, suc, ◌+◌, ◌*◌, ◌^◌, ◌≤◌, Bool, true, false, cond, List, [], ◌∷◌, ◌++◌, Some, None, Option, sym, refl, ap, ◌∙◌, subst, arith, pow_mono, bytes_eq}
use Rattle.merkle.specs.Bytes.{Bytes}
use Rattle.system.specs.System.{System, Lawful, run, digest_at}
use Rattle.witness.specs.declared.Party.{Party}
use Rattle.witness.specs.declared.Party.TheVariants.{Claimer, Doubter}
use Rattle.dispute.specs.declared.Case.{Case}
use Rattle.dispute.specs.declared.Message.TheVariants.{Doubt, Right, Wrong}
use Rattle.dispute.specs.declared.Dispute.{Dispute}
use Rattle.dispute.specs.declared.Phase.{Phase}
use Rattle.dispute.specs.declared.Phase.TheVariants.{Claiming, Doubting, Bisecting, Answering, Proving, Over}
use Rattle.dispute.specs.Referee.{Answer, Taken, Protocol, Event, sent, may_move, late, opening, receive, take, next, play, count}
use Rattle.dispute.specs.Bisection.{turn, move, Claims, reach, InReach, disputing, whole, first_half, second_half, MessageOf, decode, encode, Sendable, bisection, game, honest_claimer, honest_doubter}
use Rattle.dispute.specs.Promise.{AnySystem, ClaimerWins, DoubterWins, Promised, RightOneWins, Keeps, ClaimerCan, DoubterCan, Ends, EndsAll, Few, FewInAll, InRange, StaysInRange}
use Rattle.dispute.proofs.Basics.{valid_run}
use Rattle.dispute.proofs.Plays.{invariant, invariant_next, IsOver, Measure, ends_by, same_self, counts_one, count_step, count_play, count_from, play_last, not_doubter, not_claimer}
use Rattle.dispute.proofs.Dawns.{sent_settled}
use Rattle.dispute.proofs.Safe.{claimer_safe, doubter_safe}
use Rattle.dispute.proofs.Moves.{Move, claims, doubts, names, agrees, denies, proves, made, Small, read_small, reads}

-- the messages that may still be taken
abbrev left : Phase → ℕ
left (Claiming g) = 67
left (Doubting g n x) = 2 * n + 2
left (Bisecting n p) = 2 * n + 3
left (Answering n p x) = 2 * n + 2
left (Proving p) = 1
left (Over w) = 0

left_disputing : (n : ℕ) (p : Dispute) → left (disputing n p) ≡ 2 * n + 1
left_disputing zero p = refl
left_disputing (suc n) p = omega arith

reach_disputing : (n : ℕ) (p : Dispute) → reach (disputing n p) ≡ p.from + 2 ^ n
reach_disputing zero p = refl
reach_disputing (suc n) p = refl

module _ (S : System) (g : Bytes) where
  left_move : {f f' : Phase} {m : MessageOf S} → Move S f m f' → Small S m → left f' + 1 ≤ left f
  left_move claims l = omega arith
  left_move (doubts {g} {n} {x}) l = omega (arith, left_disputing n (whole g x))
  left_move names l = omega arith
  left_move (agrees {n} {p} {x}) l = omega (arith, left_disputing n (second_half n p x))
  left_move (denies {n} {p} {x}) l = omega (arith, left_disputing n (first_half p x))
  left_move proves l = omega arith

  none_left : (f : Phase) → left f ≡ 0 → IsOver (bisection S g) f
  unfolding IsOver
  none_left (Claiming x) e = absurd (omega arith)
  none_left (Doubting g n x) e = absurd (omega arith)
  none_left (Bisecting n p) e = absurd (omega arith)
  none_left (Answering n p x) e = absurd (omega arith)
  none_left (Proving p) e = absurd (omega arith)
  none_left (Over w) e = (w, refl)

  no_turn : (f : Phase) → (bisection S g).turn f ≡ None → IsOver (bisection S g) f
  unfolding IsOver
  no_turn (Claiming x) e = cc
  no_turn (Doubting y n x) e = cc
  no_turn (Bisecting n p) e = cc
  no_turn (Answering n p x) e = cc
  no_turn (Proving p) e = cc
  no_turn (Over w) e = (w, refl)

  measure : Measure (bisection S g) left
  measure = record { at_end = λ w. refl; none_left = none_left; no_turn = no_turn; falls = λ b m f f' e k. left_move (made S f m f' k) (read_small S b m e) }

  pub range_move : {f f' : Phase} {m : MessageOf S} → Move S f m f' → Small S m → InReach f → InReach f'
  range_move (claims {n}) k l = let z = pow_mono {i = n} {j = 32} k in omega arith
  range_move (doubts {g} {n} {x}) k l = omega (arith, reach_disputing n (whole g x))
  range_move names k l = l
  range_move (agrees {n} {p} {x}) k l = omega (arith, reach_disputing n (second_half n p x))
  range_move (denies {n} {p} {x}) k l = omega (arith, reach_disputing n (first_half p x))
  range_move proves k l = omega arith

  pub range_late : (f : Phase) → InReach f → InReach (late (bisection S g) f)
  range_late (Claiming x) l = l
  range_late (Doubting y n x) l = omega arith
  range_late (Bisecting n p) l = omega arith
  range_late (Answering n p x) l = omega arith
  range_late (Proving p) l = omega arith
  range_late (Over w) l = l

pub ends : (S : System) → Ends S
ends S g c start n x es f b l = ends_by (bisection S g) left (measure S g) (c.since + 2 * n + 3) c es b (rw f (omega arith)) l

pub ends_all : (S : System) → EndsAll S
ends_all S g es l = ends_by (bisection S g) left (measure S g) 68 (opening (bisection S g)) es (omega arith) (omega arith) l

module _ (S : System) (g : Bytes) where
  abbrev P : Protocol
  P = bisection S g

  count_claim : (n : ℕ) (c : Case Phase) (w : Party) (b : Bytes) (m : MessageOf S) (es : List Event) → turn c.phase ≡ Some w → decode S b ≡ Some m → Claims S n c.phase m →
      count P c (sent w b ∷ es) + 67 ≤ left c.phase + (2 * n + 3)
  count_claim n c w b m es now read (x, d, at, says) =
      let whose : may_move (turn c.phase) w ≡ true = rw now (same_self w) in
      let comes : Some (Doubting x n d) ≡ move S c.phase m = sym (ap (λ f. move S f m) at ∙ ap (move S (Claiming x)) says) in
      let then : (next P c (sent w b)).phase ≡ Doubting x n d = ap (λ (r : Case Phase × Answer). r.0.phase) (sym (sent_settled P c w b m read whose (Some (Doubting x n d)) comes)) in
      let k : left (next P c (sent w b)).phase ≡ 2 * n + 2 = ap left then in
      let l : left c.phase ≡ 67 = ap left at in
      let one = count_play P left (measure S g) (next P c (sent w b)) es in
      let both = count_step P left (measure S g) c (sent w b) es in
      let most = counts_one (sent w b) (take P c (sent w b)).1 in
      omega arith

pub few : (S : System) → Few S
few S g c start n x es f = let z = count_play (bisection S g) left (measure S g) c es in let l : left c.phase ≡ 2 * n + 2 = rw f in omega arith

pub few_in_all : (S : System) → FewInAll S
few_in_all S g n es o = let z = count_from (bisection S g) left (measure S g) (Claims S n) 67 (2 * n + 3) (count_claim S g n) o in omega arith

-- a run within 2 ^ 32 steps has an n of at most 32
small_exponent : (n : ℕ) → 2 ^ n ≤ 4294967296 → n ≤ 32
small_exponent n l = grind (arith, pow_mono {i = 33} {j = n})

in_range : (f : Phase) → InReach f → InRange f
in_range (Claiming x) l = tt
in_range (Doubting y n x) l = small_exponent n l
in_range (Bisecting n p) l = l
in_range (Answering n p x) l = l
in_range (Proving p) l = l
in_range (Over w) l = tt

module _ (S : System) (g : Bytes) where
  reach_moves : (b : Bytes) (m : MessageOf S) (f f' : Phase) → decode S b ≡ Some m → move S f m ≡ Some f' → InReach f → InReach f'
  reach_moves b m f f' e k l = range_move S g (made S f m f' k) (read_small S b m e) l

  pub reach_next : (c : Case Phase) (e : Event) → InReach c.phase → InReach (next (bisection S g) c e).phase
  reach_next = invariant_next (bisection S g) InReach (range_late S g) reach_moves

pub stays_in_range : (S : System) → StaysInRange S
stays_in_range S g es = in_range _ (invariant (bisection S g) InReach (range_late S g) (reach_moves S g) (opening (bisection S g)) es (omega arith))

module _ (S : System) (law : Lawful S) where
  pub right_one_wins : RightOneWins S
  right_one_wins s v es =
      let c = play (game S s) (opening (game S s)) es in
      record {
        claimer_safe = claimer_safe S law s v es;
        claimer_wins = λ n follows l. not_doubter {over = λ w. Over w} c.phase (ends_all S (S.digest s) es l) (claimer_safe S law s v es n follows);
        doubter_safe = doubter_safe S law s v es;
        doubter_wins = λ follows l. not_claimer {over = λ w. Over w} c.phase (ends_all S (S.digest s) es l) (doubter_safe S law s v es follows);
      }

  pub claimer_wins : ClaimerWins S
  claimer_wins s v n es follows l = (right_one_wins s v es).claimer_wins n follows l

  pub doubter_wins : DoubterWins S
  doubter_wins s v es follows l = (right_one_wins s v es).doubter_wins follows l

  pub keeps : (c : Case Phase) (e : Event) (c' : Case Phase) → ((g : Bytes) → c' ≡ next (bisection S g) c e) → Keeps S c e c'
  keeps c e c' is s v es led =
      let after : c' ≡ play (game S s) (opening (game S s)) (es ++ e ∷ []) = is (S.digest s) ∙ ap (λ x. next (game S s) x e) led ∙ sym (play_last (game S s) (opening (game S s)) es e) in
      (after, subst (Promised S s (es ++ e ∷ [])) (sym after) (right_one_wins s v (es ++ e ∷ [])))

-- what an honest party has to send is taken
module _ (S : System) (g : Bytes) (day since : ℕ) where
  abbrev at : Phase → Case Phase
  at f = record { day = day; since = since; phase = f }

  abbrev IsTaken : Phase → Party → MessageOf S → Type 0
  IsTaken f w m = (decode S (encode S m) ≡ Some m) × ((take (bisection S g) (at f) (sent w (encode S m))).1 ≡ Taken)

  sends : (f : Phase) (w : Party) (m a : MessageOf S) → ◌≡◌ {A = Option (MessageOf S)} (Some a) (Some m) → Sendable S a → (receive (bisection S g) (at f) w (Some a)).1 ≡ Taken → IsTaken f w m
  unfolding take
  sends f w m a e k t = let z : a ≡ m = cc in let r = reads S a k in subst (IsTaken f w) z (r, rw r t)

  claimer_at : Lawful S → (s : S.State) → S.Valid s → (n : ℕ) → 1 ≤ n → n ≤ 32 → (f : Phase) (m : MessageOf S) → honest_claimer S s n f ≡ Some m → IsTaken f Claimer m
  claimer_at law s v n lo hi (Claiming y) m e = sends (Claiming y) Claimer m _ e (lo, hi, law.digest_long _) refl
  claimer_at law s v n lo hi (Doubting y k x) m e = cc
  claimer_at law s v n lo hi (Bisecting k p) m e = sends (Bisecting k p) Claimer m _ e (law.digest_long _) refl
  claimer_at law s v n lo hi (Answering k p x) m e = cc
  claimer_at law s v n lo hi (Proving p) m e =
      sends (Proving p) Claimer m _ e (law.kind_own (run S p.from s), law.legible (run S p.from s) (valid_run S law p.from s v)) refl
  claimer_at law s v n lo hi (Over w) m e = cc

  doubter_at : (s : S.State) (f : Phase) (m : MessageOf S) → honest_doubter S s f ≡ Some m → IsTaken f Doubter m
  doubter_at s (Claiming y) m e = cc
  doubter_at s (Doubting y k x) m e = go (bytes_eq x (digest_at S s (2 ^ k))) e
    where
      go : (t : Bool) → cond t None (Some Doubt) ≡ Some m → IsTaken (Doubting y k x) Doubter m
      go true e = cc
      go false e = sends (Doubting y k x) Doubter m Doubt e tt refl
  doubter_at s (Bisecting k p) m e = cc
  doubter_at s (Answering k p x) m e = go (bytes_eq x (digest_at S s (p.from + 2 ^ k))) e
    where
      go : (t : Bool) → Some (cond t Right Wrong) ≡ Some m → IsTaken (Answering k p x) Doubter m
      go true e = sends (Answering k p x) Doubter m Right e tt refl
      go false e = sends (Answering k p x) Doubter m Wrong e tt refl
  doubter_at s (Proving p) m e = cc
  doubter_at s (Over w) m e = cc

pub claimer_can : AnySystem ClaimerCan
claimer_can S law s v c n lo hi m e = claimer_at S (S.digest s) c.day c.since law s v n lo hi c.phase m e

pub doubter_can : (S : System) → DoubterCan S
doubter_can S s c m e = doubter_at S (S.digest s) c.day c.since s c.phase m e
