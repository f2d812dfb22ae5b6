-- The promise of one call, from its equation with the rules.
use Rattle.std.proofs.Common.{◌≡◌, ℕ, ◌≤◌, true, false, List, [], length, IfSome, Some, None, Err, Option, sym, ap, ◌∙◌, subst, arith}
use Rattle.merkle.specs.Bytes.{Bytes, Hash, Whole}
use Rattle.merkle.specs.Seen.{seen_all}
use Rattle.witness.specs.declared.Party.{Party}
use Rattle.witness.specs.declared.Witness.{Witness}
use Rattle.witness.specs.Laws.{machine, Agree}
use Rattle.witness.proofs.Instances.{machine_lawful}
use Rattle.dispute.specs.declared.Case.{Case}
use Rattle.dispute.specs.declared.Message.{Message}
use Rattle.dispute.specs.declared.Refusal.TheVariants.{Unreadable, OutOfTurn}
use Rattle.dispute.specs.declared.Phase.{Phase}
use Rattle.dispute.specs.Referee.{Answer, Event, day, sent, may_move, settle, take}
use Rattle.dispute.specs.Bisection.{turn, InReach, decode, move, bisection}
use Rattle.dispute.specs.Work.{step_in, step_limit, move_strings, strings, limit}
use Rattle.dispute.specs.Promise.{Keeps}
use Rattle.dispute.proofs.Limits.{keeps, range_move, reach_next}
use Rattle.dispute.proofs.Moves.{made, read_small}
use Rattle.dispute.proofs.Dawns.{sent_unread, sent_early, sent_settled}
use Rattle.dispute.proofs.Rested.{take_rests}

module _ (c : Case Phase) (e : Event) (c' : Case Phase) (a : Answer) where
  abbrev Takes : Hash → Type 0
  Takes h = (g : Bytes) → (c', a) ≡ take (bisection (machine h) g) c e

  pub kept_by : (h : Hash) → Whole h → Takes h → Keeps (machine h) c e c'
  kept_by h whole is = keeps (machine h) (machine_lawful h whole) c e c' (λ g. ap (λ (r : Case Phase × Answer). r.0) (is g))

  pub kept : ((h : Hash) → Takes h) → record { value : (h : Hash) → Takes h; promise : (h : Hash) → Whole h → Keeps (machine h) c e c' }
  kept is = record { value = is; promise = λ h whole. kept_by h whole (is h) }

-- what is ensured of a message: c' and a are the case and the answer, s and t what was digested before and then
module _ (h : Hash) (whole : Whole h) {S : Type 0} (adds : S → Bytes → S) (s t : S) (c : Case Phase) (w : Party) (b : Bytes) where
  abbrev digested : List Bytes
  digested = strings h c.phase w (decode (machine h) b)

  abbrev Received : Case Phase → Answer → Type 0
  Received c' a =
      record {
        value : (g : Bytes) → (c', a) ≡ take (bisection (machine h) g) c (sent w b);
        promise : Keeps (machine h) c (sent w b) c';
        seen : t ≡ seen_all adds s digested;
        few : length digested ≤ limit (decode (machine h) b);
        rests : (k : Hash) (g : Bytes) → Agree h k digested → (c', a) ≡ take (bisection (machine k) g) c (sent w b);
      }

  received : (c' : Case Phase) (a : Answer) → ((g : Bytes) → (c', a) ≡ take (bisection (machine h) g) c (sent w b)) → t ≡ seen_all adds s digested → length digested ≤ limit (decode (machine h) b) → Received c' a
  received c' a is seen few =
      record { value = is; promise = kept_by c (sent w b) c' a h whole is; seen = seen; few = few; rests = λ k g agree. is g ∙ take_rests h k g c w b agree }

  pub not_read : t ≡ s → decode (machine h) b ≡ None → Received c (Err Unreadable)
  unfolding seen_all
  not_read same e = received c (Err Unreadable) (λ g. sent_unread (bisection (machine h) g) c w b e) (rw e same) (rw e (omega arith))

  module _ (m : Message Witness) (read : decode (machine h) b ≡ Some m) where
    pub not_turn : t ≡ s → may_move (turn c.phase) w ≡ false → Received c (Err OutOfTurn)
    unfolding seen_all
    not_turn same f = received c (Err OutOfTurn) (λ g. sent_early (bisection (machine h) g) c w b m read f) (rw (read, f) same) (rw (read, f) (omega arith))

    pub in_turn : may_move (turn c.phase) w ≡ true → t ≡ seen_all adds s (move_strings h c.phase m) → length (move_strings h c.phase m) ≤ step_limit (step_in m) →
        (r : Option Phase) → r ≡ move (machine h) c.phase m → (c' : Case Phase) (a : Answer) → ((g : Bytes) → (c', a) ≡ settle (bisection (machine h) g) c r) → Received c' a
    in_turn now seen few r is c' a comes = received c' a (λ g. comes g ∙ sent_settled (bisection (machine h) g) c w b m read now r is) (rw (read, now) seen) (rw (read, now) few)

-- the range of the steps in dispute, after a day and after a message
pub range_day : (d : ℕ) (c : Case Phase) (r : Case Phase × Answer) → ((h : Hash) (g : Bytes) → r ≡ take (bisection (machine h) g) c (day d)) → InReach c.phase → InReach r.0.phase
range_day d c r is l = subst (λ (x : Case Phase × Answer). InReach x.0.phase) (sym (is (λ x. x) [])) (reach_next (machine (λ x. x)) [] c (day d) l)

pub range_sent : (h : Hash) (b : Bytes) (m : Message Witness) (f : Phase) → decode (machine h) b ≡ Some m → (r : Option Phase) → r ≡ move (machine h) f m → InReach f → IfSome r InReach
range_sent h b m f read None is l = tt
range_sent h b m f read (Some f') is l = range_move (machine h) b (made (machine h) f m f' (sym is)) (read_small (machine h) b m read) l
