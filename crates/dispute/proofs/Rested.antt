-- Case and answer rest on just the strings that are digested.
use Rattle.std.proofs.Common.{◌≡◌, Bool, true, false, cond, [], Some, None, Err, Option, refl, ap, ◌∙◌}
use Rattle.merkle.specs.Bytes.{Bytes, Hash}
use Rattle.witness.specs.declared.Party.{Party}
use Rattle.witness.specs.declared.Party.TheVariants.{Claimer, Doubter}
use Rattle.witness.specs.declared.Witness.{Witness}
use Rattle.witness.specs.Laws.{machine, Agree}
use Rattle.witness.proofs.Works.{rests}
use Rattle.dispute.specs.declared.Case.{Case}
use Rattle.dispute.specs.declared.Refusal.TheVariants.{OutOfTurn}
use Rattle.dispute.specs.declared.Message.{Message}
use Rattle.dispute.specs.declared.Message.TheVariants.{Claim, Doubt, Middle, Right, Wrong, Step}
use Rattle.dispute.specs.declared.Phase.{Phase}
use Rattle.dispute.specs.declared.Phase.TheVariants.{Claiming, Doubting, Bisecting, Answering, Proving, Over}
use Rattle.dispute.specs.Referee.{sent, may_move, settle, receive, take}
use Rattle.dispute.specs.Bisection.{turn, body_of, decode, bisection, move}
use Rattle.dispute.specs.Work.{move_strings, strings}

module _ (h k : Hash) where
  move_rests : (f : Phase) (m : Message Witness) → Agree h k (move_strings h f m) → move (machine h) f m ≡ move (machine k) f m
  move_rests (Claiming g) m agree = refl
  move_rests (Doubting g n x) m agree = refl
  move_rests (Bisecting n p) m agree = refl
  move_rests (Answering n p x) m agree = refl
  move_rests (Proving p) (Claim n d) agree = refl
  move_rests (Proving p) Doubt agree = refl
  move_rests (Proving p) (Middle d) agree = refl
  move_rests (Proving p) Right agree = refl
  move_rests (Proving p) Wrong agree = refl
  move_rests (Proving p) (Step o) agree = ap (λ t. Some (Over (cond t Claimer Doubter))) (rests h k p.agreed o p.disputed agree)
  move_rests (Over w) m agree = refl

  -- what is read does not depend on the digest
  same_read : (b : Bytes) → decode (machine h) b ≡ decode (machine k) b
  unfolding decode body_of
  same_read b = refl

  module _ (g : Bytes) (c : Case Phase) (w : Party) where
    turned : (m : Message Witness) (t : Bool) → Agree h k (cond t (move_strings h c.phase m) []) →
        cond t (settle (bisection (machine h) g) c (move (machine h) c.phase m)) (c, Err OutOfTurn) ≡ cond t (settle (bisection (machine k) g) c (move (machine k) c.phase m)) (c, Err OutOfTurn)
    turned m true agree = ap (settle (bisection (machine k) g) c) (move_rests c.phase m agree)
    turned m false agree = refl

    read : (o : Option (Message Witness)) → Agree h k (strings h c.phase w o) → receive (bisection (machine h) g) c w o ≡ receive (bisection (machine k) g) c w o
    read None agree = refl
    read (Some m) agree = turned m (may_move (turn c.phase) w) agree

    pub take_rests : (b : Bytes) → Agree h k (strings h c.phase w (decode (machine h) b)) → take (bisection (machine h) g) c (sent w b) ≡ take (bisection (machine k) g) c (sent w b)
    unfolding take
    take_rests b agree = read (decode (machine h) b) agree ∙ ap (receive (bisection (machine k) g) c w) (same_read b)
