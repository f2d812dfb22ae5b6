-- A doubter that has lost by a step has a collision in hand.
use Rattle.std.proofs.Common.{subst, inl, inr, arith}
use Rattle.merkle.specs.Bytes.{Hash, Whole}
use Rattle.machine.specs.Machine.{State, run}
use Rattle.witness.specs.declared.Witness.{Witness}
use Rattle.witness.specs.Witness.{Found}
use Rattle.witness.specs.Laws.{machine}
use Rattle.witness.proofs.Instances.{machine_lawful}
use Rattle.dispute.specs.declared.Dispute.{Dispute}
use Rattle.dispute.proofs.Safe.{Firm, doubter_stands, step_refused}
use Rattle.parties.specs.Parties.{LostAt}
use Rattle.parties.proofs.Owns.{own_run}

pub found : (h : Hash) → Whole h → (s : State) (p : Dispute) (o : Witness) → LostAt (machine h) s p o → Found h (run p.from s) o
found h whole s p o lost =
    let S = machine h in
    let law = machine_lawful h whole in
    elim (doubter_stands S law s lost.valid lost.before lost.kept) [
      | inr x ↦ absurd (lost.unexcused x)
      | inl firm ↦ elim (step_refused S law s lost.valid p o (subst (Firm S s) lost.proving firm)) [
        | inr x ↦ subst (λ t. Found h t o) (own_run h p.from s) x
        | inl won ↦ (let e = lost.accepted in grind arith)
      ]
    ]
