-- What comes of a line at the referee.
use Rattle.std.proofs.Common.{◌≡◌, [], sym, ap, ◌∙◌, subst, append-nil}
use Rattle.merkle.specs.Bytes.{Bytes, Hash, Whole}
use Rattle.witness.specs.Laws.{machine}
use Rattle.witness.proofs.Instances.{machine_lawful}
use Rattle.dispute.specs.declared.Case.{Case}
use Rattle.dispute.specs.declared.Phase.{Phase}
use Rattle.dispute.specs.Referee.{Answer, sent, day}
use Rattle.dispute.specs.Bisection.{bisection}
use Rattle.dispute.specs.Promise.{Promised}
use Rattle.dispute.proofs.Kept.{kept_by}
use Rattle.dispute.proofs.Limits.{right_one_wins}
use Rattle.record.specs.declared.Entry.{Entry}
use Rattle.record.specs.declared.Entry.TheVariants.{Sent, Day, Faulty}
use Rattle.record.specs.Record.{entered, KeepsAt}

-- c' and a are the case and the answer then
module _ (h : Hash) (whole : Whole h) (c c' : Case Phase) (a : Answer) where
  abbrev Comes : Entry Bytes → Type 0
  Comes e = (g : Bytes) → (c', a) ≡ entered (bisection (machine h) g) c e

  promised : (e : Entry Bytes) → Comes e → KeepsAt (machine h) c e c'
  promised (Sent w b) is s v es led = (kept_by c (sent w b) c' a h whole is s v es led).1
  promised (Day d) is s v es led = (kept_by c (day d) c' a h whole is s v es led).1
  promised (Faulty k) is s v es led =
      let same : c' ≡ c = ap (λ (r : Case Phase × Answer). r.0) (is []) in
      rw append-nil (subst (Promised (machine h) s es) (sym (same ∙ led)) (right_one_wins (machine h) (machine_lawful h whole) s v es))

  -- e is what was read, and e' what is in the line
  pub comes : (e e' : Entry Bytes) → e ≡ e' → Comes e → record { value : Comes e'; promise : KeepsAt (machine h) c e' c' }
  comes e e' at is = let now = subst Comes at is in record { value = now; promise = promised e' now }
