-- A message as it is written.
use Rattle.std.proofs.Common.{◌≡◌, ℕ, IfOk, Some, Ok, Err, vec_items, Result, Vec, sym, ap, ◌∙◌, subst}
use Rattle.std.specs.declared.alloc.Global.{Global}
use Rattle.merkle.specs.Bytes.{Bytes, Hash}
use Rattle.witness.specs.declared.Witness.{Witness}
use Rattle.witness.specs.Laws.{machine}
use Rattle.dispute.specs.declared.Message.{Message}
use Rattle.dispute.specs.Bisection.{decode, encode, InClaim, Sendable}
use Rattle.dispute.proofs.Moves.{reads}

abbrev Msg : Type 0
Msg = Message Witness

-- what is ensured of the bytes r that were made of a message m, from its contents k
module _ {E : Type 0} (r : Result (Vec ℕ Global) E) (m k : Msg) (is : m ≡ k) (body : Bytes) where
  abbrev Written : Msg → Type 0
  Written m =
      record {
        value : IfOk r (λ v. (h : Hash) → vec_items v ≡ encode (machine h) m);
        reads : IfOk r (λ v. (h : Hash) → InClaim (machine h) m → decode (machine h) (vec_items v) ≡ Some m);
      }

  pub written : IfOk r (λ v. vec_items v ≡ body) → ((h : Hash) → body ≡ encode (machine h) k) → ((h : Hash) → InClaim (machine h) k → Sendable (machine h) k) → Written m
  written put means fits = subst Written (sym is) (go r put)
    where
      go : (r : Result (Vec ℕ Global) E) → IfOk r (λ v. vec_items v ≡ body) →
          record {
            value : IfOk r (λ v. (h : Hash) → vec_items v ≡ encode (machine h) k);
            reads : IfOk r (λ v. (h : Hash) → InClaim (machine h) k → decode (machine h) (vec_items v) ≡ Some k);
          }
      go (Ok v) e = record { value = λ h. e ∙ means h; reads = λ h i. ap (decode (machine h)) (e ∙ means h) ∙ reads (machine h) k (fits h i) }
      go (Err x) e = record { value = tt; reads = tt }
