use Rattle.std.proofs.Common.{◌∷◌, sym, refl, ap, ◌∙◌, arith, rules}
use Rattle.witness.specs.Wire.{parse}
use Rattle.dispute.specs.Bisection.{encode}
use Rattle.dispute.proofs.Letters.{written}
use Rattle.dispute.proofs.bytes.Message+Witness.encode.Goals as goal

pub returns-in-Claim : goal.returns-in-Claim
unfolding encode
returns-in-Claim c = written _ _ _ c.in-Claim.is _ c.joined.ensures (λ h. refl) (λ h i. (i.0, i.1, search rules))

pub returns-in-Doubt : goal.returns-in-Doubt
unfolding encode
returns-in-Doubt c = written _ _ _ c.in-Doubt.is _ c.joined-in-Doubt.ensures (λ h. refl) (λ h i. tt)

pub returns-in-Middle : goal.returns-in-Middle
unfolding encode
returns-in-Middle c = written _ _ _ c.in-Middle.is _ c.joined-in-Middle.ensures (λ h. refl) (λ h i. search rules)

pub returns-in-Right : goal.returns-in-Right
unfolding encode
returns-in-Right c = written _ _ _ c.in-Right.is _ c.joined-in-Right.ensures (λ h. refl) (λ h i. tt)

pub returns-in-Wrong : goal.returns-in-Wrong
unfolding encode
returns-in-Wrong c = written _ _ _ c.in-Wrong.is _ c.joined-in-Wrong.ensures (λ h. refl) (λ h i. tt)

pub returns-in-Step : goal.returns-in-Step
unfolding encode
returns-in-Step c = written _ _ _ c.in-Step.is _ c.joined-in-Step.ensures (λ h. ap (λ b. 6 ∷ b) c.to_bytes.ensures.value) (λ h i. (omega arith, ap (parse 6) (sym c.to_bytes.ensures.value) ∙ c.to_bytes.ensures.reads))
