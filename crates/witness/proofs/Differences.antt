-- The search in two witnesses, part by part.
use Rattle.std.proofs.Common.{◌≡◌, ℕ, true, false, Some, None, Option, sym, ap, ◌∙◌, subst, arith, MatchOption, bytes_eq}
use Rattle.merkle.specs.Bytes.{Bytes, Hash}
use Rattle.merkle.specs.Collision.{Collision, or_else, last_difference}
use Rattle.merkle.specs.Strings.{bytes_of, two_bytes}
use Rattle.merkle.specs.declared.preimage.Preimage.{Preimage}
use Rattle.machine.specs.Machine.{State}
use Rattle.witness.specs.declared.Witness.{Witness}
use Rattle.witness.specs.Witness.{witness, state_part, instruction_part, operand_part, first_difference, Found, Collides}

-- what the search finds collides, where there is a collision to find
pub found_collides : (h : Hash) (o own : Witness) (r : Option (Preimage × Preimage)) → two_bytes r ≡ first_difference h o own → (s : State) → own ≡ witness h s → Found h s o → Collides h r
found_collides h o own None is s e f =
    let a = is ∙ ap (first_difference h o) e ∙ f.first in
    let z : ◌≡◌ {A = ℕ} 0 1 = cc in
    absurd (omega arith)
found_collides h o own (Some x) is s e f =
    let a = is ∙ ap (first_difference h o) e ∙ f.first in
    let both : ◌≡◌ {A = Bytes × Bytes} (f.one, f.other) (bytes_of x.0, bytes_of x.1) = cc in
    let p = ap (λ (y : Bytes × Bytes). y.0) both in
    let q = ap (λ (y : Bytes × Bytes). y.1) both in
    subst (λ y. Collision h y (bytes_of x.1)) p (subst (λ y. Collision h f.one y) q f.collision)

-- p and q are what is digested for the states
module _ (h : Hash) (o own : Witness) (p q : Bytes) (ip : p ≡ state_part o) (iq : q ≡ state_part own) where
  test_is : bytes_eq p q ≡ bytes_eq (state_part o) (state_part own)
  test_is = ap (λ x. bytes_eq x q) ip ∙ ap (bytes_eq (state_part o)) iq

  pub states_differ : bytes_eq p q ≡ false → Some (p, q) ≡ first_difference h o own
  unfolding first_difference
  states_differ f =
      let t : bytes_eq (state_part o) (state_part own) ≡ false = sym test_is ∙ f in
      ap (λ x. Some (x, q)) ip ∙ ap (λ x. Some (state_part o, x)) iq ∙ rw t

  -- r is what the search in the instructions' ways returned
  module _ (same : bytes_eq p q ≡ true) (r : Option (Preimage × Preimage)) (is : two_bytes r ≡ last_difference (instruction_part h o) (instruction_part h own)) where
    after_states : first_difference h o own ≡ or_else (two_bytes r) (last_difference (operand_part h o) (operand_part h own))
    unfolding first_difference
    after_states =
        let t : bytes_eq (state_part o) (state_part own) ≡ true = sym test_is ∙ same in
        rw t (ap (λ x. or_else x (last_difference (operand_part h o) (operand_part h own))) (sym is))

    -- t is what it found, or else, by what P says, what the search in the other ways returned
    pub ways_differ : (t : Option (Preimage × Preimage)) {P : Type 0} → (P → two_bytes t ≡ last_difference (operand_part h o) (operand_part h own)) → MatchOption r P (λ x. t ≡ Some x) → two_bytes t ≡ first_difference h o own
    ways_differ t {P} others m = go r m ∙ sym after_states
      where
        go : (x : Option (Preimage × Preimage)) → MatchOption x P (λ y. t ≡ Some y) → two_bytes t ≡ or_else (two_bytes x) (last_difference (operand_part h o) (operand_part h own))
        go None p = others p
        go (Some x) is = ap two_bytes is
