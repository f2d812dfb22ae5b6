-- The honest witness is accepted, and what is accepted is the step, or the search finds a collision.
use Rattle.std.proofs.Common.{◌≡◌, ℕ, ◌^◌, ◌<◌, Bool, true, ◌&&◌, ◌⊎◌, List, get_or, sym, refl, ap, ◌∙◌, subst, inl, inr, arith, bytes_eq}
use Rattle.std.proofs.lemmas.Bool.{eq-eqb, ltb-true, lt-ltb, and_parts, and_from, cases_Bool}
use Rattle.merkle.specs.Bytes.{Bytes, Hash, Whole, is_digest}
use Rattle.merkle.specs.Tree.{root}
use Rattle.merkle.specs.Collision.{WayCollision}
use Rattle.merkle.specs.Openings.{opened, preimages, well_formed, honest}
use Rattle.merkle.specs.declared.opening.Opening.{Opening}
use Rattle.merkle.proofs.Strings.{eq_true, true_eq, eq_refl, same_or_not, state_bytes, state_injective, digest_bytes}
use Rattle.merkle.proofs.Bindings.{difference_some, difference_none, last_none, binds}
use Rattle.merkle.proofs.Honest.{opens, updates, node_digest, siblings_count, siblings_digests}
use Rattle.machine.specs.Machine.{State, place_of, decode, stores, fetch, step, digest}
use Rattle.witness.specs.declared.Witness.{Witness}
use Rattle.witness.specs.Witness.{Valid, witness, shaped, fits, root_next, next_part, accepts, state_part, operand_place, first_difference, Found}

pub honest_formed : (h : Hash) → Whole h → (i : ℕ) (m : List ℕ) → ((j : ℕ) → get_or m j 0 < 2 ^ 32) → well_formed (honest h i m) ≡ true
unfolding well_formed
honest_formed h whole i m small = and_from _ _ (and_from _ _ (lt-ltb _ _ (small i)) (eq-eqb _ _ (siblings_count h 16 0 i m))) (siblings_digests h whole 16 0 i m)

both : {x y : Bool} → x ≡ true → y ≡ true → (x && y) ≡ true
both {x} {y} p q = and_from x y p q

module _ (h : Hash) (whole : Whole h) (s : State) (v : Valid s) where
  -- both honest openings give the root
  instruction_opens : opened h s.cpu.place (honest h s.cpu.place s.memory) ≡ root h s.memory
  instruction_opens = opens h s.cpu.place s.memory v.place

  operand_opens : opened h (place_of (fetch s)) (honest h (place_of (fetch s)) s.memory) ≡ root h s.memory
  operand_opens = opens h (place_of (fetch s)) s.memory (omega arith)

  witness_fits : fits h (digest h s) (witness h s) ≡ true
  unfolding fits shaped witness
  witness_fits =
      both (both (both (both
      (both (both (both (lt-ltb _ _ v.register) (node_digest h whole 16 0 s.memory)) (honest_formed h whole s.cpu.place s.memory v.words)) (honest_formed h whole (place_of (fetch s)) s.memory v.words))
      (lt-ltb _ _ v.place)) (eq_refl (digest h s))) (true_eq _ _ instruction_opens)) (true_eq _ _ operand_opens)

  root_next_lem : root_next h (witness h s) ≡ root h (step s).memory
  unfolding root_next witness step
  root_next_lem =
      elim (cases_Bool (stores (decode (fetch s)))) [
        | inl t ↦ rw t (updates h (place_of (fetch s)) s.cpu.register s.memory (omega arith) (let z = v.size in omega arith))
        | inr f ↦ rw f
      ]

  pub digest_next : h (next_part h (witness h s)) ≡ digest h (step s)
  unfolding next_part witness step
  digest_next = rw root_next_lem

  pub complete : accepts h (digest h s) (witness h s) (digest h (step s)) ≡ true
  complete = both witness_fits (true_eq _ _ digest_next)

-- ---- what is known of a witness of the right shape
pub record Shaped (o : Witness) : Type 0 where
  pub register : o.register < 2 ^ 32
  pub memory : is_digest o.memory ≡ true
  pub instruction : well_formed o.instruction ≡ true
  pub operand : well_formed o.operand ≡ true

pub shaped_parts : (o : Witness) → shaped o ≡ true → Shaped o
unfolding shaped
shaped_parts o e =
    let a = and_parts _ _ e in
    let b = and_parts _ _ a.0 in
    let c = and_parts _ _ b.0 in
    record { register = ltb-true _ _ c.0; memory = c.1; instruction = b.1; operand = a.1 }

-- ---- and of one that fits a digest
record Fitting (h : Hash) (g : Bytes) (o : Witness) : Type 0 where
  shape : Shaped o
  place : o.place < 65536
  state : h (state_part o) ≡ g
  instruction_opens : opened h o.place o.instruction ≡ o.memory
  operand_opens : opened h (operand_place o) o.operand ≡ o.memory

fitting : (h : Hash) (g : Bytes) (o : Witness) → fits h g o ≡ true → Fitting h g o
unfolding fits
fitting h g o e =
    let a = and_parts _ _ e in
    let b = and_parts _ _ a.0 in
    let c = and_parts _ _ b.0 in
    let d = and_parts _ _ c.0 in
    record {
      shape = shaped_parts o d.0;
      place = ltb-true _ _ d.1;
      state = eq_true _ _ c.1;
      instruction_opens = eq_true _ _ b.1;
      operand_opens = eq_true _ _ a.1;
    }

-- ---- a witness that fits the digest of a state is the state's own, or holds a collision: in the state, else in the instruction's way, else in the other
module _ (h : Hash) (whole : Whole h) (s : State) (v : Valid s) (o : Witness) (f : Fitting h (digest h s) o) where
  abbrev place : ℕ
  place = s.cpu.place

  abbrev other : ℕ
  other = place_of (fetch s)

  abbrev SameState : Type 0
  SameState = (o.place ≡ place) × (o.register ≡ s.cpu.register) × (o.memory ≡ root h s.memory)

  abbrev SameInstruction : Type 0
  SameInstruction = o.instruction ≡ honest h place s.memory

  in_state : (state_part o ≡ state_part (witness h s) → ⊥) → Found h s o
  unfolding first_difference witness
  in_state d =
      record {
        one = state_part o;
        other = state_part (witness h s);
        first = rw (difference_some _ _ d);
        collision = record { differ = d; same = f.state; one_bytes = state_bytes _ _ _ (digest_bytes _ f.shape.memory); other_bytes = state_bytes _ _ _ (digest_bytes _ (node_digest h whole 16 0 s.memory)) };
      }

  in_instruction : SameState → WayCollision h (preimages h place o.instruction) (preimages h place (honest h place s.memory)) → Found h s o
  unfolding first_difference witness
  in_instruction q c =
      record { one = c.one; other = c.other; first = rw (q.0, q.1, q.2, difference_none _ _ refl, c.first); collision = c.collision }

  in_operand : SameState → SameInstruction → WayCollision h (preimages h other o.operand) (preimages h other (honest h other s.memory)) → Found h s o
  unfolding first_difference witness
  in_operand q r c =
      record { one = c.one; other = c.other; first = rw (q.0, q.1, q.2, difference_none _ _ refl, r, last_none _ _ refl, c.first); collision = c.collision }

  by_operand : SameState → SameInstruction → (o ≡ witness h s) ⊎ Found h s o
  unfolding witness
  by_operand q r =
      let e : operand_place o ≡ other = ap (λ (x : Opening). place_of x.word) r in
      let same : opened h other o.operand ≡ opened h other (honest h other s.memory) =
      subst (λ a. opened h a o.operand ≡ o.memory) e f.operand_opens ∙ q.2 ∙ sym (operand_opens h whole s v) in
      elim (binds h whole other o.operand (honest h other s.memory) f.shape.operand (honest_formed h whole other s.memory v.words) same) [
        | inl t ↦ inl (λ j. record { place = q.0 j; register = q.1 j; memory = q.2 j; instruction = r j; operand = t j })
        | inr c ↦ inr (in_operand q r c)
      ]

  by_instruction : SameState → (o ≡ witness h s) ⊎ Found h s o
  by_instruction q =
      let same : opened h place o.instruction ≡ opened h place (honest h place s.memory) =
      subst (λ a. opened h a o.instruction ≡ o.memory) q.0 f.instruction_opens ∙ q.2 ∙ sym (instruction_opens h whole s v) in
      elim (binds h whole place o.instruction (honest h place s.memory) f.shape.instruction (honest_formed h whole place s.memory v.words) same)
      [ inl r ↦ by_operand q r | inr c ↦ inr (in_instruction q c) ]

  own_or_found : (o ≡ witness h s) ⊎ Found h s o
  unfolding witness
  own_or_found =
      elim (same_or_not (state_part o) (state_part (witness h s))) [
        | inl p ↦ by_instruction (state_injective o.place o.register place s.cpu.register o.memory (root h s.memory) (let a = f.place in omega arith) f.shape.register (let a = v.place in omega arith) v.register p)
        | inr d ↦ inr (in_state d)
      ]

pub sound : (h : Hash) → Whole h → (s : State) → Valid s → (o : Witness) (d : Bytes) → accepts h (digest h s) o d ≡ true → (d ≡ digest h (step s)) ⊎ Found h s o
sound h whole s v o d e =
    let p = and_parts (fits h (digest h s) o) (bytes_eq (h (next_part h o)) d) e in
    elim (own_or_found h whole s v o (fitting h (digest h s) o p.0))
    [ inl q ↦ inl (sym (eq_true (h (next_part h o)) d p.1) ∙ ap (λ (w : Witness). h (next_part h w)) q ∙ digest_next h whole s v) | inr c ↦ inr c ]
