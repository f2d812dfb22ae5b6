-- What the referee digests: how much it is, and that the verdict rests on just that.
use Rattle.std.proofs.Common.{◌≡◌, ℕ, suc, ◌+◌, ◌/◌, ◌≤◌, Bool, true, false, cond, ◌&&◌, ltb, List, [], ◌∷◌, ◌++◌, length, refl, ap, ◌∙◌, arith, length-append}
use Rattle.std.proofs.lemmas.Bool.{and_parts}
use Rattle.merkle.specs.Bytes.{Bytes, Hash, word_preimage}
use Rattle.merkle.specs.Tree.{parent_preimage, climb, way_preimages}
use Rattle.merkle.specs.Openings.{opened, preimages}
use Rattle.merkle.specs.declared.opening.Opening.{Opening}
use Rattle.merkle.proofs.Walks.{way_count}
use Rattle.merkle.proofs.Bindings.{Formed, formed}
use Rattle.machine.specs.Machine.{stores}
use Rattle.witness.specs.declared.Witness.{Witness}
use Rattle.witness.specs.Witness.{instruction_of, operand_place, state_part, instruction_part, operand_part, store_part, state_fits, instruction_fits, operand_fits, stored, root_next, next_part, shaped, fits, digested}
use Rattle.witness.specs.Laws.{Agree, Light, Rests}
use Rattle.witness.proofs.Steps.{shaped_parts}

-- What is digested from the store, from the second opening and from the first one on.
abbrev from_store : Hash → Witness → List Bytes
from_store h o = store_part h o ++ (next_part h o ∷ [])

abbrev from_operand : Hash → Witness → List Bytes
from_operand h o = operand_part h o ++ cond (operand_fits h o) (from_store h o) []

abbrev from_instruction : Hash → Witness → List Bytes
from_instruction h o = instruction_part h o ++ cond (instruction_fits h o) (from_operand h o) []

-- ---- how much
opening_count : (h : Hash) (i : ℕ) (o : Opening) → length o.siblings ≡ 16 → length (preimages h i o) ≡ 17
opening_count h i o e = ap suc (way_count h i (h (word_preimage o.word)) o.siblings ∙ e)

stops : (b : Bool) (xs ys : List Bytes) → length (xs ++ cond b ys []) ≤ length xs + length ys
stops true xs ys = rw length-append (omega arith)
stops false xs ys = rw length-append (omega arith)

shaped_openings : (o : Witness) → shaped o ≡ true → Formed o.instruction × Formed o.operand
shaped_openings o e = let s = shaped_parts o e in (formed o.instruction s.instruction, formed o.operand s.operand)

pub light : Light
unfolding digested
light h g o e =
    let c = shaped_openings o e in
    let u = opening_count h o.place o.instruction c.0.count in
    let v = opening_count h (operand_place o) o.operand c.1.count in
    let p = stops (ltb o.place 65536) [] (state_part o ∷ cond (state_fits h g o) (from_instruction h o) []) in
    let q = stops (state_fits h g o) (state_part o ∷ []) (from_instruction h o) in
    let r = stops (instruction_fits h o) (instruction_part h o) (from_operand h o) in
    let s = stops (operand_fits h o) (operand_part h o) (from_store h o) in
    let t = length-append (store_part h o) (next_part h o ∷ []) in
    store (stores (instruction_of o)) (preimages h (operand_place o) (stored o)) (length (digested h g o)) (opening_count h (operand_place o) (stored o) c.1.count) (omega arith)
  where
    store : (b : Bool) (xs : List Bytes) (n : ℕ) → length xs ≡ 17 → n ≤ 36 + length (cond b xs []) → n ≤ cond b 53 36
    store true xs n e l = omega arith
    store false xs n e l = l

-- ---- and on nothing else
and_same : (x y s t : Bool) → x ≡ y → (x ≡ true → s ≡ t) → (x && s) ≡ (y && t)
and_same true y s t e f = rw (← e) (f refl)
and_same false y s t e f = rw (← e)

module _ (h k : Hash) where
  agree_append : (xs ys : List Bytes) → Agree h k (xs ++ ys) → Agree h k xs × Agree h k ys
  unfolding Agree
  agree_append [] ys a = (tt, a)
  agree_append (x ∷ xs) ys a = let r = agree_append xs ys a.1 in ((a.0, r.0), r.1)

  agree_one : (x : Bytes) → Agree h k (x ∷ []) → h x ≡ k x
  unfolding Agree
  agree_one x a = a.0

  climb_agrees : (i : ℕ) (d : Bytes) (ss : List Bytes) → Agree h k (way_preimages h i d ss) → climb h i d ss ≡ climb k i d ss
  unfolding climb way_preimages Agree
  climb_agrees i d [] a = refl
  climb_agrees i d (s ∷ ss) a = climb_agrees (i / 2) (h (parent_preimage i d s)) ss a.1 ∙ ap (λ x. climb k (i / 2) x ss) a.0

  opened_agrees : (i : ℕ) (o : Opening) → Agree h k (preimages h i o) → opened h i o ≡ opened k i o
  unfolding Agree
  opened_agrees i o a = climb_agrees i (h (word_preimage o.word)) o.siblings a.1 ∙ ap (λ x. climb k i x o.siblings) a.0

  next_agrees : (o : Witness) → Agree h k (from_store h o) → h (next_part h o) ≡ k (next_part k o)
  unfolding next_part root_next
  next_agrees o a = let r = agree_append (store_part h o) (next_part h o ∷ []) a in agree_one (next_part h o) r.1 ∙ rw (go (stores (instruction_of o)) r.0)
    where
      go : (b : Bool) → Agree h k (cond b (preimages h (operand_place o) (stored o)) []) →
          cond b (opened h (operand_place o) (stored o)) o.memory ≡ cond b (opened k (operand_place o) (stored o)) o.memory
      go true a = opened_agrees (operand_place o) (stored o) a
      go false a = refl

  -- The tests so far have one outcome, and where they passed, the digests agree on the strings that are left.
  abbrev Stage : (x y : Bool) → List Bytes → Type 0
  Stage x y left = (x ≡ y) × (x ≡ true → Agree h k left)

  agree_cond : (b : Bool) (xs : List Bytes) → Agree h k (cond b xs []) → b ≡ true → Agree h k xs
  agree_cond b xs a t = rw t at a

  next_test : (x y s t : Bool) (part left : List Bytes) → Stage x y (part ++ cond s left []) → (Agree h k part → s ≡ t) → Stage (x && s) (y && t) left
  next_test x y s t part left now same = (
    and_same x y s t now.0 (λ e. same (agree_append part (cond s left []) (now.1 e)).0),
    λ e. let p = and_parts x s e in agree_cond s left (agree_append part (cond s left []) (now.1 p.0)).1 p.1,
  )

  fits_agree : (g : Bytes) (o : Witness) → Agree h k (digested h g o) → Stage (fits h g o) (fits k g o) (from_store h o)
  unfolding fits digested
  fits_agree g o a =
      next_test _ _ _ _ (operand_part h o) (from_store h o)
      (next_test _ _ _ _ (instruction_part h o) (from_operand h o)
      (next_test _ _ _ _ (state_part o ∷ []) (from_instruction h o)
      (refl, λ e. agree_cond _ _ a (and_parts (shaped o) (ltb o.place 65536) e).1)
      (λ s. rw (agree_one (state_part o) s))) (λ s. rw (opened_agrees o.place o.instruction s))) (λ s. rw (opened_agrees (operand_place o) o.operand s))

pub rests : Rests
rests h k g o d a = let s = fits_agree h k g o a in and_same _ _ _ _ s.0 (λ e. rw (next_agrees h k o (s.1 e)))
