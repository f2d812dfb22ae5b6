-- The check of a witness, test by test.
use Rattle.std.proofs.Common.{◌≡◌, ℕ, Bool, true, false, cond, ◌&&◌, ltb, List, [], ◌∷◌, ◌++◌, Some, None, Option, sym, refl, ap, ◌∙◌, arith, bytes_eq}
use Rattle.std.proofs.lemmas.List.{append-nil, append_assoc}
use Rattle.std.specs.Bool.{then_some}
use Rattle.std.proofs.lemmas.Bool.{cond-true, cond-false, and_parts}
use Rattle.merkle.specs.Bytes.{Bytes, Hash, state_preimage}
use Rattle.merkle.specs.Seen.{seen_all}
use Rattle.merkle.specs.Openings.{opened, preimages}
use Rattle.merkle.proofs.Seen.{seen_append, seen_last}
use Rattle.machine.specs.declared.Cpu.{Cpu}
use Rattle.machine.specs.declared.Instruction.{Instruction}
use Rattle.machine.specs.Machine.{place_of, stores, cpu_after}
use Rattle.witness.specs.declared.Party.{Party}
use Rattle.witness.specs.declared.Party.TheVariants.{Claimer, Doubter}
use Rattle.witness.specs.declared.Witness.{Witness}
use Rattle.witness.specs.Witness.{shaped, fits, state_part, instruction_part, operand_part, store_part, state_fits, instruction_fits, operand_fits, operand_place, instruction_of, stored, root_next, next_part, verdict, digested}

-- ---- strings one after another
pub seen_then : {S : Type 0} (adds : S → Bytes → S) (s t u : S) (xs ys : List Bytes) → t ≡ seen_all adds s xs → u ≡ seen_all adds t ys → u ≡ seen_all adds s (xs ++ ys)
seen_then adds s t u xs ys it iu = iu ∙ ap (λ z. seen_all adds z ys) it ∙ sym (seen_append adds s xs ys)

-- ---- an answer that is there just where a test passes
pub absent : {X : Type 0} (b : Bool) (x : X) (r : Option X) → r ≡ cond b (Some x) None → r ≡ None → b ≡ false
absent true x r e f = let z : ◌≡◌ {A = ℕ} 0 1 = cc in absurd (omega arith)
absent false x r e f = refl

pub present : {X : Type 0} (b : Bool) (x y : X) (r : Option X) → r ≡ cond b (Some x) None → r ≡ Some y → (b ≡ true) × (y ≡ x)
present true x y r e f = (refl, cc)
present false x y r e f = let z : ◌≡◌ {A = ℕ} 0 1 = cc in absurd (omega arith)

-- ---- place and register
abbrev pub cpu_of : Witness → Cpu
cpu_of o = record { place = o.place; register = o.register }

abbrev pub low : Witness → Bool
low o = ltb o.place 65536

-- r is the place, where it is low
module _ (h : Hash) (g : Bytes) (o : Witness) (r : Option ℕ) (place : r ≡ cond (low o) (Some o.place) None) where
  pub high_refused : r ≡ None → None ≡ cond (low o && state_fits h g o) (Some (cpu_of o)) None
  high_refused none = rw (absent (low o) o.place r place none)

  pub high_unseen : {S : Type 0} (adds : S → Bytes → S) (s : S) → r ≡ None → s ≡ seen_all adds s (cond (low o) (state_part o ∷ []) [])
  unfolding seen_all
  high_unseen adds s none = rw (absent (low o) o.place r place none)

  -- and d the digest that it gives
  module _ (p : ℕ) (some : r ≡ Some p) (d : Bytes) (is : d ≡ h (state_preimage p o.register o.memory)) where
    below : low o ≡ true
    below = (present (low o) o.place p r place some).0

    at : p ≡ o.place
    at = (present (low o) o.place p r place some).1

    digest_is : d ≡ h (state_part o)
    digest_is = is ∙ ap (λ x. h (state_preimage x o.register o.memory)) at

    pub low_decided : (b : Bool) → b ≡ bytes_eq d g → then_some b (record { place = p; register = o.register }) ≡ cond (low o && state_fits h g o) (Some (cpu_of o)) None
    low_decided b test =
        let both : b ≡ (low o && state_fits h g o) = test ∙ ap (λ x. bytes_eq x g) digest_is ∙ ap (λ x. x && state_fits h g o) (sym below) in
        (λ j. then_some (both j) (record { place = at j; register = o.register })) ∙ taken (low o && state_fits h g o)
      where
        taken : (a : Bool) → then_some a (cpu_of o) ≡ cond a (Some (cpu_of o)) None
        taken true = refl
        taken false = refl

    pub low_seen : {S : Type 0} (adds : S → Bytes → S) (s t : S) → t ≡ adds s (state_preimage p o.register o.memory) → t ≡ seen_all adds s (cond (low o) (state_part o ∷ []) [])
    unfolding seen_all
    low_seen adds s t it = rw below (it ∙ ap (λ x. adds s (state_preimage x o.register o.memory)) at)

-- ---- the memory's digest after the step; i is the instruction
module _ (h : Hash) (o : Witness) (i : Instruction) (is : i ≡ instruction_of o) where
  pub root_kept : stores i ≡ false → o.memory ≡ root_next h o
  unfolding root_next
  root_kept f = sym (cond-false _ (opened h (operand_place o) (stored o)) o.memory (ap stores (sym is) ∙ f))

  pub root_stored_lem : (a : ℕ) (r : Bytes) → stores i ≡ true → a ≡ operand_place o → r ≡ opened h a (stored o) → r ≡ root_next h o
  unfolding root_next
  root_stored_lem a r t at ir = ir ∙ ap (λ x. opened h x (stored o)) at ∙ sym (cond-true _ (opened h (operand_place o) (stored o)) o.memory (ap stores (sym is) ∙ t))

  pub kept_seen : {S : Type 0} (adds : S → Bytes → S) (s : S) → stores i ≡ false → s ≡ seen_all adds s (store_part h o)
  unfolding seen_all
  kept_seen adds s f = let e : stores (instruction_of o) ≡ false = ap stores (sym is) ∙ f in rw e

  pub stored_seen : {S : Type 0} (adds : S → Bytes → S) (s t : S) (a : ℕ) → stores i ≡ true → a ≡ operand_place o → t ≡ seen_all adds s (preimages h a (stored o)) → t ≡ seen_all adds s (store_part h o)
  stored_seen adds s t a b at it =
      it ∙ ap (λ x. seen_all adds s (preimages h x (stored o))) at ∙ ap (seen_all adds s) (sym (cond-true _ (preimages h (operand_place o) (stored o)) [] (ap stores (sym is) ∙ b)))

-- ---- the digest of the next state
next_is : (h : Hash) (o : Witness) (c : Cpu) (i : Instruction) (v : ℕ) (n : Cpu) (r : Bytes) → c ≡ cpu_of o → i ≡ instruction_of o → v ≡ o.operand.word → n ≡ cpu_after i c v → r ≡ root_next h o →
    state_preimage n.place n.register r ≡ next_part h o
unfolding next_part
next_is h o c i v n r ic ii iv is ir =
    let e : n ≡ cpu_after (instruction_of o) (cpu_of o) o.operand.word =
    is ∙ ap (λ x. cpu_after x c v) ii ∙ ap (λ x. cpu_after (instruction_of o) x v) ic ∙ ap (cpu_after (instruction_of o) (cpu_of o)) iv in
    ap (λ (x : Cpu). state_preimage x.place x.register r) e ∙ ap (state_preimage (cpu_after (instruction_of o) (cpu_of o) o.operand.word).place (cpu_after (instruction_of o) (cpu_of o) o.operand.word).register) ir

module _ (h : Hash) (o : Witness) (c : Cpu) (i : Instruction) (v : ℕ) (n : Cpu) (r d : Bytes) (ic : c ≡ cpu_of o) (ii : i ≡ instruction_of o) (iv : v ≡ o.operand.word) (is : n ≡ cpu_after i c v)
    (ir : r ≡ root_next h o) where
  pub next_digest : d ≡ h (state_preimage n.place n.register r) → d ≡ h (next_part h o)
  next_digest id = id ∙ ap h (next_is h o c i v n r ic ii iv is ir)

  pub next_seen : {S : Type 0} (adds : S → Bytes → S) (s t u : S) → t ≡ seen_all adds s (store_part h o) → u ≡ adds t (state_preimage n.place n.register r) →
      u ≡ seen_all adds s (store_part h o ++ (next_part h o ∷ []))
  next_seen adds s t u it iu = seen_last adds s t u (store_part h o) (next_part h o) it (iu ∙ ap (adds t) (next_is h o c i v n r ic ii iv is ir))

-- ---- the tests one after another: r is what each answers, s what the digester has seen then, and the verdict goes to e
module _ {S : Type 0} (adds : S → Bytes → S) (h : Hash) (g : Bytes) (o : Witness) (e : Bytes) (shape : shaped o ≡ true) (s₀ s₁ : S) (r₁ : Option Cpu)
    (state : r₁ ≡ cond (low o && state_fits h g o) (Some (cpu_of o)) None) (seen₁ : s₁ ≡ seen_all adds s₀ (cond (low o) (state_part o ∷ []) [])) where
  -- the party and all that was digested
  abbrev Ends : Party → S → Type 0
  Ends p t = (p ≡ verdict h g o e) × (t ≡ seen_all adds s₀ (digested h g o))

  abbrev first : List Bytes
  first = cond (low o) (state_part o ∷ []) []

  refused : fits h g o ≡ false → Doubter ≡ verdict h g o e
  refused f = rw f

  pub state_fails : r₁ ≡ None → Ends Doubter s₁
  unfolding fits digested
  state_fails gone = go (low o) (state_fits h g o) refl refl (absent (low o && state_fits h g o) (cpu_of o) r₁ state gone)
    where
      go : (a b : Bool) → low o ≡ a → state_fits h g o ≡ b → (a && b) ≡ false → Ends Doubter s₁
      go true true p q f = let z : ◌≡◌ {A = ℕ} 0 1 = cc in absurd (omega arith)
      go true false p q f = (rw (shape, p, q), seen₁ ∙ ap (seen_all adds s₀) (rw (p, q)))
      go false b p q f = (rw (shape, p), seen₁ ∙ ap (seen_all adds s₀) (rw p))

  module _ (c : Cpu) (some₁ : r₁ ≡ Some c) (s₂ : S) (r₂ : Option ℕ) (instruction : r₂ ≡ cond (bytes_eq (opened h c.place o.instruction) o.memory) (Some o.instruction.word) None)
      (seen₂ : s₂ ≡ seen_all adds s₁ (preimages h c.place o.instruction)) where
    opened_state : ((low o && state_fits h g o) ≡ true) × (c ≡ cpu_of o)
    opened_state = present (low o && state_fits h g o) (cpu_of o) c r₁ state some₁

    cpu_is : c ≡ cpu_of o
    cpu_is = opened_state.1

    is_low : low o ≡ true
    is_low = (and_parts (low o) (state_fits h g o) opened_state.0).0

    is_state : state_fits h g o ≡ true
    is_state = (and_parts (low o) (state_fits h g o) opened_state.0).1

    instruction_at : bytes_eq (opened h c.place o.instruction) o.memory ≡ instruction_fits h o
    instruction_at = ap (λ (x : Cpu). bytes_eq (opened h x.place o.instruction) o.memory) cpu_is

    both_seen : s₂ ≡ seen_all adds s₀ (first ++ instruction_part h o)
    both_seen = seen_then adds s₀ s₁ s₂ first (instruction_part h o) seen₁ (seen₂ ∙ ap (λ (x : Cpu). seen_all adds s₁ (preimages h x.place o.instruction)) cpu_is)

    pub instruction_fails : r₂ ≡ None → Ends Doubter s₂
    unfolding fits digested
    instruction_fails gone =
        let f : instruction_fits h o ≡ false = sym instruction_at ∙ absent _ o.instruction.word r₂ instruction gone in
        (rw (shape, is_low, is_state, f), both_seen ∙ ap (seen_all adds s₀) (rw (is_low, is_state, f) (ap (λ x. state_part o ∷ x) (sym (append-nil (instruction_part h o))))))

    module _ (w : ℕ) (some₂ : r₂ ≡ Some w) (a : ℕ) (at : a ≡ place_of w) (s₃ : S) (r₃ : Option ℕ) (operand : r₃ ≡ cond (bytes_eq (opened h a o.operand) o.memory) (Some o.operand.word) None)
        (seen₃ : s₃ ≡ seen_all adds s₂ (preimages h a o.operand)) where
      word_is : w ≡ o.instruction.word
      word_is = (present _ o.instruction.word w r₂ instruction some₂).1

      is_instruction : instruction_fits h o ≡ true
      is_instruction = sym instruction_at ∙ (present _ o.instruction.word w r₂ instruction some₂).0

      place_is : a ≡ operand_place o
      place_is = at ∙ ap (λ x. place_of x) word_is

      operand_at : bytes_eq (opened h a o.operand) o.memory ≡ operand_fits h o
      operand_at = ap (λ x. bytes_eq (opened h x o.operand) o.memory) place_is

      three_seen : s₃ ≡ seen_all adds s₀ ((first ++ instruction_part h o) ++ operand_part h o)
      three_seen = seen_then adds s₀ s₂ s₃ (first ++ instruction_part h o) (operand_part h o) both_seen (seen₃ ∙ ap (λ x. seen_all adds s₂ (preimages h x o.operand)) place_is)

      pub operand_fails : r₃ ≡ None → Ends Doubter s₃
      unfolding fits digested
      operand_fails gone =
          let f : operand_fits h o ≡ false = sym operand_at ∙ absent _ o.operand.word r₃ operand gone in
          (rw (shape, is_low, is_state, is_instruction, f), three_seen ∙ ap (seen_all adds s₀) (rw (is_low, is_state, is_instruction, f) (ap (λ x. state_part o ∷ (instruction_part h o ++ x)) (sym (append-nil (operand_part h o))))))

      module _ (v : ℕ) (some₃ : r₃ ≡ Some v) (n : Bytes) (s₄ : S) (next : n ≡ h (next_part h o)) (seen₄ : s₄ ≡ seen_all adds s₃ (store_part h o ++ (next_part h o ∷ []))) where
        is_operand : operand_fits h o ≡ true
        is_operand = sym operand_at ∙ (present _ o.operand.word v r₃ operand some₃).0

        fitted : fits h g o ≡ true
        unfolding fits
        fitted = rw (shape, is_low, is_state, is_instruction, is_operand)

        pub all_seen : s₄ ≡ seen_all adds s₀ (digested h g o)
        unfolding digested
        all_seen =
            seen_then adds s₀ s₃ s₄ ((first ++ instruction_part h o) ++ operand_part h o) (store_part h o ++ (next_part h o ∷ [])) three_seen seen₄
            ∙ ap (seen_all adds s₀) (rw (is_low, is_state, is_instruction, is_operand, append_assoc))

        pub ends_with : (b : Bool) → bytes_eq n e ≡ b → cond b Claimer Doubter ≡ verdict h g o e
        ends_with b test = let t : bytes_eq (h (next_part h o)) e ≡ b = ap (λ x. bytes_eq x e) (sym next) ∙ test in rw (fitted, t)

pub claimer_wins : (b : Bool) → cond b Claimer Doubter ≡ Claimer → b ≡ true
claimer_wins true e = refl
claimer_wins false e = let z : ◌≡◌ {A = ℕ} 0 1 = cc in absurd (omega arith)
