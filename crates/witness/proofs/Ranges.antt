-- States stay in range.
use Rattle.std.proofs.Common.{◌≡◌, ℕ, ◌^◌, ◌<◌, eqb, List, length, get_or, set, ap, ◌∙◌, inl, inr, arith}
use Rattle.std.proofs.lemmas.List.{length-set, get_or-set_same, get_or-set_other}
use Rattle.std.proofs.lemmas.Bool.{cond_both, cases_eq}
use Rattle.machine.specs.declared.Cpu.{Cpu}
use Rattle.machine.specs.declared.Instruction.{Instruction}
use Rattle.machine.specs.declared.Instruction.TheVariants.{Load, Store, Add, Subtract, Jump, JumpIfZero, Set, Halt}
use Rattle.machine.specs.Machine.{State, number, place_of, instruction, decode, following, cpu_after, stores, fetch, operand, step}
use Rattle.witness.specs.Witness.{Valid}

-- place and register are in range
pub record InRange (c : Cpu) : Type 0 where
  pub place : c.place < 65536
  pub register : c.register < 2 ^ 32

-- the place in an instruction is below 65,536
abbrev Low : Instruction → Type 0
Low (Load a) = Unit {0}
Low (Store a) = Unit {0}
Low (Add a) = Unit {0}
Low (Subtract a) = Unit {0}
Low (Jump a) = a < 65536
Low (JumpIfZero a) = a < 65536
Low (Set a) = a < 65536
Low Halt = Unit {0}

instruction_low : (n a : ℕ) → a < 65536 → Low (instruction n a)
instruction_low n a l =
    cond_both (eqb n 1) _ _ Low (λ _. tt) (λ _. cond_both (eqb n 2) _ _ Low (λ _. tt) (λ _. cond_both (eqb n 3) _ _ Low (λ _. tt) (λ _. cond_both (eqb n 4) _ _ Low (λ _. tt)
    (λ _. cond_both (eqb n 5) _ _ Low (λ _. l) (λ _. cond_both (eqb n 6) _ _ Low (λ _. l) (λ _. cond_both (eqb n 7) _ _ Low (λ _. l) (λ _. tt)))))))

decode_low : (w : ℕ) → Low (decode w)
unfolding decode
decode_low w = instruction_low (number w) (place_of w) (omega arith)

after_in_range : (i : Instruction) (c : Cpu) (v : ℕ) → Low i → InRange c → v < 2 ^ 32 → InRange (cpu_after i c v)
after_in_range (Load a) c v low r l = record { place = omega arith; register = l }
after_in_range (Store a) c v low r l = record { place = omega arith; register = r.register }
after_in_range (Add a) c v low r l = record { place = omega arith; register = omega arith }
after_in_range (Subtract a) c v low r l = record { place = omega arith; register = omega arith }
after_in_range (Jump a) c v low r l = record { place = low; register = r.register }
after_in_range (JumpIfZero a) c v low r l =
    record { place = cond_both (eqb c.register 0) a (following c.place) (λ p. p < 65536) (λ _. low) (λ _. omega arith); register = r.register }
after_in_range (Set a) c v low r l = record { place = omega arith; register = omega arith }
after_in_range Halt c v low r l = r

set_small : (m : List ℕ) (a v i : ℕ) → a < length m → v < 2 ^ 32 → ((j : ℕ) → get_or m j 0 < 2 ^ 32) → get_or (set m a v) i 0 < 2 ^ 32
set_small m a v i within l small =
    elim (cases_eq i a) [
      | inl e ↦ omega (arith, ap (λ j. get_or (set m a v) j 0) e ∙ get_or-set_same m a v 0 within)
      | inr d ↦ omega (arith, get_or-set_other m a i v 0 d, small i)
    ]

pub step_valid : (s : State) → Valid s → Valid (step s)
unfolding step
step_valid s v =
    record {
      place = next.place;
      register = next.register;
      size = cond_both (stores (decode w)) (set m (place_of w) r) m (λ x. length x ≡ 65536) (λ _. length-set m (place_of w) r ∙ v.size) (λ _. v.size);
      words = λ i. cond_both (stores (decode w)) (set m (place_of w) r) m (λ x. get_or x i 0 < 2 ^ 32) (λ _. set_small m (place_of w) r i (let z = v.size in omega arith) v.register v.words) (λ _. v.words i);
    }
  where
    m : List ℕ
    m = s.memory

    w : ℕ
    w = fetch s

    r : ℕ
    r = s.cpu.register

    next : InRange (cpu_after (decode w) s.cpu (operand s))
    next = after_in_range (decode w) s.cpu (operand s) (decode_low w) (record { place = v.place; register = v.register }) (v.words (place_of w))
