-- One step of the machine, checked from what is shown of it: place, register, the memory's digest, and openings of the instruction and of the word at its place.
use Rattle.std.specs.Prelude.{◌≡◌, ℕ, ◌^◌, ◌<◌, Bool, cond, ◌&&◌, List, [], ◌∷◌, ◌++◌, length, Some, None, Option, nat_lt, slice_index, bytes_eq}
use Rattle.merkle.specs.Bytes.{Bytes, Hash, is_digest, state_preimage}
use Rattle.merkle.specs.Tree.{root}
use Rattle.merkle.specs.Collision.{Collision, difference, or_else, last_difference}
use Rattle.merkle.specs.Openings.{opened, preimages, well_formed, honest}
use Rattle.merkle.specs.Strings.{bytes_of}
use Rattle.merkle.specs.declared.opening.Opening.{Opening}
use Rattle.merkle.specs.declared.preimage.Preimage.{Preimage}
use Rattle.machine.specs.declared.Cpu.{Cpu}
use Rattle.machine.specs.declared.Instruction.{Instruction}
use Rattle.machine.specs.Machine.{State, place_of, decode, cpu_after, stores, fetch}
use Rattle.witness.specs.declared.Party.{Party}
use Rattle.witness.specs.declared.Party.TheVariants.{Claimer, Doubter}
use Rattle.witness.specs.declared.Witness.{Witness}

-- The states that a run can have: 65,536 words of 32 bits, and so the rest.
pub record Valid (s : State) : Type 0 where
  pub place : s.cpu.place < 65536
  pub register : s.cpu.register < 2 ^ 32
  pub size : length s.memory ≡ 65536
  pub words : (i : ℕ) → slice_index s.memory i < 2 ^ 32

-- What an honest party shows.
unfoldable pub witness : Hash → State → Witness
witness h s =
    record {
      place = s.cpu.place;
      register = s.cpu.register;
      memory = root h s.memory;
      instruction = honest h s.cpu.place s.memory;
      operand = honest h (place_of (fetch s)) s.memory;
    }

-- The instruction that is shown, and its place.
abbrev pub instruction_of : Witness → Instruction
instruction_of o = decode o.instruction.word

abbrev pub operand_place : Witness → ℕ
operand_place o = place_of o.instruction.word

-- What is digested for the state, and for the two openings: the first climbed from the place of the state, the second from the place in the instruction.
abbrev pub state_part : Witness → Bytes
state_part o = state_preimage o.place o.register o.memory

abbrev pub instruction_part : Hash → Witness → List Bytes
instruction_part h o = preimages h o.place o.instruction

abbrev pub operand_part : Hash → Witness → List Bytes
operand_part h o = preimages h (operand_place o) o.operand

-- The three tests: the state's digest, and the memory's digest from each opening.
abbrev pub state_fits : Hash → (start : Bytes) → Witness → Bool
state_fits h g o = bytes_eq (h (state_part o)) g

abbrev pub instruction_fits : Hash → Witness → Bool
instruction_fits h o = bytes_eq (opened h o.place o.instruction) o.memory

abbrev pub operand_fits : Hash → Witness → Bool
operand_fits h o = bytes_eq (opened h (operand_place o) o.operand) o.memory

-- The state after the step: place and register by the machine's table, and for a store the memory's digest from the second opening with the register in place of the word.
abbrev pub cpu_next : Witness → Cpu
cpu_next o = cpu_after (instruction_of o) (record { place = o.place; register = o.register }) o.operand.word

abbrev pub stored : Witness → Opening
stored o = record { word = o.register; siblings = o.operand.siblings }

unfoldable pub root_next : Hash → Witness → Bytes
root_next h o = cond (stores (instruction_of o)) (opened h (operand_place o) (stored o)) o.memory

unfoldable pub next_part : Hash → Witness → Bytes
next_part h o = state_preimage (cpu_next o).place (cpu_next o).register (root_next h o)

-- Numbers of 32 bits and digests of 32 bytes, as every message has them.
unfoldable pub shaped : Witness → Bool
shaped o = nat_lt o.register (2 ^ 32) && is_digest o.memory && well_formed o.instruction && well_formed o.operand

-- Whether the witness opens the state with the digest at the beginning; a place above 65,535 fits nothing.
unfoldable pub fits : Hash → (start : Bytes) → Witness → Bool
fits h g o = shaped o && nat_lt o.place 65536 && state_fits h g o && instruction_fits h o && operand_fits h o

-- And whether it leads to the digest at the end.
abbrev pub accepts : Hash → (start : Bytes) → Witness → (end : Bytes) → Bool
accepts h g o d = fits h g o && bytes_eq (h (next_part h o)) d

-- Who wins by it.
abbrev pub verdict : Hash → (start : Bytes) → Witness → (end : Bytes) → Party
verdict h g o d = cond (accepts h g o d) Claimer Doubter

-- What is digested for a store's new root.
abbrev pub store_part : Hash → Witness → List Bytes
store_part h o = cond (stores (instruction_of o)) (preimages h (operand_place o) (stored o)) []

-- What the referee digests, in this order; it stops where something does not fit.
unfoldable pub digested : Hash → (start : Bytes) → Witness → List Bytes
digested h g o =
    cond (nat_lt o.place 65536) (state_part o ∷ cond (state_fits h g o) (instruction_part h o ++ cond (instruction_fits h o)
    (operand_part h o ++ cond (operand_fits h o) (store_part h o ++ (next_part h o ∷ [])) []) []) []) []

-- The first two strings in which two witnesses differ: the states', then the instructions' ways from the top down, then the other ways.
unfoldable pub first_difference : Hash → (o own : Witness) → Option (Bytes × Bytes)
first_difference h o w =
    or_else (difference (state_part o) (state_part w))
    (or_else (last_difference (instruction_part h o) (instruction_part h w)) (last_difference (operand_part h o) (operand_part h w)))

-- What a search returned collides.
abbrev pub Collides : Hash → Option (Preimage × Preimage) → Type 0
Collides h None = ⊥
Collides h (Some x) = Collision h (bytes_of x.0) (bytes_of x.1)

-- The search in what was shown and in the state's own witness finds a collision.
pub record Found (h : Hash) (s : State) (o : Witness) : Type 0 where
  pub one : Bytes
  pub other : Bytes
  pub first : first_difference h o (witness h s) ≡ Some (one, other)
  pub collision : Collision h one other
