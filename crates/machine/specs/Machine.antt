-- The machine: 65,536 words of 32 bits, a register, and the place of the next instruction.
use Rattle.std.specs.Prelude.{ℕ, zero, suc, ◌+◌, ◌-◌, ◌/◌, ◌%◌, ◌^◌, Bool, true, false, cond, List, [], ◌∷◌, ◌++◌, ◌==◌, slice_index, slice_set}
use Rattle.merkle.specs.Bytes.{Bytes, Hash, state_preimage}
use Rattle.merkle.specs.Tree.{root, node_preimages}
use Rattle.machine.specs.declared.Cpu.{Cpu}
use Rattle.machine.specs.declared.Instruction.{Instruction}
use Rattle.machine.specs.declared.Instruction.TheVariants.{Load, Store, Add, Subtract, Jump, JumpIfZero, Set, Halt}

-- The place and the register, and the memory.
pub record State : Type 0 where
  pub cpu : Cpu
  pub memory : List ℕ

-- A program is the memory at the start; place and register are then 0.
abbrev pub start : (program : List ℕ) → State
start m = record { cpu = record { place = 0; register = 0 }; memory = m }

-- The number of an instruction.
abbrev pub number : (word : ℕ) → ℕ
number w = w / 65536

-- The place of an instruction.
abbrev pub place_of : (word : ℕ) → ℕ
place_of w = w % 65536

-- The instruction of a number and a place; any other number, 0 too, halts.
abbrev pub instruction : (number place : ℕ) → Instruction
instruction n a =
    cond (n == 1) (Load a) (cond (n == 2) (Store a) (cond (n == 3) (Add a) (cond (n == 4) (Subtract a) (cond (n == 5) (Jump a) (cond (n == 6) (JumpIfZero a) (cond (n == 7) (Set a) Halt))))))

unfoldable pub decode : (word : ℕ) → Instruction
decode w = instruction (number w) (place_of w)

-- The place that follows; after the last comes 0.
abbrev pub following : (place : ℕ) → ℕ
following p = (p + 1) % 65536

-- Place and register after an instruction; v is the word at the instruction's place.
abbrev pub cpu_after : Instruction → Cpu → (v : ℕ) → Cpu
cpu_after (Load a) c v = record { place = following c.place; register = v }
cpu_after (Store a) c v = record { place = following c.place; register = c.register }
cpu_after (Add a) c v = record { place = following c.place; register = (c.register + v) % 2 ^ 32 }
cpu_after (Subtract a) c v = record { place = following c.place; register = (c.register + (2 ^ 32 - v)) % 2 ^ 32 }
cpu_after (Jump a) c v = record { place = a; register = c.register }
cpu_after (JumpIfZero a) c v = record { place = cond (c.register == 0) a (following c.place); register = c.register }
cpu_after (Set a) c v = record { place = following c.place; register = a }
cpu_after Halt c v = c

-- Whether an instruction stores the register at its place.
abbrev pub stores : Instruction → Bool
stores (Load a) = false
stores (Store a) = true
stores (Add a) = false
stores (Subtract a) = false
stores (Jump a) = false
stores (JumpIfZero a) = false
stores (Set a) = false
stores Halt = false

-- The word of the next instruction.
abbrev pub fetch : State → ℕ
fetch s = slice_index s.memory s.cpu.place

-- The word at its place.
abbrev pub operand : State → ℕ
operand s = slice_index s.memory (place_of (fetch s))

unfoldable pub step : State → State
step s =
    record {
      cpu = cpu_after (decode (fetch s)) s.cpu (operand s);
      memory = cond (stores (decode (fetch s))) (slice_set s.memory (place_of (fetch s)) s.cpu.register) s.memory;
    }

-- The state after n steps.
unfoldable pub run : ℕ → State → State
run zero s = s
run (suc n) s = run n (step s)

-- A state's digest.
abbrev pub digest : Hash → State → Bytes
digest h s = h (state_preimage s.cpu.place s.cpu.register (root h s.memory))

-- The strings that are digested for it, in their order.
abbrev pub digest_preimages : Hash → State → List Bytes
digest_preimages h s = node_preimages h 16 0 s.memory ++ (state_preimage s.cpu.place s.cpu.register (root h s.memory) ∷ [])
