-- The machine as a system, and what is promised of one step.
use Rattle.std.specs.Prelude.{◌≡◌, ◌≤◌, true, cond, List, [], ◌∷◌, length}
use Rattle.merkle.specs.Bytes.{Bytes, Hash, Whole}
use Rattle.machine.specs.Machine.{State, step, digest, stores}
use Rattle.system.specs.System.{System, Lawful}
use Rattle.witness.specs.declared.Witness.{Witness}
use Rattle.witness.specs.Witness.{Valid, witness, accepts, Found, instruction_of, shaped, digested}
use Rattle.witness.specs.Wire.{witness_bytes, parse}

abbrev pub machine : Hash → System
machine h =
    record {
      State = State;
      Witness = Witness;
      step = step;
      digest = digest h;
      accepts = accepts h;
      witness = witness h;
      kind = λ o. 6;
      body = witness_bytes;
      parse = parse;
      Valid = Valid;
      Found = Found h;
    }

-- The machine is a lawful system: its steps can be shown, and what is accepted is its step, or a collision is found.
abbrev pub MachineLawful : Type 0
MachineLawful = (h : Hash) → Whole h → Lawful (machine h)

-- Two digests agree on these strings.
unfoldable pub Agree : Hash → Hash → List Bytes → Type 0
Agree h k [] = Unit {0}
Agree h k (a ∷ as') = (h a ≡ k a) × Agree h k as'

-- At most 36 strings are digested for a step, 53 where the instruction stores.
abbrev pub Light : Type 0
Light = (h : Hash) (g : Bytes) (o : Witness) → shaped o ≡ true → length (digested h g o) ≤ cond (stores (instruction_of o)) 53 36

-- The verdict rests on the digests of just those strings.
abbrev pub Rests : Type 0
Rests = (h k : Hash) (g : Bytes) (o : Witness) (d : Bytes) → Agree h k (digested h g o) → accepts h g o d ≡ accepts k g o d
