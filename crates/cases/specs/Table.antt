-- The table of worked cases.
use Rattle.std.specs.Prelude.{ℕ, true, false, List, [], ◌∷◌}
use Rattle.sha256.specs.Sha256.{sha256}
use Rattle.merkle.specs.Tree.{root}
use Rattle.merkle.specs.Openings.{honest}
use Rattle.machine.specs.Machine.{State, start}
use Rattle.system.specs.System.{run}
use Rattle.witness.specs.declared.Party.TheVariants.{Claimer, Doubter}
use Rattle.witness.specs.declared.Witness.{Witness}
use Rattle.witness.specs.Witness.{witness}
use Rattle.witness.specs.Wire.{witness_bytes}
use Rattle.dispute.specs.declared.Phase.TheVariants.{Answering, Over}
use Rattle.dispute.specs.Referee.{Event, sent}
use Rattle.dispute.specs.Bisection.{whole}
use Rattle.cases.specs.Rows.{real, program, as_digest, Exchange, Row, after, still, shown, disputed, AllHold}

-- ---- programs
-- 7 into the register; the register to place 100; on to place 0.
abbrev pub instructions : List ℕ
instructions = 458759 ∷ 131172 ∷ 327680 ∷ []

abbrev pub sevens : State
sevens = start (program instructions)

-- Nothing but zeros.
abbrev pub idle : State
idle = start (program [])

-- ---- digests
-- The first program's states after 0 to 3 steps.
abbrev pub digest0 : ℕ
digest0 = 0x836b9fd1b66ef285504ca6cb1853a380561776e20e2c879f1844d87f866c0725

abbrev pub digest1 : ℕ
digest1 = 0xbd55984fb5646e0abd13bc5e33df578fdd3d71ad0db935f8ba6f19402fdcfe9d

abbrev pub digest2 : ℕ
digest2 = 0xf8c757d36080c0aa0c84c5fbc47816871977ba0a8a7772355db020a9aa470e4e

abbrev pub digest3 : ℕ
digest3 = 0xfa7525a72555612f7532c2d2d0c833cca75f7f704563168351fd39d3296082bc

-- A wrong digest after 2 steps: all is right in it but that nothing is stored.
abbrev pub forged : ℕ
forged = 0xe45a19c6180165dfaabd2bf9885742e7f64106a297041d4955fe7f097773912d

-- The second program's states.
abbrev pub digest_idle : ℕ
digest_idle = 0xb232e62652a6d3dabd5de8688923479bb71c838f00907c882b8bcf845424934a

-- ---- messages
-- The digest after two steps is claimed, it is doubted, the digest in the middle is named, and then the rest is sent.
abbrev pub halved : (claimed middle : ℕ) → Exchange → Exchange
halved x y rest = (sent Claimer (1 ∷ 1 ∷ as_digest x), 0) ∷ (sent Doubter (2 ∷ []), 0) ∷ (sent Claimer (3 ∷ as_digest y), 0) ∷ rest

-- The middle is right; it is wrong; a step is shown.
abbrev pub right : Event × ℕ
right = (sent Doubter (4 ∷ []), 0)

abbrev pub wrong : Event × ℕ
wrong = (sent Doubter (5 ∷ []), 0)

abbrev pub shows : Witness → Event × ℕ
shows o = (sent Claimer (6 ∷ witness_bytes o), 0)

-- The honest witness of the step after so many.
abbrev pub own : ℕ → Witness
own n = witness sha256 (run real n sevens)

-- The second step with the instruction of the first: word 0 and its siblings in place of word 1's, and then the word at place 7, which word 0 names.
abbrev pub misplaced : Witness
misplaced =
    record { place = 1; register = 7; memory = root sha256 sevens.memory; instruction = honest sha256 0 sevens.memory; operand = honest sha256 7 sevens.memory }

-- ---- the table
abbrev pub table : List Row
table =
    -- steps, place, register, word 100
    after sevens 0 0 0 0 digest0
    ∷ after sevens 1 1 7 0 digest1
    ∷ after sevens 2 2 7 7 digest2
    ∷ after sevens 3 0 7 7 digest3
    ∷ still idle digest_idle
    -- the honest steps; an honest step to the wrong digest; and the misplaced one, of which all fits but the way up from place 1
    ∷ shown digest0 (own 0) digest1 true true true true
    ∷ shown digest1 (own 1) digest2 true true true true
    ∷ shown digest1 (own 1) forged true true true false
    ∷ shown digest1 misplaced forged true false true true
    -- a right claim: whatever the answer, the claimer wins
    ∷ disputed digest0 (halved digest2 digest1 (wrong ∷ shows (own 0) ∷ [])) (Over Claimer)
    ∷ disputed digest0 (halved digest2 digest1 (right ∷ shows (own 1) ∷ [])) (Over Claimer)
    -- a wrong claim
    ∷ disputed digest0 (halved forged digest1 (right ∷ shows (own 1) ∷ [])) (Over Doubter)
    ∷ disputed digest0 (halved forged digest1 (right ∷ shows misplaced ∷ [])) (Over Doubter)
    -- the middle twice: the second is refused with 2
    ∷ disputed digest0 (halved digest2 digest1 ((sent Claimer (3 ∷ as_digest digest1), 2) ∷ [])) (Answering 0 (whole (as_digest digest0) (as_digest digest2)) (as_digest digest1))
    ∷ []

abbrev pub Worked : Type 0
Worked = AllHold table
