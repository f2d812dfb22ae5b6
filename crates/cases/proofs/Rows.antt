-- The rows of the table.
use Rattle.std.proofs.Common.{◌≡◌, ℕ, true, false, cond, [], ◌∷◌, refl, ap, ◌∙◌, bytes_eq}
use Rattle.sha256.specs.Sha256.{sha256}
use Rattle.digests.specs.Bytes.{sha256_digest}
use Rattle.machine.specs.Machine.{step, digest}
use Rattle.system.specs.System.{run}
use Rattle.witness.specs.declared.Party.TheVariants.{Claimer, Doubter}
use Rattle.witness.proofs.Wires.{legible}
use Rattle.dispute.specs.declared.Phase.TheVariants.{Over}
use Rattle.cases.specs.Rows.{real, bytes, as_digest, shown, disputed, Holds, done, ◌also◌}
use Rattle.cases.specs.Table.{sevens, digest0, digest1, digest2, digest3, forged, halved, right, shows, own, misplaced, Worked}
use Rattle.cases.proofs.Digests.{digest0_is, digest1_is, digest2_is, digest3_is}
use Rattle.cases.proofs.Runs.{run1, run2, run3, row, word_before, word_after, stands, valid0, valid1}
use Rattle.cases.proofs.Disputes.{by_first, by_second, twice, honest_tests, honest_verdict, misplaced_read, misplaced_tests, misplaced_verdict}

-- ---- the first two steps
from1 : digest sha256 (run real 1 sevens) ≡ as_digest digest1
from1 = ap (digest sha256) run1 ∙ digest1_is

to1 : digest sha256 (step sevens) ≡ as_digest digest1
unfolding run
to1 = from1

to2 : digest sha256 (step (run real 1 sevens)) ≡ as_digest digest2
unfolding run
to2 = ap (digest sha256) run2 ∙ digest2_is

-- the second, shown for a step to x
own1_tests : (x : ℕ) → Holds (shown digest1 (own 1) x true true true (bytes_eq (as_digest digest2) (as_digest x)))
own1_tests = honest_tests (run real 1 sevens) valid1 digest1 digest2 from1 to2

by_own1 : (x : ℕ) → Holds (disputed digest0 (halved x digest1 (right ∷ shows (own 1) ∷ [])) (Over (cond (bytes_eq (as_digest digest2) (as_digest x)) Claimer Doubter)))
by_own1 x =
    by_second (as_digest digest0) x digest1 (own 1) _ (legible sha256 sha256_digest (run real 1 sevens) valid1) (honest_verdict (run real 1 sevens) valid1 digest1 digest2 from1 to2 x)

-- ---- all of them
pub rows : Worked
unfolding run bytes
rows =
    row sevens _ 0 0 digest0 refl word_before digest0_is
    also row sevens _ 1 0 digest1 run1 word_before digest1_is
    also row sevens _ 2 7 digest2 run2 word_after digest2_is
    also row sevens _ 3 7 digest3 run3 word_after digest3_is
    also stands
    also honest_tests sevens valid0 digest0 digest1 digest0_is to1 digest1
    also own1_tests digest2
    also own1_tests forged
    also misplaced_tests
    also by_first (as_digest digest0) digest2 digest1 (own 0) true (legible sha256 sha256_digest sevens valid0) (honest_verdict sevens valid0 digest0 digest1 digest0_is to1 digest1)
    also by_own1 digest2
    also by_own1 forged
    also by_second (as_digest digest0) forged digest1 misplaced false misplaced_read (misplaced_verdict (as_digest digest1) (as_digest forged))
    also twice (as_digest digest0) digest2 digest1
    also done
