-- The disputes, message by message, and the steps that are shown in them.
use Rattle.std.proofs.Common.{◌≡◌, ℕ, Bool, true, false, cond, ◌&&◌, [], ◌∷◌, Some, refl, ap, ◌∙◌, arith, bytes_eq}
use Rattle.std.specs.Option.{option_map}
use Rattle.std.proofs.lemmas.Bool.{and_parts, and_left, and_right}
use Rattle.sha256.specs.Sha256.{sha256}
use Rattle.digests.specs.Bytes.{sha256_digest}
use Rattle.merkle.specs.Bytes.{Bytes}
use Rattle.merkle.specs.Openings.{opened, honest}
use Rattle.merkle.proofs.Strings.{true_eq, digest_long}
use Rattle.merkle.proofs.Bindings.{Formed, formed}
use Rattle.merkle.proofs.Honest.{opens, node_digest}
use Rattle.machine.specs.Machine.{State, place_of, step, digest}
use Rattle.machine.specs.Machine
use Rattle.witness.specs.declared.Party.TheVariants.{Claimer, Doubter}
use Rattle.witness.specs.declared.Witness.{Witness}
use Rattle.witness.specs.Witness.{Valid, witness, fits, accepts, root_next, next_part}
use Rattle.witness.specs.Wire.{witness_bytes, parse}
use Rattle.witness.proofs.Steps.{honest_formed, digest_next, complete}
use Rattle.witness.proofs.Wires.{parse_read}
use Rattle.dispute.specs.declared.Case.{Case}
use Rattle.dispute.specs.declared.Dispute.{Dispute}
use Rattle.dispute.specs.declared.Message.TheVariants.{Step}
use Rattle.dispute.specs.declared.Phase.{Phase}
use Rattle.dispute.specs.declared.Phase.TheVariants.{Answering, Proving, Over}
use Rattle.dispute.specs.Referee.{Protocol, sent, opening, receive, take}
use Rattle.dispute.specs.Bisection.{sized, claim_in, body_of, decode, bisection, whole, first_half, second_half}
use Rattle.cases.specs.Rows.{real, bytes, as_digest, shown, answer_number, Goes, Holds}
use Rattle.cases.specs.Table.{instructions, digest1, forged, halved, right, wrong, shows, misplaced}
use Rattle.cases.proofs.Programs.{program_at}
use Rattle.cases.proofs.Digests.{memory, misplaced_off, digest1_is, forged_is}
use Rattle.cases.proofs.Runs.{small}

-- ---- the messages
-- The case on its first day.
abbrev case : Phase → Case Phase
case f = record { day = 0; since = 0; phase = f }

module _ (g : Bytes) where
  abbrev P : Protocol
  P = bisection real g

  -- the step is read, and b is whether it is accepted
  decided : (p : Dispute) (o : Witness) (b : Bool) → parse 6 (witness_bytes o) ≡ Some o → accepts sha256 p.agreed o p.disputed ≡ b → Goes P (case (Proving p)) (shows o ∷ []) (Over (cond b Claimer Doubter))
  unfolding Goes take body_of decode
  decided p o b read e =
      let d : decode real (6 ∷ witness_bytes o) ≡ Some (Step o) = ap (option_map Step) read in
      (ap (λ m. answer_number (receive P (case (Proving p)) Claimer m).1) d, ap (λ m. (receive P (case (Proving p)) Claimer m).0.phase) d ∙ ap (λ z. Over (cond z Claimer Doubter)) e)

  module _ (x y : ℕ) where
    pub twice : Goes P (opening P) (halved x y ((sent Claimer (3 ∷ as_digest y), 2) ∷ [])) (Answering 0 (whole g (as_digest x)) (as_digest y))
    unfolding Goes take sized claim_in body_of decode bytes
    twice = (refl, (refl, (refl, (refl, refl))))

    -- by the first step or by the second
    module _ (o : Witness) (b : Bool) (read : parse 6 (witness_bytes o) ≡ Some o) where
      pub by_first : accepts sha256 g o (as_digest y) ≡ b → Goes P (opening P) (halved x y (wrong ∷ shows o ∷ [])) (Over (cond b Claimer Doubter))
      unfolding Goes take sized claim_in body_of decode bytes
      by_first e = (refl, (refl, (refl, (refl, decided (first_half (whole g (as_digest x)) (as_digest y)) o b read e))))

      pub by_second : accepts sha256 (as_digest y) o (as_digest x) ≡ b → Goes P (opening P) (halved x y (right ∷ shows o ∷ [])) (Over (cond b Claimer Doubter))
      unfolding Goes take sized claim_in body_of decode bytes
      by_second e = (refl, (refl, (refl, (refl, decided (second_half 0 (whole g (as_digest x)) (as_digest y)) o b read e))))

-- ---- an honest step, from g to d, that is shown for one to e
module _ (s : State) (v : Valid s) (g d : ℕ) (from : digest sha256 s ≡ as_digest g) (to : digest sha256 (step s) ≡ as_digest d) (e : ℕ) where
  leads : bytes_eq (sha256 (next_part sha256 (witness sha256 s))) (as_digest e) ≡ bytes_eq (as_digest d) (as_digest e)
  leads = ap (λ x. bytes_eq x (as_digest e)) (digest_next sha256 sha256_digest s v ∙ to)

  pub honest_tests : Holds (shown g (witness sha256 s) e true true true (bytes_eq (as_digest d) (as_digest e)))
  unfolding witness
  honest_tests = (true_eq _ _ from, true_eq _ _ (opens sha256 _ s.memory v.place), true_eq _ _ (opens sha256 _ s.memory (omega arith)), leads)

  pub honest_verdict : accepts sha256 (as_digest g) (witness sha256 s) (as_digest e) ≡ bytes_eq (as_digest d) (as_digest e)
  honest_verdict =
      let f : fits sha256 (as_digest g) (witness sha256 s) ≡ true = rw (← from) (and_parts (fits sha256 (digest sha256 s) (witness sha256 s)) _ (complete sha256 sha256_digest s v)).0 in
      ap (λ x. x && bytes_eq (sha256 (next_part sha256 (witness sha256 s))) (as_digest e)) f ∙ leads

-- ---- the misplaced step
pub misplaced_read : parse 6 (witness_bytes misplaced) ≡ Some misplaced
misplaced_read = parse_read misplaced (omega arith) (omega arith) (digest_long _ (node_digest sha256 sha256_digest 16 0 memory)) (opens_at 0) (opens_at 7)
  where
    opens_at : (i : ℕ) → Formed (honest sha256 i memory)
    opens_at i = formed (honest sha256 i memory) (honest_formed sha256 sha256_digest i memory small)

misplaced_leads : sha256 (next_part sha256 misplaced) ≡ as_digest forged
unfolding next_part root_next Machine.decode
misplaced_leads = rw (program_at instructions 0) forged_is

pub misplaced_tests : Holds (shown digest1 misplaced forged true false true true)
misplaced_tests = (
  true_eq _ _ digest1_is,
  misplaced_off,
  true_eq _ _ (ap (λ w. opened sha256 (place_of w) (honest sha256 7 memory)) (program_at instructions 0) ∙ opens sha256 7 memory (omega arith)),
  true_eq _ _ misplaced_leads,
)

pub misplaced_verdict : (g d : Bytes) → accepts sha256 g misplaced d ≡ false
unfolding fits
misplaced_verdict g d = and_left _ _ (and_left _ _ (and_right _ _ misplaced_off))
