-- The machine is a lawful system.
use Rattle.std.proofs.Common.{arith}
use Rattle.merkle.proofs.Strings.{digest_long}
use Rattle.witness.specs.Laws.{MachineLawful}
use Rattle.witness.proofs.Ranges.{step_valid}
use Rattle.witness.proofs.Steps.{complete, sound}
use Rattle.witness.proofs.Wires.{legible}

pub machine_lawful : MachineLawful
machine_lawful h whole =
    record {
      valid_step = step_valid;
      complete = complete h whole;
      sound = sound h whole;
      digest_long = λ s. digest_long _ (whole _);
      kind_own = λ s. omega arith;
      legible = legible h whole;
    }
