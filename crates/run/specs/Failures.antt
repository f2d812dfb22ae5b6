-- What is told of a failure.
use Rattle.std.specs.Prelude.{ℕ, Bool, true, false, None, Option}
use Rattle.text.specs.Program.{refusal}
use Rattle.run.specs.declared.failure.Failure.{Failure}
use Rattle.run.specs.declared.failure.Failure.TheVariants.{Call, Arguments, Steps, File, Program, Output}

-- Whether the call was wrong, so that the usage helps.
abbrev pub is_usage : Failure → Bool
is_usage (Call e) = true
is_usage Arguments = true
is_usage Steps = true
is_usage (File p e) = true
is_usage (Program p e) = false
is_usage (Output e) = false

-- The number that goes to standard output: that of a bad program.
abbrev pub number_of : Failure → Option ℕ
number_of (Call e) = None
number_of Arguments = None
number_of Steps = None
number_of (File p e) = None
number_of (Program p e) = refusal e
number_of (Output e) = None
