-- What the referee digests for a message: the strings of the step that is shown, in the turn for it, and nothing else.
use Rattle.std.specs.Prelude.{ℕ, cond, List, [], Some, None, Option}
use Rattle.merkle.specs.Bytes.{Bytes, Hash}
use Rattle.machine.specs.Machine.{stores}
use Rattle.witness.specs.declared.Party.{Party}
use Rattle.witness.specs.declared.Witness.{Witness}
use Rattle.witness.specs.Witness.{instruction_of, digested}
use Rattle.dispute.specs.declared.Message.{Message}
use Rattle.dispute.specs.declared.Message.TheVariants.{Claim, Doubt, Middle, Right, Wrong, Step}
use Rattle.dispute.specs.declared.Dispute.{Dispute}
use Rattle.dispute.specs.declared.Phase.{Phase}
use Rattle.dispute.specs.declared.Phase.TheVariants.{Claiming, Doubting, Bisecting, Answering, Proving, Over}
use Rattle.dispute.specs.Referee.{may_move}
use Rattle.dispute.specs.Bisection.{turn}

-- The step that a message shows.
abbrev pub step_in : Message Witness → Option Witness
step_in (Claim n d) = None
step_in Doubt = None
step_in (Middle d) = None
step_in Right = None
step_in Wrong = None
step_in (Step o) = Some o

abbrev pub step_strings : Hash → Dispute → Option Witness → List Bytes
step_strings h p None = []
step_strings h p (Some o) = digested h p.agreed o

-- What is digested for a message in its turn.
abbrev pub move_strings : Hash → Phase → Message Witness → List Bytes
move_strings h (Claiming g) m = []
move_strings h (Doubting g n x) m = []
move_strings h (Bisecting n p) m = []
move_strings h (Answering n p x) m = []
move_strings h (Proving p) m = step_strings h p (step_in m)
move_strings h (Over w) m = []

-- What is digested for a message of a party, if it is one.
abbrev pub strings : Hash → Phase → Party → Option (Message Witness) → List Bytes
strings h f w None = []
strings h f w (Some m) = cond (may_move (turn f) w) (move_strings h f m) []

-- How many strings may be digested for a message.
abbrev pub step_limit : Option Witness → ℕ
step_limit None = 0
step_limit (Some o) = cond (stores (instruction_of o)) 53 36

abbrev pub limit : Option (Message Witness) → ℕ
limit None = 0
limit (Some m) = step_limit (step_in m)
