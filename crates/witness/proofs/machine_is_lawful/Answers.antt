use Rattle.witness.proofs.Instances.{machine_lawful}
use Rattle.witness.proofs.machine_is_lawful.Goals as goal

pub returns : goal.returns
returns c = machine_lawful
