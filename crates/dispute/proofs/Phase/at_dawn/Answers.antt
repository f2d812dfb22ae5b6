use Rattle.std.proofs.Common.{◌+◌, arith}
use Rattle.std.proofs.lemmas.Bool.{le-leb}
use Rattle.dispute.proofs.Phase.at_dawn.Goals as goal

pub returns-then-saturating_sub-ge-TURN : goal.returns-then-saturating_sub-ge-TURN
returns-then-saturating_sub-ge-TURN c h g = rw (le-leb (c.args.since + 2) c.args.day (omega arith)) (c.late.ensures h g)
