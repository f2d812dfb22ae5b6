use Rattle.std.proofs.Common.{◌≡◌, ◌+◌, arith}
use Rattle.std.proofs.lemmas.Grind.{common_steps}
use Rattle.witness.specs.Laws.{machine}
use Rattle.dispute.specs.Bisection.{bisection}
use Rattle.dispute.proofs.Dawns.{day_next}
use Rattle.dispute.proofs.Case+Phase.day.Goals as goal

pub returns : goal.returns
returns c h g = let dawns : c.args.day ≡ c.args.self.day + 1 = grind (arith, common_steps) in day_next (bisection (machine h) g) c.args.self c.args.day dawns _ (c.at_dawn-phase.ensures h g)
