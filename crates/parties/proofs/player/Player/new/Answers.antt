use Rattle.std.proofs.Common.{refl, ap, ◌∙◌}
use Rattle.machine.specs.Machine.{run}
use Rattle.witness.specs.Laws.{machine}
use Rattle.dispute.specs.Referee.{opening}
use Rattle.dispute.specs.Bisection.{bisection}
use Rattle.parties.proofs.player.Player.new.Goals as goal

pub returns : goal.returns
unfolding run
returns g c =
    let h = g.D.Digester.hash in
    (refl, c.in-Some.ensures.0, c.open-referee.ensures h ∙ ap (λ d. opening (bisection (machine h) d)) c.in_ok-start.ensures)
