use Rattle.record.proofs.Entered.{comes}
use Rattle.record.proofs.enter.Goals as goal

pub returns : goal.returns
returns g c = comes g.D.Digester.hash g.met.D.Digester.whole _ _ _ _ _ c.in_ok-entry.ensures c.admit.ensures
