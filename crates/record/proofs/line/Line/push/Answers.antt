use Rattle.std.proofs.Common.{arith, ◌∙◌}
use Rattle.record.proofs.Holding.{fits_holds, over_holds}
use Rattle.record.proofs.line.Line.push.Goals as goal

pub returns-in_ok-push-clause-holds : goal.returns-in_ok-push-clause-holds
returns-in_ok-push-clause-holds c bs h =
    fits_holds _ bs (c.self.view_is ∙ h) _ c.args.byte (omega (arith, c.if-len-lt-LONGEST.true, c.len.ensures, c.self.inside.bytes.ok.0)) c.in_ok-push.ensures.items

pub returns-else-len-lt-LONGEST-clause-holds : goal.returns-else-len-lt-LONGEST-clause-holds
returns-else-len-lt-LONGEST-clause-holds c bs h =
    over_holds _ bs (c.self.view_is ∙ h) c.args.byte (omega (arith, c.if-len-lt-LONGEST.false, c.len.ensures, c.self.inside.bytes.ok.0))
