use Rattle.std.proofs.Common.{Some, sym, ap, ◌∙◌}
use Rattle.std.proofs.lemmas.Bool.{cond-true, cond-false}
use Rattle.record.proofs.Holding.{whole_holds}
use Rattle.record.proofs.line.Line.text.Goals as goal

pub returns-then-self-clause-holds : goal.returns-then-self-clause-holds
returns-then-self-clause-holds c bs h = sym (cond-true _ _ _ c.if-self.true) ∙ whole_holds _ bs (c.self.view_is ∙ h)

pub returns-else-self-clause-holds : goal.returns-else-self-clause-holds
returns-else-self-clause-holds c bs h =
    ap Some c.deref.ensures.value ∙ sym (cond-false _ _ _ c.if-self.false) ∙ whole_holds _ bs (c.self.view_is ∙ h)
