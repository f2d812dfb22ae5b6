use Rattle.std.proofs.Common.{◌≡◌, length, vec_len, arith, ap, ◌∙◌, ◌==◌}
use Rattle.record.proofs.Holding.{empty_holds}
use Rattle.record.proofs.line.Line.is_empty.Goals as goal

pub returns-clause-holds : goal.returns-clause-holds
returns-clause-holds c bs h =
    let items : vec_len c.self.inside.bytes ≡ length c.self.inside.bytes.items = omega (arith, c.self.inside.bytes.ok.0) in
    c.is_empty.ensures ∙ ap (λ n. n == 0) items ∙ empty_holds _ bs (c.self.view_is ∙ h)
