use Rattle.std.proofs.Common.{sym, refl, ◌∙◌}
use Rattle.dispute.proofs.Kept.{not_read, not_turn, in_turn, range_sent}
use Rattle.dispute.proofs.referee.Referee.receive.Goals as goal

pub returns-in_default : goal.returns-in_default
returns-in_default g c =
    let d = g.D.Digester in
    not_read d.hash g.met.D.Digester.whole d.adds _ _ c.args.self.case c.args.party _ refl (sym (c.decode.ensures d.hash) ∙ c.in_default.is)

pub returns-then-not-is_turn_of : goal.returns-then-not-is_turn_of
returns-then-not-is_turn_of g c =
    let d = g.D.Digester in
    not_turn d.hash g.met.D.Digester.whole d.adds _ _ c.args.self.case c.args.party _ _ (sym (c.decode.ensures d.hash) ∙ c.in-Some.is) refl (sym c.if-not-is_turn_of.ensures)

pub settle-requires : goal.settle-requires
settle-requires g c =
    let h = g.D.Digester.hash in
    range_sent h _ _ c.args.self.case.phase (sym (c.decode.ensures h) ∙ c.in-Some.is) _ c.after-next.ensures.value c.args.self.ok

pub returns : goal.returns
returns g c =
    let d = g.D.Digester in
    let e = c.after-next.ensures in
    in_turn d.hash g.met.D.Digester.whole d.adds _ _ c.args.self.case c.args.party _ _ (sym (c.decode.ensures d.hash) ∙ c.in-Some.is) (sym c.if-not-is_turn_of.ensures) e.seen e.few
    _ e.value _ _ (c.settle.ensures d.hash)
