use Rattle.std.proofs.Common.{sym, ◌∙◌}
use Rattle.merkle.proofs.Walks.{climb_more, seen_more, climb_all, seen_all_lem}
use Rattle.merkle.proofs.opening.Climber.climb.Goals as goal

pub loop-sibling-preserved : goal.loop-sibling-preserved
loop-sibling-preserved g c =
    let d = g.D.Digester in
    let l = c.loop-sibling in
    let e = c.up.ensures in (
      climb_more d.hash l.self.index _ l.self.digest _ _ _ c.loop-sibling-test.true e.index e.value ∙ l.invariant.0,
      seen_more d.hash l.self.index _ l.self.digest _ _ _ c.loop-sibling-test.true e.index e.value d.adds _ _ e.seen ∙ l.invariant.1,
    )

pub returns : goal.returns
returns g c =
    let d = g.D.Digester in
    let l = c.loop-sibling in
    record {
      value = sym (climb_all d.hash l.self.index l.self.digest _ _ c.loop-sibling-test.false) ∙ l.invariant.0;
      seen = sym (seen_all_lem d.hash l.self.index l.self.digest _ _ c.loop-sibling-test.false d.adds _) ∙ l.invariant.1;
    }
