use Rattle.std.proofs.Common.{◌≡◌, drop}
use Rattle.merkle.specs.Seen.{seen_all}
use Rattle.merkle.specs.Tree.{climb, way_preimages}
use Rattle.merkle.proofs.opening.Climber.climb.Given as goal

-- what is left to climb ends where the whole way does
abbrev pub invariant-loop-sibling : goal.invariant-loop-sibling
invariant-loop-sibling g l =
    let d = g.D.Digester in
    let rest = drop l.sibling-index l.siblings in
    let start = l.initial.self in
    (climb d.hash l.self.index l.self.digest rest ≡ climb d.hash start.index start.digest l.siblings) ×
    (seen_all d.adds (d.seen l.digester) (way_preimages d.hash l.self.index l.self.digest rest) ≡
    seen_all d.adds (d.seen l.initial.digester) (way_preimages d.hash start.index start.digest l.siblings))
