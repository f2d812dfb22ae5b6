use Rattle.std.proofs.Common.{◌≡◌, length, drop}
use Rattle.merkle.specs.Tree.{way_preimages}
use Rattle.merkle.specs.Strings.{two_bytes}
use Rattle.merkle.specs.Collision.{or_else, last_difference}
use Rattle.merkle.proofs.opening.Opening.difference.Given as goal

-- what is left of the search ends where the whole search does
abbrev pub invariant-loop-sibling : goal.invariant-loop-sibling
invariant-loop-sibling g l =
    let h = g.D.Digester.hash in
    let ss = l.one.siblings in
    let ts = l.other.siblings in
    let k = length l.yielded in
    let from = l.initial.way in
    let other_from = l.initial.other_way in
    or_else (last_difference (way_preimages h l.way.index l.way.digest (drop k ss)) (way_preimages h l.other_way.index l.other_way.digest (drop k ts))) (two_bytes l.found) ≡
    or_else (last_difference (way_preimages h from.index from.digest ss) (way_preimages h other_from.index other_from.digest ts)) (two_bytes l.initial.found)
