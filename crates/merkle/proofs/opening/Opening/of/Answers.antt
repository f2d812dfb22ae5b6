use Rattle.std.proofs.Common.{◌≡◌, suc, ◌+◌, ◌-◌, ◌*◌, ◌^◌, ◌<◌, ◌≤◌, length, get_or, sym, ap, ◌∙◌, subst, arith, rules}
use Rattle.std.proofs.lemmas.List.{length-set}
use Rattle.merkle.specs.declared.opening.Opening.{Opening}
use Rattle.merkle.specs.Tree.{node}
use Rattle.merkle.specs.Openings.{opened, honest}
use Rattle.merkle.proofs.Siblings.{sibling_more, siblings_all, sibling_fits, half_below}
use Rattle.merkle.proofs.Honest.{opens, updates}
use Rattle.merkle.proofs.opening.Opening.of.Goals as goal

pub node_digest-requires : goal.node_digest-requires
node_digest-requires g c =
    let l = c.loop-level in
    subst (λ x. (x + 1) * 2 ^ l.level ≤ 65536) (sym c.sibling.ensures) (sibling_fits 16 l.level l.index c.loop-level-test.true l.invariant.1)

pub loop-level-preserved : goal.loop-level-preserved
loop-level-preserved g c =
    let h = g.D.Digester.hash in
    let l = c.loop-level in
    let m = c.args.memory.now in
    let n = l.invariant.2 in
    let within : c.loop-level.level < length c.loop-level.beside-items = omega arith in
    let s : suc (16 - (c.loop-level.level + 1)) ≡ 16 - c.loop-level.level = omega arith in
    let v = c.node_digest.ensures.value ∙ ap (λ x. node h l.level x m) c.sibling.ensures in (
      sibling_more h (16 - l.level) (16 - (l.level + 1)) l.level l.index m _ l.beside-items within s v ∙ l.invariant.0,
      half_below 16 l.level l.index c.loop-level-test.true l.invariant.1,
      length-set l.beside-items l.level c.node_digest.result ∙ n,
    )

pub returns : goal.returns
returns g c =
    let h = g.D.Digester.hash in
    let l = c.loop-level in
    let m = c.args.memory.now in
    let place = c.args.place in
    let low : c.args.place < 65536 = search rules in
    let w = c.word_at.ensures ∙ ap (λ a. get_or m a 0) c.from.ensures in
    let s = sym (siblings_all h (16 - l.level) l.level l.index m l.beside-items (omega arith) (omega (arith, l.invariant.2))) ∙ l.invariant.0 in
    let whole : ◌≡◌ {A = Opening} (record { word = c.word_at.result; siblings = c.loop-level.beside-items }) (honest h place m) = λ j. record { word = w j; siblings = s j } in
    record {
      value = whole;
      opens = ap (opened h place) whole ∙ opens h place m low;
      updates = λ v within. ap (λ x. opened h place (record { word = v; siblings = x })) s ∙ updates h place v m low within;
    }
