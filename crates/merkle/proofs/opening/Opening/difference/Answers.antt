use Rattle.std.proofs.Common.{◌≡◌, ◌≤◌, [], length, sym, ap, ◌∙◌, arith, rules}
use Rattle.std.proofs.lemmas.Slice.Zip.{zip_turn, zip_end}
use Rattle.std.proofs.lemmas.List.{length_push}
use Rattle.merkle.specs.Tree.{parent_preimage}
use Rattle.merkle.specs.Strings.{two_bytes}
use Rattle.merkle.proofs.Searches.{search_start, search_more, search_all}
use Rattle.merkle.proofs.Bindings.{binds}
use Rattle.merkle.proofs.opening.Opening.difference.Goals as goal

pub loop-sibling-preserved : goal.loop-sibling-preserved
loop-sibling-preserved g c =
    let h = g.D.Digester.hash in
    let l = c.loop-sibling in
    let turn = zip_turn c.args.one.now.siblings c.args.other.now.siblings l.yielded _ l.sibling-iterator c.next.new.self c.next.result (search rules) (search rules) l.yielded_by _ c.in-Some.is c.next.ensures.steps in
    let u = c.up-pair.ensures in
    let v = c.up-other_pair.ensures in
    let one = ap (parent_preimage l.way.index l.way.digest) (turn.2 []) in
    let other = ap (parent_preimage l.other_way.index l.other_way.digest) (turn.3 []) in
    search_more h l.way.index l.other_way.index _ _ l.way.digest l.other_way.digest _ _ _ _ _ _ (length l.yielded) turn.0 turn.1 u.index v.index
    (u.value ∙ ap h one) (v.value ∙ ap h other) (u.string ∙ one) (v.string ∙ other) _ _ _ (length_push l.yielded _) c.differ-found-in-loop-sibling.ensures ∙ l.invariant

pub returns : goal.returns
returns g c =
    let h = g.D.Digester.hash in
    let l = c.loop-sibling in
    let end = zip_end c.args.one.now.siblings c.args.other.now.siblings l.yielded _ l.sibling-iterator c.next.new.self c.next.result (search rules) (search rules) l.yielded_by c.in-None.is c.next.ensures.steps in
    let w = c.at-word.ensures in
    let x = c.at-other_word.ensures in
    let n : length c.args.one.now.siblings ≡ 16 = search rules in
    let m : length c.args.other.now.siblings ≡ 16 = search rules in
    let past : length c.args.one.now.siblings ≤ length c.loop-sibling.yielded = omega (arith, end, n, m) in
    record {
      value = sym (search_all h l.way.index l.other_way.index l.way.digest l.other_way.digest _ _ (length l.yielded) (two_bytes l.found) past) ∙ l.invariant
          ∙ search_start h c.args.place c.args.other_place _ _ c.args.one.now.word c.args.other.now.word _ _ _ _ _ _ _ w.index x.index w.string x.string w.value x.value c.differ-found.ensures;
      binds = binds h g.met.D.Digester.whole c.args.place c.args.one.now c.args.other.now c.shape.ensures c.shape-2.ensures;
    }
