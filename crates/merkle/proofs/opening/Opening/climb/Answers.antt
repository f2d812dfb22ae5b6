use Rattle.std.proofs.Common.{◌≡◌, length, ◌∙◌, arith, rules}
use Rattle.std.proofs.lemmas.List.{take_all}
use Rattle.merkle.specs.Bytes.{word_preimage}
use Rattle.merkle.proofs.Walks.{climb_word, seen_word, way_count}
use Rattle.merkle.proofs.opening.Opening.climb.Goals as goal

pub returns : goal.returns
returns g c =
    let d = g.D.Digester in
    let w = c.at.ensures in
    let e = c.climb.ensures in
    let o = c.args.self.now in
    let place = w.index ∙ c.from.ensures in
    let n : length c.args.self.now.siblings ≡ 16 = search rules in
    record {
      value = e.value ∙ climb_word d.hash c.args.place _ o.word _ o.siblings _ place w.value (search (rules, take_all));
      seen = e.seen ∙ seen_word d.hash c.args.place _ o.word _ o.siblings _ place w.value (search (rules, take_all)) d.adds _ _ w.seen;
      count = omega (arith, way_count d.hash c.args.place (d.hash (word_preimage o.word)) o.siblings, n);
    }
