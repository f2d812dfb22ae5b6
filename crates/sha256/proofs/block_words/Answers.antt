use Rattle.std.proofs.Common.{◌≡◌, map, length, sym, ap, ◌∙◌, arith, rules}
use Rattle.std.specs.Simd.{first_chunks}
use Rattle.std.proofs.lemmas.List.{take_all}
use Rattle.sha256.specs.Sha256.{word, words}
use Rattle.sha256.proofs.block_words.Goals as goal

pub returns : goal.returns
unfolding words
returns c =
    let l = c.loop-t in
    let n : length c.unwrap-chunks.result.now ≡ 16 = search rules in
    let chunks : c.unwrap-chunks.result.now ≡ first_chunks 4 16 c.args.block.now = search rules in
    sym (take_all l.t l.word-items (omega arith)) ∙ l.invariant ∙ ap (map word) (take_all l.t c.unwrap-chunks.result.now (omega arith) ∙ chunks)
