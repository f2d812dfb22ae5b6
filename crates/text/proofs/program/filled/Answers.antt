use Rattle.std.proofs.Common.{◌≡◌, ◌-◌, ◌++◌, map, length, replicate, vec_items, vec_len, ap, ◌∙◌, arith, rules}
use Rattle.std.proofs.lemmas.Iterator.{YieldsList-from_map, YieldsList-from_slice}
use Rattle.std.proofs.lemmas.Iterator.Adapters.{items_from_extend}
use Rattle.std.proofs.lemmas.List.{take_all, length-map}
use Rattle.std.proofs.lemmas.Result.{IfOk-at_ok}
use Rattle.text.specs.Program.{word_in}
use Rattle.text.proofs.program.filled.Goals as goal

pub returns : goal.returns
returns c =
    let words = c.args.words.now in
    let m = c.extend.new.self in
    let chain = items_from_extend c.extend.result c.extend.ensures.ran (YieldsList-from_map _ word_in (YieldsList-from_slice words (cc)) c.map.ensures.closure (λ x r q k. search rules)) in
    let made = IfOk-at_ok _ c.in_ok-extend.was chain in
    let all : vec_items m ≡ map word_in words = made.0 ∙ ap (λ xs. xs ++ map word_in words) c.in_ok-memory.ensures.items in
    let n : length (vec_items m) ≡ length words = ap length all ∙ length-map words word_in in
    let k : 65536 - vec_len m ≡ 65536 - length words = omega (arith, m.ok.0) in
    c.in_ok-resize.ensures.items ∙ ap (λ xs. xs ++ replicate (65536 - vec_len m) 0) (take_all 65536 (vec_items m) (omega arith) ∙ all)
    ∙ ap (λ j. map word_in words ++ replicate j 0) k
