use Rattle.std.proofs.Common.{◌+◌, vec_items, drop, sym, ◌∙◌, ap, rules}
use Rattle.text.proofs.Unhex.{onto, pairs_value, unhex_pairs, unhex_odd, pairs_not, pairs_more, pairs_end}
use Rattle.text.proofs.hex.decode.Goals as goal

pub returns-then-not-is_empty : goal.returns-then-not-is_empty
returns-then-not-is_empty c = sym (unhex_odd c.args.text.now (search rules))

pub loop-high-preserved : goal.loop-high-preserved
loop-high-preserved c =
    let l = c.loop-high in
    let ps = c.as_chunks.result.0.now in
    ap (λ bs. onto bs (pairs_value (drop (l.high-index + 1) ps))) c.in_ok-push.ensures.items
    ∙ pairs_more ps l.high-index (vec_items l.bytes) l.invariant c.loop-high-test.true c.in-Some.next c.in-Some.ensures

pub returns-in_default : goal.returns-in_default
returns-in_default c =
    let l = c.loop-high in
    let ps = c.as_chunks.result.0.now in
    pairs_not ps l.high-index (vec_items l.bytes) l.invariant c.loop-high-test.true c.in_default.ensures
    ∙ ap pairs_value c.as_chunks.ensures.front ∙ sym (unhex_pairs c.args.text.now (search rules))

pub returns : goal.returns
returns c =
    let l = c.loop-high in
    let ps = c.as_chunks.result.0.now in
    pairs_end ps l.high-index (vec_items l.bytes) l.invariant c.loop-high-test.false
    ∙ ap pairs_value c.as_chunks.ensures.front ∙ sym (unhex_pairs c.args.text.now (search rules))
