use Rattle.std.proofs.Common.{sym, ap, ◌∙◌, rules}
use Rattle.text.specs.Text.{up_to}
use Rattle.text.proofs.Digits.{number_more, number_not, number_whole, number_end}
use Rattle.text.proofs.number.parse.Goals as goal

pub returns-in_err-value : goal.returns-in_err-value
returns-in_err-value c =
    let l = c.loop-byte in
    c.from_residual.ensures
    ∙ sym (number_not c.args.text.now l.value l.byte-index c.loop-byte-test.true c.args.limit (search rules) c.in_err-value.ensures)
    ∙ number_whole c.args.text.now c.args.limit l.value l.byte-index (sym c.if-is_empty.ensures) l.invariant

pub loop-byte-preserved : goal.loop-byte-preserved
loop-byte-preserved c =
    let l = c.loop-byte in
    let e = c.in_ok-value.ensures in
    ap (up_to c.args.limit) (number_more c.args.text.now l.value l.byte-index c.loop-byte-test.true _ e.0 e.1) ∙ l.invariant

pub returns : goal.returns
returns c =
    let l = c.loop-byte in
    let e = number_end c.args.text.now c.args.limit l.value l.byte-index (sym c.if-is_empty.ensures) l.invariant c.loop-byte-test.false in
    search (rules, e)
