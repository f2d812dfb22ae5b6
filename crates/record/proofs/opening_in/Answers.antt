use Rattle.std.proofs.Common.{Some, None, vec_items, sym, ap, ◌∙◌}
use Rattle.std.specs.Option.{option_map}
use Rattle.record.specs.Record.{whole}
use Rattle.record.proofs.Lines.{after_is}
use Rattle.record.proofs.Entries.{opening_is, opening_by, whole_is}
use Rattle.record.proofs.opening_in.Goals as goal

pub returns-in_default : goal.returns-in_default
returns-in_default c = opening_is c.args.line.now _ c.without_cr.ensures (after_is _ _ None c.in_default.ensures.cases)

pub returns-in_default-2 : goal.returns-in_default-2
returns-in_default-2 c =
    let word = after_is _ _ (Some c.in-Some.digits) c.in-Some.ensures.cases in
    opening_by c.args.line.now _ c.without_cr.ensures c.in-Some.digits.now word (ap (option_map vec_items) (sym c.in_default-2.is) ∙ c.in_ok-bytes.ensures)

pub returns : goal.returns
returns c =
    let word = after_is _ _ (Some c.in-Some.digits) c.in-Some.ensures.cases in
    c.ok.ensures.value ∙ whole_is c.as_slice.result.now c.try_from.result c.try_from.ensures.1 ∙ ap whole c.as_slice.ensures.value
    ∙ opening_by c.args.line.now _ c.without_cr.ensures c.in-Some.digits.now word (ap (option_map vec_items) (sym c.in-Some-2.is) ∙ c.in_ok-bytes.ensures)
