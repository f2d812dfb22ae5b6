use Rattle.std.proofs.Common.{Some, None, refl, sym, ◌∙◌}
use Rattle.record.proofs.Lines.{after_is}
use Rattle.record.proofs.Entries.{entry_is}
use Rattle.record.proofs.parse.Goals as goal

pub returns-in-Some : goal.returns-in-Some
returns-in-Some c =
    let read = entry_is c.args.line.now _ c.without_cr-line.ensures (after_is _ _ (Some c.in-Some.digits) c.in-Some.ensures.cases) refl refl in
    rw (sym read) c.sent.ensures

pub returns-in-Some-strip_prefix : goal.returns-in-Some-strip_prefix
returns-in-Some-strip_prefix c =
    let other = after_is _ _ None c.in_default.ensures.cases in
    let read = entry_is c.args.line.now _ c.without_cr-line.ensures other (after_is _ _ (Some c.in-Some-strip_prefix.digits) c.in-Some-strip_prefix.ensures.cases) refl in
    rw (sym read) c.sent-in-Some-strip_prefix.ensures

pub returns-in-Some-strip_prefix-2 : goal.returns-in-Some-strip_prefix-2
returns-in-Some-strip_prefix-2 c =
    let claimer = after_is _ _ None c.in_default.ensures.cases in
    let doubter = after_is _ _ None c.in_default-strip_prefix.ensures.cases in
    c.day.ensures ∙ entry_is c.args.line.now _ c.without_cr-line.ensures claimer doubter (after_is _ _ (Some c.in-Some-strip_prefix-2.digits) c.in-Some-strip_prefix-2.ensures.cases)

pub returns : goal.returns
returns c =
    let claimer = after_is _ _ None c.in_default.ensures.cases in
    let doubter = after_is _ _ None c.in_default-strip_prefix.ensures.cases in
    entry_is c.args.line.now _ c.without_cr-line.ensures claimer doubter (after_is _ _ None c.in_default-strip_prefix-2.ensures.cases)
