use Rattle.std.proofs.Common.{take, drop, ap, ◌∙◌, arith}
use Rattle.witness.specs.Wire.{from_be4, opening_from}
use Rattle.witness.proofs.Fields.{other_length, witness_is}
use Rattle.witness.proofs.Witness.from_bytes.Goals as goal

pub returns-in_err-place : goal.returns-in_err-place
returns-in_err-place c = c.from_residual.ensures ∙ other_length c.args.bytes.now (λ e. let short = c.in_err-place.ensures.cases in omega (arith, e))

pub returns-in_err-register : goal.returns-in_err-register
returns-in_err-register c = c.from_residual-in_err-register.ensures ∙ other_length c.args.bytes.now (λ e. let short = c.in_err-register.ensures.cases in let p = c.in_ok-place.ensures.cases.2 in omega (arith, e))

pub returns-in_err-memory : goal.returns-in_err-memory
returns-in_err-memory c =
    c.from_residual-in_err-memory.ensures ∙ other_length c.args.bytes.now
    (λ e. let short = c.in_err-memory.ensures.cases in let p = c.in_ok-place.ensures.cases.2 in let r = c.in_ok-register.ensures.cases.2 in omega (arith, e))

pub returns-in_err-instruction : goal.returns-in_err-instruction
returns-in_err-instruction c =
    c.from_residual-in_err-instruction.ensures ∙ other_length c.args.bytes.now
    (λ e. let short = c.in_err-instruction.ensures.cases in let p = c.in_ok-place.ensures.cases.2 in let r = c.in_ok-register.ensures.cases.2 in let m = c.in_ok-memory.ensures.cases.2 in omega (arith, e))

pub returns-in_err-operand : goal.returns-in_err-operand
returns-in_err-operand c =
    c.from_residual-in_err-operand.ensures ∙ other_length c.args.bytes.now
    (λ e. let p = c.in_ok-place.ensures.cases.2 in let r = c.in_ok-register.ensures.cases.2 in let m = c.in_ok-memory.ensures.cases.2 in let i = c.in_ok-instruction.ensures.cases.2 in
    c.in_err-operand.ensures.cases (omega (arith, e)))

pub returns : goal.returns
returns c =
    let p = c.in_ok-place.ensures.cases in
    let r = c.in_ok-register.ensures.cases in
    let m = c.in_ok-memory.ensures.cases in
    let i = c.in_ok-instruction.ensures.cases in
    let w = c.in_ok-operand.ensures.cases in
    let rest = r.1 ∙ ap (drop 4) p.1 in
    let openings = m.1 ∙ ap (drop 32) rest in
    let a = p.2 in
    let b = r.2 in
    let d = m.2 in
    let e = i.2 in
    let f = w.long in
    witness_is c.args.bytes.now _ (omega arith) (c.from_be_bytes.ensures ∙ ap from_be4 p.0) (c.from_be_bytes-2.ensures ∙ ap from_be4 (r.0 ∙ ap (take 4) p.1)) (m.0 ∙ ap (take 32) rest)
    (c.opening.ensures ∙ ap opening_from (i.0 ∙ ap (take 516) openings)) (c.opening-2.ensures ∙ ap opening_from (w.same ∙ i.1 ∙ ap (drop 516) openings))
