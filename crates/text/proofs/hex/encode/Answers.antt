use Rattle.std.proofs.Common.{ap, ◌∙◌}
use Rattle.std.proofs.lemmas.List.{take_all}
use Rattle.merkle.proofs.Shapes.{bytes_typed}
use Rattle.text.specs.Text.{hexadecimal, unhex}
use Rattle.text.proofs.Unhex.{unhex_hex}
use Rattle.text.proofs.hex.encode.Goals as goal

pub returns : goal.returns
returns c =
    let bs = c.args.bytes.now in
    let is = c.loop-byte.invariant ∙ ap hexadecimal (take_all _ _ c.loop-byte-test.false) in
    record { value = is; reads = ap unhex is ∙ unhex_hex bs (bytes_typed bs (λ i. (c.type_inv.bytes i).fits)) }
