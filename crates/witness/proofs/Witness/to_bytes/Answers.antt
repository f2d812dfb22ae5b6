use Rattle.std.proofs.Common.{◌≡◌, ◌++◌, length, replicate, sym, refl, ap, ◌∙◌, rules}
use Rattle.std.proofs.lemmas.List.{append-nil}
use Rattle.merkle.specs.Bytes.{be4}
use Rattle.merkle.proofs.Parts.{none_written, part_more, all_written}
use Rattle.witness.specs.Wire.{opening_bytes, witness_bytes, parse}
use Rattle.witness.proofs.Wires.{shaped_read}
use Rattle.witness.proofs.Witness.to_bytes.Goals as goal

pub returns : goal.returns
unfolding be4 witness_bytes
returns c =
    let o = c.args.self.now in
    let parts : c.as_flattened.result.now ≡ opening_bytes o.instruction ++ opening_bytes o.operand =
    c.as_flattened.ensures.value ∙ (λ j. c.bytes_of.ensures j ++ append-nil (c.bytes_of-2.ensures j) j) in
    let long = c.as_flattened.ensures.len in
    let place = part_more 4 _ (be4 o.place) (none_written (replicate 1072 0)) (c.copy_from_slice.ensures.after ∙ c.to_be_bytes.ensures) refl (search rules) in
    let register = part_more 4 _ (be4 o.register) place (c.copy_from_slice-2.ensures.after ∙ c.to_be_bytes-2.ensures) refl (search rules) in
    let memory = part_more 32 _ o.memory register c.copy_from_slice-3.ensures.after (search rules) (search rules) in
    let openings = part_more 1032 _ (opening_bytes o.instruction ++ opening_bytes o.operand) memory (c.copy_from_slice-4.ensures.after ∙ parts) (ap length (sym parts) ∙ long) (search rules) in
    let value = all_written openings in
    record { value = value; reads = ap (parse 6) value ∙ shaped_read o c.shape.ensures.place c.shape.ensures.rest }
