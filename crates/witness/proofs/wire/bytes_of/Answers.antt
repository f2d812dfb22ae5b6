use Rattle.std.proofs.Common.{◌≡◌, length, replicate, sym, refl, ap, ◌∙◌, arith, rules}
use Rattle.merkle.specs.Bytes.{be4}
use Rattle.merkle.proofs.Parts.{none_written, part_more, all_written}
use Rattle.witness.specs.Wire.{opening_bytes}
use Rattle.witness.proofs.wire.bytes_of.Goals as goal

pub returns : goal.returns
unfolding be4 opening_bytes
returns c =
    let n : length c.args.opening.now.siblings ≡ 16 = search rules in
    let long : length c.as_flattened.result.now ≡ 512 = omega (arith, c.as_flattened.ensures.len, n) in
    let word = part_more 4 _ (be4 c.args.opening.now.word) (none_written (replicate 516 0)) (c.copy_from_slice.ensures.after ∙ c.to_be_bytes.ensures) refl (search rules) in
    all_written (part_more 512 _ _ word (c.copy_from_slice-2.ensures.after ∙ c.as_flattened.ensures.value) (ap length (sym c.as_flattened.ensures.value) ∙ long) (search rules))
