use Rattle.std.proofs.Common.{[], ◌∷◌, replicate, refl, ◌∙◌, rules}
use Rattle.merkle.specs.Bytes.{be4, word_preimage}
use Rattle.merkle.proofs.Parts.{none_written, part_more, all_written}
use Rattle.merkle.proofs.preimage.word_preimage.Goals as goal

pub returns : goal.returns
unfolding be4 word_preimage
returns c =
    let kind = part_more 1 _ (0 ∷ []) (none_written (replicate 5 0)) c.copy_from_slice.ensures.after refl (search rules) in
    all_written (part_more 4 _ (be4 c.args.word) kind (c.copy_from_slice-2.ensures.after ∙ c.to_be_bytes.ensures) refl (search rules))
