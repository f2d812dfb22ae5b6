use Rattle.std.proofs.Common.{[], ◌∷◌, replicate, refl, ◌∙◌, rules}
use Rattle.merkle.specs.Bytes.{be4, state_preimage}
use Rattle.merkle.proofs.Parts.{none_written, part_more, all_written}
use Rattle.merkle.proofs.preimage.state_preimage.Goals as goal

pub returns : goal.returns
unfolding be4 state_preimage
returns c =
    let kind = part_more 1 _ (2 ∷ []) (none_written (replicate 41 0)) c.copy_from_slice.ensures.after refl (search rules) in
    let place = part_more 4 _ (be4 c.args.place) kind (c.copy_from_slice-2.ensures.after ∙ c.to_be_bytes.ensures) refl (search rules) in
    let register = part_more 4 _ (be4 c.args.register) place (c.copy_from_slice-3.ensures.after ∙ c.to_be_bytes-2.ensures) refl (search rules) in
    all_written (part_more 32 _ c.args.memory.now register c.copy_from_slice-4.ensures.after (search rules) (search rules))
