use Rattle.std.proofs.Common.{[], ◌∷◌, replicate, refl, rules}
use Rattle.merkle.specs.Bytes.{pair_preimage}
use Rattle.merkle.proofs.Parts.{none_written, part_more, all_written}
use Rattle.merkle.proofs.preimage.pair_preimage.Goals as goal

pub returns : goal.returns
unfolding pair_preimage
returns c =
    let kind = part_more 1 _ (1 ∷ []) (none_written (replicate 65 0)) c.copy_from_slice.ensures.after refl (search rules) in
    let left = part_more 32 _ c.args.left.now kind c.copy_from_slice-2.ensures.after (search rules) (search rules) in
    all_written (part_more 32 _ c.args.right.now left c.copy_from_slice-3.ensures.after (search rules) (search rules))
