use Rattle.std.proofs.Common.{vec_items, rules}
use Rattle.history.proofs.Slices.{keeps_next}
use Rattle.history.proofs.History.keep_next.Goals as goal

pub invariant_of-self-clause-kept : goal.invariant_of-self-clause-kept
invariant_of-self-clause-kept c =
    let h = c.args.self.now in
    let made = c.in_ok-slice.ensures in
    keeps_next (vec_items h.program) (vec_items h.slices) _ c.in_ok-slice.slice _ _ _ _ h.kept (search rules) c.requires made.state made.slice c.push.ensures.items
