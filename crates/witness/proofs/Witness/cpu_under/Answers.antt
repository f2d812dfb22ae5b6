use Rattle.std.proofs.Common.{◌∙◌}
use Rattle.witness.proofs.Checks.{high_refused, high_unseen, low_decided, low_seen}
use Rattle.witness.proofs.Witness.cpu_under.Goals as goal

pub returns-in_err-place : goal.returns-in_err-place
returns-in_err-place g c =
    let d = g.D.Digester in
    let o = c.args.self.now in
    let start = c.args.start.now in
    let p = c.low_place.ensures in
    let none = c.in_err-place.was in
    record { value = c.from_residual.ensures ∙ high_refused d.hash start o _ p none; seen = high_unseen d.hash start o _ p d.adds _ none }

pub returns : goal.returns
returns g c =
    let d = g.D.Digester in
    let o = c.args.self.now in
    let start = c.args.start.now in
    let p = c.low_place.ensures in
    let some = c.in_ok-place.was in
    let s = c.state_digest-digest.ensures in
    record {
      value = c.then_some.ensures ∙ low_decided d.hash start o _ p _ some _ s.value _ c.eq.ensures;
      seen = low_seen d.hash start o _ p _ some _ s.value d.adds _ _ s.seen;
    }
