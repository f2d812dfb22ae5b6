use Rattle.std.proofs.Common.{sym}
use Rattle.witness.proofs.Checks.{root_kept, root_stored_lem, kept_seen, stored_seen}
use Rattle.witness.proofs.Witness.root_next.Goals as goal

pub returns-then-not-stores : goal.returns-then-not-stores
returns-then-not-stores g c =
    let d = g.D.Digester in
    let f = sym c.if-not-stores.ensures in
    record { value = root_kept d.hash c.args.self.now _ c.requires f; seen = kept_seen d.hash c.args.self.now _ c.requires d.adds _ f }

pub returns : goal.returns
returns g c =
    let d = g.D.Digester in
    let t = sym c.if-not-stores.ensures in
    let e = c.climb.ensures in
    record {
      value = root_stored_lem d.hash c.args.self.now _ c.requires _ _ t c.place_of.ensures e.value;
      seen = stored_seen d.hash c.args.self.now _ c.requires d.adds _ _ _ t c.place_of.ensures e.seen;
    }
