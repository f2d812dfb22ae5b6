use Rattle.std.proofs.Common.{◌∙◌, rules}
use Rattle.merkle.proofs.Nodes.{node_leaf, seen_leaf, node_join, seen_join, parts}
use Rattle.merkle.proofs.tree.+node_digest.Goals as goal

pub returns-then-level-eq0 : goal.returns-then-level-eq0
returns-then-level-eq0 g t c =
    let d = g.D.Digester in
    let e = c.word_digest.ensures in
    record {
      value = e.value ∙ node_leaf d.hash c.args.level c.args.index _ _ c.if-level-eq0.true c.word_at.ensures;
      seen = seen_leaf d.hash c.args.level c.args.index _ _ c.if-level-eq0.true c.word_at.ensures d.adds _ _ e.seen;
    }

pub node_digest-left-requires : goal.node_digest-left-requires
node_digest-left-requires g t c κs within = (search rules, (within, (parts c.args.level c.args.index 65536 c.if-level-eq0.false c.requires).left))

pub node_digest-right-requires : goal.node_digest-right-requires
node_digest-right-requires g t c κs within = (search rules, (within, (parts c.args.level c.args.index 65536 c.if-level-eq0.false c.requires).right))

pub returns : goal.returns
returns g t c =
    let d = g.D.Digester in
    let l = c.node_digest-left.ensures in
    let r = c.node_digest-right.ensures in
    let p = c.pair_digest.ensures in
    record {
      value = p.value ∙ node_join d.hash c.args.level c.args.index c.args.memory.now _ _ c.if-level-eq0.false l.value r.value;
      seen = seen_join d.hash c.args.level c.args.index c.args.memory.now _ _ c.if-level-eq0.false l.value r.value d.adds _ _ _ _ l.seen r.seen p.seen;
    }
