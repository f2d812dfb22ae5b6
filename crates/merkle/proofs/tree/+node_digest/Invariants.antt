use Rattle.merkle.proofs.tree.+node_digest.Given as goal

abbrev pub decreases-node_digest : goal.decreases-node_digest
decreases-node_digest g l = l.level
