use Rattle.btree.proofs.count.+count_levels.Given as goal

abbrev pub decreases-count_levels : goal.decreases-count_levels
decreases-count_levels g l = l.depth
