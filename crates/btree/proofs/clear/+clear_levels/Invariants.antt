use Rattle.btree.proofs.clear.+clear_levels.Given as goal

abbrev pub decreases-clear_levels : goal.decreases-clear_levels
decreases-clear_levels g l = l.depth
