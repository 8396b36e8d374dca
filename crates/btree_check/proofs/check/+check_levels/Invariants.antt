use Rattle.btree_check.proofs.check.+check_levels.Given as goal

-- proposed from what the function passes where it calls itself
abbrev pub decreases-check_levels : goal.decreases-check_levels
decreases-check_levels g l = l.depth
