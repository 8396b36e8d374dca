use Rattle.std.proofs.Common.{◌≡◌, ◌+◌, ◌*◌, drop}
use Rattle.source_tree.specs.StatementCount.{each_place, statement_places}
use Rattle.check_rules.specs.Counting.{room_after}
use Rattle.check_rules.proofs.Counted.{selected_places}
use Rattle.check_rules.proofs.statement_count.+count.Given as goal

abbrev pub invariant-after_statements-loop-one : goal.invariant-after_statements-loop-one
invariant-after_statements-loop-one l =
    room_after l.fn.room (each_place statement_places l.all)
    ≡ room_after l.so_far (each_place statement_places (drop l.one-index l.all))

abbrev pub invariant-after_selected-loop-one : goal.invariant-after_selected-loop-one
invariant-after_selected-loop-one l =
    room_after l.fn.room (selected_places l.all) ≡ room_after l.so_far (selected_places (drop l.one-index l.all))

-- Each goes down by the depth of the statements in it; the WHENs of an EVALUATE are above the statements that they
-- have.
abbrev pub decreases-after_statement : goal.decreases-after_statement
decreases-after_statement l = 8 * goal.size-after_statement l

abbrev pub decreases-after_statements : goal.decreases-after_statements
decreases-after_statements l = 8 * goal.size-after_statements l + 1

abbrev pub decreases-after_selected : goal.decreases-after_selected
decreases-after_selected l = 8 * goal.size-after_selected l + 2
