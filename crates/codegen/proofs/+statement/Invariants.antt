use Rattle.std.proofs.Common.{◌≡◌, ◌+◌, ◌*◌, List, Option, length, drop}
use Rattle.std.specs.List.{AllByRecursion}
use Rattle.source_tree.specs.declared.statement.Statement.{Statement}
use Rattle.declarations.specs.Named.{scope_in}
use Rattle.condition_codegen.specs.Fragments.{append, in_order}
use Rattle.codegen.specs.Layout.{selection_fragment, statement_fragment}
use Rattle.codegen.specs.Phrases.{IsWay, met_all}
use Rattle.codegen.proofs.+statement.Given as goal

-- what is there, and what is still to come, are the whole
abbrev pub invariant-emit::emit_statements-loop-one : goal.invariant-emit::emit_statements-loop-one
invariant-emit::emit_statements-loop-one l =
    append l.code (in_order (statement_fragment (scope_in l.emitter.declarations.now)) (drop l.one-index l.all) l.code)
    ≡ append l.initial.code (in_order (statement_fragment (scope_in l.emitter.declarations.now)) l.all l.initial.code)

-- the same once all ways meet, whatever OTHER has
abbrev pub invariant-evaluate_statement::emit_groups-loop-one : goal.invariant-evaluate_statement::emit_groups-loop-one
invariant-evaluate_statement::emit_groups-loop-one l = record {
  same : (other : Option (List Statement))
      → met_all l.ways.items (append l.code (selection_fragment (scope_in l.emitter.declarations.now)
      (statement_fragment (scope_in l.emitter.declarations.now)) l.subjects (drop l.one-index l.selected) other l.code))
      ≡ append l.initial.code (selection_fragment (scope_in l.emitter.declarations.now)
      (statement_fragment (scope_in l.emitter.declarations.now)) l.subjects l.selected other l.initial.code);
  within : AllByRecursion (IsWay (length l.code.instructions)) l.ways.items;
}

-- Each goes down by the depth of the statements in it, and a caller stands above what it hands the same ones to.
abbrev pub decreases-emit::emit_statement : goal.decreases-emit::emit_statement
decreases-emit::emit_statement l = 8 * goal.size-emit::emit_statement l

abbrev pub decreases-emit::emit_statements : goal.decreases-emit::emit_statements
decreases-emit::emit_statements l = 8 * goal.size-emit::emit_statements l + 1

abbrev pub decreases-times::emit_times : goal.decreases-times::emit_times
decreases-times::emit_times l = 8 * goal.size-times::emit_times l + 4

abbrev pub decreases-times::emit_counted : goal.decreases-times::emit_counted
decreases-times::emit_counted l = 8 * goal.size-times::emit_counted l + 5

abbrev pub decreases-emit::emit_performing : goal.decreases-emit::emit_performing
decreases-emit::emit_performing l = 8 * goal.size-emit::emit_performing l + 6

abbrev pub decreases-emit::emit_turn : goal.decreases-emit::emit_turn
decreases-emit::emit_turn l = 8 * goal.size-emit::emit_turn l + 2

abbrev pub decreases-until::emit_until : goal.decreases-until::emit_until
decreases-until::emit_until l = 8 * goal.size-until::emit_until l + 5

abbrev pub decreases-until::emit_until_before : goal.decreases-until::emit_until_before
decreases-until::emit_until_before l = 8 * goal.size-until::emit_until_before l + 4

abbrev pub decreases-until::emit_until_after : goal.decreases-until::emit_until_after
decreases-until::emit_until_after l = 8 * goal.size-until::emit_until_after l + 4

abbrev pub decreases-emit::emit_branching : goal.decreases-emit::emit_branching
decreases-emit::emit_branching l = 8 * goal.size-emit::emit_branching l + 5

abbrev pub decreases-emit::emit_phrase : goal.decreases-emit::emit_phrase
decreases-emit::emit_phrase l = 8 * goal.size-emit::emit_phrase l + 2

abbrev pub decreases-emit::emit_phrases : goal.decreases-emit::emit_phrases
decreases-emit::emit_phrases l = 8 * goal.size-emit::emit_phrases l + 3

abbrev pub decreases-evaluate_statement::emit_evaluate : goal.decreases-evaluate_statement::emit_evaluate
decreases-evaluate_statement::emit_evaluate l = 8 * goal.size-evaluate_statement::emit_evaluate l + 4

abbrev pub decreases-evaluate_statement::emit_groups : goal.decreases-evaluate_statement::emit_groups
decreases-evaluate_statement::emit_groups l = 8 * goal.size-evaluate_statement::emit_groups l + 3

abbrev pub decreases-evaluate_statement::emit_selected : goal.decreases-evaluate_statement::emit_selected
decreases-evaluate_statement::emit_selected l = 8 * goal.size-evaluate_statement::emit_selected l + 2

abbrev pub decreases-string_statement::emit_stringing : goal.decreases-string_statement::emit_stringing
decreases-string_statement::emit_stringing l = 8 * goal.size-string_statement::emit_stringing l + 4

abbrev pub decreases-file_statement::emit_filing : goal.decreases-file_statement::emit_filing
decreases-file_statement::emit_filing l = 8 * goal.size-file_statement::emit_filing l + 7

abbrev pub decreases-file_statement::emit_read : goal.decreases-file_statement::emit_read
decreases-file_statement::emit_read l = 8 * goal.size-file_statement::emit_read l + 6

abbrev pub decreases-file_statement::emit_record : goal.decreases-file_statement::emit_record
decreases-file_statement::emit_record l = 8 * goal.size-file_statement::emit_record l + 6

abbrev pub decreases-file_statement::emit_delete : goal.decreases-file_statement::emit_delete
decreases-file_statement::emit_delete l = 8 * goal.size-file_statement::emit_delete l + 6

abbrev pub decreases-file_statement::emit_starting : goal.decreases-file_statement::emit_starting
decreases-file_statement::emit_starting l = 8 * goal.size-file_statement::emit_starting l + 6

abbrev pub decreases-file_statement::emit_on_file : goal.decreases-file_statement::emit_on_file
decreases-file_statement::emit_on_file l = 8 * goal.size-file_statement::emit_on_file l + 5

abbrev pub decreases-file_statement::emit_failure : goal.decreases-file_statement::emit_failure
decreases-file_statement::emit_failure l = 8 * goal.size-file_statement::emit_failure l + 4

abbrev pub decreases-file_statement::emit_success : goal.decreases-file_statement::emit_success
decreases-file_statement::emit_success l = 8 * goal.size-file_statement::emit_success l + 3

abbrev pub decreases-file_statement::emit_class_phrase : goal.decreases-file_statement::emit_class_phrase
decreases-file_statement::emit_class_phrase l = 8 * goal.size-file_statement::emit_class_phrase l + 3

abbrev pub decreases-file_statement::emit_phrase_taken : goal.decreases-file_statement::emit_phrase_taken
decreases-file_statement::emit_phrase_taken l = 8 * goal.size-file_statement::emit_phrase_taken l + 2
