use Rattle.std.proofs.Common.{◌≡◌, drop}
use Rattle.std.specs.Prelude.{slice_get}
use Rattle.std.specs.List.{list_any}
use Rattle.name_table.specs.Table.{calls_in}
use Rattle.check_rules.specs.FiledKeys.{alternate_names}
use Rattle.check_rules.proofs.file_keys.alternates_name.Given as goal

abbrev pub invariant-loop-clause : goal.invariant-loop-clause
invariant-loop-clause l =
    list_any (alternate_names (slice_get (calls_in l.names) l.number)) l.clauses
    ≡ list_any (alternate_names (slice_get (calls_in l.names) l.number)) (drop l.clause-index l.clauses)
