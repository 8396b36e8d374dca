use Rattle.std.proofs.Common.{drop}
use Rattle.source_tree.specs.Procedures.{procedures_from, procedures_of}
use Rattle.name_table.specs.Noting.{AreNoted}
use Rattle.name_table.proofs.procedures.procedure_names.Given as goal

abbrev pub invariant-loop-section : goal.invariant-loop-section
invariant-loop-section l =
    AreNoted (procedures_of l.sections) (procedures_from l.first (drop l.section-index l.sections)) l.names
