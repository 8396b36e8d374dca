use Rattle.std.proofs.Common.{◌+◌, List, ◌++◌, drop}
use Rattle.source_tree.specs.Procedures.{Procedure, paragraph_procedures}
use Rattle.name_table.specs.Noting.{AreNoted}
use Rattle.name_table.proofs.procedures.ProcedureNames.note_paragraphs.Given as goal

abbrev pub invariant-loop-i : goal.invariant-loop-i
invariant-loop-i l =
    (all more : List Procedure) → AreNoted all (paragraph_procedures l.first l.paragraphs ++ more) l.initial.self
    → AreNoted all (paragraph_procedures (l.first + l.i) (drop l.i l.paragraphs) ++ more) l.self
