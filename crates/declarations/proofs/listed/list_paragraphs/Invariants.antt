use Rattle.std.proofs.Common.{◌≡◌, ◌+◌, ◌++◌, drop}
use Rattle.std.specs.Prelude.{map}
use Rattle.source_tree.specs.Procedures.{paragraph_procedures}
use Rattle.declarations.specs.Listed.{procedure_of}
use Rattle.declarations.proofs.listed.list_paragraphs.Given as goal

abbrev pub invariant-loop-i : goal.invariant-loop-i
invariant-loop-i l =
    map procedure_of l.out.items ++ paragraph_procedures (l.first + l.i) (drop l.i l.paragraphs)
    ≡ map procedure_of l.initial.out.items ++ paragraph_procedures l.first l.paragraphs
