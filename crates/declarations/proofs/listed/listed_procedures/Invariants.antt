use Rattle.std.proofs.Common.{◌≡◌, ◌++◌, drop}
use Rattle.std.specs.Prelude.{map}
use Rattle.source_tree.specs.Procedures.{procedures_from, procedures_of}
use Rattle.declarations.specs.Listed.{procedure_of}
use Rattle.declarations.proofs.listed.listed_procedures.Given as goal

abbrev pub invariant-loop-section : goal.invariant-loop-section
invariant-loop-section l =
    map procedure_of l.all.items ++ procedures_from l.first (drop l.section-index l.sections) ≡ procedures_of l.sections
