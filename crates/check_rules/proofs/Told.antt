-- What is told of a program, by the first of the rules that it breaks.
use Rattle.std.proofs.Common.{◌≡◌, [], ◌++◌, None, Some, inl, inr}
use Rattle.std.specs.Prelude.{Option}
use Rattle.source_tree.specs.Broken.{RuleBreach}
use Rattle.source_tree.specs.declared.program.Program.{Program}
use Rattle.source_tree.specs.Rules.{sections_rules, procedure_rules, program_rules, all_permitted}
use Rattle.source_tree.specs.Setting.{scope}
use Rattle.entry_rules.specs.Checks.{IsFirst}
use Rattle.declarations.specs.Declaring.{declaration_rules}
use Rattle.declarations.proofs.Firsts.{both_none}
use Rattle.check_rules.specs.Refusals.{IsFirstFault, IsBack}

pub told_first : (program : Program) (fault : Option RuleBreach) → IsFirst fault (program_rules program)
    → IsFirstFault program fault
told_first program None h = tt
told_first program (Some one) h = inl h

pub told_back : (program : Program) (fault : Option RuleBreach) → program_rules program ≡ [] → IsBack program fault
    → IsFirstFault program fault
told_back program None kept h = tt
told_back program (Some one) kept h = inr (record { kept = kept; rule = h.0; back = h.1 })

pub program_none : (program : Program) → declaration_rules program ≡ []
    → sections_rules (scope program) all_permitted program.sections ≡ []
    → procedure_rules program ≡ [] → program_rules program ≡ []
program_none program e f g =
    both_none (declaration_rules program ++ sections_rules (scope program) all_permitted program.sections)
    (procedure_rules program)
    (both_none (declaration_rules program) (sections_rules (scope program) all_permitted program.sections) e f) g
