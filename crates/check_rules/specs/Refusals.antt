-- What a refusal says of a program.
use Rattle.std.specs.Prelude.{◌≡◌, ◌⊎◌, [], Option, Some, None}
use Rattle.source_tree.specs.declared.program.Program.{Program}
use Rattle.source_tree.specs.Broken.{RuleBreach}
use Rattle.source_tree.specs.LookUp.{first}
use Rattle.source_tree.specs.Recursion.{IsRecursivePerform}
use Rattle.source_tree.specs.Rules.{program_rules}

-- 54 at a PERFORM that leads back, of a program that keeps the other rules
pub record Recurses (program : Program) (one : RuleBreach) : Type 0 where
  pub kept : program_rules program ≡ []
  pub rule : one.rule ≡ 54
  pub back : IsRecursivePerform program one.place

-- The first of the rules that are broken; or 54, where no other is.
abbrev pub IsBroken : Program → RuleBreach → Type 0
IsBroken program one = (first (program_rules program) ≡ Some one) ⊎ Recurses program one

-- of memory nothing is said
abbrev pub IsFirstFault : Program → Option RuleBreach → Type 0
IsFirstFault program None = Unit {0}
IsFirstFault program (Some one) = IsBroken program one

-- 54, at a PERFORM that leads back
abbrev pub IsBack : Program → Option RuleBreach → Type 0
IsBack program None = Unit {0}
IsBack program (Some one) = (one.rule ≡ 54) × IsRecursivePerform program one.place
