-- The tree of a source text as a function, stage by stage, and what a call may answer of it.
use Rattle.std.specs.Prelude.{◌≡◌, ◌⊎◌, ℕ, List, [], ◌∷◌, Option, Some, None, Result, Ok, Err}
use Rattle.source_lines.specs.declared.lines.Character.{Character}
use Rattle.source_lines.specs.Reading.{characters_of}
use Rattle.tokens.specs.declared.token.Token.{Token}
use Rattle.tokens.specs.Scanning.{tokens}
use Rattle.source_tree.specs.declared.program.Program.{Program}
use Rattle.source_tree.specs.Broken.{RuleBreach}
use Rattle.check_rules.specs.Refusals.{Recurses}
use Rattle.divisions.specs.Faults.{parse_of}
use Rattle.compiler.specs.Faults.{StageFault, OfLines, OfTokens, OfTree, OfRules}
use Rattle.compiler.specs.Trees.{broken_rules}
use Rattle.compiler.specs.declared.fault.CompileError.{CompileError}
use Rattle.compiler.specs.declared.fault.CompileError.TheVariants.{Memory, Refused}

abbrev pub then_read : {A B F : Type 0} → Result A F → (F → StageFault) → (A → Result B StageFault) → Result B StageFault
then_read (Ok a) fault next = next a
then_read (Err e) fault next = Err (fault e)

-- the tree, unless it breaks a rule; then the first one
abbrev pub tree_by : Program → List RuleBreach → Result Program StageFault
tree_by tree [] = Ok tree
tree_by tree (one ∷ more) = Err (OfRules one)

abbrev pub tree_with_rules : Program → Result Program StageFault
tree_with_rules tree = tree_by tree (broken_rules tree)

abbrev pub tree_in_tokens : List Token → Result Program StageFault
tree_in_tokens found = then_read (parse_of found) OfTree tree_with_rules

abbrev pub tree_in_characters : List Character → Result Program StageFault
tree_in_characters characters = then_read (tokens characters) OfTokens tree_in_tokens

-- the tree of a source text, or its first fault; of PERFORMs that lead back nothing is said here
abbrev pub tree_of : List ℕ → Result Program StageFault
tree_of source = then_read (characters_of source) OfLines tree_in_characters

-- What may be answered where this is the tree: it, or that memory ran out.
abbrev pub IsTreeAnswer : Program → Result Program CompileError → Type 0
IsTreeAnswer tree (Ok answer) = answer ≡ tree
IsTreeAnswer tree (Err Memory) = Unit {0}
IsTreeAnswer tree (Err (Refused fault)) = ⊥

-- 54, told of a tree that keeps the other rules
pub record IsRecursion (tree : Program) (fault : StageFault) : Type 0 where
  pub broken : RuleBreach
  pub is : fault ≡ OfRules broken
  pub back : Recurses tree broken

-- What may be told of a tree: the first rule that it breaks, or a PERFORM that leads back. Of memory nothing is said.
abbrev pub IsReported : Program → Option StageFault → Type 0
IsReported tree None = Unit {0}
IsReported tree (Some fault) = (tree_with_rules tree ≡ Err fault) ⊎ IsRecursion tree fault

-- the same of a source text: the first fault of its stages, or a PERFORM that leads back where there is none
abbrev pub IsFaultOf : List ℕ → Option StageFault → Type 0
IsFaultOf source None = Unit {0}
IsFaultOf source (Some fault) = (tree_of source ≡ Err fault) ⊎ ((tree : Program) × (tree_of source ≡ Ok tree) × IsRecursion tree fault)
