-- A program that keeps the rules, and what it declares.
use Rattle.std.specs.Prelude.{◌≡◌, []}
use Rattle.source_tree.specs.declared.program.Program.{Program}
use Rattle.source_tree.specs.Recursion.{HasOrder}
use Rattle.source_tree.specs.Rules.{program_rules}
use Rattle.declarations.specs.declared.declarations.Declarations.{Declarations}
use Rattle.declarations.specs.Named.{Declares}

pub record KeepsRules (program : Program) (declarations : Declarations) : Type 0 where
  pub rules : program_rules program ≡ []
  pub order : HasOrder program
  pub declares : Declares program declarations
