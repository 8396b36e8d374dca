-- What a PERFORM performs keeps its rules.
use Rattle.std.specs.Prelude.{◌≡◌, []}
use Rattle.source_tree.specs.declared.perform_statement.Performed.{Performed}
use Rattle.source_tree.specs.declared.statement.Statement.{Statement}
use Rattle.source_tree.specs.Rules.{all_permitted, performed_rules, statement_rules}
use Rattle.declarations.specs.declared.declarations.Declarations.{Declarations}
use Rattle.declarations.specs.Named.{scope_in}

-- what is performed breaks no rule, in the scope of these declarations
abbrev pub KeepsPerformed : Declarations → Performed Statement → Type 0
KeepsPerformed all one =
    performed_rules (scope_in all).procedures all_permitted (statement_rules (scope_in all) all_permitted) one ≡ []
