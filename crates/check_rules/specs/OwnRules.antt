-- The rules of a statement without those of the statements in it.
use Rattle.std.specs.Prelude.{List, [], ◌++◌}
use Rattle.source_tree.specs.declared.conditional_statement.ConditionalStatement.{ConditionalStatement}
use Rattle.source_tree.specs.declared.conditional_statement.ConditionalStatement.TheVariants as branch
use Rattle.source_tree.specs.declared.perform_statement.Performed.{Performed}
use Rattle.source_tree.specs.declared.perform_statement.Performed.TheVariants.{Procedures, Statements}
use Rattle.source_tree.specs.declared.perform_statement.PerformStatement.{PerformStatement}
use Rattle.source_tree.specs.declared.statement.Verb.{Verb}
use Rattle.source_tree.specs.declared.statement.Verb.TheVariants as verb
use Rattle.source_tree.specs.Places.{LocatedItem}
use Rattle.source_tree.specs.Procedures.{Procedure}
use Rattle.source_tree.specs.Setting.{Scope}
use Rattle.source_tree.specs.Broken.{RuleBreach, each}
use Rattle.source_tree.specs.ArithmeticRules.{operation_rules}
use Rattle.source_tree.specs.ConditionRules.{condition_rules}
use Rattle.source_tree.specs.EvaluateRules.{subject_rules}
use Rattle.source_tree.specs.FilingRules.{filing_rules}
use Rattle.source_tree.specs.PerformRules.{range_rules}
use Rattle.source_tree.specs.Rules.{all_permitted, moving_rules, text_rules, turns_rules}
use Rattle.source_tree.specs.StringRules.{string_rules}

-- a condition, or the subjects of an EVALUATE
abbrev pub own_branching : List LocatedItem → {S : Type 0} → ConditionalStatement S → List RuleBreach
own_branching items (branch.If condition statements otherwise) = condition_rules items condition
own_branching items (branch.Evaluate one) = each (subject_rules items) one.subjects

-- the procedures that a PERFORM names
abbrev pub named_range : List Procedure → {S : Type 0} → Performed S → List RuleBreach
named_range procedures (Procedures first last) = range_rules all_permitted procedures first last
named_range procedures (Statements statements) = []

abbrev pub own_performing : Scope → {S : Type 0} → PerformStatement S → List RuleBreach
own_performing scope one = turns_rules scope.items one.turns ++ named_range scope.procedures one.performed

-- by the family of the statement
abbrev pub own_rules : Scope → {S : Type 0} → Verb S → List RuleBreach
own_rules scope (verb.DataStatement one) = moving_rules scope.items one
own_rules scope (verb.Arithmetic one) = operation_rules scope.items one.operation
own_rules scope (verb.ConditionalStatement one) = own_branching scope.items one
own_rules scope (verb.PerformStatement one) = own_performing scope one
own_rules scope (verb.TextStatement one) = text_rules scope.items one
own_rules scope (verb.StringStatement one) = string_rules scope.items one
own_rules scope (verb.FileStatement one) = filing_rules scope.items scope.files one
own_rules scope (verb.ControlStatement one) = []
