-- Subjects and objects of EVALUATE, by what they are once their names are looked up.
use Rattle.std.proofs.Common.{◌≡◌, Bool, List, [], ◌∷◌, None, Some, refl}
use Rattle.std.specs.Prelude.{Option, not}
use Rattle.source_tree.specs.declared.reference.Reference.{Reference}
use Rattle.source_tree.specs.declared.expression.Operand.{Operand}
use Rattle.source_tree.specs.declared.expression.Operand.TheVariants as operand
use Rattle.source_tree.specs.declared.condition.Condition.TheVariants.{Name}
use Rattle.source_tree.specs.declared.evaluate_statement.Subject.{Subject}
use Rattle.source_tree.specs.declared.evaluate_statement.Choice.{Choice}
use Rattle.source_tree.specs.declared.evaluate_statement.Choice.TheVariants as choice
use Rattle.source_tree.specs.Places.{LocatedItem}
use Rattle.source_tree.specs.LookUp.{NamedCondition, conditions_named}
use Rattle.source_tree.specs.Evaluate.{ResolvedOperand, Value, Asking, condition_or_opposite, resolved_name}
use Rattle.source_tree.specs.Evaluate.{resolved_operand, resolved_subject, selection_condition, fits}
use Rattle.declarations.specs.Resolved.{named_so, condition_alone, optional_choice, optional_condition, fits_optional}

-- a value, or a condition name
abbrev pub looked_by : {V : Type 0} → V → Bool → Option Reference → ResolvedOperand V
looked_by value negated None = Value value
looked_by value negated (Some one) = Asking (condition_or_opposite (not negated) (Name one))

module _ {V : Type 0} (items : List LocatedItem) (value : V) (negated : Bool) where
  name_is : (one : Reference) (found : List NamedCondition)
      → resolved_name value negated one found ≡ looked_by value negated (named_so one found)
  name_is one [] = refl
  name_is one (first ∷ more) = refl

  pub operand_is : (one : Option Operand)
      → resolved_operand items value negated one ≡ looked_by value negated (condition_alone items one)
  operand_is (Some (operand.Item one)) = name_is one (conditions_named items one.item)
  operand_is (Some (operand.Literal one)) = refl
  operand_is None = refl

module _ (items : List LocatedItem) (subject : Subject) where
  -- what an object asks of its subject
  pub asked_is : (one : Choice) → selection_condition items subject one ≡ optional_condition
      (resolved_subject items subject) (optional_choice items one)
  asked_is choice.Any = refl
  asked_is (choice.Value negated first last) = refl
  asked_is (choice.Condition one) = refl
  asked_is (choice.Truth one) = refl

  -- whether it may stand for it
  pub fits_is : (one : Choice)
      → fits items subject one ≡ fits_optional (resolved_subject items subject) (optional_choice items one)
  fits_is choice.Any = refl
  fits_is (choice.Value negated first last) = refl
  fits_is (choice.Condition one) = refl
  fits_is (choice.Truth one) = refl
