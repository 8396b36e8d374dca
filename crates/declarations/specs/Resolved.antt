-- Subjects and objects of EVALUATE that are looked up, and what is asked, in the words of the tree.
use Rattle.std.specs.Prelude.{Bool, true, false, not, List, [], ◌∷◌, Option, Some, None, Result, Ok, Err}
use Rattle.source_tree.specs.declared.reference.Reference.{Reference}
use Rattle.source_tree.specs.declared.expression.Operand.{Operand}
use Rattle.source_tree.specs.declared.expression.Operand.TheVariants as operand
use Rattle.source_tree.specs.declared.condition.Side.{Side}
use Rattle.source_tree.specs.declared.condition.Condition.{Condition}
use Rattle.source_tree.specs.declared.condition.Condition.TheVariants.{Name}
use Rattle.source_tree.specs.declared.evaluate_statement.Choice.{Choice}
use Rattle.source_tree.specs.declared.evaluate_statement.Choice.TheVariants as choice
use Rattle.source_tree.specs.Places.{LocatedItem}
use Rattle.source_tree.specs.LookUp.{NamedCondition, conditions_named}
use Rattle.source_tree.specs.Evaluate.{ObjectValues, ResolvedOperand, Value, Truth, Asking, constant, condition_or_opposite, alike, value_condition, resolved_values, resolved_choice, are_comparable, match_condition}
use Rattle.source_tree.specs.Broken.{RuleBreach}
use Rattle.entry_rules.specs.declared.rule.BrokenRule.{BrokenRule}
use Rattle.entry_rules.specs.Checks.{broken_of}
use Rattle.declarations.specs.declared.resolved.AskedCondition.{AskedCondition}
use Rattle.declarations.specs.declared.resolved.AskedCondition.TheVariants as asked
use Rattle.declarations.specs.declared.resolved.ObjectRange.{ObjectRange}
use Rattle.declarations.specs.declared.resolved.ResolvedSubject.{ResolvedSubject}
use Rattle.declarations.specs.declared.resolved.ResolvedSubject.TheVariants as subject
use Rattle.declarations.specs.declared.resolved.ResolvedObject.{ResolvedObject}
use Rattle.declarations.specs.declared.resolved.ResolvedObject.TheVariants as object
use Rattle.declarations.specs.declared.resolved.Question.{Question}
use Rattle.declarations.specs.declared.resolved.Question.TheVariants as question

-- ---- names

abbrev pub are_some : List NamedCondition → Bool
are_some [] = false
are_some (one ∷ more) = true

-- the reference that an operand is
abbrev pub item_of : Option Operand → Option Reference
item_of (Some (operand.Item one)) = Some one
item_of (Some (operand.Literal one)) = None
item_of None = None

-- where some condition is called so
abbrev pub named_so : Reference → List NamedCondition → Option Reference
named_so one [] = None
named_so one (found ∷ more) = Some one

abbrev pub condition_named : List LocatedItem → Option Reference → Option Reference
condition_named items None = None
condition_named items (Some one) = named_so one (conditions_named items one.item)

-- the condition name that an operand is
abbrev pub condition_alone : List LocatedItem → Option Operand → Option Reference
condition_alone items one = condition_named items (item_of one)

-- ---- what is looked up

abbrev pub condition_meant : AskedCondition → Condition
condition_meant (asked.Name negated one) = condition_or_opposite (not negated) (Name one.now)
condition_meant (asked.Other one) = one.now

abbrev pub values_meant : ObjectRange → ObjectValues
values_meant one = record { negated = one.negated; first = one.first.now; last = one.last.now }

abbrev pub subject_meant : ResolvedSubject → ResolvedOperand Side
subject_meant (subject.Value one) = Value one.now
subject_meant (subject.Truth one) = Truth one
subject_meant (subject.Condition one) = Asking (condition_meant one)

-- ANY names nothing.
abbrev pub object_meant : ResolvedObject → Option (ResolvedOperand ObjectValues)
object_meant object.Any = None
object_meant (object.Value one) = Some (Value (values_meant one))
object_meant (object.Truth one) = Some (Truth one)
object_meant (object.Condition one) = Some (Asking (condition_meant one))

abbrev pub optional_values : List LocatedItem → ObjectValues → Option (ResolvedOperand ObjectValues)
optional_values items one = Some (resolved_values items one one.last)

abbrev pub optional_choice : List LocatedItem → Choice → Option (ResolvedOperand ObjectValues)
optional_choice items choice.Any = None
optional_choice items other = Some (resolved_choice items other)

-- ---- what is asked

abbrev pub question_meant : Question → Condition
question_meant question.Nothing = constant true
question_meant (question.Within value wanted) = value_condition value.now (values_meant wanted)
question_meant (question.Truths one other) = condition_or_opposite one (constant other)
question_meant (question.Told truth one) = condition_or_opposite truth (condition_meant one)
question_meant (question.Alike one other) = alike (condition_meant one) (condition_meant other)
question_meant question.Unfit = constant false

abbrev pub is_fit : Question → Bool
is_fit question.Unfit = false
is_fit _ = true

-- ANY fits each subject, and asks nothing.
abbrev pub optional_condition : ResolvedOperand Side → Option (ResolvedOperand ObjectValues) → Condition
optional_condition subject None = constant true
optional_condition subject (Some object) = match_condition subject object

abbrev pub fits_optional : ResolvedOperand Side → Option (ResolvedOperand ObjectValues) → Bool
fits_optional subject None = true
fits_optional subject (Some object) = are_comparable subject object

-- ---- what is told

-- the rule that is broken
abbrev pub broken_in : {A : Type 0} → Result A BrokenRule → Option RuleBreach
broken_in (Ok value) = None
broken_in (Err one) = Some (broken_of one)
