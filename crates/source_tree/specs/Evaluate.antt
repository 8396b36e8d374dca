-- EVALUATE (COBOL-85, Nucleus, "The EVALUATE statement"). First the subjects are taken. Which objects are met is then told by the
-- conditions that they ask of the subjects (own choice): nothing is stored in between, so that a subject has the value with which it was
-- taken at all of them.
use Rattle.std.specs.Prelude.{Bool, true, false, not, List, [], ◌∷◌, Option, Some, None, Ok}
use Rattle.source_tree.specs.declared.reference.Reference.{Reference}
use Rattle.source_tree.specs.declared.expression.Operand.{Operand}
use Rattle.source_tree.specs.declared.expression.Operand.TheVariants as operand
use Rattle.source_tree.specs.declared.condition.Relation.TheVariants.{Equal, GreaterOrEqual, LessOrEqual}
use Rattle.source_tree.specs.declared.condition.Side.{Side}
use Rattle.source_tree.specs.declared.condition.Condition.{Condition}
use Rattle.source_tree.specs.declared.condition.Condition.TheVariants.{Name, Relation, Not, All, Any}
use Rattle.source_tree.specs.declared.evaluate_statement.Subject.{Subject}
use Rattle.source_tree.specs.declared.evaluate_statement.Subject.TheVariants as subject
use Rattle.source_tree.specs.declared.evaluate_statement.Choice.{Choice}
use Rattle.source_tree.specs.declared.evaluate_statement.Choice.TheVariants as choice
use Rattle.source_tree.specs.declared.evaluate_statement.Object.{Object}
use Rattle.source_tree.specs.declared.evaluate_statement.When.{When}
use Rattle.source_tree.specs.declared.evaluate_statement.Selected.{Selected}
use Rattle.source_tree.specs.declared.evaluate_statement.Evaluate.{Evaluate}
use Rattle.source_tree.specs.Places.{LocatedItem}
use Rattle.source_tree.specs.LookUp.{NamedCondition, conditions_named}
use Rattle.source_tree.specs.Storage.{Storage}
use Rattle.source_tree.specs.Evaluated.{Evaluation, ◌>>=◌, evaluation_of}
use Rattle.source_tree.specs.Conditions.{without_value, take_operand, alone_side, side_number, holds}
use Rattle.source_tree.specs.State.{State, Outcome, in_turn, with_value}
use Rattle.source_tree.specs.Arithmetic.{in_phrase}

-- the way that fits
abbrev pub one_of : (State → Outcome) → (State → Outcome) → Bool → State → Outcome
one_of first second true s = first s
one_of first second false s = second s

-- a condition that is always true, or always false
abbrev pub constant : Bool → Condition
constant true = All []
constant false = Any []

-- a condition, or its opposite
abbrev pub condition_or_opposite : Bool → Condition → Condition
condition_or_opposite true one = one
condition_or_opposite false one = Not one

-- both true, or neither
abbrev pub alike : Condition → Condition → Condition
alike a b = Any (All (a ∷ b ∷ []) ∷ All (Not a ∷ Not b ∷ []) ∷ [])

-- the values that an object names
pub record ObjectValues : Type 0 where
  pub negated : Bool
  pub first : Side
  pub last : Option Side

-- A value equals another, or lies from it to the last one.
abbrev pub value_within : Side → Side → Option Side → Condition
value_within value first None = Relation value Equal first
value_within value first (Some last) = All (Relation value GreaterOrEqual first ∷ Relation value LessOrEqual last ∷ [])

abbrev pub value_condition : Side → ObjectValues → Condition
value_condition value one = condition_or_opposite (not one.negated) (value_within value one.first one.last)

-- What a subject or an object is once its names are looked up: a value, TRUE or FALSE, or a condition.
pub data ResolvedOperand (V : Type 0) : Type 0 where
  Value : V → ResolvedOperand V
  Truth : Bool → ResolvedOperand V
  Asking : Condition → ResolvedOperand V

-- a reference alone, which is a condition name where some condition is called so
abbrev pub resolved_name : {V : Type 0} → V → Bool → Reference → List NamedCondition → ResolvedOperand V
resolved_name value negated one [] = Value value
resolved_name value negated one (found ∷ more) = Asking (condition_or_opposite (not negated) (Name one))

abbrev pub resolved_operand : {V : Type 0} → List LocatedItem → V → Bool → Option Operand → ResolvedOperand V
resolved_operand items value negated (Some (operand.Item one)) = resolved_name value negated one (conditions_named items one.item)
resolved_operand items value negated (Some (operand.Literal one)) = Value value
resolved_operand items value negated None = Value value

-- With THRU there are values alone.
abbrev pub resolved_values : List LocatedItem → ObjectValues → Option Side → ResolvedOperand ObjectValues
resolved_values items one None = resolved_operand items one one.negated (alone_side one.first)
resolved_values items one (Some last) = Value one

abbrev pub resolved_subject : List LocatedItem → Subject → ResolvedOperand Side
resolved_subject items (subject.Value one) = resolved_operand items one false (alone_side one)
resolved_subject items (subject.Condition one) = Asking one
resolved_subject items (subject.Truth one) = Truth one

-- an object other than ANY
abbrev pub resolved_choice : List LocatedItem → Choice → ResolvedOperand ObjectValues
resolved_choice items choice.Any = Truth true
resolved_choice items (choice.Value negated first last) = resolved_values items (record { negated = negated; first = first; last = last }) last
resolved_choice items (choice.Condition one) = Asking one
resolved_choice items (choice.Truth one) = Truth one

-- whether both are values, or neither
abbrev pub are_comparable : ResolvedOperand Side → ResolvedOperand ObjectValues → Bool
are_comparable (Value a) (Value b) = true
are_comparable (Value a) _ = false
are_comparable _ (Value b) = false
are_comparable _ _ = true

-- What asks for a value, or whether two truths are the same. Where they don't fit that is never so; the rules leave no such case.
abbrev pub match_condition : ResolvedOperand Side → ResolvedOperand ObjectValues → Condition
match_condition (Value a) (Value b) = value_condition a b
match_condition (Truth a) (Truth b) = condition_or_opposite a (constant b)
match_condition (Truth a) (Asking b) = condition_or_opposite a b
match_condition (Asking a) (Truth b) = condition_or_opposite b a
match_condition (Asking a) (Asking b) = alike a b
match_condition _ _ = constant false

-- ---- how a subject is taken: what is left of it is whether that is a fault

-- `items` are those of the program.
module _ (items : List LocatedItem) where
  -- A value: an operand alone, and anything else by its number, as in a relation.
  abbrev pub take_value : Option Operand → Side → Storage → Evaluation (Unit {0})
  take_value (Some one) value storage = take_operand items one storage
  take_value None value storage = side_number items value storage >>= (λ x. without_value (evaluation_of x))

  -- A condition is taken by its truth.
  abbrev pub take_resolved : ResolvedOperand Side → Storage → Evaluation (Unit {0})
  take_resolved (Value one) storage = take_value (alone_side one) one storage
  take_resolved (Truth one) storage = Ok tt
  take_resolved (Asking one) storage = without_value (holds items one storage)

  -- each in turn
  abbrev pub take_subjects : List Subject → Storage → Evaluation (Unit {0})
  take_subjects [] storage = Ok tt
  take_subjects (one ∷ more) storage = take_resolved (resolved_subject items one) storage >>= (λ _. take_subjects more storage)

  -- ---- what objects ask

  -- whether an object may stand for a subject: ANY for each, a value for a value, what is true or false for what is true or false
  abbrev pub fits : Subject → Choice → Bool
  fits one choice.Any = true
  fits one other = are_comparable (resolved_subject items one) (resolved_choice items other)

  -- the condition that an object asks of its subject
  abbrev pub selection_condition : Subject → Choice → Condition
  selection_condition one choice.Any = constant true
  selection_condition one other = match_condition (resolved_subject items one) (resolved_choice items other)

  -- those of a WHEN, subject by subject
  abbrev pub object_conditions : List Subject → List Object → List Condition
  object_conditions (one ∷ more) (object ∷ others) = selection_condition one object.choice ∷ object_conditions more others
  object_conditions _ _ = []

  -- whether all objects of a WHEN are met
  abbrev pub when_condition : List Subject → When → Condition
  when_condition subjects one = All (object_conditions subjects one.objects)

  abbrev pub when_conditions : List Subject → List When → List Condition
  when_conditions subjects [] = []
  when_conditions subjects (one ∷ more) = when_condition subjects one ∷ when_conditions subjects more

  -- whether one of some WHENs is met
  abbrev pub selected_condition : {S : Type 0} → List Subject → Selected S → Condition
  selected_condition subjects one = Any (when_conditions subjects one.whens)

  module _ {S : Type 0} (run : S → State → Outcome) where
    -- the statements after the first WHENs of which one is met, else those of OTHER
    abbrev pub selection_outcome : List Subject → List (Selected S) → Option (List S) → State → Outcome
    selection_outcome subjects [] other s = in_phrase run other s
    selection_outcome subjects (one ∷ more) other s =
        with_value (holds items (selected_condition subjects one) s.storage) s
        (λ truth. one_of (in_turn run one.statements) (selection_outcome subjects more other) truth s)

    abbrev pub evaluate_outcome : Evaluate S → State → Outcome
    evaluate_outcome one s =
        with_value (take_subjects one.subjects s.storage) s (λ _. selection_outcome one.subjects one.selected one.other s)
