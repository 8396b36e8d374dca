-- What the laws of conditions, and of selection subjects and objects, say.
use Rattle.std.specs.Prelude.{◌≡◌, ◌<◌, ◌⊎◌, ℕ, List, Ok, Err}
use Rattle.tokens.specs.declared.token.Token.{Token}
use Rattle.source_tree.specs.declared.reference.Reference.{Reference}
use Rattle.source_tree.specs.declared.expression.Operand.TheVariants.{Item}
use Rattle.source_tree.specs.declared.expression.Expression.TheVariants.{Operand}
use Rattle.source_tree.specs.declared.condition.Side.{Side}
use Rattle.source_tree.specs.declared.condition.Side.TheVariants.{Expression}
use Rattle.source_tree.specs.declared.condition.Condition.TheVariants.{Name}
use Rattle.source_tree.specs.declared.evaluate_statement.Subject.TheVariants as subject_as
use Rattle.source_tree.specs.declared.evaluate_statement.Choice.TheVariants as choice_as
use Rattle.grammar.specs.declared.fault.Halt.TheVariants.{TooDeep}
use Rattle.grammar.specs.Parts.{Part}
use Rattle.grammar.specs.Reading.{Parser}
use Rattle.conditions.specs.Conditions.{condition, condition_reader}
use Rattle.conditions.specs.Evaluate.{subject, subject_reader, choice, object, object_reader}

-- what is spelled to whatever depth is read, but where it is deeper than the reader goes
abbrev pub ToDepth : {A : Type 0} → (ℕ → A → Part) → (ℕ → Parser A) → Type 0
ToDepth {A = A} p reader = (depth depth' : ℕ) (one : A) (from rest : List Token) → p depth' one from rest
    → (reader depth from ≡ Ok (one, rest)) ⊎ ((depth < depth') × (left : ℕ) × (reader depth from ≡ Err (TooDeep left)))

abbrev pub OnlyToDepth : Type 0
OnlyToDepth = ToDepth condition condition_reader

abbrev pub SubjectsToDepth : Type 0
SubjectsToDepth = ToDepth subject subject_reader

abbrev pub ObjectsToDepth : Type 0
ObjectsToDepth = ToDepth object object_reader

-- ---- a reference alone

abbrev pub item_value : Reference → Side
item_value one = Expression (Operand (Item one))

-- What spells a condition name alone, also in parentheses, is a value as a subject.
abbrev pub NamesAreValues : Type 0
NamesAreValues = (depth : ℕ) (one : Reference) (from rest : List Token) → condition depth (Name one) from rest → subject depth (subject_as.Value (item_value one)) from rest

-- As an object it is no condition.
abbrev pub NoNames : Type 0
NoNames = (depth : ℕ) (one : Reference) (from rest : List Token) → choice depth (choice_as.Condition (Name one)) from rest → ⊥
