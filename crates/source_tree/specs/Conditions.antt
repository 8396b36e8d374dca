-- Whether a condition is true (COBOL-85, Nucleus, "Conditional expressions").
use Rattle.std.specs.Prelude.{ℕ, pos, Bool, true, false, not, ◌&&◌, ◌||◌, if◌then◌else◌, List, [], ◌∷◌, Option, Some, None, Ok}
use Rattle.std.specs.declared.cmp.Ordering.{Ordering}
use Rattle.std.specs.declared.cmp.Ordering.TheVariants as o
use Rattle.decimal18.specs.Order.{order}
use Rattle.items.specs.declared.item.Kind.{Kind}
use Rattle.items.specs.declared.item.Kind.TheVariants as kind
use Rattle.items.specs.Values.{value_of}
use Rattle.text_ops.specs.Compare.{comparison_of}
use Rattle.text_ops.specs.Classes.{is_class}
use Rattle.text_ops.specs.declared.class.Class as tested
use Rattle.text_ops.specs.declared.class.Class.TheVariants as tested_class
use Rattle.source_tree.specs.declared.literal.Literal.{Literal}
use Rattle.source_tree.specs.declared.reference.Reference.{Reference}
use Rattle.source_tree.specs.declared.entry.ValueRange.{ValueRange}
use Rattle.source_tree.specs.declared.expression.Operand.{Operand}
use Rattle.source_tree.specs.declared.expression.Operand.TheVariants as operand
use Rattle.source_tree.specs.declared.expression.Expression.{Expression, out-Expression}
use Rattle.source_tree.specs.declared.expression.Expression.TheOpen.{Expression-F}
use Rattle.source_tree.specs.declared.condition.Relation.{Relation}
use Rattle.source_tree.specs.declared.condition.Relation.TheVariants as relation
use Rattle.source_tree.specs.declared.condition.SignTest.{SignTest}
use Rattle.source_tree.specs.declared.condition.SignTest.TheVariants as sign
use Rattle.source_tree.specs.declared.condition.Class.{Class}
use Rattle.source_tree.specs.declared.condition.Class.TheVariants as class
use Rattle.source_tree.specs.declared.condition.Side.{Side}
use Rattle.source_tree.specs.declared.condition.Side.TheVariants as side
use Rattle.source_tree.specs.declared.condition.Condition.{Condition}
use Rattle.source_tree.specs.declared.condition.Condition.TheOpen.{Condition-F}
use Rattle.source_tree.specs.declared.condition.Condition.TheFolds.{fold-Condition}
use Rattle.source_tree.specs.Places.{LocatedItem}
use Rattle.source_tree.specs.Literals.{Sender, item_sender, literal_sender}
use Rattle.source_tree.specs.LookUp.{NamedCondition, conditions_named, first}
use Rattle.source_tree.specs.Storage.{Storage}
use Rattle.source_tree.specs.Evaluated.{Evaluation, ◌>>=◌, evaluation_of}
use Rattle.source_tree.specs.References.{ItemPlace, part_of, place_of, occurrence}
use Rattle.source_tree.specs.Moving.{taken_of}
use Rattle.source_tree.specs.Computed.{ArithmeticValue, operand_value, expression_value}

-- what an order says of a relation
abbrev pub satisfies : Relation → Ordering → Bool
satisfies relation.Less o.Less = true
satisfies relation.Less _ = false
satisfies relation.LessOrEqual o.Greater = false
satisfies relation.LessOrEqual _ = true
satisfies relation.Equal o.Equal = true
satisfies relation.Equal _ = false
satisfies relation.NotEqual o.Equal = false
satisfies relation.NotEqual _ = true
satisfies relation.GreaterOrEqual o.Less = false
satisfies relation.GreaterOrEqual _ = true
satisfies relation.Greater o.Greater = true
satisfies relation.Greater _ = false

-- Two operands alone: by their values, or by their characters. Bytes that are no number are a fault.
abbrev pub senders_satisfy : Relation → Sender → Sender → Evaluation Bool
senders_satisfy one a b = evaluation_of (comparison_of a.taken a.bytes b.taken b.bytes) >>= (λ ordering. Ok (satisfies one ordering))

-- ---- how an operand is taken: what is left of it is whether that is a fault

abbrev pub without_value : {A : Type 0} → Evaluation A → Evaluation (Unit {0})
without_value found = found >>= (λ value. Ok tt)

-- The bytes of a numeric item are a number.
abbrev pub take_bytes : Kind → List ℕ → Evaluation (Unit {0})
take_bytes (kind.Numeric form) bytes = without_value (evaluation_of (value_of form bytes))
take_bytes _ bytes = Ok tt

abbrev pub take_item : Storage → ItemPlace → Evaluation (Unit {0})
take_item storage place = take_bytes place.item.kind (part_of storage place)

-- an item by its subscripts and its bytes; a literal is there
abbrev pub take_operand : List LocatedItem → Operand → Storage → Evaluation (Unit {0})
take_operand items (operand.Item one) storage = place_of items one storage >>= take_item storage
take_operand items (operand.Literal one) storage = Ok tt

-- ---- relations

-- A size error in a condition is a fault (own choice).
abbrev pub numbers_satisfy : Relation → ArithmeticValue → ArithmeticValue → Evaluation Bool
numbers_satisfy one x y = evaluation_of x >>= (λ a. evaluation_of y >>= (λ b. Ok (satisfies one (order a b))))

abbrev pub zero_value : ArithmeticValue
zero_value = Some (record { coefficient = pos 0; scale = 0 })

-- the relation to zero that a sign is; NOT gives the opposite one
abbrev pub sign_relation : SignTest → Bool → Relation
sign_relation sign.Positive false = relation.Greater
sign_relation sign.Positive true = relation.LessOrEqual
sign_relation sign.Negative false = relation.Less
sign_relation sign.Negative true = relation.GreaterOrEqual
sign_relation sign.Zero false = relation.Equal
sign_relation sign.Zero true = relation.NotEqual

abbrev pub class_of : Class → tested.Class
class_of class.Numeric = tested_class.Numeric
class_of class.Alphabetic = tested_class.Alphabetic
class_of class.AlphabeticLower = tested_class.AlphabeticLower
class_of class.AlphabeticUpper = tested_class.AlphabeticUpper

abbrev pub negated_if : Bool → Bool → Bool
negated_if negated truth = if negated then not truth else truth

-- from one to another
abbrev pub lies_within : Sender → Sender → Sender → Evaluation Bool
lies_within value first last =
    senders_satisfy relation.GreaterOrEqual value first >>= (λ above. senders_satisfy relation.LessOrEqual value last >>= (λ below. Ok (above && below)))

-- A value of a condition name: the literal, or what lies from it to the last one.
abbrev pub in_range : Sender → Literal → Option Literal → Evaluation Bool
in_range value first None = senders_satisfy relation.Equal value (literal_sender first.value)
in_range value first (Some last) = lies_within value (literal_sender first.value) (literal_sender last.value)

-- All values are looked at, which tells nothing else than stopping at the first that fits: the item is a number or isn't. `found`: an
-- earlier one fitted.
abbrev pub in_ranges : Bool → Sender → List ValueRange → Evaluation Bool
in_ranges found value [] = Ok found
in_ranges found value (one ∷ more) = in_range value one.first one.last >>= (λ fits. in_ranges (found || fits) value more)

-- the operand that an expression is, if it is one alone
abbrev pub alone : Expression-F Expression → Option Operand
alone (Expression-F.Operand one) = Some one
alone _ = None

-- the operand that a side is
abbrev pub alone_side : Side → Option Operand
alone_side (side.Expression one) = alone (out-Expression one)
alone_side (side.Literal one) = Some (operand.Literal one)

abbrev pub ConditionValue : Type 0
ConditionValue = Storage → Evaluation Bool

-- `items` are those of the program.
module _ (items : List LocatedItem) where
  -- a side as a number
  abbrev pub side_number : Side → Storage → Evaluation ArithmeticValue
  side_number (side.Expression one) storage = expression_value items one storage
  side_number (side.Literal one) storage = operand_value items (operand.Literal one) storage

  -- Two operands alone are compared as what they are, others as numbers. The left one is taken before the right one's place is found.
  abbrev pub relation_of : Option Operand → Option Operand → Side → Relation → Side → ConditionValue
  relation_of (Some a) (Some b) left one right storage =
      take_operand items a storage >>= (λ _. taken_of items a storage >>= (λ x. taken_of items b storage >>= senders_satisfy one x))
  relation_of _ _ left one right storage =
      side_number left storage >>= (λ x. side_number right storage >>= numbers_satisfy one x)

  abbrev pub relation_holds : Side → Relation → Side → ConditionValue
  relation_holds left one right = relation_of (alone_side left) (alone_side right) left one right

  abbrev pub sign_holds : ArithmeticValue → Bool → SignTest → Evaluation Bool
  sign_holds x negated one = numbers_satisfy (sign_relation one negated) x zero_value

  abbrev pub class_holds : Bool → Class → Storage → ItemPlace → Evaluation Bool
  class_holds negated one storage place = Ok (negated_if negated (is_class (class_of one) place.item.kind (part_of storage place)))

  abbrev pub value_holds : NamedCondition → Storage → ItemPlace → Evaluation Bool
  value_holds found storage place = in_ranges false (item_sender place.item (part_of storage place)) found.condition.values

  abbrev pub condition_holds : Reference → Storage → NamedCondition → Evaluation Bool
  condition_holds reference storage found = occurrence items reference.subscripts found.item storage >>= value_holds found storage

  -- Whether a condition name is true: its item, in the occurrence referred to, has one of the values.
  abbrev pub name_holds : Reference → ConditionValue
  name_holds reference storage = evaluation_of (first (conditions_named items reference.item)) >>= condition_holds reference storage

  -- from the left, until the truth is known (own choice)
  abbrev pub all_hold : List ConditionValue → ConditionValue
  all_hold [] storage = Ok true
  all_hold (one ∷ more) storage = one storage >>= (λ truth. if truth then all_hold more storage else Ok false)

  abbrev pub any_holds : List ConditionValue → ConditionValue
  any_holds [] storage = Ok false
  any_holds (one ∷ more) storage = one storage >>= (λ truth. if truth then Ok true else any_holds more storage)

  abbrev pub condition_layer : Condition-F ConditionValue → ConditionValue
  condition_layer (Condition-F.Name reference) storage = name_holds reference storage
  condition_layer (Condition-F.Relation left one right) storage = relation_holds left one right storage
  condition_layer (Condition-F.Sign value negated one) storage = expression_value items value storage >>= (λ x. sign_holds x negated one)
  condition_layer (Condition-F.Class reference negated one) storage = place_of items reference storage >>= class_holds negated one storage
  condition_layer (Condition-F.Not inner) storage = inner storage >>= (λ truth. Ok (not truth))
  condition_layer (Condition-F.All parts) storage = all_hold parts storage
  condition_layer (Condition-F.Any parts) storage = any_holds parts storage

  unfoldable pub holds : Condition → ConditionValue
  holds = fold-Condition ConditionValue condition_layer
