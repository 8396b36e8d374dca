-- A value is taken as a relation takes its left side: beside ZERO, with which each value may be compared and which has
-- no fault.
use Rattle.std.proofs.Common.{◌≡◌, ℕ, pos, Bool, false, List, Option, Some, None, Ok, Err, refl, ap, ◌∙◌}
use Rattle.decimal18.specs.Fraction.{Fraction}
use Rattle.decimal18.specs.Order.{order}
use Rattle.items.specs.declared.item.Kind.{Kind}
use Rattle.items.specs.declared.item.Kind.TheVariants as kind
use Rattle.items.specs.Values.{value_of}
use Rattle.lexical.specs.declared.place.Place.{Place}
use Rattle.text_ops.specs.Compare as compare
use Rattle.source_tree.specs.declared.literal.Figurative.TheVariants as figurative
use Rattle.source_tree.specs.declared.literal.LiteralValue.TheVariants as literal
use Rattle.source_tree.specs.declared.expression.Operand.{Operand}
use Rattle.source_tree.specs.declared.expression.Operand.TheVariants as operand
use Rattle.source_tree.specs.declared.condition.Relation.TheVariants as relation
use Rattle.source_tree.specs.declared.condition.Side.{Side}
use Rattle.source_tree.specs.declared.condition.Side.TheVariants as side
use Rattle.source_tree.specs.declared.condition.Condition.TheVariants as condition
use Rattle.source_tree.specs.Places.{LocatedItem}
use Rattle.source_tree.specs.Literals.{item_sender, literal_sender}
use Rattle.source_tree.specs.Storage.{Storage}
use Rattle.source_tree.specs.Evaluated.{Evaluation, ◌>>=◌, evaluation_of}
use Rattle.source_tree.specs.References.{ItemPlace, part_of, place_of}
use Rattle.source_tree.specs.Moving.{taken_of}
use Rattle.source_tree.specs.Computed.{ArithmeticValue}
use Rattle.source_tree.specs.ConditionRules.{is_literal_alone}
use Rattle.source_tree.specs.Conditions.{satisfies, senders_satisfy, without_value, take_bytes, take_item, take_operand}
use Rattle.source_tree.specs.Conditions.{numbers_satisfy, zero_value, alone_side, relation_of, side_number, holds}
use Rattle.source_tree.specs.Evaluate.{take_value}
use Rattle.source_tree.proofs.Folded.{relation_tells}

-- ZERO, wherever it is written
abbrev pub zero_at : Place → Side
zero_at place = side.Literal (record { value = literal.Figurative figurative.Zero; place = place })

number_beside : (found : Evaluation ArithmeticValue) → without_value
    (found >>= (λ x. numbers_satisfy relation.Equal x zero_value)) ≡ (found >>= (λ x. without_value (evaluation_of x)))
number_beside (Ok (Some x)) = refl
number_beside (Ok None) = refl
number_beside (Err fault) = refl

-- an order that is there where a number is
order_beside : (found : Option Fraction) (zero : Fraction)
    → without_value (evaluation_of (compare.both order found (Some zero)) >>=
    (λ ordering. Ok (satisfies relation.Equal ordering))) ≡ without_value (evaluation_of found)
order_beside (Some x) zero = refl
order_beside None zero = refl

bytes_beside : (one : Kind) (length : ℕ) (bytes : List ℕ)
    → without_value (senders_satisfy relation.Equal (item_sender (record { kind = one; length = length }) bytes)
    (literal_sender (literal.Figurative figurative.Zero)))
    ≡ take_bytes one bytes
unfolding compare.comparison_of
bytes_beside kind.Group length bytes = refl
bytes_beside (kind.Alphabetic justified) length bytes = refl
bytes_beside (kind.Alphanumeric justified) length bytes = refl
bytes_beside kind.AlphanumericEdited length bytes = refl
bytes_beside (kind.NumericEdited blank) length bytes = refl
bytes_beside (kind.Numeric form) length bytes =
    order_beside (value_of form bytes) (record { coefficient = pos 0; scale = 0 })

-- taken once more before it
taken_before : (take : Evaluation (Unit {0})) (found : Evaluation Bool) → without_value found ≡ take
    → without_value (take >>= (λ _. found)) ≡ take
taken_before (Ok value) found e = e
taken_before (Err fault) found e = refl

module _ (items : List LocatedItem) where
  pub item_beside : (storage : Storage) (found : Evaluation ItemPlace)
      → without_value ((found >>= (λ place. Ok (item_sender place.item (part_of storage place)))) >>=
      (λ x. senders_satisfy relation.Equal x (literal_sender (literal.Figurative figurative.Zero))))
      ≡ (found >>= take_item storage)
  item_beside storage (Ok place) = bytes_beside place.item.kind place.item.length (part_of storage place)
  item_beside storage (Err fault) = refl

  value_beside : (alone : Option Operand) (value : Side) (place : Place) (storage : Storage)
      → is_literal_alone alone ≡ false
      → without_value (relation_of items alone (alone_side (zero_at place)) value relation.Equal (zero_at place)
      storage) ≡ take_value items alone value storage
  value_beside (Some (operand.Item one)) value place storage e =
      taken_before (take_operand items (operand.Item one) storage)
      (taken_of items (operand.Item one) storage >>=
      (λ x. senders_satisfy relation.Equal x (literal_sender (literal.Figurative figurative.Zero))))
      (item_beside storage (place_of items one storage))
  value_beside (Some (operand.Literal one)) value place storage e = absurd cc
  value_beside None value place storage e = number_beside (side_number items value storage)

  pub beside_zero : (value : Side) (place : Place) (storage : Storage) → is_literal_alone (alone_side value) ≡ false
      → without_value (holds items (condition.Relation value relation.Equal (zero_at place)) storage)
      ≡ take_value items (alone_side value) value storage
  beside_zero value place storage e =
      ap without_value (relation_tells items value relation.Equal (zero_at place) storage)
      ∙ value_beside (alone_side value) value place storage e
