-- What is a fault where a value is taken is one in each relation about it whose other side has no fault but that of
-- bytes that are no number.
use Rattle.std.proofs.Common.{◌≡◌, ℕ, Bool, true, false, not, if◌then◌else◌, List, [], ◌∷◌, map, Option, Some, None, Ok}
use Rattle.std.proofs.Common.{Err, refl, sym, ap, subst, ◌∙◌}
use Rattle.std.proofs.lemmas.Option.{same_Some}
use Rattle.decimal18.specs.Order.{order}
use Rattle.items.specs.declared.item.Kind.{Kind}
use Rattle.items.specs.declared.item.Kind.TheVariants as kind
use Rattle.items.specs.declared.numeric.Numeric.{Numeric}
use Rattle.items.specs.Texts.{characters}
use Rattle.items.specs.Values.{value_of, digits_of}
use Rattle.std.specs.Option.{option_map}
use Rattle.text_ops.specs.Compare as compare
use Rattle.source_tree.specs.declared.expression.Operand.{Operand}
use Rattle.source_tree.specs.declared.expression.Operand.TheVariants as operand
use Rattle.source_tree.specs.declared.expression.Expression.{Expression, out-Expression, roll-Expression}
use Rattle.source_tree.specs.declared.expression.Expression.{roll-out-Expression}
use Rattle.source_tree.specs.declared.expression.Expression.TheOpen.{Expression-F}
use Rattle.source_tree.specs.declared.expression.Expression.TheFolds.{fold-roll-Expression}
use Rattle.source_tree.specs.declared.condition.Relation.{Relation}
use Rattle.source_tree.specs.declared.condition.Relation.TheVariants as relation
use Rattle.source_tree.specs.declared.condition.Side.{Side}
use Rattle.source_tree.specs.declared.condition.Side.TheVariants as side
use Rattle.source_tree.specs.declared.condition.Condition.{Condition}
use Rattle.source_tree.specs.declared.condition.Condition.TheVariants as condition
use Rattle.source_tree.specs.Places.{LocatedItem}
use Rattle.source_tree.specs.Literals.{Sender, item_sender}
use Rattle.source_tree.specs.Storage.{Storage}
use Rattle.source_tree.specs.Evaluated.{Fault, Data, Evaluation, ◌>>=◌, evaluation_of}
use Rattle.source_tree.specs.References.{ItemPlace, part_of, place_of}
use Rattle.source_tree.specs.Moving.{taken_of}
use Rattle.source_tree.specs.Computed.{ArithmeticValue, ExpressionValue, number_at, number_of_literal}
use Rattle.source_tree.specs.Computed.{number_of_operand, operand_value, expression_layer, expression_value}
use Rattle.source_tree.specs.Conditions.{satisfies, senders_satisfy, without_value, take_bytes, take_item, take_operand}
use Rattle.source_tree.specs.Conditions.{numbers_satisfy, alone, alone_side, relation_of, side_number, holds, all_hold}
use Rattle.source_tree.specs.Conditions.{any_holds}
use Rattle.source_tree.specs.Evaluate.{ObjectValues, condition_or_opposite, value_within, value_condition, take_value}
use Rattle.data_instructions.specs.ConditionCodes.{pair_truth}
use Rattle.source_tree.proofs.Folded.{relation_tells, not_tells, all_tell, any_tells}

-- no fault but this one
abbrev pub OnlyData : {A : Type 0} → Evaluation A → Type 0
OnlyData (Ok value) = Unit {0}
OnlyData (Err fault) = fault ≡ Data

only_needed : {A : Type 0} (found : Option A) → OnlyData (evaluation_of found)
only_needed (Some x) = tt
only_needed None = refl

pub only_then : {A B : Type 0} (found : Evaluation A) (go : A → Evaluation B) → OnlyData found
    → ((x : A) → OnlyData (go x)) → OnlyData (found >>= go)
only_then (Ok x) go one more = more x
only_then (Err fault) go one more = one

-- after it nothing else can follow
ends_so : {A B : Type 0} (found : Evaluation A) (go : A → Evaluation B) → OnlyData found → ((x : A) → go x ≡ Err Data)
    → (found >>= go) ≡ Err Data
ends_so (Ok x) go one more = more x
ends_so (Err fault) go one more = ap (λ (f : Fault). Err f) one

-- ---- two senders, of which the first is no number

both_none : {A B : Type 0} (op : A → A → B) (one other : Option A) → one ≡ None → compare.both op one other ≡ None
both_none op None other e = refl
both_none op (Some x) other e = absurd cc

module _ (form : Numeric) (length : ℕ) (bytes : List ℕ) (none : value_of form bytes ≡ None) where
  choice_none : (is_number : Bool) (other : Sender)
      → (if is_number then compare.both order (value_of form bytes) (compare.operand_number other.taken other.bytes)
      else compare.both compare.order_of_texts (option_map (digits_of form) (value_of form bytes))
      (characters other.taken other.bytes form.digits))
      ≡ None
  choice_none true other = both_none order (value_of form bytes) (compare.operand_number other.taken other.bytes) none
  choice_none false other =
      both_none compare.order_of_texts (option_map (digits_of form) (value_of form bytes))
      (characters other.taken other.bytes form.digits)
      (ap (option_map (digits_of form)) none)

  sender_fault : (one : Relation) (other : Sender)
      → senders_satisfy one (item_sender (record { kind = kind.Numeric form; length = length }) bytes) other ≡ Err Data
  unfolding compare.comparison_of
  sender_fault one other = ap (λ o. evaluation_of o >>= (λ ordering. Ok (satisfies one ordering)))
      (choice_none (compare.is_number_operand other.taken) other)

no_value : {A : Type 0} (found : Option A) (fault : Fault) → without_value (evaluation_of found) ≡ Err fault
    → (found ≡ None) × (fault ≡ Data)
no_value (Some x) fault e = absurd cc
no_value None fault e = (refl, let is : ◌≡◌ {A = Evaluation (Unit {0})} (Err Data) (Err fault) = e in cc)

-- An item whose bytes are taken with a fault, beside whatever is taken without another one.
bytes_fault : (one : Kind) (length : ℕ) (bytes : List ℕ) (fault : Fault) (by : Relation) (found : Evaluation Sender)
    → OnlyData found → take_bytes one bytes ≡ Err fault
    → (found >>= senders_satisfy by (item_sender (record { kind = one; length = length }) bytes)) ≡ Err fault
bytes_fault kind.Group length bytes fault by found only e = absurd cc
bytes_fault (kind.Alphabetic justified) length bytes fault by found only e = absurd cc
bytes_fault (kind.Alphanumeric justified) length bytes fault by found only e = absurd cc
bytes_fault kind.AlphanumericEdited length bytes fault by found only e = absurd cc
bytes_fault (kind.NumericEdited blank) length bytes fault by found only e = absurd cc
bytes_fault (kind.Numeric form) length bytes fault by found only e =
    let none = no_value (value_of form bytes) fault e in
    ends_so found (senders_satisfy by (item_sender (record { kind = kind.Numeric form; length = length }) bytes)) only
    (λ other. sender_fault form length bytes none.0 by other)
    ∙ sym (ap (λ (f : Fault). Err f) none.1)

item_fault : (storage : Storage) (place : Evaluation ItemPlace) (fault : Fault) (by : Relation)
    (found : Evaluation Sender) → OnlyData found
    → (place >>= take_item storage) ≡ Err fault
    → ((place >>= (λ one. Ok (item_sender one.item (part_of storage one)))) >>= (λ x. found >>= senders_satisfy by x))
    ≡ Err fault
item_fault storage (Ok place) fault by found only e =
    bytes_fault place.item.kind place.item.length (part_of storage place) fault by found only e
item_fault storage (Err other) fault by found only e =
    let is : ◌≡◌ {A = Evaluation (Unit {0})} (Err other) (Err fault) = e in cc

-- ---- two numbers, of which there isn't a first one

number_fault : (value : Evaluation ArithmeticValue) (fault : Fault) (by : Relation) (found : Evaluation ArithmeticValue)
    → OnlyData found
    → (value >>= (λ x. without_value (evaluation_of x))) ≡ Err fault
    → (value >>= (λ x. found >>= numbers_satisfy by x)) ≡ Err fault
number_fault (Ok (Some x)) fault by found only e = absurd cc
number_fault (Ok None) fault by found only e =
    ends_so found (numbers_satisfy by None) only (λ y. refl)
    ∙ (let is : ◌≡◌ {A = Evaluation (Unit {0})} (Err Data) (Err fault) = e in cc)
number_fault (Err other) fault by found only e = let is : ◌≡◌ {A = Evaluation (Unit {0})} (Err other) (Err fault) =
    e in cc

module _ (items : List LocatedItem) where
  -- An operand at hand has a place, if it is an item.
  abbrev pub IsAtHand : Operand → Storage → Type 0
  IsAtHand (operand.Item one) storage = OnlyData (place_of items one storage)
  IsAtHand (operand.Literal one) storage = Unit {0}

  only_taken : (one : Operand) (storage : Storage) → IsAtHand one storage → OnlyData (taken_of items one storage)
  only_taken (operand.Item one) storage h = only_then (place_of items one storage)
      (λ place. Ok (item_sender place.item (part_of storage place))) h (λ place. tt)
  only_taken (operand.Literal one) storage h = tt

  only_number : (one : Operand) (storage : Storage) → IsAtHand one storage
      → OnlyData (number_of_operand items one storage)
  only_number (operand.Item one) storage h =
      only_then (place_of items one storage) (number_at storage) h (λ place. only_needed _)
  only_number (operand.Literal one) storage h = only_needed (number_of_literal one.value)

  only_value : (one : Operand) (storage : Storage) → IsAtHand one storage → OnlyData (operand_value items one storage)
  only_value one storage h =
      only_then (number_of_operand items one storage) (λ x. Ok (Some x)) (only_number one storage h) (λ x. tt)

  layer_value : (form : Expression-F Expression) (one : Operand) (storage : Storage) → alone form ≡ Some one
      → expression_value items (roll-Expression form) storage ≡ operand_value items one storage
  unfolding expression_value
  layer_value (Expression-F.Operand inner) one storage e =
      ap (λ (r : ExpressionValue). r storage)
      (fold-roll-Expression ExpressionValue (expression_layer items) (Expression-F.Operand inner))
      ∙ ap (λ (o : Operand). operand_value items o storage) (same_Some inner one e)
  layer_value (Expression-F.Negated inner) one storage e = absurd cc
  layer_value (Expression-F.Chain first more) one storage e = absurd cc

  -- an operand alone, as a number
  pub alone_number : (value : Side) (one : Operand) (storage : Storage) → alone_side value ≡ Some one
      → side_number items value storage ≡ operand_value items one storage
  alone_number (side.Expression expression) one storage e =
      ap (λ (x : Expression). expression_value items x storage) (sym (roll-out-Expression expression))
      ∙ layer_value (out-Expression expression) one storage e
  alone_number (side.Literal literal) one storage e =
      ap (λ (o : Operand). operand_value items o storage) (same_Some (operand.Literal literal) one e)

  only_side : (value : Side) (one : Operand) (storage : Storage) → alone_side value ≡ Some one → IsAtHand one storage
      → OnlyData (side_number items value storage)
  only_side value one storage is h = let e =
      alone_number value one storage is in subst OnlyData (sym e) (only_value one storage h)

  -- Two operands alone have the fault with which the left one is taken, if the right one is at hand.
  pub pair_fault : (a b : Operand) (by : Relation) (storage : Storage) (fault : Fault) → IsAtHand b storage
      → take_operand items a storage ≡ Err fault → pair_truth items a by b storage ≡ Err fault
  pair_fault (operand.Item one) b by storage fault h e =
      item_fault storage (place_of items one storage) fault by (taken_of items b storage) (only_taken b storage h) e
  pair_fault (operand.Literal one) b by storage fault h e = absurd cc

  sides_fault : (left right : Option Operand) (one : Operand) (value other : Side) (by : Relation) (storage : Storage)
      (fault : Fault) → right ≡ Some one
      → alone_side other ≡ right → IsAtHand one storage
      → take_value items left value storage ≡ Err fault
      → relation_of items left right value by other storage ≡ Err fault
  sides_fault (Some a) (Some b) one value other by storage fault is of h e =
      ap (λ (taken : Evaluation (Unit {0})).
      taken >>= (λ _. taken_of items a storage >>= (λ x. taken_of items b storage >>= senders_satisfy by x))) e
  sides_fault None (Some b) one value other by storage fault is of h e =
      number_fault (side_number items value storage) fault by (side_number items other storage)
      (only_side other one storage (of ∙ is) h) e
  sides_fault left None one value other by storage fault is of h e = absurd cc

  -- What is a fault where a value is taken is one in a relation with an operand at hand.
  pub relation_fault : (value other : Side) (one : Operand) (by : Relation) (storage : Storage) (fault : Fault)
      → alone_side other ≡ Some one → IsAtHand one storage
      → take_value items (alone_side value) value storage ≡ Err fault
      → holds items (condition.Relation value by other) storage ≡ Err fault
  relation_fault value other one by storage fault is h e =
      relation_tells items value by other storage
      ∙ sides_fault (alone_side value) (alone_side other) one value other by storage fault is refl h e

  -- and so it is in what begins with that relation, with NOT or without
  pub told_fault : (truth : Bool) (one : Condition) (storage : Storage) (fault : Fault)
      → holds items one storage ≡ Err fault → holds items (condition_or_opposite truth one) storage ≡ Err fault
  told_fault true one storage fault e = e
  told_fault false one storage fault e =
      not_tells items one storage ∙ ap (λ (o : Evaluation Bool). o >>= (λ truth. Ok (not truth))) e

  pub all_fault : (one : Condition) (more : List Condition) (storage : Storage) (fault : Fault)
      → holds items one storage ≡ Err fault
      → holds items (condition.All (one ∷ more)) storage ≡ Err fault
  all_fault one more storage fault e =
      all_tell items (one ∷ more) storage
      ∙ ap (λ (o : Evaluation Bool).
      o >>= (λ truth. if truth then all_hold items (map (holds items) more) storage else Ok false)) e

  pub any_fault : (one : Condition) (more : List Condition) (storage : Storage) (fault : Fault)
      → holds items one storage ≡ Err fault
      → holds items (condition.Any (one ∷ more)) storage ≡ Err fault
  any_fault one more storage fault e =
      any_tells items (one ∷ more) storage
      ∙ ap (λ (o : Evaluation Bool).
      o >>= (λ truth. if truth then Ok true else any_holds items (map (holds items) more) storage)) e

  within_fault : (value first : Side) (last : Option Side) (one : Operand) (storage : Storage) (fault : Fault)
      → alone_side first ≡ Some one → IsAtHand one storage
      → take_value items (alone_side value) value storage ≡ Err fault
      → holds items (value_within value first last) storage ≡ Err fault
  within_fault value first None one storage fault is h e =
      relation_fault value first one relation.Equal storage fault is h e
  within_fault value first (Some last) one storage fault is h e =
      all_fault (condition.Relation value relation.GreaterOrEqual first)
      (condition.Relation value relation.LessOrEqual last ∷ []) storage fault
      (relation_fault value first one relation.GreaterOrEqual storage fault is h e)

  pub asked_fault : (value : Side) (wanted : ObjectValues) (one : Operand) (storage : Storage) (fault : Fault)
      → alone_side wanted.first ≡ Some one → IsAtHand one storage
      → take_value items (alone_side value) value storage ≡ Err fault
      → holds items (value_condition value wanted) storage ≡ Err fault
  asked_fault value wanted one storage fault is h e =
      told_fault (not wanted.negated) (value_within value wanted.first wanted.last) storage fault
      (within_fault value wanted.first wanted.last one storage fault is h e)
