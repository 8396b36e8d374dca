-- Arithmetic statements (COBOL-85, Nucleus, "Arithmetic statements", "The ROUNDED phrase", "The ON SIZE ERROR phrase").
use Rattle.std.specs.Prelude.{ℕ, Bool, true, false, ◌&&◌, if◌then◌else◌, List, [], ◌∷◌, Option, Some, None, Result, Ok, Err, pos}
use Rattle.decimal18.specs.Fraction.{Fraction, absolute}
use Rattle.decimal18.specs.Receiver.{fitted_decimal, low_digits, truncated_decimal}
use Rattle.decimal18.specs.declared.size_error.Size.{Size}
use Rattle.decimal18.specs.declared.receiver.Rounding.{Rounding}
use Rattle.decimal18.specs.declared.receiver.Rounding.TheVariants.{Truncated, Rounded}
use Rattle.picture.specs.declared.picture.Picture.{Picture}
use Rattle.items.specs.declared.numeric.Numeric.{Numeric}
use Rattle.items.specs.declared.item.Kind.{Kind}
use Rattle.items.specs.declared.item.Kind.TheVariants as kind
use Rattle.items.specs.Numbers.{is_signed}
use Rattle.items.specs.Values.{bytes_of}
use Rattle.edited_move.specs.Editing.{edited_or_blank}
use Rattle.source_tree.specs.declared.reference.Reference.{Reference}
use Rattle.source_tree.specs.declared.expression.Operand.{Operand}
use Rattle.source_tree.specs.declared.expression.Operator.{Operator}
use Rattle.source_tree.specs.declared.expression.Operator.TheVariants as operator
use Rattle.source_tree.specs.declared.phrases.Phrases.{Phrases}
use Rattle.source_tree.specs.declared.arithmetic.Receiver.{Receiver}
use Rattle.source_tree.specs.declared.arithmetic.DivisionOrder.{DivisionOrder}
use Rattle.source_tree.specs.declared.arithmetic.DivisionOrder.TheVariants.{Into, By}
use Rattle.source_tree.specs.declared.arithmetic.Operation.{Operation}
use Rattle.source_tree.specs.declared.arithmetic.Operation.TheVariants.{Add, AddGiving, Subtract, SubtractGiving, Multiply, MultiplyGiving, Divide, DivideGiving, DivideRemainder, Compute}
use Rattle.source_tree.specs.declared.arithmetic.Arithmetic.{Arithmetic}
use Rattle.source_tree.specs.Places.{LocatedItem}
use Rattle.source_tree.specs.Storage.{Storage}
use Rattle.source_tree.specs.Evaluated.{Evaluation, ◌>>=◌, evaluation_of}
use Rattle.source_tree.specs.References.{ItemPlace, storage_with, place_of}
use Rattle.source_tree.specs.State.{State, Outcome, Done, in_turn, with_value}
use Rattle.source_tree.specs.Computed.{ArithmeticValue, operate, number_at, operand_value, expression_value}

-- What an item that receives numbers keeps of one: so many digits, scale of them decimals; and the bytes of a number that has
-- no more.
pub record NumberReceiver : Type 0 where
  pub digits : ℕ
  pub scale : ℕ
  pub bytes : Fraction → List ℕ

-- without S the absolute value
abbrev pub held_by : Numeric → Fraction → Fraction
held_by n x = if is_signed n then x else absolute x

-- A numeric item, or one that is edited by a picture of digits.
abbrev pub receiver_of : Kind → Option Picture → Option NumberReceiver
receiver_of (kind.Numeric n) editing = Some (record { digits = n.digits; scale = n.scale; bytes = λ x. bytes_of n (held_by n x) })
receiver_of (kind.NumericEdited blank) (Some picture) = Some (record { digits = picture.digits; scale = picture.scale; bytes = edited_or_blank blank picture })
receiver_of _ editing = None

-- After stores: the storage, and whether a size error arose so far.
pub record StoreResult : Type 0 where
  pub storage : Storage
  pub size_error : Bool

abbrev pub before_stores : Storage → StoreResult
before_stores storage = record { storage = storage; size_error = false }

-- a size error, which changes nothing
abbrev pub left_alone : StoreResult → StoreResult
left_alone before = record before { size_error = true }

abbrev pub rounding_of : Bool → Rounding
rounding_of true = Rounded
rounding_of false = Truncated

abbrev pub storing_number : ItemPlace → NumberReceiver → Fraction → StoreResult → StoreResult
storing_number place to x before = record before { storage = storage_with place (to.bytes x) before.storage }

-- Where a number doesn't fit, a receiver that is kept is left alone, and another takes the low digits.
abbrev pub storing_fitted : Bool → Rounding → ItemPlace → NumberReceiver → Fraction → Result Fraction Size → StoreResult → StoreResult
storing_fitted keep rounding place to x (Ok fits) before = storing_number place to fits before
storing_fitted true rounding place to x (Err size) before = left_alone before
storing_fitted false rounding place to x (Err size) before = left_alone (storing_number place to (low_digits x to.digits to.scale rounding) before)

-- After a size error on the way the receiver is left alone.
abbrev pub storing_computed : Bool → Rounding → ItemPlace → NumberReceiver → ArithmeticValue → StoreResult → StoreResult
storing_computed keep rounding place to (Some x) before = storing_fitted keep rounding place to x (fitted_decimal x to.digits to.scale rounding) before
storing_computed keep rounding place to None before = left_alone before

-- What was computed, stored at a place.
abbrev pub store : Bool → Bool → ItemPlace → ArithmeticValue → StoreResult → Evaluation StoreResult
store keep rounded place x before =
    evaluation_of (receiver_of place.item.kind place.editing) >>= (λ to. Ok (storing_computed keep (rounding_of rounded) place to x before))

abbrev pub truncated_value : ℕ → ArithmeticValue → ArithmeticValue
truncated_value scale (Some x) = Some (truncated_decimal x scale)
truncated_value scale None = None

-- dividend minus divisor times quotient
abbrev pub remainder_by : ArithmeticValue → ArithmeticValue → ArithmeticValue → ArithmeticValue
remainder_by dividend divisor quotient = operate operator.Subtract dividend (operate operator.Multiply divisor quotient)

-- Where the quotient is left alone there is no remainder; `keep`: there is an ON SIZE ERROR phrase.
abbrev pub unless_kept : Bool → StoreResult → ArithmeticValue → ArithmeticValue
unless_kept keep after x = if keep && after.size_error then None else x

-- the dividend and the divisor, by the order in which they are written
abbrev pub divide_into : DivisionOrder → ArithmeticValue → ArithmeticValue → (ArithmeticValue → ArithmeticValue → Evaluation StoreResult) → Evaluation StoreResult
divide_into Into first second go = go second first
divide_into By first second go = go first second

-- `items` are those of the program; `keep`: there is an ON SIZE ERROR phrase.
module _ (items : List LocatedItem) (keep : Bool) where
  -- the operands added up, from the left
  abbrev pub total_from : ArithmeticValue → List Operand → Storage → Evaluation ArithmeticValue
  total_from x [] storage = Ok x
  total_from x (one ∷ more) storage = operand_value items one storage >>= (λ y. total_from (operate operator.Add x y) more storage)

  -- of no operands 0; a text has one or more
  abbrev pub sum_of_operands : List Operand → Storage → Evaluation ArithmeticValue
  sum_of_operands [] storage = Ok (Some (record { coefficient = pos 0; scale = 0 }))
  sum_of_operands (one ∷ more) storage = operand_value items one storage >>= (λ x. total_from x more storage)

  -- a receiver becomes what it holds, plus, minus, times or divided by a value
  abbrev pub update_at : Operator → ArithmeticValue → Bool → StoreResult → ItemPlace → Evaluation StoreResult
  update_at one x rounded before place = number_at before.storage place >>= (λ old. store keep rounded place (operate one (Some old) x) before)

  abbrev pub update : Operator → ArithmeticValue → Receiver → StoreResult → Evaluation StoreResult
  update one x receiver before = place_of items receiver.item before.storage >>= update_at one x receiver.rounded before

  -- Each receiver in turn, its subscripts evaluated just before its own store.
  abbrev pub update_each : Operator → ArithmeticValue → List Receiver → StoreResult → Evaluation StoreResult
  update_each one x [] before = Ok before
  update_each one x (receiver ∷ more) before = update one x receiver before >>= update_each one x more

  -- a receiver becomes a value
  abbrev pub give : ArithmeticValue → Receiver → StoreResult → Evaluation StoreResult
  give x receiver before = place_of items receiver.item before.storage >>= (λ place. store keep receiver.rounded place x before)

  abbrev pub give_each : ArithmeticValue → List Receiver → StoreResult → Evaluation StoreResult
  give_each x [] before = Ok before
  give_each x (receiver ∷ more) before = give x receiver before >>= give_each x more

  abbrev pub quotient_at : ArithmeticValue → Bool → StoreResult → ItemPlace → Evaluation (ℕ × StoreResult)
  quotient_at x rounded before place =
      evaluation_of (receiver_of place.item.kind place.editing)
      >>= (λ to. Ok (to.scale, storing_computed keep (rounding_of rounded) place to x before))

  -- The quotient is stored, and then the remainder by the quotient cut to its receiver's scale (own choice: not rounded, with its
  -- sign and all its whole digits).
  abbrev pub remain : ArithmeticValue → ArithmeticValue → Receiver → Reference → StoreResult → Evaluation StoreResult
  remain dividend divisor quotient remainder before =
      place_of items quotient.item before.storage
      >>= (λ place. quotient_at (operate operator.Divide dividend divisor) quotient.rounded before place
      >>= (λ after. give (unless_kept keep after.1 (remainder_by dividend divisor (truncated_value after.0 (operate operator.Divide dividend divisor))))
      (record { item = remainder; rounded = false }) after.1))

  abbrev pub operation : Operation → Storage → Evaluation StoreResult
  operation (Add operands receivers) s = sum_of_operands operands s >>= (λ x. update_each operator.Add x receivers (before_stores s))
  operation (AddGiving operands receivers) s = sum_of_operands operands s >>= (λ x. give_each x receivers (before_stores s))
  operation (Subtract operands receivers) s = sum_of_operands operands s >>= (λ x. update_each operator.Subtract x receivers (before_stores s))
  operation (SubtractGiving operands minuend receivers) s =
      sum_of_operands operands s >>= (λ x. operand_value items minuend s >>= (λ y. give_each (operate operator.Subtract y x) receivers (before_stores s)))
  operation (Multiply factor receivers) s = operand_value items factor s >>= (λ x. update_each operator.Multiply x receivers (before_stores s))
  operation (MultiplyGiving factor by receivers) s =
      operand_value items factor s >>= (λ x. operand_value items by s >>= (λ y. give_each (operate operator.Multiply x y) receivers (before_stores s)))
  operation (Divide divisor receivers) s = operand_value items divisor s >>= (λ x. update_each operator.Divide x receivers (before_stores s))
  operation (DivideGiving first order second receivers) s =
      operand_value items first s >>= (λ x. operand_value items second s
      >>= (λ y. divide_into order x y (λ dividend divisor. give_each (operate operator.Divide dividend divisor) receivers (before_stores s))))
  operation (DivideRemainder first order second quotient remainder) s =
      operand_value items first s >>= (λ x. operand_value items second s
      >>= (λ y. divide_into order x y (λ dividend divisor. remain dividend divisor quotient remainder (before_stores s))))
  operation (Compute receivers value) s = expression_value items value s >>= (λ x. give_each x receivers (before_stores s))

abbrev pub is_there : {A : Type 0} → Option A → Bool
is_there None = false
is_there (Some x) = true

-- the statements of a phrase that stands, in order
abbrev pub in_phrase : {S : Type 0} → (S → State → Outcome) → Option (List S) → State → Outcome
in_phrase run None s = Done s
in_phrase run (Some statements) s = in_turn run statements s

-- the phrase that fits
abbrev pub phrase_for : {S : Type 0} → (S → State → Outcome) → Phrases S → Bool → State → Outcome
phrase_for run phrases true s = in_phrase run phrases.arose s
phrase_for run phrases false s = in_phrase run phrases.did_not s

-- The stores, and then the phrase that fits.
abbrev pub arithmetic_outcome : List LocatedItem → {S : Type 0} → (S → State → Outcome) → Arithmetic S → State → Outcome
arithmetic_outcome items run one s =
    with_value (operation items (is_there one.phrases.arose) one.operation s.storage) s
    (λ after. phrase_for run one.phrases after.size_error (record s { storage = after.storage }))
