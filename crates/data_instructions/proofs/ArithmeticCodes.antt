-- The code of arithmetic statements does what they mean.
use Rattle.std.proofs.Common.{◌≡◌, ℕ, List, [], ◌∷◌, ◌++◌, refl, sym, ◌∙◌, ap, Option, Some, None}
use Rattle.std.specs.Prelude.{Bool, true, false, ◌&&◌, if◌then◌else◌, Ok, Err}
use Rattle.source_tree.specs.declared.reference.Reference.{Reference}
use Rattle.source_tree.specs.declared.expression.Operand.{Operand}
use Rattle.source_tree.specs.declared.expression.Operator.{Operator}
use Rattle.source_tree.specs.declared.expression.Operator.TheVariants as operator
use Rattle.source_tree.specs.declared.arithmetic.Receiver.{Receiver}
use Rattle.source_tree.specs.declared.arithmetic.DivisionOrder.{DivisionOrder}
use Rattle.source_tree.specs.declared.arithmetic.DivisionOrder.TheVariants.{Into, By}
use Rattle.source_tree.specs.declared.arithmetic.Operation.{Operation}
use Rattle.source_tree.specs.declared.arithmetic.Operation.TheVariants as o
use Rattle.source_tree.specs.Places.{LocatedItem}
use Rattle.source_tree.specs.declared.reference.Part.{Part}
use Rattle.source_tree.specs.Parts.{part_kind, seen_by}
use Rattle.source_tree.specs.Storage.{Storage}
use Rattle.source_tree.specs.References.{ItemPlace, place_of, place_after, occurrence, part_in, referred_place}
use Rattle.items.specs.declared.item.Kind.{Kind}
use Rattle.items.specs.declared.item.Kind.TheVariants as kind
use Rattle.source_tree.specs.References as tree
use Rattle.source_tree.specs.Evaluated.{Evaluation, ◌>>=◌, evaluation_of}
use Rattle.source_tree.specs.Computed.{ArithmeticValue, ExpressionValue, operate, number_at, operand_value}
use Rattle.source_tree.specs.Computed.{expression_value}
use Rattle.source_tree.specs.Arithmetic.{receiver_of, NumberReceiver, StoreResult, rounding_of, storing_computed, store}
use Rattle.source_tree.specs.Arithmetic.{truncated_value, remainder_by, unless_kept, divide_into, total_from}
use Rattle.source_tree.specs.Arithmetic.{sum_of_operands, update_at, update, update_each, give, give_each, quotient_at}
use Rattle.source_tree.specs.Arithmetic.{remain, operation}
use Rattle.data_instructions.specs.declared.tables.DataTables.{DataTables}
use Rattle.data_instructions.specs.declared.calculation.Calculation.TheVariants as calculation
use Rattle.data_instructions.specs.declared.instruction.DataInstruction.{DataInstruction}
use Rattle.data_instructions.specs.declared.instruction.DataInstruction.TheVariants as i
use Rattle.data_instructions.specs.Tables.{IsTables}
use Rattle.data_instructions.specs.Scratch.{Scratch, Step, Continues, step_with}
use Rattle.data_instructions.specs.Table.{push_step, read_step, put_number}
use Rattle.data_instructions.specs.Codes.{go_on, works, IsTakingCode}
use Rattle.data_instructions.specs.ArithmeticCodes.{operator_code, duplicate, discard, Computes, ComputesOn}
use Rattle.data_instructions.specs.ArithmeticCodes.{AreAddedCode, IsTotalCode, HasScale, IsUpdateCode, AreUpdatesCode}
use Rattle.data_instructions.specs.ArithmeticCodes.{IsGiveCode, AreGivesCode, kept_code, IsRemainderCode}
use Rattle.data_instructions.specs.ArithmeticCodes.{IsDivisionCode, IsOperationCode, IsArithmeticCode, DoesArithmetic}
use Rattle.data_instructions.proofs.Subscripts.{go_with, with_same, with_bind, works_append}
use Rattle.data_instructions.proofs.Codes.{taking_works}
use Rattle.data_instructions.proofs.Expressions.{operator_works, first_works, further_works, number_works, value_works}

-- the same, where what was found is known
with_known : {A : Type 0} (r : Evaluation A) (f g : A → Step) → ((x : A) → r ≡ Ok x → f x ≡ g x)
    → step_with r f ≡ step_with r g
with_known (Ok x) f g same = same x refl
with_known (Err fault) f g same = refl

-- one number more
abbrev over : ArithmeticValue → Scratch → Scratch
over x s = record s { numbers = x ∷ s.numbers }

-- what stores begin from
abbrev stands : Scratch → StoreResult
stands s = record { storage = s.storage; size_error = s.truth }

-- after stores all else is as before
abbrev after_stores : Scratch → StoreResult → Step
after_stores s after = Continues (record s { storage = after.storage; truth = after.size_error })

-- Code that takes the newest number, and stores.
abbrev Consumes : DataTables → (ArithmeticValue → StoreResult → Evaluation StoreResult) → List DataInstruction → Type 0
Consumes tables stores code = (x : ArithmeticValue) (s : Scratch)
    → works tables code (over x s) ≡ step_with (stores x (stands s)) (after_stores s)

-- Code that stores, and leaves the newest number.
abbrev Uses : DataTables → (ArithmeticValue → StoreResult → Evaluation StoreResult) → List DataInstruction → Type 0
Uses tables stores code = (x : ArithmeticValue) (s : Scratch)
    → works tables code (over x s) ≡ step_with (stores x (stands s)) (after_stores (over x s))

-- Code that takes two numbers, the second the newest, and stores.
abbrev ConsumesTwo : DataTables → (ArithmeticValue → ArithmeticValue → StoreResult → Evaluation StoreResult)
    → List DataInstruction → Type 0
ConsumesTwo tables stores code = (x y : ArithmeticValue) (s : Scratch)
    → works tables code (over y (over x s)) ≡ step_with (stores x y (stands s)) (after_stores s)

module _ (tables : DataTables) where
  dropped : (stores : ArithmeticValue → StoreResult → Evaluation StoreResult) (code : List DataInstruction)
      → Uses tables stores code → Consumes tables stores (code ++ (discard ∷ []))
  dropped stores code uses x s =
      works_append tables code (discard ∷ []) (over x s)
      ∙ ap (λ step. go_on step (works tables (discard ∷ []))) (uses x s)
      ∙ go_with (stores x (stands s)) (after_stores (over x s)) (works tables (discard ∷ []))

  then_uses : (one other : ArithmeticValue → StoreResult → Evaluation StoreResult) (front back : List DataInstruction)
      → Uses tables one front → Uses tables other back
      → Uses tables (λ x before. one x before >>= other x) (front ++ back)
  then_uses one other front back first second x s =
      works_append tables front back (over x s)
      ∙ ap (λ step. go_on step (works tables back)) (first x s)
      ∙ go_with (one x (stands s)) (after_stores (over x s)) (works tables back)
      ∙ with_same (one x (stands s)) _ _
      (λ after. second x (record s { storage = after.storage; truth = after.size_error }))
      ∙ sym (with_bind (one x (stands s)) (other x) (after_stores (over x s)))

  -- a value, and what is stored of it
  valued : (value : ExpressionValue) (stores : ArithmeticValue → StoreResult → Evaluation StoreResult)
      (front back : List DataInstruction) → Computes tables value front → Consumes tables stores back → (s : Scratch)
      → works tables (front ++ back) s ≡ step_with (value s.storage >>= (λ x. stores x (stands s))) (after_stores s)
  valued value stores front back computes consumes s =
      works_append tables front back s
      ∙ ap (λ step. go_on step (works tables back)) (computes s)
      ∙ go_with (value s.storage) (λ x. push_step x s) (works tables back)
      ∙ with_same (value s.storage) _ _ (λ x. consumes x s)
      ∙ sym (with_bind (value s.storage) (λ x. stores x (stands s)) (after_stores s))

  -- two values, and what is stored of them
  valued_two : (one other : ExpressionValue) (stores : ArithmeticValue → ArithmeticValue
      → StoreResult → Evaluation StoreResult) (front middle back : List DataInstruction) → Computes tables one front
      → Computes tables other middle → ConsumesTwo tables stores back → (s : Scratch)
      → works tables (front ++ (middle ++ back)) s
      ≡ step_with (one s.storage >>= (λ x. other s.storage >>= (λ y. stores x y (stands s)))) (after_stores s)
  valued_two one other stores front middle back computes computes_other consumes s =
      valued one (λ x before. other before.storage >>= (λ y. stores x y before)) front (middle ++ back) computes (λ x t.
      works_append tables middle back (over x t)
      ∙ ap (λ step. go_on step (works tables back)) (computes_other (over x t))
      ∙ go_with (other t.storage) (λ y. push_step y (over x t)) (works tables back)
      ∙ with_same (other t.storage) _ _ (λ y. consumes x y t)
      ∙ sym (with_bind (other t.storage) (λ y. stores x y (stands t)) (after_stores t))) s

  -- an operator on two numbers, and what is stored of the outcome
  combined :
      (one : Operator) (stores : ArithmeticValue → StoreResult → Evaluation StoreResult) (code : List DataInstruction)
      → Consumes tables stores code → ConsumesTwo tables (λ x y. stores (operate one x y)) (operator_code one ∷ code)
  combined one stores code consumes x y s = operator_works tables one x y code s ∙ consumes (operate one x y) s

-- A part holds no number: what takes one is a whole item.
no_receiver : (one : Kind) (to : NumberReceiver) → receiver_of (part_kind one) None ≡ Some to → ⊥
no_receiver (kind.Alphabetic justified) to e = cc
no_receiver kind.Group to e = cc
no_receiver (kind.Alphanumeric justified) to e = cc
no_receiver kind.AlphanumericEdited to e = cc
no_receiver (kind.NumericEdited blank) to e = cc
no_receiver (kind.Numeric numeric) to e = cc

all_of_it : (items : List LocatedItem) (storage : Storage) (place : Evaluation ItemPlace)
    → (place >>= part_in items None storage) ≡ place
all_of_it items storage (Ok place) = refl
all_of_it items storage (Err fault) = refl

whole_receiver : (items : List LocatedItem) (found : LocatedItem) (part : Option Part) (to : NumberReceiver)
    → receiver_of (seen_by part found).item.kind (seen_by part found).editing ≡ Some to
    → (storage : Storage) (place : Evaluation ItemPlace)
    → ((place >>= part_in items part storage) ≡ place) × (receiver_of found.item.kind found.editing ≡ Some to)
whole_receiver items found None to receives storage place = (all_of_it items storage place, receives)
whole_receiver items found (Some part) to receives storage place = absurd (no_receiver found.item.kind to receives)

module _ (items : List LocatedItem) (tables : DataTables) (order : IsTables tables) (keep : Bool) where
  added_works : (operands : List Operand) (code : List DataInstruction) → AreAddedCode items tables operands code
      → ComputesOn tables (λ x. total_from items keep x operands) code
  added_works [] code is x s = ap (λ code. works tables code (over x s)) is
  added_works (one ∷ more) code (front, is_front, back, is_back, is) x s =
      ap (λ code. works tables code (over x s)) is
      ∙ further_works tables operator.Add (operand_value items one) (λ y. total_from items keep y more) front back
      (value_works items tables order one front is_front) (added_works more back is_back) x s

  total_works : (operands : List Operand) (code : List DataInstruction) → IsTotalCode items tables operands code
      → Computes tables (sum_of_operands items keep operands) code
  total_works [] code is s = number_works items tables _ code is s
  total_works (one ∷ more) code (front, is_front, back, is_back, is) s =
      ap (λ code. works tables code s) is
      ∙ first_works tables (operand_value items one) (λ y. total_from items keep y more) front back
      (value_works items tables order one front is_front) (added_works more back is_back) s

  store_works : (rounded : Bool) (reference : Reference) (code : List DataInstruction)
      → IsTakingCode items tables (i.Store rounded keep) reference code
      → Consumes tables (λ x. give items keep x (record { item = reference; rounded = rounded })) code
  store_works rounded reference code is x s =
      taking_works items tables order (i.Store rounded keep) (put_number rounded keep) (λ t. refl) reference code is
      (over x s)
      ∙ sym
      (with_bind (place_of items reference s.storage) (λ place. store keep rounded place x (stands s)) (after_stores s))

  give_works : (receiver : Receiver) (code : List DataInstruction) → IsGiveCode items tables keep receiver code
      → Uses tables (λ x. give items keep x receiver) code
  give_works receiver code (back, is_back, is) x s =
      ap (λ code. works tables code (over x s)) is
      ∙ store_works receiver.rounded receiver.item back is_back x (over x s)

  gives_works : (receivers : List Receiver) (code : List DataInstruction)
      → AreGivesCode items tables keep receivers code → Uses tables (λ x. give_each items keep x receivers) code
  gives_works [] code is x s = ap (λ code. works tables code (over x s)) is
  gives_works (one ∷ more) code (front, is_front, back, is_back, is) x s =
      ap (λ code. works tables code (over x s)) is
      ∙ then_uses tables (λ y. give items keep y one) (λ y. give_each items keep y more) front back
      (give_works one front is_front) (gives_works more back is_back) x s

  -- The place is found twice, with nothing stored between.
  update_works : (one : Operator) (receiver : Receiver) (code : List DataInstruction)
      → IsUpdateCode items tables keep one receiver code → Uses tables (λ x. update items keep one x receiver) code
  update_works one receiver code (front, is_front, back, is_back, is) x s =
      ap (λ code. works tables code t) is
      ∙ works_append tables front later t
      ∙ ap (λ step. go_on step (works tables later))
      (taking_works items tables order i.Push read_step (λ u. refl) receiver.item front is_front t)
      ∙ go_with (place_of items receiver.item s.storage) (λ place. read_step place t) (works tables later)
      ∙ with_known (place_of items receiver.item s.storage) _ _ stores
      ∙ sym (with_bind (place_of items receiver.item s.storage) (update_at items keep one x receiver.rounded (stands s))
      (after_stores t))
    where
      t : Scratch
      t = over x s

      later : List DataInstruction
      later = duplicate 1 ∷ operator_code one ∷ back

      stores : (place : ItemPlace) → place_of items receiver.item s.storage ≡ Ok place
          → go_on (read_step place t) (works tables later) ≡ step_with
          (update_at items keep one x receiver.rounded (stands s) place) (after_stores t)
      stores place found =
          go_with (number_at s.storage place) (λ y. push_step (Some y) t) (works tables later)
          ∙ with_same (number_at s.storage place) _ _ (λ y.
          operator_works tables one (Some y) x back t
          ∙ store_works receiver.rounded receiver.item back is_back (operate one (Some y) x) t
          ∙ ap (λ r. step_with (r >>= (λ p. store keep receiver.rounded p (operate one (Some y) x) (stands s)))
          (after_stores t)) found)
          ∙ sym (with_bind (number_at s.storage place)
          (λ old. store keep receiver.rounded place (operate one (Some old) x) (stands s)) (after_stores t))

  updates_works : (one : Operator) (receivers : List Receiver) (code : List DataInstruction) → AreUpdatesCode items
      tables keep one receivers code → Uses tables (λ x. update_each items keep one x receivers) code
  updates_works one [] code is x s = ap (λ code. works tables code (over x s)) is
  updates_works one (receiver ∷ more) code (front, is_front, back, is_back, is) x s =
      ap (λ code. works tables code (over x s)) is
      ∙ then_uses tables (λ y. update items keep one y receiver) (λ y. update_each items keep one y more) front back
      (update_works one receiver front is_front) (updates_works one more back is_back) x s

  -- The quotient is given, and the remainder by the decimals that its receiver keeps.
  remain_is : (quotient : Receiver) (remainder : Reference) (scale : ℕ) → HasScale items tables quotient.item scale
      → (dividend divisor : ArithmeticValue) (before : StoreResult)
      → remain items keep dividend divisor quotient remainder before
      ≡ give items keep (operate operator.Divide dividend divisor) quotient before >>= (λ after.
      give items keep (unless_kept keep after (remainder_by dividend divisor (truncated_value scale
      (operate operator.Divide dividend divisor)))) (record { item = remainder; rounded = false }) after)
  remain_is quotient remainder scale (found, named, to, receives, same) dividend divisor before =
      let whole = whole_receiver items found quotient.item.part to receives before.storage
      (occurrence items quotient.item.subscripts found before.storage) in
      ap (λ r. (evaluation_of r >>= (λ one. referred_place items quotient.item one before.storage)) >>=
      (λ place. quotient_at items keep q quotient.rounded before place >>= last)) named
      ∙ ap (λ r. r >>= (λ place. quotient_at items keep q quotient.rounded before place >>= last)) whole.0
      ∙ by_bytes whole.1 (tree.bytes_before items found.dimensions quotient.item.subscripts before.storage)
      ∙ sym (ap (λ r. (r >>= (λ place. store keep quotient.rounded place q before)) >>= by_scale scale) whole.0)
      ∙ sym (ap (λ r. ((evaluation_of r >>= (λ one. referred_place items quotient.item one before.storage)) >>=
      (λ place. store keep quotient.rounded place q before)) >>= by_scale scale) named)
    where
      q : ArithmeticValue
      q = operate operator.Divide dividend divisor

      by_scale : ℕ → StoreResult → Evaluation StoreResult
      by_scale decimals after =
          give items keep (unless_kept keep after (remainder_by dividend divisor (truncated_value decimals q)))
          (record { item = remainder; rounded = false }) after

      last : ℕ × StoreResult → Evaluation StoreResult
      last after = by_scale after.0 after.1

      by_bytes : receiver_of found.item.kind found.editing ≡ Some to → (bytes : Evaluation ℕ)
          → ((bytes >>= (λ n. Ok (place_after found n))) >>=
          (λ place. quotient_at items keep q quotient.rounded before place >>= last))
          ≡ (((bytes >>= (λ n. Ok (place_after found n))) >>= (λ place. store keep quotient.rounded place q before)) >>=
          by_scale scale)
      by_bytes receives (Err fault) = refl
      by_bytes receives (Ok n) =
          ap (λ r. (evaluation_of r >>= (λ one. Ok (one.scale, after one))) >>= last) receives
          ∙ ap (λ decimals. by_scale decimals (after to)) same
          ∙ sym (ap (λ r. (evaluation_of r >>= (λ one. Ok (after one))) >>= by_scale scale) receives)
        where
          after : NumberReceiver → StoreResult
          after one = storing_computed keep (rounding_of quotient.rounded) (place_after found n) one q before

  kept_works : (b : Bool) (x : ArithmeticValue) (more : List DataInstruction) (s : Scratch) → works tables
      (kept_code items tables keep b ++ more) (over x s) ≡ works tables more (over (if b && s.truth then None else x) s)
  kept_works true x more s = refl
  kept_works false x more s = refl

  remainder_works : (quotient : Receiver) (remainder : Reference) (code : List DataInstruction)
      → IsRemainderCode items tables keep quotient remainder code
      → ConsumesTwo tables (λ x y. remain items keep x y quotient remainder) code
  remainder_works quotient remainder code (give_code, is_give, scale, has, back, is_back, is) x y s =
      ap (λ code. works tables code t) is
      ∙ works_append tables (duplicate 1 ∷ duplicate 1 ∷ i.Calculate calculation.Divide ∷ give_code) later t
      ∙ ap (λ step. go_on step (works tables later)) (give_works quotient give_code is_give q t)
      ∙ go_with (give items keep q quotient (stands s)) (after_stores (over q t)) (works tables later)
      ∙ with_same (give items keep q quotient (stands s)) _ _ remains
      ∙ sym (with_bind (give items keep q quotient (stands s)) last (after_stores s))
      ∙ sym (ap (λ r. step_with r (after_stores s)) (remain_is quotient remainder scale has x y (stands s)))
    where
      t : Scratch
      t = over y (over x s)

      q : ArithmeticValue
      q = operate operator.Divide x y

      later : List DataInstruction
      later = i.Calculate (calculation.Truncate scale) ∷ i.Calculate calculation.Multiply
          ∷ i.Calculate calculation.Subtract ∷ (kept_code items tables keep keep ++ back)

      rest : ArithmeticValue
      rest = remainder_by x y (truncated_value scale q)

      last : StoreResult → Evaluation StoreResult
      last after = give items keep (unless_kept keep after rest) (record { item = remainder; rounded = false }) after

      remains : (after : StoreResult)
          → go_on (after_stores (over q t) after) (works tables later) ≡ step_with (last after) (after_stores s)
      remains after =
          let u : Scratch = record s { storage = after.storage; truth = after.size_error } in
          kept_works keep rest back u ∙ store_works false remainder back is_back (unless_kept keep after rest) u

  -- operands in either order
  division_works : (written : DivisionOrder) (stores : ArithmeticValue → ArithmeticValue
      → StoreResult → Evaluation StoreResult) (inner code : List DataInstruction) → ConsumesTwo tables stores inner
      → IsDivisionCode items tables keep written inner code
      → ConsumesTwo tables (λ x y before. divide_into written x y (λ dividend divisor. stores dividend divisor before))
      code
  division_works By stores inner code consumes is x y s =
      ap (λ code. works tables code (over y (over x s))) is ∙ consumes x y s
  division_works Into stores inner code consumes is x y s =
      ap (λ code. works tables code (over y (over x s))) is
      ∙ works_append tables inner (discard ∷ []) (over x (over y (over x s)))
      ∙ ap (λ step. go_on step (works tables (discard ∷ []))) (consumes y x (over x s))
      ∙ go_with (stores y x (stands s)) (after_stores (over x s)) (works tables (discard ∷ []))

  -- the minuend less the total, both of which are taken
  less_total : (receivers : List Receiver) (code : List DataInstruction) → AreGivesCode items tables keep receivers code
      → ConsumesTwo tables (λ x y. give_each items keep (operate operator.Subtract y x) receivers)
      (duplicate 1 ∷ i.Calculate calculation.Subtract ∷ (code ++ (discard ∷ discard ∷ [])))
  less_total receivers code is x y s =
      let z : ArithmeticValue = operate operator.Subtract y x in
      works_append tables code (discard ∷ discard ∷ []) (over z (over x s))
      ∙ ap (λ step. go_on step (works tables (discard ∷ discard ∷ []))) (gives_works receivers code is z (over x s))
      ∙ go_with (give_each items keep z receivers (stands s)) (after_stores (over z (over x s)))
      (works tables (discard ∷ discard ∷ []))

  given : (receivers : List Receiver) (code : List DataInstruction) → AreGivesCode items tables keep receivers code
      → Consumes tables (λ x. give_each items keep x receivers) (code ++ (discard ∷ []))
  given receivers code is = dropped tables (λ x. give_each items keep x receivers) code (gives_works receivers code is)

  updated : (one : Operator) (receivers : List Receiver) (code : List DataInstruction) → AreUpdatesCode items tables
      keep one receivers code → Consumes tables (λ x. update_each items keep one x receivers) (code ++ (discard ∷ []))
  updated one receivers code is =
      dropped tables (λ x. update_each items keep one x receivers) code (updates_works one receivers code is)

  -- What is stored begins with no size error.
  abbrev DoesOperation : Operation → List DataInstruction → Type 0
  DoesOperation one code = (s : Scratch)
      → works tables code (record s { truth = false }) ≡ step_with (operation items keep one s.storage) (after_stores s)

  operation_works : (one : Operation) (code : List DataInstruction) → IsOperationCode items tables keep one code
      → DoesOperation one code
  operation_works (o.Add operands receivers) code (front, is_front, back, is_back, is) s =
      ap (λ code. works tables code (record s { truth = false })) is
      ∙ valued tables (sum_of_operands items keep operands) (λ x. update_each items keep operator.Add x receivers)
      front (back ++ (discard ∷ [])) (total_works operands front is_front) (updated operator.Add receivers back is_back)
      (record s { truth = false })
  operation_works (o.AddGiving operands receivers) code (front, is_front, back, is_back, is) s =
      ap (λ code. works tables code (record s { truth = false })) is
      ∙ valued tables (sum_of_operands items keep operands) (λ x. give_each items keep x receivers)
      front (back ++ (discard ∷ [])) (total_works operands front is_front) (given receivers back is_back)
      (record s { truth = false })
  operation_works (o.Subtract operands receivers) code (front, is_front, back, is_back, is) s =
      ap (λ code. works tables code (record s { truth = false })) is
      ∙ valued tables (sum_of_operands items keep operands) (λ x. update_each items keep operator.Subtract x receivers)
      front (back ++ (discard ∷ [])) (total_works operands front is_front)
      (updated operator.Subtract receivers back is_back) (record s { truth = false })
  operation_works (o.SubtractGiving operands minuend receivers) code
      (front, is_front, other, is_other, back, is_back, is) s =
      ap (λ code. works tables code (record s { truth = false })) is
      ∙ valued_two tables (sum_of_operands items keep operands)
      (operand_value items minuend) (λ x y. give_each items keep (operate operator.Subtract y x) receivers) front other
      (duplicate 1 ∷ i.Calculate calculation.Subtract ∷ (back ++ (discard ∷ discard ∷ [])))
      (total_works operands front is_front) (value_works items tables order minuend other is_other)
      (less_total receivers back is_back) (record s { truth = false })
  operation_works (o.Multiply factor receivers) code (front, is_front, back, is_back, is) s =
      ap (λ code. works tables code (record s { truth = false })) is
      ∙ valued tables (operand_value items factor) (λ x. update_each items keep operator.Multiply x receivers)
      front (back ++ (discard ∷ [])) (value_works items tables order factor front is_front)
      (updated operator.Multiply receivers back is_back) (record s { truth = false })
  operation_works (o.MultiplyGiving factor by receivers) code (front, is_front, other, is_other, back, is_back, is) s =
      ap (λ code. works tables code (record s { truth = false })) is
      ∙ valued_two tables (operand_value items factor)
      (operand_value items by) (λ x y. give_each items keep (operate operator.Multiply x y) receivers) front other
      (i.Calculate calculation.Multiply ∷ (back ++ (discard ∷ [])))
      (value_works items tables order factor front is_front) (value_works items tables order by other is_other)
      (combined tables operator.Multiply (λ x. give_each items keep x receivers) (back ++ (discard ∷ []))
      (given receivers back is_back)) (record s { truth = false })
  operation_works (o.Divide divisor receivers) code (front, is_front, back, is_back, is) s =
      ap (λ code. works tables code (record s { truth = false })) is
      ∙ valued tables (operand_value items divisor) (λ x. update_each items keep operator.Divide x receivers)
      front (back ++ (discard ∷ [])) (value_works items tables order divisor front is_front)
      (updated operator.Divide receivers back is_back) (record s { truth = false })
  operation_works (o.DivideGiving first written second receivers) code
      (front, is_front, other, is_other, back, is_back, last, is_last, is) s =
      ap (λ code. works tables code (record s { truth = false })) is
      ∙ valued_two tables (operand_value items first) (operand_value items second) (λ x y before. divide_into written
      x y (λ dividend divisor. give_each items keep (operate operator.Divide dividend divisor) receivers before)) front
      other last
      (value_works items tables order first front is_front) (value_works items tables order second other is_other)
      (division_works written (λ x y. give_each items keep (operate operator.Divide x y) receivers)
      (i.Calculate calculation.Divide ∷ (back ++ (discard ∷ []))) last
      (combined tables operator.Divide (λ x. give_each items keep x receivers) (back ++ (discard ∷ []))
      (given receivers back is_back)) is_last) (record s { truth = false })
  operation_works (o.DivideRemainder first written second quotient remainder) code
      (front, is_front, other, is_other, back, is_back, last, is_last, is) s =
      ap (λ code. works tables code (record s { truth = false })) is
      ∙ valued_two tables (operand_value items first) (operand_value items second) (λ x y before. divide_into written x
      y (λ dividend divisor. remain items keep dividend divisor quotient remainder before)) front other last
      (value_works items tables order first front is_front) (value_works items tables order second other is_other)
      (division_works written (λ x y. remain items keep x y quotient remainder) back last
      (remainder_works quotient remainder back is_back) is_last) (record s { truth = false })
  operation_works (o.Compute receivers value) code (front, computes, adds, back, is_back, is) s =
      ap (λ code. works tables code (record s { truth = false })) is
      ∙ valued tables (expression_value items value) (λ x. give_each items keep x receivers) front
      (back ++ (discard ∷ [])) computes (given receivers back is_back) (record s { truth = false })

  pub arithmetic_works : (one : Operation) (code : List DataInstruction) → IsArithmeticCode items tables keep one code
      → DoesArithmetic items tables keep one code
  arithmetic_works one code (body, is_body, is) s =
      ap (λ code. works tables code s) is ∙ operation_works one body is_body s
