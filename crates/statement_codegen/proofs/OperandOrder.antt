-- A relation of two operands alone takes the left one before it finds the right one. Where the left one has no fault
-- but that of its place, or the right one none but that of its bytes, it is all the same; elsewhere two numbers are
-- compared as numbers, or the left one is compared with ZERO before.
use Rattle.std.proofs.Common.{◌≡◌, ℕ, Bool, true, false, not, ◌&&◌, ◌==◌, List, [], ◌∷◌, ◌++◌, length, Option, Some}
use Rattle.std.proofs.Common.{None, Ok, Err, refl, sym, ap, subst, ◌∙◌, arith}
use Rattle.std.proofs.Common.{ℤ, pos, negsuc, zero, suc, ◌+◌, ◌-◌, map}
use Rattle.std.specs.Prelude.{slice_get, nat_le, if◌then◌else◌}
use Rattle.std.proofs.lemmas.Bool.Decides.{nat_tests}
use Rattle.decimal18.specs.Fraction.{Fraction}
use Rattle.decimal18.specs.Order.{order}
use Rattle.items.specs.declared.item.Kind.{Kind}
use Rattle.items.specs.declared.item.Kind.TheVariants as kind
use Rattle.items.specs.declared.numeric.Numeric.{Numeric}
use Rattle.items.specs.Items.{number_in}
use Rattle.items.specs.Values.{value_of}
use Rattle.text_ops.specs.Compare as compare
use Rattle.source_tree.specs.declared.reference.Subscript as written
use Rattle.source_tree.specs.declared.reference.Reference.{Reference}
use Rattle.source_tree.specs.declared.table.Dimension.{Dimension}
use Rattle.source_tree.specs.declared.expression.Operand.{Operand}
use Rattle.source_tree.specs.declared.expression.Operand.TheVariants as operand
use Rattle.source_tree.specs.declared.condition.Relation.{Relation}
use Rattle.source_tree.specs.declared.condition.Relation.TheVariants.{Equal}
use Rattle.source_tree.specs.declared.condition.Side.{Side}
use Rattle.source_tree.specs.ArithmeticRules.{is_numeric_kind}
use Rattle.source_tree.specs.Broken.{where_so}
use Rattle.source_tree.specs.Computed.{ArithmeticValue, number_at, operand_value}
use Rattle.source_tree.specs.ConditionRules.{Characters, compared_kind, compared_only, compared_alone}
use Rattle.source_tree.specs.Conditions.{satisfies, senders_satisfy, without_value, take_bytes, take_item, take_operand}
use Rattle.source_tree.specs.Conditions.{numbers_satisfy, alone_side, side_number, relation_of}
use Rattle.source_tree.specs.Evaluated.{Fault, Evaluation, ◌>>=◌, evaluation_of}
use Rattle.source_tree.specs.Literals.{Sender, item_sender}
use Rattle.source_tree.specs.Moving.{taken_of}
use Rattle.source_tree.specs.LookUp.{items_named, first}
use Rattle.source_tree.specs.NameRules.{unique_name_rules, part_item_rules, number_rules_of, reference_rules}
use Rattle.source_tree.specs.NameRules.{any_item, operand_rules}
use Rattle.source_tree.specs.declared.reference.Part.{Part}
use Rattle.source_tree.specs.Evaluated as broken
use Rattle.source_tree.specs.Parts.{part_kind, seen_by, seen_through, has_part}
use Rattle.source_tree.specs.References.{part_after, part_of_length, part_from, length_value, part_in}
use Rattle.source_tree.specs.References.{referred_place, subscript_value}
use Rattle.source_tree.specs.Places.{LocatedItem}
use Rattle.source_tree.specs.References.{ItemPlace, part_of, place_after, bytes_before, occurrence, place_of}
use Rattle.source_tree.specs.Storage.{Storage}
use Rattle.source_tree.proofs.Subjects.{item_beside}
use Rattle.data_instructions.specs.ConditionCodes.{pair_truth, numbers_truth}
use Rattle.condition_codegen.specs.DataCode.{item_number}
use Rattle.condition_codegen.specs.ConditionCode.{zero_literal, is_single, is_numeric_item, is_numeric_operand}
use Rattle.condition_codegen.specs.ConditionCode.{is_operand_at_hand}
use Rattle.condition_codegen.proofs.Lists.{left_none}
use Rattle.statement_codegen.proofs.NamedItems.{only_named, item_there}
use Rattle.statement_codegen.proofs.SubjectFaults.{IsAtHand, OnlyData, pair_fault, alone_number}

-- ---- what is taken before something else

-- It makes no difference before what has the same fault.
taken_too : {A : Type 0} (take : Evaluation (Unit {0})) (found : Evaluation A)
    → ((fault : Fault) → take ≡ Err fault → found ≡ Err fault) → found ≡ (take >>= (λ _. found))
taken_too (Ok value) found same = refl
taken_too (Err fault) found same = same fault refl

-- a test is taken by its truth
taken_by : {A B : Type 0} (look : Evaluation A) (found : Evaluation B)
    → (look >>= (λ _. found)) ≡ (without_value look >>= (λ _. found))
taken_by (Ok value) found = refl
taken_by (Err fault) found = refl

-- ---- items without subscripts

same : (n m : ℕ) → (n == m) ≡ true → n ≡ m
same n m e = grind (arith, nat_tests)

no_dimensions : (items : List LocatedItem) (dimensions : List Dimension) (subscripts : List written.Subscript)
    (storage : Storage) → (length dimensions == 0) ≡ true
    → bytes_before items dimensions subscripts storage ≡ Ok 0
no_dimensions items [] subscripts storage e = refl
no_dimensions items (one ∷ more) subscripts storage e = let none =
    same (length (one ∷ more)) 0 e in absurd (omega (arith, none))

-- ---- items that are no numbers

pub text_taken : (one : Kind) (bytes : List ℕ) → is_numeric_kind one ≡ false → take_bytes one bytes ≡ Ok tt
text_taken kind.Group bytes e = refl
text_taken (kind.Alphabetic justified) bytes e = refl
text_taken (kind.Alphanumeric justified) bytes e = refl
text_taken kind.AlphanumericEdited bytes e = refl
text_taken (kind.NumericEdited blank) bytes e = refl
text_taken (kind.Numeric form) bytes e = absurd cc

-- an item that is found so many bytes after its start
abbrev found_behind : LocatedItem → Evaluation ℕ → Evaluation ItemPlace
found_behind one behind = behind >>= (λ n. Ok (place_after one n))

-- what is sent from a place
abbrev sent_from : Storage → Evaluation ItemPlace → Evaluation Sender
sent_from storage place = place >>= (λ one. Ok (item_sender one.item (part_of storage one)))

-- the number at a place
abbrev value_from : Storage → Evaluation ItemPlace → Evaluation ArithmeticValue
value_from storage place = (place >>= number_at storage) >>= (λ x. Ok (Some x))

-- a place of characters, or none
abbrev IsText : Evaluation ItemPlace → Type 0
IsText (Ok place) = is_numeric_kind place.item.kind ≡ false
IsText (Err fault) = Unit {0}

text_place : (place : Evaluation ItemPlace) (storage : Storage) (fault : Fault)
    (go : Sender → Evaluation Bool) → IsText place
    → (place >>= take_item storage) ≡ Err fault → (sent_from storage place >>= go) ≡ Err fault
text_place (Ok place) storage fault go text e =
    let taken : ◌≡◌ {A = Evaluation (Unit {0})} (Ok tt) (Err fault) =
    sym (text_taken place.item.kind (part_of storage place) text) ∙ e in absurd cc
text_place (Err other) storage fault go text e = let is : ◌≡◌ {A = Evaluation (Unit {0})} (Err other) (Err fault) =
    e in cc

-- ---- parts, which are no numbers

part_text : (one : Kind) → is_numeric_kind (part_kind one) ≡ false
part_text kind.Group = refl
part_text (kind.Alphabetic justified) = refl
part_text (kind.Alphanumeric justified) = refl
part_text kind.AlphanumericEdited = refl
part_text (kind.NumericEdited blank) = refl
part_text (kind.Numeric form) = refl

text_bound : {A : Type 0} (r : Evaluation A) (f : A → Evaluation ItemPlace) → ((x : A) → IsText (f x))
    → IsText (r >>= f)
text_bound (Ok x) f text = text x
text_bound (Err fault) f text = tt

text_length : (whole : ItemPlace) (before : ℕ) (z : ℤ) → IsText (part_of_length whole before z)
text_length whole before (negsuc n) = tt
text_length whole before (pos n) = by_test (nat_le 1 n && nat_le (before + n) whole.item.length)
  where
    by_test : (b : Bool) → IsText (if b then Ok (part_after whole before n) else Err broken.Part)
    by_test true = part_text whole.item.kind
    by_test false = tt

text_made : (whole : ItemPlace) (z : ℤ) (length : Option ℤ) → IsText (part_from whole z length)
text_made whole (pos zero) length = tt
text_made whole (negsuc n) length = tt
text_made whole (pos (suc before)) None = text_length whole before (pos (whole.item.length - before))
text_made whole (pos (suc before)) (Some z) = text_length whole before z

-- a reference without a part, of which something holds
without_part : (one : Reference) (x : Bool) → (not (has_part one) && x) ≡ true → (one.part ≡ None) × (x ≡ true)
without_part one x e = by_part one.part e
  where
    by_part : (part : Option Part) → (not (has_part (record one { part = part })) && x) ≡ true
        → (part ≡ None) × (x ≡ true)
    by_part None e = (refl, e)
    by_part (Some part) e = absurd cc

-- ---- two numbers

-- a place of a number, or none
abbrev IsNumeric : Evaluation ItemPlace → Type 0
IsNumeric (Ok place) = is_numeric_kind place.item.kind ≡ true
IsNumeric (Err fault) = Unit {0}

numeric_behind : (one : LocatedItem) (behind : Evaluation ℕ) → is_numeric_kind one.item.kind ≡ true
    → IsNumeric (found_behind one behind)
numeric_behind one (Ok n) e = e
numeric_behind one (Err fault) e = tt

right_number : (by : Relation) (x : Fraction) (found : Option Fraction)
    → (evaluation_of (compare.both order (Some x) found) >>= (λ ordering. Ok (satisfies by ordering)))
    ≡ ((evaluation_of found >>= (λ y. Ok (Some y))) >>= numbers_satisfy by (Some x))
right_number by x (Some y) = refl
right_number by x None = refl

module _ (by : Relation) (storage : Storage) where
  right_bytes : (form : Numeric) (size : ℕ) (bytes : List ℕ) (x : Fraction) (one : Kind) (length : ℕ) (others : List ℕ)
      → value_of form bytes ≡ Some x → is_numeric_kind one ≡ true
      → senders_satisfy by (item_sender (record { kind = kind.Numeric form; length = size }) bytes)
      (item_sender (record { kind = one; length = length }) others)
      ≡ ((evaluation_of (number_in one others) >>= (λ y. Ok (Some y))) >>= numbers_satisfy by (Some x))
  unfolding compare.comparison_of
  right_bytes form size bytes x kind.Group length others is e = absurd cc
  right_bytes form size bytes x (kind.Alphabetic justified) length others is e = absurd cc
  right_bytes form size bytes x (kind.Alphanumeric justified) length others is e = absurd cc
  right_bytes form size bytes x kind.AlphanumericEdited length others is e = absurd cc
  right_bytes form size bytes x (kind.NumericEdited blank) length others is e = absurd cc
  right_bytes form size bytes x (kind.Numeric other) length others is e =
      ap (λ (o : Option Fraction).
      evaluation_of (compare.both order o (value_of other others)) >>= (λ ordering. Ok (satisfies by ordering))) is
      ∙ right_number by x (value_of other others)

  right_place : (form : Numeric) (size : ℕ) (bytes : List ℕ) (x : Fraction) (other : Evaluation ItemPlace)
      → value_of form bytes ≡ Some x → IsNumeric other
      → (sent_from
      storage other >>= senders_satisfy by (item_sender (record { kind = kind.Numeric form; length = size }) bytes))
      ≡ (value_from storage other >>= numbers_satisfy by (Some x))
  right_place form size bytes x (Ok place) is e =
      right_bytes form size bytes x place.item.kind place.item.length (part_of storage place) is e
  right_place form size bytes x (Err fault) is e = refl

  left_number : (form : Numeric) (size : ℕ) (bytes : List ℕ) (other : Evaluation ItemPlace) (value : Option Fraction)
      → value_of form bytes ≡ value → IsNumeric other
      → (without_value (evaluation_of value) >>= (λ _. sent_from storage other >>= senders_satisfy by
      (item_sender (record { kind = kind.Numeric form; length = size }) bytes)))
      ≡ ((evaluation_of value >>= (λ x. Ok (Some x))) >>= (λ x. value_from storage other >>= numbers_satisfy by x))
  left_number form size bytes other (Some x) is e = right_place form size bytes x other is e
  left_number form size bytes other None is e = refl

  left_bytes : (one : Kind) (size : ℕ) (bytes : List ℕ) (other : Evaluation ItemPlace) → is_numeric_kind one ≡ true
      → IsNumeric other
      → (take_bytes one bytes >>=
      (λ _. sent_from storage other >>= senders_satisfy by (item_sender (record { kind = one; length = size }) bytes)))
      ≡ ((evaluation_of (number_in one bytes) >>= (λ x. Ok (Some x))) >>=
      (λ x. value_from storage other >>= numbers_satisfy by x))
  left_bytes kind.Group size bytes other is e = absurd cc
  left_bytes (kind.Alphabetic justified) size bytes other is e = absurd cc
  left_bytes (kind.Alphanumeric justified) size bytes other is e = absurd cc
  left_bytes kind.AlphanumericEdited size bytes other is e = absurd cc
  left_bytes (kind.NumericEdited blank) size bytes other is e = absurd cc
  left_bytes (kind.Numeric form) size bytes other is e = left_number form size bytes other (value_of form bytes) refl e

  places_compared : (one other : Evaluation ItemPlace) → IsNumeric one → IsNumeric other
      → ((one >>= take_item storage) >>=
      (λ _. sent_from storage one >>= (λ x. sent_from storage other >>= senders_satisfy by x)))
      ≡ (value_from storage one >>= (λ x. value_from storage other >>= numbers_satisfy by x))
  places_compared (Ok place) other is e =
      left_bytes place.item.kind place.item.length (part_of storage place) other is e
  places_compared (Err fault) other is e = refl

module _ (items : List LocatedItem) where
  -- ---- the item of a reference that keeps its rules

  -- the only item that a name names
  only_item : (one : Reference) → reference_rules items any_item one ≡ []
      → (found : LocatedItem) × (items_named items one.item ≡ found ∷ [])
  only_item one e =
      let place = one.item.name.place in
      let rules = λ (found : LocatedItem).
      where_so (not (length one.subscripts == length found.dimensions)) 50 place ++ part_item_rules one found
      ++ any_item place (seen_through one found) in
      let all = items_named items one.item in
      let only =
      only_named place rules all (left_none (unique_name_rules place rules all) (number_rules_of items one) e) in
      (only.0, only.1)

  -- its place
  placed : (one : Reference) (storage : Storage) (found : LocatedItem) → items_named items one.item ≡ found ∷ []
      → place_of items one storage ≡ referred_place items one found storage
  placed one storage found named = ap (λ (l : List LocatedItem).
      evaluation_of (first l) >>= (λ item. referred_place items one item storage)) named

  -- A part is characters, and so is an item that is no number.
  text_found : (one : Reference) (found : LocatedItem) (storage : Storage)
      → (not (has_part one) && is_numeric_kind found.item.kind) ≡ false
      → IsText (referred_place items one found storage)
  text_found one found storage e =
      by_part one.part (bytes_before items found.dimensions one.subscripts storage) e
    where
      by_part : (part : Option Part) (behind : Evaluation ℕ)
          → (not (has_part (record one { part = part })) && is_numeric_kind found.item.kind) ≡ false
          → IsText (found_behind found behind >>= part_in items part storage)
      by_part part (Err fault) e = tt
      by_part None (Ok n) e = e
      by_part (Some part) (Ok n) e =
          text_bound (subscript_value items part.first storage)
          (λ z. length_value items part.length storage >>= (λ l. part_from (place_after found n) z l))
          (λ z. text_bound (length_value items part.length storage) (λ l. part_from (place_after found n) z l)
          (λ l. text_made (place_after found n) z l))

  -- its place, if it has no part and no dimensions
  pub single_place : (one : Reference) (storage : Storage) → reference_rules items any_item one ≡ []
      → (not (has_part one) && is_single (slice_get items (item_number items one.item))) ≡ true
      → (found : LocatedItem) × (slice_get items (item_number items one.item) ≡ Some found)
      × (place_of items one storage ≡ Ok (place_after found 0))
  single_place one storage e single =
      let only = only_item one e in
      let whole = without_part one (is_single (slice_get items (item_number items one.item))) single in
      let there = item_there items one.item only.0 only.1 in
      let none : (length only.0.dimensions == 0) ≡ true = sym (ap is_single there) ∙ whole.1 in (
        only.0,
        there,
        placed one storage only.0 only.1
            ∙ ap (λ part. occurrence items one.subscripts only.0 storage >>= part_in items part storage) whole.0
            ∙ ap (λ behind. found_behind only.0 behind >>= part_in items None storage)
            (no_dimensions items only.0.dimensions one.subscripts storage none),
      )

  pub at_hand : (one : Operand) (storage : Storage) → is_operand_at_hand items one ≡ true → operand_rules items one ≡ []
      → IsAtHand items one storage
  at_hand (operand.Item one) storage is e = subst OnlyData (sym (single_place one storage e is).2) tt
  at_hand (operand.Literal one) storage is e = tt

  -- ---- where it is all the same

  text_fault : (one : Reference) (b : Operand) (by : Relation) (storage : Storage) (fault : Fault)
      → reference_rules items any_item one ≡ []
      → is_numeric_operand items (operand.Item one) ≡ false → take_operand items (operand.Item one) storage ≡ Err fault
      → pair_truth items (operand.Item one) by b storage ≡ Err fault
  text_fault one b by storage fault e text taken =
      let only = only_item one e in
      let is = placed one storage only.0 only.1 in
      let no_number : (not (has_part one) && is_numeric_kind only.0.item.kind) ≡ false =
      sym (ap (λ o. not (has_part one) && is_numeric_item o) (item_there items one.item only.0 only.1)) ∙ text in
      let go : Sender → Evaluation Bool = λ x. taken_of items b storage >>= senders_satisfy by x in
      ap (λ (p : Evaluation ItemPlace). sent_from storage p >>= go) is
      ∙ text_place (referred_place items one only.0 storage) storage fault go
      (text_found one only.0 storage no_number)
      (sym (ap (λ (p : Evaluation ItemPlace). p >>= take_item storage) is) ∙ taken)

  same_fault : (a b : Operand) (by : Relation) (storage : Storage) (fault : Fault) (numeric hand : Bool)
      → is_numeric_operand items a ≡ numeric → is_operand_at_hand items b ≡ hand
      → (numeric && not hand) ≡ false → operand_rules items a ≡ [] → operand_rules items b ≡ []
      → take_operand items a storage ≡ Err fault → pair_truth items a by b storage ≡ Err fault
  same_fault a b by storage fault numeric true is h e keeps others taken =
      pair_fault items a b by storage fault (at_hand b storage h others) taken
  same_fault (operand.Item one) b by storage fault false false is h e keeps others taken =
      text_fault one b by storage fault keeps is taken
  same_fault (operand.Literal one) b by storage fault false false is h e keeps others taken = absurd cc
  same_fault a b by storage fault true false is h e keeps others taken = absurd cc

  pub taken_alike : (a b : Operand) (left : Side) (by : Relation) (right : Side) (storage : Storage)
      → (is_numeric_operand items a && not (is_operand_at_hand items b)) ≡ false
      → operand_rules items a ≡ [] → operand_rules items b ≡ []
      → pair_truth items a by b storage ≡ relation_of items (Some a) (Some b) left by right storage
  taken_alike a b left by right storage e keeps others =
      taken_too (take_operand items a storage) (pair_truth items a by b storage)
      (λ fault taken. same_fault a b by storage fault (is_numeric_operand items a) (is_operand_at_hand items b) refl
      refl e keeps others taken)

  -- ---- where the left one is taken first

  -- It is compared with ZERO.
  pub looked_first : (a b : Operand) (left : Side) (by : Relation) (right : Side) (storage : Storage)
      → is_numeric_operand items a ≡ true
      → (pair_truth items a Equal (operand.Literal zero_literal) storage >>= (λ _. pair_truth items a by b storage))
      ≡ relation_of items (Some a) (Some b) left by right storage
  looked_first (operand.Item one) b left by right storage e =
      taken_by (pair_truth items (operand.Item one) Equal (operand.Literal zero_literal) storage)
      (pair_truth items (operand.Item one) by b storage)
      ∙ ap (λ (taken : Evaluation (Unit {0})). taken >>= (λ _. pair_truth items (operand.Item one) by b storage))
      (item_beside items storage (place_of items one storage))
  looked_first (operand.Literal one) b left by right storage e = absurd cc

  all_of_it : (storage : Storage) (place : Evaluation ItemPlace) → (place >>= part_in items None storage) ≡ place
  all_of_it storage (Ok place) = refl
  all_of_it storage (Err fault) = refl

  numeric_place : (one : Reference) (storage : Storage) → reference_rules items any_item one ≡ []
      → is_numeric_operand items (operand.Item one) ≡ true → IsNumeric (place_of items one storage)
  numeric_place one storage e numeric =
      let only = only_item one e in
      let whole = without_part one (is_numeric_item (slice_get items (item_number items one.item))) numeric in
      let number : is_numeric_kind only.0.item.kind ≡ true =
      sym (ap is_numeric_item (item_there items one.item only.0 only.1)) ∙ whole.1 in
      subst IsNumeric (sym (placed one storage only.0 only.1
      ∙ ap (λ part. occurrence items one.subscripts only.0 storage >>= part_in items part storage) whole.0
      ∙ all_of_it storage (occurrence items one.subscripts only.0 storage)))
      (numeric_behind only.0 (bytes_before items only.0.dimensions one.subscripts storage) number)

  -- Two numbers are compared as numbers.
  pub numbers_alike : (a b : Operand) (left : Side) (by : Relation) (right : Side) (storage : Storage)
      → alone_side left ≡ Some a → alone_side right ≡ Some b
      → is_numeric_operand items a ≡ true → is_numeric_operand items b ≡ true → operand_rules items a ≡ []
      → operand_rules items b ≡ []
      → numbers_truth items left by right storage ≡ relation_of items (Some a) (Some b) left by right storage
  numbers_alike (operand.Item one) (operand.Item other) left by right storage is of numeric also keeps others =
      ap (λ (x : Evaluation ArithmeticValue). x >>= (λ n. side_number items right storage >>= numbers_satisfy by n))
      (alone_number items left (operand.Item one) storage is)
      ∙ ap (λ (y : Evaluation ArithmeticValue). operand_value items (operand.Item one) storage >>=
      (λ n. y >>= numbers_satisfy by n)) (alone_number items right (operand.Item other) storage of)
      ∙ sym (places_compared by storage (place_of items one storage) (place_of items other storage)
      (numeric_place one storage keeps numeric) (numeric_place other storage others also))
  numbers_alike (operand.Item one) (operand.Literal other) left by right storage is of numeric also keeps others =
      absurd cc
  numbers_alike (operand.Literal one) b left by right storage is of numeric also keeps others = absurd cc

  -- A numeric item isn't compared by its characters alone.
  no_characters : (one : Kind) → is_numeric_kind one ≡ true → compared_kind one ≡ Characters → ⊥
  no_characters kind.Group e is = absurd cc
  no_characters (kind.Alphabetic justified) e is = absurd cc
  no_characters (kind.Alphanumeric justified) e is = absurd cc
  no_characters kind.AlphanumericEdited e is = absurd cc
  no_characters (kind.NumericEdited blank) e is = absurd cc
  no_characters (kind.Numeric form) e is = absurd cc

  pub compared_as_number : (one : Operand) → operand_rules items one ≡ [] → is_numeric_operand items one ≡ true
      → compared_alone items (Some one) ≡ Characters → ⊥
  compared_as_number (operand.Item one) e numeric is =
      let only = only_item one e in
      let whole = without_part one (is_numeric_item (slice_get items (item_number items one.item))) numeric in
      no_characters only.0.item.kind (sym (ap is_numeric_item (item_there items one.item only.0 only.1)) ∙ whole.1)
      (sym (ap (λ l. compared_only (map (seen_through one) l)) only.1
      ∙ ap (λ part. compared_only (seen_by part only.0 ∷ [])) whole.0) ∙ is)
  compared_as_number (operand.Literal one) e numeric is = absurd cc
