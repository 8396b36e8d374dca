-- The code of conditions finds what it needs.
use Rattle.std.proofs.Common.{◌≡◌, ℕ, ◌+◌, ◌-◌, List, [], ◌∷◌, ◌++◌, refl, sym, ◌∙◌, ap, arith, Option, Some, None}
use Rattle.std.specs.Prelude.{Bool, true, false, slice_get, if◌then◌else◌}
use Rattle.std.proofs.lemmas.Option.{same_Some}
use Rattle.items.specs.declared.taken.Taken.{Taken}
use Rattle.items.specs.declared.taken.Taken.TheVariants as kept
use Rattle.source_tree.specs.declared.literal.Literal.{Literal}
use Rattle.source_tree.specs.declared.entry.ValueRange.{ValueRange}
use Rattle.source_tree.specs.declared.reference.Reference.{Reference}
use Rattle.source_tree.specs.declared.expression.Operand.{Operand}
use Rattle.source_tree.specs.declared.expression.Operand.TheVariants as operand
use Rattle.source_tree.specs.declared.expression.Expression.{Expression}
use Rattle.source_tree.specs.declared.condition.Relation.{Relation}
use Rattle.source_tree.specs.declared.condition.SignTest.{SignTest}
use Rattle.source_tree.specs.declared.condition.Class.{Class}
use Rattle.source_tree.specs.declared.condition.Side.{Side}
use Rattle.source_tree.specs.Parts.{seen_through}
use Rattle.source_tree.specs.Places.{LocatedItem}
use Rattle.source_tree.specs.Literals.{literal_sender}
use Rattle.source_tree.specs.Conditions.{sign_relation}
use Rattle.data_instructions.specs.declared.tables.DataTables.{DataTables}
use Rattle.data_instructions.specs.declared.shape.Shape.{Shape}
use Rattle.data_instructions.specs.declared.test.Test.TheVariants as t
use Rattle.data_instructions.specs.declared.instruction.DataInstruction.{DataInstruction}
use Rattle.data_instructions.specs.declared.instruction.DataInstruction.TheVariants as i
use Rattle.data_instructions.specs.Shapes.{and_then, shape_with, effect}
use Rattle.data_instructions.specs.Codes.{IsSenderCode}
use Rattle.data_instructions.specs.Codes.{data_item}
use Rattle.data_instructions.specs.Chains.{effects, LiesAll, SendsAs}
use Rattle.data_instructions.specs.ArithmeticCodes.{PushesNumber, LiesOperand}
use Rattle.data_instructions.specs.ConditionCodes.{KnowsTest, negation, IsComparedCode, IsPairCode, AreNumbersCode}
use Rattle.data_instructions.specs.ConditionCodes.{IsSignCode, IsClassCode, IsRangeTest, AreValuesCode, IsNameCode}
use Rattle.data_instructions.specs.ConditionCodes.{LiesCondition}
use Rattle.data_instructions.proofs.Chains.{effects_append, within, place_known, subscripts_known, taking_known}
use Rattle.data_instructions.proofs.Chains.{sender_known}
use Rattle.data_instructions.proofs.Expressions.{counting, number_known}
use Rattle.data_instructions.proofs.ArithmeticChains.{TakesTwo, valued_two_known}

module _ (tables : DataTables) where
  -- two numbers are taken
  compare_known : (one : Relation) → TakesTwo tables (i.Test (t.CompareNumbers one) ∷ [])
  compare_known one s =
      let n : ℕ = s.stacks.numbers in
      ap (λ b. and_then (shape_with (if b then Some (record s.stacks { numbers = n + 1 + 1 - 2 }) else None)
      (Some s.line) (Some s.sender)) (effects tables [])) (within 2 (n + 1 + 1) (omega arith))
      ∙ ap (λ m. Some (counting m s)) (omega arith)

  -- one test, and another
  pub both_known : (front back : List DataInstruction) → KnowsTest tables front → KnowsTest tables back
      → KnowsTest tables (front ++ back)
  both_known front back knows knows_other s =
      let first = knows s in
      let second = knows_other (record s { sender = first.sender }) in
      record {
        sender = second.sender;
        by = effects_append tables front back s ∙ ap (λ o. and_then o (effects tables back)) first.by ∙ second.by;
      }

  numbers_known : (one : Relation) (front back code : List DataInstruction) → PushesNumber tables front
      → PushesNumber tables back → code ≡ front ++ (back ++ (i.Test (t.CompareNumbers one) ∷ []))
      → KnowsTest tables code
  numbers_known one front back code adds adds_other is s = record {
    sender = s.sender;
    by = ap (λ c. effects tables c s) is
        ∙ valued_two_known tables front back (i.Test (t.CompareNumbers one) ∷ []) adds adds_other (compare_known one) s;
  }

  inverted_known : (negated : Bool) (s : Shape) → effects tables (negation negated) s ≡ Some s
  inverted_known true s = refl
  inverted_known false s = refl

module _ (items : List LocatedItem) (tables : DataTables) where
  -- what a sender counts as
  sends_as : (sender : Operand) (code : List DataInstruction) → IsSenderCode items tables sender code
      → LiesOperand items tables sender → (sent : Taken) × SendsAs items tables sender sent
  sends_as (operand.Item reference) code is lies = (
    kept.Item (seen_through reference is.1.found).item,
    (
      lies,
      λ found named.
          ap (λ (o : LocatedItem). kept.Item (seen_through reference o).item)
          (same_Some found is.1.found (sym named ∙ is.1.named)),
    ),
  )
  sends_as (operand.Literal literal) code is lies = ((literal_sender literal.value).taken, refl)

  compared_known : (one : Relation) (other : Operand) (code : List DataInstruction)
      → IsComparedCode items tables one other code → LiesOperand items tables other → (sent : Taken) (s : Shape)
      → effects tables code (record s { sender = Some sent }) ≡ Some (record s { sender = Some sent })
  compared_known one (operand.Item reference) code is lies sent s =
      taking_known items tables (i.Test (t.Compare one)) reference code is lies (record s { sender = Some sent })
  compared_known one (operand.Literal literal) code (index, has, is) lies sent s =
      ap (λ c. effects tables c (record s { sender = Some sent })) is
      ∙ ap (λ o. and_then (shape_with (Some s.stacks) (Some s.line) (and_then o (λ entry. Some (Some sent))))
      (effects tables [])) has.1

  pub pair_known : (a : Operand) (one : Relation) (b : Operand) (code : List DataInstruction)
      → IsPairCode items tables a one b code → LiesOperand items tables a → LiesOperand items tables b
      → KnowsTest tables code
  pair_known a one b code (front, is_front, back, is_back, is) lies others s =
      let sends = sends_as a front is_front lies in
      record {
        sender = Some sends.0;
        by =
            ap (λ c. effects tables c s) is
            ∙ effects_append tables front back s
            ∙ ap (λ o. and_then o (effects tables back)) (sender_known items tables a front is_front sends.0 sends.1 s)
            ∙ compared_known one b back is_back others sends.0 s;
      }

  pub sides_known : (left : Side) (one : Relation) (right : Side) (code : List DataInstruction)
      → AreNumbersCode items tables left one right code → KnowsTest tables code
  sides_known left one right code (front, is_front, back, is_back, is) =
      numbers_known tables one front back code is_front.1 is_back.1 is

  pub sign_known : (value : Expression) (negated : Bool) (one : SignTest) (code : List DataInstruction)
      → IsSignCode items tables value negated one code → KnowsTest tables code
  sign_known value negated one code (front, computes, adds, back, is_back, is) = numbers_known tables
      (sign_relation one negated) front back code adds (number_known items tables _ back is_back) is

  pub class_known : (reference : Reference) (negated : Bool) (one : Class) (code : List DataInstruction)
      → IsClassCode items tables reference negated one code → LiesAll items tables reference → KnowsTest tables code
  class_known reference negated one code (front, is_front, is) lies s = record {
    sender = s.sender;
    by =
        ap (λ c. effects tables c s) is
        ∙ effects_append tables front (negation negated) s
        ∙ ap (λ o. and_then o (effects tables (negation negated)))
        (taking_known items tables (i.Test (t.Class one)) reference front is_front lies s)
        ∙ inverted_known tables negated s;
  }

  range_known : (from : Literal) (last : Option Literal) (one : DataInstruction)
      → IsRangeTest items tables from last one → (sent : Taken) (s : Shape)
      → effect tables one (record s { sender = Some sent }) ≡ Some (record s { sender = Some sent })
  range_known from None one (index, has, is) sent s =
      ap (λ c. effect tables c (record s { sender = Some sent })) is
      ∙ ap (λ o. shape_with (Some s.stacks) (Some s.line) (and_then o (λ entry. Some (Some sent)))) has.1
  range_known from (Some last) one (index, has, has_last, is) sent s =
      ap (λ c. effect tables c (record s { sender = Some sent })) is
      ∙ ap (λ o. shape_with (Some s.stacks) (Some s.line)
      (and_then o (λ entry. and_then (slice_get tables.senders (index.number + 1)) (λ other. Some (Some sent))))) has.1
      ∙ ap (λ o. shape_with (Some s.stacks) (Some s.line) (and_then o (λ other. Some (Some sent)))) has_last.1

  values_known : (values : List ValueRange) (code : List DataInstruction) → AreValuesCode items tables values code
      → (sent : Taken) (s : Shape)
      → effects tables code (record s { sender = Some sent }) ≡ Some (record s { sender = Some sent })
  values_known [] code is sent s = ap (λ c. effects tables c (record s { sender = Some sent })) is
  values_known (one ∷ more) code (front, is_front, back, is_back, is) sent s =
      ap (λ c. effects tables c (record s { sender = Some sent })) is
      ∙ ap (λ o. and_then o (effects tables back)) (range_known one.first one.last front is_front sent s)
      ∙ values_known more back is_back sent s

  pub name_known : (reference : Reference) (code : List DataInstruction) → IsNameCode items tables reference code
      → LiesCondition items tables reference → KnowsTest tables code
  name_known reference code (found, named, index, entry, subscripts, each, values, is_values, is) lies s = record {
    sender = Some (kept.Item found.item.item);
    by =
        ap (λ c. effects tables c s) is
        ∙ place_known items tables index (data_item found.item) entry (subscripts ++ (i.Take ∷ i.ClearTruth ∷ values)) s
        ∙ effects_append tables subscripts (i.Take ∷ i.ClearTruth ∷ values) _
        ∙ ap (λ o. and_then o (effects tables (i.Take ∷ i.ClearTruth ∷ values)))
        (subscripts_known items tables found.item.dimensions reference.subscripts subscripts each index
        (data_item found.item) found.item.offset entry (lies found named) s)
        ∙ ap (λ o. and_then (shape_with (Some s.stacks) (Some s.line)
        (and_then o (λ one. Some (Some (kept.Item one.item))))) (effects tables (i.ClearTruth ∷ values))) entry
        ∙ values_known found.condition.values values is_values (kept.Item found.item.item) s;
  }
