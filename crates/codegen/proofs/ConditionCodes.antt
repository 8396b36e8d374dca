-- The code of conditions without AND and OR is what the laws of instructions on data speak of, where the rules are
-- kept: it decides their truth, and finds what it needs.
use Rattle.std.proofs.Common.{◌≡◌, ℕ, ◌+◌, Bool, true, false, List, [], ◌∷◌, ◌++◌, length, map, Option, Some, None}
use Rattle.std.proofs.Common.{refl, sym, ap, subst, ◌∙◌, arith, append_assoc, length-append}
use Rattle.std.specs.Prelude.{slice_get, not, ◌&&◌, ◌||◌, ◌==◌}
use Rattle.std.proofs.lemmas.Bool.Decides.{nat_tests}
use Rattle.std.proofs.lemmas.Option.{same_Some}
use Rattle.items.specs.declared.item.Kind.{Kind}
use Rattle.items.specs.declared.item.Kind.TheVariants as kind
use Rattle.lexical.specs.declared.place.Place.{Place}
use Rattle.source_tree.specs.declared.literal.Figurative.TheVariants as figurative
use Rattle.source_tree.specs.declared.literal.LiteralValue.{LiteralValue}
use Rattle.source_tree.specs.declared.literal.LiteralValue.TheVariants as literal
use Rattle.source_tree.specs.declared.literal.Literal.{Literal}
use Rattle.source_tree.specs.declared.entry.ValueRange.{ValueRange}
use Rattle.source_tree.specs.declared.reference.Reference.{Reference}
use Rattle.source_tree.specs.declared.expression.Operand.{Operand}
use Rattle.source_tree.specs.declared.expression.Operand.TheVariants as operand
use Rattle.source_tree.specs.declared.expression.Expression.{Expression, out-Expression}
use Rattle.source_tree.specs.declared.expression.Expression.TheOpen.{Expression-F}
use Rattle.source_tree.specs.declared.expression.Expression.TheFolds.{map-Expression, fold_out-Expression}
use Rattle.source_tree.specs.declared.condition.Relation.{Relation}
use Rattle.source_tree.specs.declared.condition.Relation.TheVariants.{Equal}
use Rattle.source_tree.specs.declared.condition.SignTest.{SignTest}
use Rattle.source_tree.specs.declared.condition.Class.{Class}
use Rattle.source_tree.specs.declared.condition.Side.{Side}
use Rattle.source_tree.specs.declared.condition.Side.TheVariants as side
use Rattle.source_tree.specs.ArithmeticRules.{is_numeric_kind, numeric_item, is_number_literal, number_rules}
use Rattle.source_tree.specs.ArithmeticRules.{expression_layer_rules, expression_rules}
use Rattle.source_tree.specs.Broken.{RuleBreach, where_so, each}
use Rattle.source_tree.specs.Computed.{expression_value}
use Rattle.source_tree.specs.ConditionRules.{SideKind, Number, Characters, compared_kind, compared_literal}
use Rattle.source_tree.specs.ConditionRules.{compared_only, compared_alone, may_compare, is_literal_alone, side_place}
use Rattle.source_tree.specs.ConditionRules.{condition_subscripts, condition_name_rules, side_from, side_rules}
use Rattle.source_tree.specs.ConditionRules.{relation_rules}
use Rattle.source_tree.specs.Conditions.{ConditionValue, sign_relation, alone, alone_side, relation_of, relation_holds}
use Rattle.source_tree.specs.Conditions.{name_holds}
use Rattle.source_tree.specs.Evaluated.{◌>>=◌}
use Rattle.source_tree.specs.Literals.{literal_sender}
use Rattle.source_tree.specs.LookUp.{NamedCondition, items_named, conditions_named, first}
use Rattle.source_tree.specs.NameRules as name_rules
use Rattle.source_tree.specs.NameRules.{part_item_rules, no_part_rules, part_rules, unique_name_rules, subscript_rules}
use Rattle.source_tree.specs.NameRules.{literal_rules, reference_rules, any_item, operand_rules}
use Rattle.source_tree.specs.Parts.{seen_through}
use Rattle.source_tree.specs.Places.{LocatedItem}
use Rattle.source_tree.specs.Storage.{Storage}
use Rattle.data_instructions.specs.declared.tables.DataTables.{DataTables}
use Rattle.data_instructions.specs.declared.tables.LiteralSender.{LiteralSender}
use Rattle.data_instructions.specs.declared.test.Test.TheVariants as t
use Rattle.data_instructions.specs.declared.instruction.DataInstruction.{DataInstruction}
use Rattle.data_instructions.specs.declared.instruction.DataInstruction.TheVariants as i
use Rattle.data_instructions.specs.Tables.{IsTables}
use Rattle.data_instructions.specs.Codes.{data_item, IsTakingCode, IsSenderCode, AreSubscriptsCode}
use Rattle.data_instructions.specs.Chains.{LiesWhole}
use Rattle.data_instructions.specs.ArithmeticCodes.{Computes, PushesNumber, IsNumberCode, IsValueCode, LiesOperand}
use Rattle.data_instructions.specs.ConditionCodes.{Decides, KnowsTest, negation, IsComparedCode, IsSideCode, IsPairCode}
use Rattle.data_instructions.specs.ConditionCodes.{AreNumbersCode, IsSignCode, IsClassCode, IsRangeTest, AreValuesCode}
use Rattle.data_instructions.specs.ConditionCodes.{IsNameCode, LiesCondition, pair_truth, numbers_truth, sign_truth}
use Rattle.data_instructions.specs.ConditionCodes.{class_truth}
use Rattle.data_instructions.proofs.ConditionChains.{both_known, pair_known, sides_known, sign_known, class_known}
use Rattle.data_instructions.proofs.ConditionChains.{name_known}
use Rattle.data_instructions.proofs.Conditions.{both_decide, decides_alike, pair_works, sides_work, sign_works}
use Rattle.data_instructions.proofs.Conditions.{class_works, name_works}
use Rattle.data_instructions.proofs.Expressions.{value_works, value_known}
use Rattle.code_image.specs.declared.code.Code.{Code}
use Rattle.condition_codegen.specs.Fragments.{Fragment, sequence}
use Rattle.condition_codegen.specs.DataCode.{dimensions_of, work_fragment, works_fragment, number_fragment}
use Rattle.condition_codegen.specs.DataCode.{literal_entry, subscripts_fragment, take_fragment, sender_fragment}
use Rattle.condition_codegen.specs.ArithmeticCode.{zero_number, value_fragment, expression_fragment}
use Rattle.condition_codegen.specs.ConditionCode.{condition_number, condition_item, values_of, values_named}
use Rattle.condition_codegen.specs.ConditionCode.{range_fragment, value_range_fragment, values_fragment}
use Rattle.condition_codegen.specs.ConditionCode.{condition_name_fragment, zero_literal, compared_fragment}
use Rattle.condition_codegen.specs.ConditionCode.{side_fragment, numbers_fragment, pair_fragment, is_numeric_operand}
use Rattle.condition_codegen.specs.ConditionCode.{is_operand_at_hand, taken_first, relation_from, relation_fragment}
use Rattle.condition_codegen.proofs.Lists.{left_none, right_none}
use Rattle.codegen.proofs.Codes.{Coded, sender_coded, subscripts_coded}
use Rattle.codegen.proofs.CodedPieces.{CodedBy, weaker_by, both_by, before_by, behind_by}
use Rattle.condition_codegen.proofs.ConditionItems.{condition_there, condition_item_there, only_condition}
use Rattle.codegen.proofs.ExpressionCodes.{number_codes, taking_codes, value_codes, expression_codes}
use Rattle.condition_codegen.proofs.Integers.{kept, not_false}
use Rattle.codegen.proofs.Lying.{lies_all, lies_operand}
use Rattle.statement_codegen.proofs.OperandOrder.{taken_alike, looked_first, numbers_alike, compared_as_number}
use Rattle.codegen.proofs.Standing.{Stands, at_seam, sender_stands}

-- It decides this truth, and leaves all as it was except for the sender.
abbrev pub Tested : DataTables → ConditionValue → List DataInstruction → Type 0
Tested tables value code = Decides tables value code × KnowsTest tables code

-- ---- sides that are numbers

-- what isn't compared by its characters is a number
number_literal : (value : LiteralValue) → (compared_literal value ≡ Characters → ⊥) → is_number_literal value ≡ true
number_literal (literal.Numeric one) h = refl
number_literal (literal.Nonnumeric bytes) h = absurd (h refl)
number_literal (literal.Figurative figurative.Zero) h = refl
number_literal (literal.Figurative figurative.Space) h = absurd (h refl)
number_literal (literal.Figurative figurative.HighValue) h = absurd (h refl)
number_literal (literal.Figurative figurative.LowValue) h = absurd (h refl)
number_literal (literal.Figurative figurative.Quote) h = absurd (h refl)
number_literal (literal.All bytes) h = absurd (h refl)

number_kind : (one : Kind) → (compared_kind one ≡ Characters → ⊥) → is_numeric_kind one ≡ true
number_kind (kind.Numeric numeric) h = refl
number_kind kind.Group h = absurd (h refl)
number_kind (kind.Alphabetic justified) h = absurd (h refl)
number_kind (kind.Alphanumeric justified) h = absurd (h refl)
number_kind kind.AlphanumericEdited h = absurd (h refl)
number_kind (kind.NumericEdited blank) h = absurd (h refl)

-- the only item that is named
number_only : (place : Place) (rules : LocatedItem → List RuleBreach) (shown : LocatedItem → LocatedItem)
    (found : List LocatedItem)
    (rest : List RuleBreach)
    → unique_name_rules place (λ one. rules one ++ any_item place (shown one)) found ++ rest ≡ []
    → (compared_only (map shown found) ≡ Characters → ⊥)
    → unique_name_rules place (λ one. rules one ++ numeric_item place (shown one)) found ++ rest ≡ []
number_only place rules shown [] rest e h = absurd cc
number_only place rules shown (one ∷ []) rest e h =
    ap (λ b. (rules one ++ where_so (not b) 51 place) ++ rest) (number_kind (shown one).item.kind h) ∙ e
number_only place rules shown (one ∷ other ∷ more) rest e h = absurd cc

-- A number stands beside numbers alone.
beside_left : (x : SideKind) → may_compare x (Number false) ≡ true → x ≡ Characters → ⊥
beside_left x may is = let not : may_compare x (Number false) ≡ false =
    ap (λ y. may_compare y (Number false)) is in absurd cc

beside_right : (x : SideKind) → may_compare (Number false) x ≡ true → x ≡ Characters → ⊥
beside_right x may is = let not : may_compare (Number false) x ≡ false = ap (may_compare (Number false)) is in absurd cc

first_so : (a b : Bool) → (a && b) ≡ true → a ≡ true
first_so true b e = refl
first_so false b e = absurd cc

second_false : (a b : Bool) → (a || b) ≡ false → b ≡ false
second_false false b e = e
second_false true b e = absurd cc

module _ (items : List LocatedItem) where
  number_operand : (one : Operand) → operand_rules items one ≡ [] → (compared_alone items (Some one) ≡ Characters → ⊥)
      → number_rules items one ≡ []
  number_operand (operand.Item one) e h =
      number_only one.item.name.place (λ found. where_so (not (length one.subscripts == length found.dimensions)) 50
      one.item.name.place ++ part_item_rules one found) (seen_through one) (items_named items one.item)
      (name_rules.number_rules_of items one) e h
  number_operand (operand.Literal one) e h =
      ap (λ b. where_so (not b) 51 one.place ++ literal_rules one) (number_literal one.value h) ∙ e

  number_expression : (one : Expression) (l : Expression-F Expression) → out-Expression one ≡ l
      → side_from items (alone l) (side.Expression one) ≡ []
      → (compared_alone items (alone l) ≡ Characters → ⊥) → expression_rules items one ≡ []
  unfolding expression_rules
  number_expression one (Expression-F.Operand a) is e h =
      fold_out-Expression (List RuleBreach) (expression_layer_rules items) one
      ∙ ap (λ (l : Expression-F Expression).
      expression_layer_rules items (map-Expression Expression (List RuleBreach) (expression_rules items) l)) is
      ∙ number_operand a e h
  number_expression one (Expression-F.Negated inner) is e h = e
  number_expression one (Expression-F.Chain front more) is e h = e

  -- the rules of a side as a number
  abbrev number_rules_of : Side → List RuleBreach
  number_rules_of (side.Expression one) = expression_rules items one
  number_rules_of (side.Literal one) = number_rules items (operand.Literal one)

  number_side : (one : Side) → side_rules items one ≡ [] → (compared_alone items (alone_side one) ≡ Characters → ⊥)
      → number_rules_of one ≡ []
  number_side (side.Expression one) e h = number_expression one (out-Expression one) refl e h
  number_side (side.Literal one) e h = number_operand (operand.Literal one) e h

  -- what the rules of a relation say
  pub record KeepsRelation (left right : Side) : Type 0 where
    pub left_keeps : side_rules items left ≡ []
    pub right_keeps : side_rules items right ≡ []
    pub may : may_compare (compared_alone items (alone_side left)) (compared_alone items (alone_side right)) ≡ true

  pub keeps_relation : (left right : Side) → relation_rules items left right ≡ [] → KeepsRelation left right
  keeps_relation left right e =
      let literals = is_literal_alone (alone_side left) && is_literal_alone (alone_side right) in
      let may = may_compare (compared_alone items (alone_side left)) (compared_alone items (alone_side right)) in
      let test = where_so (literals || not may) 52 (side_place left) in
      let f = left_none (side_rules items left ++ side_rules items right) test e in
      record {
        left_keeps = left_none (side_rules items left) (side_rules items right) f;
        right_keeps = right_none (side_rules items left) (side_rules items right) f;
        may = not_false may (second_false literals (not may) (kept (literals || not may) 52 (side_place left)
            (right_none (side_rules items left ++ side_rules items right) test e)));
      }

  -- an operand alone
  pub alone_keeps : (one : Side) (a : Operand) → alone_side one ≡ Some a → side_rules items one ≡ []
      → operand_rules items a ≡ []
  alone_keeps one a is e = sym (ap (λ (o : Option Operand). side_from items o one) is) ∙ e

same_count : (n m : ℕ) → (n == m) ≡ true → n ≡ m
same_count n m e = grind (arith, nat_tests)

-- the second sender that a part adds
second_sender_stands : (whole before part : Code) (x y : LiteralSender) → part.tables.senders ≡ x ∷ y ∷ []
    → Stands whole before part
    → slice_get whole.tables.senders (length before.tables.senders + 1) ≡ Some y
second_sender_stands whole before part x y is st =
    let pre = before.tables.senders in
    let rest = st.rest.tables.senders in
    let front = pre ++ x ∷ [] in
    let n : length pre + 1 ≡ length front = omega (arith, length-append pre (x ∷ [])) in
    let same : whole.tables.senders ≡ front ++ y ∷ rest =
    ap (λ (c : Code). c.tables.senders) st.is
    ∙ ap (λ (l : List LiteralSender). (pre ++ l) ++ rest) is
    ∙ append_assoc pre (x ∷ y ∷ []) rest
    ∙ sym (append_assoc pre (x ∷ []) (y ∷ rest)) in
    ap (slice_get whole.tables.senders) n ∙ ap (λ (l : List LiteralSender). slice_get l (length front)) same
    ∙ at_seam front y rest

module _ (items : List LocatedItem) (whole : Code) (entries : (n : ℕ) (one : LocatedItem) → slice_get items n ≡ Some one
    → slice_get whole.tables.items n ≡ Some (data_item one)) where
  -- ---- operands alone

  sender_codes : (one : Operand) → operand_rules items one ≡ []
      → CodedBy whole (IsSenderCode items whole.tables one) (sender_fragment items one)
  sender_codes one e = record { by = λ before st. sender_coded items whole entries one before e st }

  compared_codes : (one : Relation) (other : Operand) → operand_rules items other ≡ []
      → CodedBy whole (IsComparedCode items whole.tables one other) (compared_fragment items one other)
  compared_codes one (operand.Item reference) e =
      taking_codes items whole entries (i.Test (t.Compare one)) any_item reference e
  compared_codes one (operand.Literal literal) e = record {
    by = λ before st. record {
      code = i.Test (t.CompareLiteral one (record { number = length before.tables.senders })) ∷ [];
      is = refl;
      holds = (
        _,
        (
          _,
          sender_stands whole before (compared_fragment items one (operand.Literal literal) before) _ [] refl st,
          refl,
        ),
        refl,
      );
    };
  }

  pair_codes : (a : Operand) (one : Relation) (b : Operand) → operand_rules items a ≡ [] → operand_rules items b ≡ []
      → CodedBy whole (IsPairCode items whole.tables a one b) (pair_fragment items a one b)
  pair_codes a one b e f =
      both_by whole (IsSenderCode items whole.tables a) (IsComparedCode items whole.tables one b)
      (IsPairCode items whole.tables a one b) (sender_fragment items a)
      (compared_fragment items one b)
      (sender_codes a e) (compared_codes one b f) (λ front back is other. (front, is, back, other, refl))

  -- ---- class conditions

  class_codes : (reference : Reference) (negated : Bool) (one : Class) → reference_rules items any_item reference ≡ []
      → CodedBy whole (IsClassCode items whole.tables reference negated one)
      (sequence (take_fragment items (i.Test (t.Class one)) reference) (works_fragment (negation negated)))
  class_codes reference negated one e =
      behind_by whole (IsTakingCode items whole.tables (i.Test (t.Class one)) reference)
      (IsClassCode items whole.tables reference negated one)
      (take_fragment items (i.Test (t.Class one)) reference) (negation negated)
      (taking_codes items whole entries (i.Test (t.Class one)) any_item reference e) (λ code is. (code, is, refl))

  -- ---- condition names

  -- the test of one value
  abbrev IsRangeCode : ValueRange → List DataInstruction → Type 0
  IsRangeCode one code =
      (test : DataInstruction) × IsRangeTest items whole.tables one.first one.last test × (code ≡ test ∷ [])

  range_coded : (from : Literal) (last : Option Literal) (before : Code)
      → Stands whole before (range_fragment from last before)
      → Coded (λ code. (test : DataInstruction) × IsRangeTest items whole.tables from last test × (code ≡ test ∷ []))
      (range_fragment from last before)
  range_coded from None before st = record {
    code = i.Test (t.OrEqual (record { number = length before.tables.senders })) ∷ [];
    is = refl;
    holds = (_, (_, (_, sender_stands whole before (range_fragment from None before) _ [] refl st, refl), refl), refl);
  }
  range_coded from (Some last) before st =
      let one = literal_entry (literal_sender from.value) in
      let other = literal_entry (literal_sender last.value) in
      record {
        code = i.Test (t.OrWithin (record { number = length before.tables.senders })) ∷ [];
        is = refl;
        holds = (
          _,
          (
            _,
            (_, sender_stands whole before (range_fragment from (Some last) before) one (other ∷ []) refl st, refl),
            (_, second_sender_stands whole before (range_fragment from (Some last) before) one other refl st, refl),
            refl,
          ),
          refl,
        );
      }

  values_codes : (all : List ValueRange) → CodedBy whole (AreValuesCode items whole.tables all) (values_fragment all)
  values_codes [] = record { by = λ before st. record { code = []; is = refl; holds = refl } }
  values_codes (one ∷ more) =
      both_by whole (IsRangeCode one) (AreValuesCode items whole.tables more)
      (AreValuesCode items whole.tables (one ∷ more)) (value_range_fragment one) (values_fragment more)
      (record { by = λ before st. range_coded one.first one.last before st }) (values_codes more)
      (λ front back is others. (is.0, is.1, back, others, ap (λ l. l ++ back) is.2))

  -- the condition name that a reference names, which keeps its rules
  pub record KeepsName (one : Reference) : Type 0 where
    pub found : NamedCondition
    pub named : conditions_named items one.item ≡ found ∷ []
    pub item : slice_get items (condition_item items one.item).number ≡ Some found.item
    pub values : values_named items one.item ≡ found.condition.values
    pub count : length one.subscripts ≡ length found.item.dimensions
    pub subscripts : each (subscript_rules items) one.subscripts ≡ []

  pub keeps_name : (one : Reference) → condition_name_rules items one ≡ [] → KeepsName one
  keeps_name one e =
      let place = one.item.name.place in
      let all = unique_name_rules place (condition_subscripts one) (conditions_named items one.item) in
      let only = only_condition place (condition_subscripts one) (conditions_named items one.item)
      (left_none all (name_rules.number_rules_of items one) e) in
      let there = condition_there items one.item only.0 only.1 in
      let test = length one.subscripts == length only.0.item.dimensions in
      record {
        found = only.0;
        named = only.1;
        item = condition_item_there items (condition_number items one.item) only.0 there;
        values = ap values_of there;
        count = same_count (length one.subscripts) (length only.0.item.dimensions)
            (not_false test (kept (not test) 50 place
            (left_none (where_so (not test) 50 place) (no_part_rules one) only.2)));
        subscripts = left_none (each (subscript_rules items) one.subscripts) (part_rules items one.part)
            (right_none all (name_rules.number_rules_of items one) e);
      }

  -- the subscripts of a condition name's item
  pub name_subscripts : (one : Reference) (k : KeepsName one)
      → CodedBy whole (AreSubscriptsCode items whole.tables k.found.item.dimensions one.subscripts)
      (subscripts_fragment items (dimensions_of (slice_get items (condition_item items one.item).number))
      one.subscripts)
  name_subscripts one k =
      let dimensions = dimensions_of (slice_get items (condition_item items one.item).number) in
      let same : dimensions ≡ k.found.item.dimensions = ap dimensions_of k.item in
      record {
        by = λ before st.
            let c = subscripts_coded items whole entries dimensions one.subscripts before
            (k.count ∙ ap length (sym same)) k.subscripts st in
            record {
              code = c.code;
              is = c.is;
              holds = subst (λ ds. AreSubscriptsCode items whole.tables ds one.subscripts c.code) same c.holds;
            };
      }

  -- what follows the place of a condition name's item
  abbrev IsTakenCode : List ValueRange → List DataInstruction → Type 0
  IsTakenCode all code = (values : List DataInstruction) × AreValuesCode items whole.tables all values
      × (code ≡ i.Take ∷ i.ClearTruth ∷ values)

  abbrev IsFoundCode : NamedCondition → Reference → List DataInstruction → Type 0
  IsFoundCode found one code =
      (subscripts : List DataInstruction)
      × AreSubscriptsCode items whole.tables found.item.dimensions one.subscripts subscripts
      × (values : List DataInstruction) × AreValuesCode items whole.tables found.condition.values values
      × (code ≡ subscripts ++ (i.Take ∷ i.ClearTruth ∷ values))

  name_codes : (one : Reference) → condition_name_rules items one ≡ []
      → CodedBy whole (IsNameCode items whole.tables one) (condition_name_fragment items one)
  name_codes one e =
      let k = keeps_name one e in
      let index = condition_item items one.item in
      let subscripts = subscripts_fragment items (dimensions_of (slice_get items index.number)) one.subscripts in
      let values = values_fragment (values_named items one.item) in
      let taking = i.Take ∷ i.ClearTruth ∷ [] in
      let are_values : CodedBy whole (AreValuesCode items whole.tables k.found.condition.values) values =
      subst (λ (all : List ValueRange). CodedBy whole (AreValuesCode items whole.tables all) values) k.values
      (values_codes (values_named items one.item)) in
      before_by whole (i.Place index ∷ []) (IsFoundCode k.found one) (IsNameCode items whole.tables one)
      (sequence subscripts (sequence (works_fragment taking) values))
      (both_by whole (AreSubscriptsCode items whole.tables k.found.item.dimensions one.subscripts)
      (IsTakenCode k.found.condition.values) (IsFoundCode k.found one) subscripts
      (sequence (works_fragment taking) values) (name_subscripts one k)
      (before_by whole taking (AreValuesCode items whole.tables k.found.condition.values)
      (IsTakenCode k.found.condition.values) values are_values (λ code is. (code, is, refl)))
      (λ front back is taken. (front, is, taken.0, taken.1, ap (λ l. front ++ l) taken.2)))
      (λ code is. (
        k.found,
        ap first k.named,
        index,
        entries index.number k.found.item k.item,
        is.0,
        is.1,
        is.2,
        is.3,
        ap (λ l. i.Place index ∷ l) is.4,
      ))

  module _ (order : IsTables whole.tables) (lie : (n : ℕ) (one : LocatedItem) → slice_get items n ≡ Some one
      → LiesWhole whole.tables one) where
    -- ---- numbers

    side_codes : (one : Side) → number_rules_of items one ≡ []
        → CodedBy whole (IsSideCode items whole.tables one) (side_fragment items one)
    side_codes (side.Expression one) e = expression_codes items whole entries order lie one e
    side_codes (side.Literal one) e =
        let a = operand.Literal one in
        weaker_by whole (IsValueCode items whole.tables a) (IsSideCode items whole.tables (side.Literal one))
        (value_fragment items a)
        (λ code is. (
          value_works items whole.tables order a code is,
          value_known items whole.tables a code is (lies_operand items whole entries lie a e),
        )) (value_codes items whole entries a e)

    -- two sides as numbers
    sides_codes : (left : Side) (one : Relation) (right : Side) → number_rules_of items left ≡ []
        → number_rules_of items right ≡ []
        → CodedBy whole (AreNumbersCode items whole.tables left one right) (numbers_fragment items left one right)
    sides_codes left one right e f =
        let test = i.Test (t.CompareNumbers one) in
        let Back = λ (code : List DataInstruction). (back : List DataInstruction)
        × IsSideCode items whole.tables right back × (code ≡ back ++ (test ∷ [])) in
        both_by whole (IsSideCode items whole.tables left) Back (AreNumbersCode items whole.tables left one right)
        (side_fragment items left)
        (sequence (side_fragment items right) (work_fragment test)) (side_codes left e)
        (behind_by whole (IsSideCode items whole.tables right) Back (side_fragment items right) (test ∷ [])
        (side_codes right f) (λ code is. (code, is, refl)))
        (λ front back is other. (front, is, other.0, other.1, ap (λ l. front ++ l) other.2))

    sign_codes : (value : Expression) (negated : Bool) (one : SignTest) → expression_rules items value ≡ []
        → CodedBy whole (IsSignCode items whole.tables value negated one)
        (sequence (expression_fragment items value) (sequence (number_fragment zero_number)
        (work_fragment (i.Test (t.CompareNumbers (sign_relation one negated))))))
    sign_codes value negated one e =
        let test = i.Test (t.CompareNumbers (sign_relation one negated)) in
        let Value = λ (code : List DataInstruction). Computes whole.tables (expression_value items value) code
        × PushesNumber whole.tables code in
        let Zero = IsNumberCode items whole.tables zero_number in
        let Back =
        λ (code : List DataInstruction). (back : List DataInstruction) × Zero back × (code ≡ back ++ (test ∷ [])) in
        both_by whole Value Back (IsSignCode items whole.tables value negated one) (expression_fragment items value)
        (sequence (number_fragment zero_number) (work_fragment test))
        (expression_codes items whole entries order lie value e)
        (behind_by whole Zero Back (number_fragment zero_number) (test ∷ [])
        (number_codes items whole entries zero_number) (λ code is. (code, is, refl)))
        (λ front back is other. (front, is.0, is.1, other.0, other.1, ap (λ l. front ++ l) other.2))

    -- ---- what the code decides

    lies_alone : (one : Operand) → operand_rules items one ≡ [] → LiesOperand items whole.tables one
    lies_alone (operand.Item one) e = lies_all items whole entries lie any_item one e
    lies_alone (operand.Literal one) e = tt

    pair_tested : (a : Operand) (one : Relation) (b : Operand) → operand_rules items a ≡ [] → operand_rules items b ≡ []
        → CodedBy whole (Tested whole.tables (pair_truth items a one b)) (pair_fragment items a one b)
    pair_tested a one b e f =
        weaker_by whole (IsPairCode items whole.tables a one b) (Tested whole.tables (pair_truth items a one b))
        (pair_fragment items a one b)
        (λ code is. (
          pair_works items whole.tables order a one b code is,
          pair_known items whole.tables a one b code is (lies_alone a e) (lies_alone b f),
        )) (pair_codes a one b e f)

    numbers_tested : (left : Side) (one : Relation) (right : Side) → number_rules_of items left ≡ []
        → number_rules_of items right ≡ []
        → CodedBy whole (Tested whole.tables (numbers_truth items left one right))
        (numbers_fragment items left one right)
    numbers_tested left one right e f =
        weaker_by whole (AreNumbersCode items whole.tables left one right)
        (Tested whole.tables (numbers_truth items left one right)) (numbers_fragment items left one right)
        (λ code is. (
          sides_work items whole.tables left one right code is,
          sides_known items whole.tables left one right code is,
        )) (sides_codes left one right e f)

    -- what a relation says, said in another way
    as_relation :
        (value : ConditionValue) (a b : Operand) (left : Side) (one : Relation) (right : Side) (piece : Fragment)
        → ((storage : Storage) → value storage ≡ relation_of items (Some a) (Some b) left one right storage)
        → CodedBy whole (Tested whole.tables value) piece
        → CodedBy whole (Tested whole.tables (relation_of items (Some a) (Some b) left one right)) piece
    as_relation value a b left one right piece same =
        weaker_by whole (Tested whole.tables value)
        (Tested whole.tables (relation_of items (Some a) (Some b) left one right)) piece
        (λ code is. (
          decides_alike whole.tables value (relation_of items (Some a) (Some b) left one right) code same is.0,
          is.1,
        ))

    -- a test, and another
    both_tested : (one other : ConditionValue) (front back : Fragment) → CodedBy whole (Tested whole.tables one) front
        → CodedBy whole (Tested whole.tables other) back
        → CodedBy whole (Tested whole.tables (λ storage. one storage >>= (λ _. other storage))) (sequence front back)
    both_tested one other front back before after =
        both_by whole (Tested whole.tables one) (Tested whole.tables other)
        (Tested whole.tables (λ storage. one storage >>= (λ _. other storage))) front back before after
        (λ a b is also. (both_decide whole.tables one other a b is.0 also.0, both_known whole.tables a b is.1 also.1))

    -- two operands alone: whether the left one is taken first, and whether the right one is a number
    alone_tested : (first numeric : Bool) (a b : Operand) (left : Side) (one : Relation) (right : Side)
        → alone_side left ≡ Some a → alone_side right ≡ Some b → KeepsRelation items left right
        → (is_numeric_operand items a && not (is_operand_at_hand items b)) ≡ first
        → is_numeric_operand items b ≡ numeric
        → CodedBy whole (Tested whole.tables (relation_of items (Some a) (Some b) left one right))
        (taken_first items first numeric a b left one right)
    alone_tested false numeric a b left one right is other k before number =
        let e = alone_keeps items left a is k.left_keeps in
        let f = alone_keeps items right b other k.right_keeps in
        as_relation (pair_truth items a one b) a b left one right (pair_fragment items a one b)
        (λ storage. taken_alike items a b left one right storage before e f) (pair_tested a one b e f)
    alone_tested true true a b left one right is other k before number =
        let e = alone_keeps items left a is k.left_keeps in
        let f = alone_keeps items right b other k.right_keeps in
        let left_number = first_so (is_numeric_operand items a) (not (is_operand_at_hand items b)) before in
        as_relation (numbers_truth items left one right) a b left one right (numbers_fragment items left one right)
        (λ storage. numbers_alike items a b left one right storage is other left_number number e f)
        (numbers_tested left one right
        (number_side items left k.left_keeps
        (λ c. compared_as_number items a e left_number (sym (ap (compared_alone items) is) ∙ c)))
        (number_side items right k.right_keeps
        (λ c. compared_as_number items b f number (sym (ap (compared_alone items) other) ∙ c))))
    alone_tested true false a b left one right is other k before number =
        let e = alone_keeps items left a is k.left_keeps in
        let f = alone_keeps items right b other k.right_keeps in
        let left_number = first_so (is_numeric_operand items a) (not (is_operand_at_hand items b)) before in
        let zero = operand.Literal zero_literal in
        as_relation (λ storage. pair_truth items a Equal zero storage >>= (λ _. pair_truth items a one b storage)) a b
        left one right
        (sequence (pair_fragment items a Equal zero) (pair_fragment items a one b))
        (λ storage. looked_first items a b left one right storage left_number)
        (both_tested (pair_truth items a Equal zero) (pair_truth items a one b) (pair_fragment items a Equal zero)
        (pair_fragment items a one b)
        (pair_tested a Equal zero e refl) (pair_tested a one b e f))

    relation_from_tested : (a b : Option Operand) (left : Side) (one : Relation) (right : Side) → alone_side left ≡ a
        → alone_side right ≡ b → KeepsRelation items left right
        → CodedBy whole (Tested whole.tables (relation_of items a b left one right))
        (relation_from items a b left one right)
    relation_from_tested (Some a) (Some b) left one right is other k =
        alone_tested (is_numeric_operand items a && not (is_operand_at_hand items b)) (is_numeric_operand items b) a b
        left one right is other k refl refl
    relation_from_tested (Some a) None left one right is other k =
        let may = sym (ap (λ (o : Option Operand).
        may_compare (compared_alone items (alone_side left)) (compared_alone items o)) other) ∙ k.may in
        numbers_tested left one right
        (number_side items left k.left_keeps (beside_left (compared_alone items (alone_side left)) may))
        (number_side items right k.right_keeps (λ e. let number : compared_alone items (alone_side right)
        ≡ Number false = ap (compared_alone items) other in absurd cc))
    relation_from_tested None (Some b) left one right is other k =
        let may = sym
        (ap (λ (o : Option Operand). may_compare (compared_alone items o) (compared_alone items (alone_side right))) is)
        ∙ k.may in
        numbers_tested left one right (number_side items left k.left_keeps (λ e.
        let number : compared_alone items (alone_side left) ≡ Number false = ap (compared_alone items) is in absurd cc))
        (number_side items right k.right_keeps (beside_right (compared_alone items (alone_side right)) may))
    relation_from_tested None None left one right is other k =
        numbers_tested left one right (number_side items left k.left_keeps (λ e.
        let number : compared_alone items (alone_side left) ≡ Number false = ap (compared_alone items) is in absurd cc))
        (number_side items right k.right_keeps (λ e. let number : compared_alone items (alone_side right)
        ≡ Number false = ap (compared_alone items) other in absurd cc))

    pub relation_tested : (left : Side) (one : Relation) (right : Side) → relation_rules items left right ≡ []
        → CodedBy whole (Tested whole.tables (relation_holds items left one right))
        (relation_fragment items left one right)
    relation_tested left one right e = relation_from_tested (alone_side left) (alone_side right) left one right refl
        refl (keeps_relation items left right e)

    pub sign_tested : (value : Expression) (negated : Bool) (one : SignTest) → expression_rules items value ≡ []
        → CodedBy whole (Tested whole.tables (sign_truth items value negated one))
        (sequence (expression_fragment items value) (sequence (number_fragment zero_number)
        (work_fragment (i.Test (t.CompareNumbers (sign_relation one negated))))))
    sign_tested value negated one e =
        weaker_by whole (IsSignCode items whole.tables value negated one)
        (Tested whole.tables (sign_truth items value negated one))
        (sequence (expression_fragment items value) (sequence (number_fragment zero_number)
        (work_fragment (i.Test (t.CompareNumbers (sign_relation one negated))))))
        (λ code is. (
          sign_works items whole.tables value negated one code is,
          sign_known items whole.tables value negated one code is,
        )) (sign_codes value negated one e)

    pub class_tested : (reference : Reference) (negated : Bool) (one : Class)
        → reference_rules items any_item reference ≡ []
        → CodedBy whole (Tested whole.tables (class_truth items reference negated one))
        (sequence (take_fragment items (i.Test (t.Class one)) reference) (works_fragment (negation negated)))
    class_tested reference negated one e =
        weaker_by whole (IsClassCode items whole.tables reference negated one)
        (Tested whole.tables (class_truth items reference negated one))
        (sequence (take_fragment items (i.Test (t.Class one)) reference) (works_fragment (negation negated)))
        (λ code is. (
          class_works items whole.tables order reference negated one code is,
          class_known items whole.tables reference negated one code is
              (lies_all items whole entries lie any_item reference e),
        ))
        (class_codes reference negated one e)

    lies_condition : (one : Reference) → condition_name_rules items one ≡ [] → LiesCondition items whole.tables one
    lies_condition one e = λ found is.
        let k = keeps_name one e in
        let same : k.found ≡ found = same_Some k.found found (sym (ap first k.named) ∙ is) in
        subst (λ (c : NamedCondition). LiesWhole whole.tables c.item) same
        (lie (condition_item items one.item).number k.found.item k.item)

    pub name_tested : (one : Reference) → condition_name_rules items one ≡ []
        → CodedBy whole (Tested whole.tables (name_holds items one)) (condition_name_fragment items one)
    name_tested one e =
        weaker_by whole (IsNameCode items whole.tables one) (Tested whole.tables (name_holds items one))
        (condition_name_fragment items one)
        (λ code is. (
          name_works items whole.tables order one code is,
          name_known items whole.tables one code is (lies_condition one e),
        )) (name_codes one e)
