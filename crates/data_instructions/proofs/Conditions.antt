-- The code of conditions does what they mean.
use Rattle.std.proofs.Common.{◌≡◌, ℕ, ◌+◌, List, [], ◌∷◌, ◌++◌, refl, sym, ◌∙◌, ap, Option, Some, None}
use Rattle.std.specs.Prelude.{Bool, true, false, ◌||◌, Ok, Err}
use Rattle.text_ops.specs.Classes.{is_class}
use Rattle.source_tree.specs.declared.literal.Literal.{Literal}
use Rattle.source_tree.specs.declared.entry.ValueRange.{ValueRange}
use Rattle.source_tree.specs.declared.reference.Reference.{Reference}
use Rattle.source_tree.specs.declared.expression.Operand.{Operand}
use Rattle.source_tree.specs.declared.expression.Operand.TheVariants as operand
use Rattle.source_tree.specs.declared.expression.Expression.{Expression}
use Rattle.source_tree.specs.declared.condition.Relation.{Relation}
use Rattle.source_tree.specs.declared.condition.Relation.TheVariants as relation
use Rattle.source_tree.specs.declared.condition.SignTest.{SignTest}
use Rattle.source_tree.specs.declared.condition.Class.{Class}
use Rattle.source_tree.specs.declared.condition.Side.{Side}
use Rattle.source_tree.specs.Places.{LocatedItem}
use Rattle.source_tree.specs.Literals.{Sender, item_sender, literal_sender}
use Rattle.source_tree.specs.Storage.{Storage}
use Rattle.source_tree.specs.Evaluated.{Evaluation, ◌>>=◌, evaluation_of}
use Rattle.source_tree.specs.References.{part_of, place_after, place_of, occurrence}
use Rattle.source_tree.specs.References as tree
use Rattle.source_tree.specs.Moving.{taken_of}
use Rattle.source_tree.specs.Computed.{ArithmeticValue, ExpressionValue, expression_value}
use Rattle.source_tree.specs.Conditions.{senders_satisfy, numbers_satisfy, lies_within, in_range, in_ranges, negated_if}
use Rattle.source_tree.specs.Conditions.{class_of, zero_value, sign_relation, side_number, ConditionValue, class_holds}
use Rattle.source_tree.specs.Conditions.{value_holds, condition_holds, name_holds}
use Rattle.data_instructions.specs.declared.tables.DataTables.{DataTables}
use Rattle.data_instructions.specs.declared.test.Test.TheVariants as t
use Rattle.data_instructions.specs.declared.instruction.DataInstruction.{DataInstruction}
use Rattle.data_instructions.specs.declared.instruction.DataInstruction.TheVariants as i
use Rattle.data_instructions.specs.Tables.{IsTables, shortened_item, item_place, sender_of}
use Rattle.data_instructions.specs.Scratch.{Scratch, Step, Continues, step_with, step_at}
use Rattle.data_instructions.specs.Table.{place_step, push_step, take_step, compared_at, truth_from, or_found}
use Rattle.data_instructions.specs.Table.{with_literal, class_step, work}
use Rattle.data_instructions.specs.Codes.{go_on, works}
use Rattle.data_instructions.specs.ArithmeticCodes.{Computes}
use Rattle.data_instructions.specs.ConditionCodes.{Decides, negation, IsComparedCode, IsPairCode, AreNumbersCode}
use Rattle.data_instructions.specs.ConditionCodes.{IsSignCode, IsClassCode, IsRangeTest, AreValuesCode, IsNameCode}
use Rattle.data_instructions.specs.ConditionCodes.{pair_truth, numbers_truth, sign_truth, class_truth}
use Rattle.data_instructions.proofs.Subscripts.{go_with, with_same, with_bind, works_append}
use Rattle.data_instructions.proofs.Codes.{taking_works, sender_works}
use Rattle.data_instructions.proofs.Subscripts.{subscripts_works}
use Rattle.data_instructions.proofs.Expressions.{number_works}

-- the sender that was taken, if one was found
abbrev kept : {A : Type 0} → Evaluation A → (A → Sender) → Option Sender
kept (Ok x) take = Some (take x)
kept (Err fault) take = None

-- Where none was found, no truth is either.
kept_same : {A : Type 0} (r : Evaluation A) (take : A → Sender) (truth_of : A → Evaluation Bool) (s : Scratch)
    → step_with r
    (λ x. step_with (truth_of x) (λ truth. Continues (record s { truth = truth; sender = Some (take x) })))
    ≡ step_with r (λ x. step_with (truth_of x) (λ truth. Continues (record s { truth = truth; sender = kept r take })))
kept_same (Ok x) take truth_of s = refl
kept_same (Err fault) take truth_of s = refl

-- the sender that is left after a truth, if there is one
abbrev sender_behind : Evaluation Bool → (Bool → Option Sender) → Option Sender
sender_behind (Ok truth) sender = sender truth
sender_behind (Err fault) sender = None

decided_both : (found value : Evaluation Bool) (s : Scratch) (next : Bool → Step) (sender : Bool → Option Sender)
    → ((truth : Bool)
    → next truth ≡ step_with value (λ other. Continues (record s { truth = other; sender = sender truth })))
    → step_with found next ≡ step_with (found >>= (λ _. value))
    (λ other. Continues (record s { truth = other; sender = sender_behind found sender }))
decided_both (Ok truth) value s next sender same = same truth
decided_both (Err fault) value s next sender same = refl

module _ (tables : DataTables) where
  -- One test, and another, whose truth is left.
  pub both_decide : (one other : ConditionValue) (front back : List DataInstruction) → Decides tables one front
      → Decides tables other back
      → Decides tables (λ storage. one storage >>= (λ _. other storage)) (front ++ back)
  both_decide one other front back decides decides_other s =
      let first = decides s in
      let between : Bool → Scratch = λ truth. record s { truth = truth; sender = first.sender } in
      record {
        sender = sender_behind (one s.storage) (λ truth. (decides_other (between truth)).sender);
        by =
            works_append tables front back s
            ∙ ap (λ step. go_on step (works tables back)) first.by
            ∙ go_with (one s.storage) (λ truth. Continues (between truth)) (works tables back)
            ∙ decided_both (one s.storage) (other s.storage) s (λ truth. works tables back (between truth))
            (λ truth. (decides_other (between truth)).sender) (λ truth. (decides_other (between truth)).by);
      }

  -- what a condition says of storage, said in another way
  pub decides_alike : (one other : ConditionValue) (code : List DataInstruction)
      → ((storage : Storage) → one storage ≡ other storage) → Decides tables one code → Decides tables other code
  decides_alike one other code same decides s =
      let first = decides s in
      record {
        sender = first.sender;
        by = first.by ∙ ap (λ found.
            step_with found (λ truth. Continues (record s { truth = truth; sender = first.sender }))) (same s.storage);
      }

  -- two values are compared
  numbers_work : (left right : ExpressionValue) (one : Relation) (front back : List DataInstruction)
      → Computes tables left front → Computes tables right back → (s : Scratch)
      → works tables (front ++ (back ++ (i.Test (t.CompareNumbers one) ∷ []))) s ≡ step_with (left s.storage >>=
      (λ x. right s.storage >>= numbers_satisfy one x)) (λ truth. Continues (record s { truth = truth }))
  numbers_work left right one front back computes computes_other s =
      works_append tables front (back ++ last) s
      ∙ ap (λ step. go_on step (works tables (back ++ last))) (computes s)
      ∙ go_with (left s.storage) (λ x. push_step x s) (works tables (back ++ last))
      ∙ with_same (left s.storage) _ _ compares
      ∙ sym (with_bind (left s.storage) (λ x. right s.storage >>= numbers_satisfy one x) done)
    where
      last : List DataInstruction
      last = i.Test (t.CompareNumbers one) ∷ []

      done : Bool → Step
      done truth = Continues (record s { truth = truth })

      compares : (x : ArithmeticValue) → works tables (back ++ last) (record s { numbers = x ∷ s.numbers }) ≡ step_with
          (right s.storage >>= numbers_satisfy one x) done
      compares x =
          let u : Scratch = record s { numbers = x ∷ s.numbers } in
          works_append tables back last u
          ∙ ap (λ step. go_on step (works tables last)) (computes_other u)
          ∙ go_with (right s.storage) (λ y. push_step y u) (works tables last)
          ∙ with_same (right s.storage) _ _ (λ y. go_with (numbers_satisfy one x y) done (works tables []))
          ∙ sym (with_bind (right s.storage) (numbers_satisfy one x) done)

  inverted : (negated truth : Bool) (s : Scratch) → works tables (negation negated)
      (record s { truth = truth }) ≡ Continues (record s { truth = negated_if negated truth })
  inverted true truth s = refl
  inverted false truth s = refl

module _ (items : List LocatedItem) (tables : DataTables) where
  pub sign_works : (value : Expression) (negated : Bool) (one : SignTest) (code : List DataInstruction)
      → IsSignCode items tables value negated one code → Decides tables (sign_truth items value negated one) code
  sign_works value negated one code (front, computes, adds, back, is_back, is) s = record {
    sender = s.sender;
    by =
        ap (λ c. works tables c s) is
        ∙ numbers_work tables (expression_value items value) (λ storage. Ok zero_value) (sign_relation one negated)
        front back computes (number_works items tables _ back is_back) s;
  }

  -- two sides as numbers
  pub sides_work : (left : Side) (one : Relation) (right : Side) (code : List DataInstruction)
      → AreNumbersCode items tables left one right code → Decides tables (numbers_truth items left one right) code
  sides_work left one right code (front, is_front, back, is_back, is) s = record {
    sender = s.sender;
    by = ap (λ c. works tables c s) is
        ∙ numbers_work tables (side_number items left) (side_number items right) one front back is_front.0 is_back.0 s;
  }

  -- a value of a condition name, of which the sender is looked at
  range_works : (from : Literal) (last : Option Literal) (one : DataInstruction)
      → IsRangeTest items tables from last one → (x : Sender) (found : Bool) (s : Scratch)
      → work tables one (record s { sender = Some x; truth = found })
      ≡ step_with (in_range x from last) (λ fits. Continues (record s { sender = Some x; truth = found || fits }))
  range_works from None one (index, has, is) x found s =
      let u : Scratch = record s { sender = Some x; truth = found } in
      ap (λ c. work tables c u) is
      ∙ ap (λ o. step_at o (λ entry. or_found (senders_satisfy relation.Equal x (sender_of entry)) u)) has.1
      ∙ ap (λ y. or_found (senders_satisfy relation.Equal x y) u) has.2
  range_works from (Some last) one (index, has, has_last, is) x found s =
      let u : Scratch = record s { sender = Some x; truth = found } in
      ap (λ c. work tables c u) is
      ∙ ap (λ o. step_at o
      (λ entry. with_literal tables (index.number + 1) (λ z. or_found (lies_within x (sender_of entry) z) u))) has.1
      ∙ ap (λ o. step_at o (λ entry. or_found (lies_within x (sender_of has.0) (sender_of entry)) u)) has_last.1
      ∙ ap (λ y. or_found (lies_within x y (sender_of has_last.0)) u) has.2
      ∙ ap (λ z. or_found (lies_within x (literal_sender from.value) z) u) has_last.2

  values_work : (values : List ValueRange) (code : List DataInstruction) → AreValuesCode items tables values code
      → (x : Sender) (found : Bool) (s : Scratch)
      → works tables code (record s { sender = Some x; truth = found })
      ≡ step_with (in_ranges found x values) (λ truth. Continues (record s { truth = truth; sender = Some x }))
  values_work [] code is x found s = ap (λ c. works tables c (record s { sender = Some x; truth = found })) is
  values_work (one ∷ more) code (front, is_front, back, is_back, is) x found s =
      ap (λ c. works tables c (record s { sender = Some x; truth = found })) is
      ∙ ap (λ step. go_on step (works tables back)) (range_works one.first one.last front is_front x found s)
      ∙ go_with (in_range x one.first one.last)
      (λ fits. Continues (record s { sender = Some x; truth = found || fits })) (works tables back)
      ∙ with_same (in_range x one.first one.last) _ _ (λ fits. values_work more back is_back x (found || fits) s)
      ∙ sym (with_bind (in_range x one.first one.last) (λ fits. in_ranges (found || fits) x more)
      (λ truth. Continues (record s { truth = truth; sender = Some x })))

module _ (items : List LocatedItem) (tables : DataTables) (order : IsTables tables) where
  -- the sender beside an operand
  compared_works : (one : Relation) (other : Operand) (code : List DataInstruction)
      → IsComparedCode items tables one other code → (x : Sender) (s : Scratch)
      → works tables code (record s { sender = Some x }) ≡ step_with (taken_of items other s.storage >>= senders_satisfy
      one x) (λ truth. Continues (record s { truth = truth; sender = Some x }))
  compared_works one (operand.Item reference) code is x s =
      let done : Bool → Step = λ truth. Continues (record s { truth = truth; sender = Some x }) in
      taking_works items tables order (i.Test (t.Compare one)) (compared_at one) (λ u. refl) reference code is
      (record s { sender = Some x })
      ∙ sym (with_bind (place_of items reference s.storage)
      (λ place. Ok (item_sender place.item (part_of s.storage place))) (λ y. step_with (senders_satisfy one x y) done))
      ∙ sym (with_bind (taken_of items (operand.Item reference) s.storage) (senders_satisfy one x) done)
  compared_works one (operand.Literal literal) code (index, has, is) x s =
      let u : Scratch = record s { sender = Some x } in
      let done : Bool → Step = λ truth. Continues (record s { truth = truth; sender = Some x }) in
      ap (λ c. works tables c u) is
      ∙ ap (λ o. go_on (step_at o (λ entry. truth_from (senders_satisfy one x (sender_of entry)) u)) (works tables []))
      has.1
      ∙ ap (λ y. go_on (truth_from (senders_satisfy one x y) u) (works tables [])) has.2
      ∙ go_with (senders_satisfy one x (literal_sender literal.value)) done (works tables [])

  -- two operands alone
  pub pair_works : (a : Operand) (one : Relation) (b : Operand) (code : List DataInstruction)
      → IsPairCode items tables a one b code → Decides tables (pair_truth items a one b) code
  pair_works a one b code (front, is_front, back, is_back, is) s = record {
    sender = kept (taken_of items a s.storage) (λ x. x);
    by =
        ap (λ c. works tables c s) is
        ∙ works_append tables front back s
        ∙ ap (λ step. go_on step (works tables back)) (sender_works items tables order a front is_front s)
        ∙ go_with (taken_of items a s.storage) (λ x. Continues (record s { sender = Some x })) (works tables back)
        ∙ with_same (taken_of items a s.storage) _ _ (λ x. compared_works one b back is_back x s)
        ∙ kept_same (taken_of items a s.storage) (λ x. x) (λ x. taken_of items b s.storage >>= senders_satisfy one x) s
        ∙ sym (with_bind (taken_of items a s.storage) (λ x. taken_of items b s.storage >>= senders_satisfy one x) _);
  }

  pub class_works : (reference : Reference) (negated : Bool) (one : Class) (code : List DataInstruction)
      → IsClassCode items tables reference negated one code
      → Decides tables (class_truth items reference negated one) code
  class_works reference negated one code (front, is_front, is) s = record {
    sender = s.sender;
    by =
        ap (λ c. works tables c s) is
        ∙ works_append tables front (negation negated) s
        ∙ ap (λ step. go_on step (works tables (negation negated)))
        (taking_works items tables order (i.Test (t.Class one)) (class_step one) (λ u. refl) reference front is_front s)
        ∙ go_with (place_of items reference s.storage) (λ place. class_step one place s)
        (works tables (negation negated))
        ∙ with_same (place_of items reference s.storage) _ _
        (λ place. inverted tables negated (is_class (class_of one) place.item.kind (part_of s.storage place)) s)
        ∙ sym (with_bind (place_of items reference s.storage) (class_holds items negated one s.storage)
        (λ truth. Continues (record s { truth = truth })));
  }

  pub name_works : (reference : Reference) (code : List DataInstruction) → IsNameCode items tables reference code
      → Decides tables (name_holds items reference) code
  name_works reference code (found, named, index, entry, subscripts, each, values, is_values, is) s = record {
    sender = kept behind sent;
    by =
        ap (λ c. works tables c s) is
        ∙ ap (λ o. go_on (step_at o (λ one. place_step index one s)) (works tables (subscripts ++ later))) entry
        ∙ works_append tables subscripts later (record s
        { places = record { item = index; offset = found.item.offset; length = found.item.item.length } ∷ s.places })
        ∙ ap (λ step. go_on step (works tables later)) (subscripts_works items tables order found.item.dimensions
        reference.subscripts subscripts each index found.item.item.length found.item.offset s)
        ∙ go_with behind (λ more. Continues (at more)) (works tables later)
        ∙ with_same behind _ _ (λ more. ap (λ o. go_on (step_at o (λ one. take_step (item_place (shortened_item
        one found.item.item.length) (found.item.offset + more)) s)) (works tables (i.ClearTruth ∷ values))) entry
        ∙ values_work items tables found.condition.values values is_values (sent more) false s)
        ∙ kept_same behind sent (λ more. in_ranges false (sent more) found.condition.values) s
        ∙ sym (with_bind behind (λ more. Ok (place_after found.item more))
        (λ place. step_with (value_holds items found s.storage place) done))
        ∙ sym (with_bind (occurrence items reference.subscripts found.item s.storage)
        (value_holds items found s.storage) done)
        ∙ ap (λ o. step_with (evaluation_of o >>= condition_holds items reference s.storage) done) (sym named);
  }
    where
      later : List DataInstruction
      later = i.Take ∷ i.ClearTruth ∷ values

      behind : Evaluation ℕ
      behind = tree.bytes_before items found.item.dimensions reference.subscripts s.storage

      sent : ℕ → Sender
      sent more = item_sender found.item.item (part_of s.storage (place_after found.item more))

      at : ℕ → Scratch
      at more = record s {
        places = record { item = index; offset = found.item.offset + more; length = found.item.item.length } ∷ s.places;
      }

      done : Bool → Step
      done truth = Continues (record s { truth = truth; sender = kept behind sent })
