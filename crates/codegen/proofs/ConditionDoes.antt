-- The machine finds the truth of a condition, and leaves all else as it was.
use Rattle.std.proofs.Common.{◌≡◌, ℕ, ◌+◌, ◌≤◌, Bool, true, false, if◌then◌else◌, List, [], ◌∷◌, map, length, Option}
use Rattle.std.proofs.Common.{Some, Ok, Err, refl, sym, ap, subst, ◌∙◌, arith, length-append}
use Rattle.std.specs.Prelude.{slice_get, not}
use Rattle.source_tree.specs.declared.condition.Condition.{Condition, roll-Condition}
use Rattle.source_tree.specs.declared.condition.Condition.TheOpen.{Condition-F}
use Rattle.source_tree.specs.declared.condition.Condition.TheFolds.{map-Condition, ind-Condition}
use Rattle.source_tree.specs.Broken.{RuleBreach, each}
use Rattle.source_tree.specs.ConditionRules.{broken_already, condition_layer_rules, condition_rules}
use Rattle.source_tree.specs.Conditions.{ConditionValue, sign_relation, relation_holds, name_holds, all_hold, any_holds}
use Rattle.source_tree.specs.Conditions.{condition_layer, holds}
use Rattle.source_tree.specs.Evaluated.{Evaluation, ◌>>=◌}
use Rattle.source_tree.specs.Literals.{Sender}
use Rattle.source_tree.specs.Places.{LocatedItem}
use Rattle.source_tree.specs.State.{State}
use Rattle.data_instructions.specs.declared.test.Test.TheVariants as t
use Rattle.data_instructions.specs.declared.instruction.DataInstruction.{DataInstruction}
use Rattle.data_instructions.specs.declared.instruction.DataInstruction.TheVariants as i
use Rattle.data_instructions.specs.Tables.{IsTables}
use Rattle.data_instructions.specs.Scratch.{Continues, step_with}
use Rattle.data_instructions.specs.Codes.{data_item}
use Rattle.data_instructions.specs.Chains.{LiesWhole}
use Rattle.data_instructions.specs.ConditionCodes.{negation, sign_truth, class_truth}
use Rattle.code_image.specs.declared.code.Code.{Code}
use Rattle.code_image.specs.declared.instruction.Instruction.TheVariants.{Data}
use Rattle.code_image.specs.Points.{Own, scratch_of}
use Rattle.code_image.specs.Table.{exec_code}
use Rattle.condition_codegen.specs.Fragments.{Fragment, empty_code, append, sequence, in_order}
use Rattle.condition_codegen.specs.Meeting.{nothing_fragment, either_fragment}
use Rattle.condition_codegen.specs.DataCode.{work_fragment, works_fragment, number_fragment, take_fragment}
use Rattle.condition_codegen.specs.ArithmeticCode.{zero_number, expression_fragment}
use Rattle.condition_codegen.specs.ConditionCode.{and_fragment, or_fragment, all_fragment, any_fragment}
use Rattle.condition_codegen.specs.ConditionCode.{condition_name_fragment, relation_fragment, condition_layer_fragment}
use Rattle.condition_codegen.specs.ConditionCode.{condition_fragment}
use Rattle.codegen.proofs.Blind.{Blind}
use Rattle.condition_codegen.proofs.Lists.{left_none, right_none}
use Rattle.codegen.proofs.CodedPieces.{CodedBy}
use Rattle.codegen.proofs.ConditionBlind.{nothing_blind, condition_blind}
use Rattle.codegen.proofs.ConditionCodes.{Tested, relation_tested, sign_tested, class_tested, name_tested}
use Rattle.codegen.proofs.ConditionForms.{mapped_piece, mapped_rules, mapped_truth}
use Rattle.codegen.proofs.DataDoing.{behind_code}
use Rattle.codegen.proofs.Doing.{end_of, any, keeps_all, keeps_then, keeps_more, Comes, steps_to}
use Rattle.codegen.proofs.Evaluating.{Evaluates}
use Rattle.condition_codegen.proofs.Fragments.{joined_assoc, joined_nothing}
use Rattle.codegen.proofs.Running.{at, one_step, WorksFrom, works_from}
use Rattle.codegen.proofs.Standing.{Stands, front, back, first_stands, code_stands}
use Rattle.codegen.proofs.Ways.{ways}

-- a part that stands after this code evaluates
abbrev pub PartEvaluates : Code → Code → Code → Own → State → Evaluation Bool → Type 0
PartEvaluates whole before part cs s e =
    Evaluates whole (end_of before) (end_of (append before part)) (end_of before) cs s (end_of (append before part)) e

-- a code, and more after it
end_grows : (before part : Code) → end_of before ≤ end_of (append before part)
end_grows before part = omega (arith, length-append before.instructions part.instructions)

module _ (whole : Code) where
  -- ---- parts one after the other

  comes_then : (address mid next : ℕ) (cs ds es : Own) (s : State) → Comes whole address cs s mid ds s
      → Comes whole mid ds s next es s → Comes whole address cs s next es s
  comes_then address mid next cs ds es s c d =
      record { by = λ k. let b = d.by k in let a = c.by b.0 in (a.0, a.1 ∙ b.1); falls = omega arith }

  -- a way there
  after_way : (from to address mid next : ℕ) (cs : Own) (s : State) (e : Evaluation Bool)
      → Comes whole address cs s mid cs s → Evaluates whole from to mid cs s next e
      → Evaluates whole from to address cs s next e
  after_way from to address mid next cs s (Ok truth) c d =
      (d.0, comes_then address mid next cs cs d.0 s c d.1, d.2, d.3)
  after_way from to address mid next cs s (Err fault) c d = let a = c.by d.0 in (a.0, a.1 ∙ d.1)

  -- and a way on, of a part within low..high
  before_way : (low high from to address mid next : ℕ) (cs : Own) (s : State) (e : Evaluation Bool) → from ≤ low
      → high ≤ to → Evaluates whole low high address cs s mid e
      → ((ds : Own) → Comes whole mid ds s next ds s) → Evaluates whole from to address cs s next e
  before_way low high from to address mid next cs s (Ok truth) begin end d way = (
    d.0,
    comes_then address mid next cs d.0 d.0 s d.1 (way d.0),
    keeps_more any low high from to cs d.0 begin end d.2,
    d.3,
  )
  before_way low high from to address mid next cs s (Err fault) begin end d way = d

  then_evaluates : (low high from to address mid next : ℕ) (cs : Own) (s : State) (e : Evaluation Bool)
      (go : Bool → Evaluation Bool) → from ≤ low → high ≤ to
      → Evaluates whole low high address cs s mid e
      → ((truth : Bool) (ds : Own) → ds.truth ≡ truth → Evaluates whole from to mid ds s next (go truth))
      → Evaluates whole from to address cs s next (e >>= go)
  then_evaluates low high from to address mid next cs s (Ok truth) go begin end d h =
      goes_on (go truth) (h truth d.0 d.3)
    where
      goes_on : (e : Evaluation Bool) → Evaluates whole from to mid d.0 s next e
          → Evaluates whole from to address cs s next e
      goes_on (Ok last) f = (
        f.0,
        comes_then address mid next cs d.0 f.0 s d.1 f.1,
        keeps_then any from to cs d.0 f.0 (keeps_more any low high from to cs d.0 begin end d.2) f.2,
        f.3,
      )
      goes_on (Err fault) f = let a = d.1.by f.0 in (a.0, a.1 ∙ f.1)
  then_evaluates low high from to address mid next cs s (Err fault) go begin end d h = d

  parts_evaluate : (before a b : Code) (cs : Own) (s : State) (e : Evaluation Bool) (go : Bool → Evaluation Bool)
      → PartEvaluates whole before a cs s e
      → ((truth : Bool) (ds : Own) → ds.truth ≡ truth → PartEvaluates whole (append before a) b ds s (go truth))
      → PartEvaluates whole before (append a b) cs s (e >>= go)
  parts_evaluate before a b cs s e go d h =
      let from = end_of before in
      let mid = end_of (append before a) in
      let last = end_of (append (append before a) b) in
      let to = end_of (append before (append a b)) in
      let same : last ≡ to = ap end_of (joined_assoc before a b) in
      let first_grows = end_grows before a in
      let then_grows = end_grows (append before a) b in
      then_evaluates from mid from to from mid to cs s e go (omega arith) (omega (arith, same, then_grows)) d
      (λ truth ds is.
      before_way mid last from to mid last to ds s (go truth) first_grows (omega (arith, same)) (h truth ds is)
      (λ es. subst (λ p. Comes whole last es s p es s) same (record { by = λ k. (k, refl); falls = omega arith })))

  nothing_evaluates : (before : Code) (cs : Own) (s : State) (truth : Bool) → cs.truth ≡ truth
      → PartEvaluates whole before empty_code cs s (Ok truth)
  nothing_evaluates before cs s truth is = (
    cs,
    record {
      by = λ k. (k, ap (λ p. exec_code whole k (at p cs s)) (ap end_of (sym (joined_nothing before))));
      falls = omega arith;
    },
    keeps_all any (end_of before) (end_of (append before empty_code)) cs,
    is,
  )

  -- ---- one of two parts

  module _ (first second : Fragment) (f : Blind first) (g : Blind second) (before : Code) (cs : Own) (s : State)
      (e : Evaluation Bool) (st : Stands whole before (either_fragment first second before)) where
    first_evaluates : cs.truth ≡ true
        → ((now : Code) → Stands whole now (first now) → PartEvaluates whole now (first now) cs s e)
        → PartEvaluates whole before (either_fragment first second before) cs s e
    first_evaluates is one =
        let w = ways whole first second f g before st in
        let from = end_of before in
        let to = end_of (append before (either_fragment first second before)) in
        let low = end_of w.inner in
        let high = end_of (append w.inner (first w.inner)) in
        after_way from to from low to cs s e (w.to_first cs s is)
        (before_way low high from to low high to cs s e w.first_begins w.first_ends (one w.inner w.first_stands)
        (λ ds. w.from_first ds s))

    second_evaluates : cs.truth ≡ false
        → ((now : Code) → Stands whole now (second now) → PartEvaluates whole now (second now) cs s e)
        → PartEvaluates whole before (either_fragment first second before) cs s e
    second_evaluates is other =
        let w = ways whole first second f g before st in
        let from = end_of before in
        let to = end_of (append before (either_fragment first second before)) in
        let low = end_of w.outer in
        let high = end_of (append w.outer (second w.outer)) in
        after_way from to from low to cs s e (w.to_second cs s is)
        (before_way low high from to low high to cs s e w.second_begins w.second_ends (other w.outer w.second_stands)
        (λ ds. w.from_second ds s))

  -- ---- pieces

  -- A piece, wherever it stands, finds this truth.
  record Finds (value : ConditionValue) (piece : Fragment) : Type 0 where
    by : (before : Code) (cs : Own) (s : State) → Stands whole before (piece before)
        → PartEvaluates whole before (piece before) cs s (value s.storage)

  found_evaluates : (from to address next : ℕ) (cs : Own) (s : State) (count : ℕ) → address + count ≡ next
      → (sender : Option Sender) (e : Evaluation Bool)
      → WorksFrom whole address
      cs s count (step_with e (λ truth. Continues (record (scratch_of s cs) { truth = truth; sender = sender })))
      → Evaluates whole from to address cs s next e
  found_evaluates from to address next cs s count behind sender (Ok truth) h =
      let ds : Own = record cs { truth = truth; sender = sender } in (
        ds,
        record { by = λ k. (count + k, h k ∙ ap (λ n. exec_code whole k (at n ds s)) behind); falls = omega arith },
        record { count = refl; by = λ k is outside. refl; line = λ e. e; returns = refl },
        refl,
      )
  found_evaluates from to address next cs s count behind sender (Err fault) h = h

  tested_finds : (value : ConditionValue) (piece : Fragment) → CodedBy whole (Tested whole.tables value) piece
      → Finds value piece
  tested_finds value piece coded = record {
    by = λ before cs s st.
        let c = coded.by before st in
        let d = c.holds.0 (scratch_of s cs) in
        let part = piece before in
        let from = end_of before in
        let to = end_of (append before part) in
        found_evaluates from to from to cs s (length c.code) (behind_code whole before part c.code c.is) d.sender
        (value s.storage)
        (subst (WorksFrom whole from cs s (length c.code)) d.by
        (works_from whole c.code from cs s (code_stands whole before part c.code c.is st)));
  }

  -- these instructions find this truth
  works_find : (all : List DataInstruction) (truth : Bool) → Tested whole.tables (λ storage. Ok truth) all
      → Finds (λ storage. Ok truth) (works_fragment all)
  works_find all truth tested = tested_finds (λ storage. Ok truth) (works_fragment all)
      (record { by = λ before st. record { code = all; is = refl; holds = tested } })

  none_of_all : Finds (λ storage. Ok true) (works_fragment (i.ClearTruth ∷ i.Test t.Invert ∷ []))
  none_of_all = works_find (i.ClearTruth ∷ i.Test t.Invert ∷ []) true
      (λ s. record { sender = s.sender; by = refl }, λ s. record { sender = s.sender; by = refl })

  none_of_any : Finds (λ storage. Ok false) (works_fragment (i.ClearTruth ∷ []))
  none_of_any = works_find (i.ClearTruth ∷ []) false
      (λ s. record { sender = s.sender; by = refl }, λ s. record { sender = s.sender; by = refl })

  -- the other truth
  invert_evaluates : (before : Code) (cs : Own) (s : State) (truth : Bool) → cs.truth ≡ truth
      → Stands whole before (work_fragment (i.Test t.Invert) before)
      → PartEvaluates whole before (work_fragment (i.Test t.Invert) before) cs s (Ok (not truth))
  invert_evaluates before cs s truth is st =
      let part = work_fragment (i.Test t.Invert) before in
      let from = end_of before in
      let ds : Own = record cs { truth = not cs.truth } in
      let behind : end_of (append before part) ≡ from + 1 = length-append before.instructions part.instructions in
      let here : slice_get whole.instructions from ≡ Some (Data (i.Test t.Invert)) =
      first_stands whole before part (Data (i.Test t.Invert)) [] refl st in (
        ds,
        subst (λ p. Comes whole from cs s p ds s) (sym behind) (steps_to whole from (from + 1) cs ds s s (omega arith)
            (λ k. one_step whole from cs s (Data (i.Test t.Invert)) here k)),
        record { count = refl; by = λ k is outside. refl; line = λ e. e; returns = refl },
        ap not is,
      )

  not_finds : (value : ConditionValue) (piece : Fragment) → Finds value piece → Finds
      (λ storage. value storage >>= (λ truth. Ok (not truth))) (sequence piece (work_fragment (i.Test t.Invert)))
  not_finds value piece one = record {
    by = λ before cs s st.
        let a = piece before in
        let b = work_fragment (i.Test t.Invert) (append before a) in
        parts_evaluate before a b cs s (value s.storage) (λ truth. Ok (not truth))
        (one.by before cs s (front whole before a b st))
        (λ truth ds is. invert_evaluates (append before a) ds s truth is (back whole before a b st));
  }

module _ (items : List LocatedItem) (whole : Code) (entries : (n : ℕ) (one : LocatedItem) → slice_get items n ≡ Some one
    → slice_get whole.tables.items n ≡ Some (data_item one))
    (order : IsTables whole.tables) (lie : (n : ℕ) (one : LocatedItem) → slice_get items n ≡ Some one
    → LiesWhole whole.tables one) where
  record IsDone (one : Condition) : Type 0 where
    by : condition_rules items one ≡ [] → Finds whole (holds items one) (condition_fragment items one)

  abbrev Known : Type 0
  Known = (one : Condition) × IsDone one

  abbrev rules_of : Known → List RuleBreach
  rules_of m = condition_rules items m.0

  abbrev piece_of : Known → Fragment
  piece_of m = condition_fragment items m.0

  abbrev truth_of : Known → ConditionValue
  truth_of m = holds items m.0

  abbrev each_rules : List Known → List RuleBreach
  each_rules all = each broken_already (map rules_of all)

  -- ---- AND

  -- Each further one is evaluated only where the truth so far is true.
  and_evaluates : (more : List Known) → each_rules more ≡ [] → (truth : Bool) (before : Code) (cs : Own) (s : State)
      → cs.truth ≡ truth
      → Stands whole before (in_order and_fragment (map piece_of more) before)
      → PartEvaluates whole before (in_order and_fragment (map piece_of more) before) cs s
      (if truth then all_hold items (map truth_of more) s.storage else Ok false)
  and_evaluates [] e true before cs s is st = nothing_evaluates whole before cs s true is
  and_evaluates [] e false before cs s is st = nothing_evaluates whole before cs s false is
  and_evaluates (one ∷ more) e true before cs s is st =
      let a = and_fragment (piece_of one) before in
      let b = in_order and_fragment (map piece_of more) (append before a) in
      parts_evaluate whole before a b cs s (truth_of one s.storage)
      (λ truth. if truth then all_hold items (map truth_of more) s.storage else Ok false)
      (first_evaluates whole (piece_of one) nothing_fragment (condition_blind items one.0) nothing_blind before cs s
      (truth_of one s.storage) (front whole before a b st) is
      (λ now there. (one.1.by (left_none (rules_of one) (each_rules more) e)).by now cs s there))
      (λ truth ds is_now. and_evaluates more (right_none (rules_of one) (each_rules more) e) truth (append before a) ds
      s is_now (back whole before a b st))
  and_evaluates (one ∷ more) e false before cs s is st =
      let a = and_fragment (piece_of one) before in
      let b = in_order and_fragment (map piece_of more) (append before a) in
      parts_evaluate whole before a b cs s (Ok false)
      (λ truth. if truth then all_hold items (map truth_of more) s.storage else Ok false)
      (second_evaluates whole (piece_of one) nothing_fragment (condition_blind items one.0) nothing_blind before cs s
      (Ok false) (front whole before a b st) is
      (λ now there. nothing_evaluates whole now cs s false is))
      (λ truth ds is_now. and_evaluates more (right_none (rules_of one) (each_rules more) e) truth (append before a) ds
      s is_now (back whole before a b st))

  all_finds : (parts : List Known) → each_rules parts ≡ []
      → Finds whole (all_hold items (map truth_of parts)) (all_fragment (map piece_of parts))
  all_finds [] e = record { by = λ before cs s st. (none_of_all whole).by before cs s st }
  all_finds (one ∷ more) e = record {
    by = λ before cs s st.
        let a = piece_of one before in
        let b = in_order and_fragment (map piece_of more) (append before a) in
        parts_evaluate whole before a b cs s (truth_of one s.storage)
        (λ truth. if truth then all_hold items (map truth_of more) s.storage else Ok false)
        ((one.1.by (left_none (rules_of one) (each_rules more) e)).by before cs s (front whole before a b st))
        (λ truth ds is. and_evaluates more (right_none (rules_of one) (each_rules more) e) truth (append before a) ds s
        is (back whole before a b st));
  }

  -- ---- OR

  -- Each further one is evaluated only where the truth so far is false.
  or_evaluates : (more : List Known) → each_rules more ≡ [] → (truth : Bool) (before : Code) (cs : Own) (s : State)
      → cs.truth ≡ truth
      → Stands whole before (in_order or_fragment (map piece_of more) before)
      → PartEvaluates whole before (in_order or_fragment (map piece_of more) before) cs s
      (if truth then Ok true else any_holds items (map truth_of more) s.storage)
  or_evaluates [] e true before cs s is st = nothing_evaluates whole before cs s true is
  or_evaluates [] e false before cs s is st = nothing_evaluates whole before cs s false is
  or_evaluates (one ∷ more) e true before cs s is st =
      let a = or_fragment (piece_of one) before in
      let b = in_order or_fragment (map piece_of more) (append before a) in
      parts_evaluate whole before a b cs s (Ok true)
      (λ truth. if truth then Ok true else any_holds items (map truth_of more) s.storage)
      (first_evaluates whole nothing_fragment (piece_of one) nothing_blind (condition_blind items one.0) before cs s
      (Ok true) (front whole before a b st) is
      (λ now there. nothing_evaluates whole now cs s true is))
      (λ truth ds is_now. or_evaluates more (right_none (rules_of one) (each_rules more) e) truth (append before a) ds s
      is_now (back whole before a b st))
  or_evaluates (one ∷ more) e false before cs s is st =
      let a = or_fragment (piece_of one) before in
      let b = in_order or_fragment (map piece_of more) (append before a) in
      parts_evaluate whole before a b cs s (truth_of one s.storage)
      (λ truth. if truth then Ok true else any_holds items (map truth_of more) s.storage)
      (second_evaluates whole nothing_fragment (piece_of one) nothing_blind (condition_blind items one.0) before cs s
      (truth_of one s.storage) (front whole before a b st) is
      (λ now there. (one.1.by (left_none (rules_of one) (each_rules more) e)).by now cs s there))
      (λ truth ds is_now. or_evaluates more (right_none (rules_of one) (each_rules more) e) truth (append before a) ds s
      is_now (back whole before a b st))

  any_finds : (parts : List Known) → each_rules parts ≡ []
      → Finds whole (any_holds items (map truth_of parts)) (any_fragment (map piece_of parts))
  any_finds [] e = record { by = λ before cs s st. (none_of_any whole).by before cs s st }
  any_finds (one ∷ more) e = record {
    by = λ before cs s st.
        let a = piece_of one before in
        let b = in_order or_fragment (map piece_of more) (append before a) in
        parts_evaluate whole before a b cs s (truth_of one s.storage)
        (λ truth. if truth then Ok true else any_holds items (map truth_of more) s.storage)
        ((one.1.by (left_none (rules_of one) (each_rules more) e)).by before cs s (front whole before a b st))
        (λ truth ds is. or_evaluates more (right_none (rules_of one) (each_rules more) e) truth (append before a) ds s
        is (back whole before a b st));
  }

  -- ---- conditions

  layer_finds : (l : Condition-F Known)
      → condition_layer_rules items (map-Condition Known (List RuleBreach) rules_of l) ≡ []
      → Finds whole (condition_layer items (map-Condition Known ConditionValue truth_of l))
      (condition_layer_fragment items (map-Condition Known Fragment piece_of l))
  layer_finds (Condition-F.Name reference) e = record {
    by = λ before cs s st. (tested_finds whole (name_holds items reference) (condition_name_fragment items reference)
        (name_tested items whole entries order lie reference e)).by before cs s st;
  }
  layer_finds (Condition-F.Relation left one right) e = record {
    by = λ before cs s st.
        (tested_finds whole (relation_holds items left one right) (relation_fragment items left one right)
        (relation_tested items whole entries order lie left one right e)).by before cs s st;
  }
  layer_finds (Condition-F.Sign value negated one) e = record {
    by = λ before cs s st.
        (tested_finds whole (sign_truth items value negated one)
        (sequence (expression_fragment items value) (sequence (number_fragment zero_number)
        (work_fragment (i.Test (t.CompareNumbers (sign_relation one negated))))))
        (sign_tested items whole entries order lie value negated one e)).by before cs s st;
  }
  layer_finds (Condition-F.Class reference negated one) e = record {
    by = λ before cs s st.
        (tested_finds whole (class_truth items reference negated one)
        (sequence (take_fragment items (i.Test (t.Class one)) reference) (works_fragment (negation negated)))
        (class_tested items whole entries order lie reference negated one e)).by before cs s st;
  }
  layer_finds (Condition-F.Not inner) e = record {
    by = λ before cs s st. (not_finds whole (truth_of inner) (piece_of inner) (inner.1.by e)).by before cs s st;
  }
  layer_finds (Condition-F.All parts) e = record { by = λ before cs s st. (all_finds parts e).by before cs s st }
  layer_finds (Condition-F.Any parts) e = record { by = λ before cs s st. (any_finds parts e).by before cs s st }

  done_inside : (l : Condition-F Known) → IsDone (roll-Condition (map-Condition Known Condition (λ m. m.0) l))
  done_inside l = record {
    by = λ e.
        let one = roll-Condition (map-Condition Known Condition (λ (m : Known). m.0) l) in
        let piece = condition_layer_fragment items (map-Condition Known Fragment piece_of l) in
        let layer = layer_finds l (sym (mapped_rules items (λ (m : Known). m.0) l) ∙ e) in
        let valued = subst (λ (value : ConditionValue). Finds whole value piece)
        (sym (mapped_truth items (λ (m : Known). m.0) l)) layer in
        subst (λ (p : Fragment). Finds whole (holds items one) p) (sym (mapped_piece items (λ (m : Known). m.0) l))
        valued;
  }

  done : (one : Condition) → IsDone one
  done = ind-Condition IsDone (λ one l is. subst (λ k. IsDone (roll-Condition k)) is (done_inside l))

  -- The code of a condition finds its truth from whatever the machine has, and no part of the state changes.
  pub condition_does : (one : Condition) (before : Code) (cs : Own) (s : State) → condition_rules items one ≡ []
      → Stands whole before (condition_fragment items one before)
      → Evaluates whole (end_of before) (end_of (append before (condition_fragment items one before))) (end_of before)
      cs s
      (end_of (append before (condition_fragment items one before))) (holds items one s.storage)
  condition_does one before cs s e st = ((done one).by e).by before cs s st
