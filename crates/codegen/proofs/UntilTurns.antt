-- The turns up to where a condition is true.
use Rattle.std.proofs.Common.{◌≡◌, ℕ, zero, suc, ◌+◌, ◌≤◌, ◌<◌, Bool, true, false, [], Some, refl, sym, ap, ◌∙◌, subst}
use Rattle.std.proofs.Common.{arith, length-append}
use Rattle.std.specs.Prelude.{slice_get}
use Rattle.source_tree.specs.declared.until.TestTime.{TestTime}
use Rattle.source_tree.specs.declared.until.TestTime.TheVariants.{Before, After}
use Rattle.source_tree.specs.Conditions.{ConditionValue}
use Rattle.source_tree.specs.State.{State, Outcome, Done, then_do, spend_from, spend}
use Rattle.source_tree.specs.Until.{done_if, unless_true, until_before, until_after, until_from}
use Rattle.source_tree.proofs.Runs.{IsRun}
use Rattle.data_instructions.specs.declared.instruction.DataInstruction.TheVariants as i
use Rattle.code_image.specs.declared.code.Code.{Code}
use Rattle.code_image.specs.declared.instruction.Instruction.TheVariants.{Branch, Data}
use Rattle.code_image.specs.Points.{Own}
use Rattle.condition_codegen.specs.Fragments.{Fragment, empty_code, append, sequence}
use Rattle.condition_codegen.specs.Meeting.{branch_code, either_fragment, nothing_fragment}
use Rattle.condition_codegen.specs.DataCode.{work_fragment}
use Rattle.codegen.specs.UntilCode.{repetition_fragment, until_before_fragment, until_after_fragment}
use Rattle.codegen.specs.UntilCode.{until_from_fragment}
use Rattle.condition_codegen.proofs.Fragments.{joined_assoc, joined_nothing}
use Rattle.codegen.proofs.Standing.{Stands, front, back, first_stands}
use Rattle.codegen.proofs.Blind.{Blind}
use Rattle.codegen.proofs.UntilBlind.{turn_before_blind, onward_blind}
use Rattle.codegen.proofs.Running.{one_step}
use Rattle.codegen.proofs.Doing.{end_of, keeps_all, Comes, Does, PartDoes, Sits, within_sits, front_sits, back_sits}
use Rattle.codegen.proofs.Doing.{IsRoom, still_room, after, spend_does, then_does, moved_from, stays, steps_to}
use Rattle.codegen.proofs.Doing.{branch_goes_on, branch_goes_to, behind, nothing_does, Repeats}
use Rattle.codegen.proofs.ConditionBlind.{nothing_blind}
use Rattle.codegen.proofs.ConditionDoes.{PartEvaluates}
use Rattle.codegen.proofs.Evaluating.{evaluated_does}
use Rattle.codegen.proofs.Ways.{Ways, ways}
use Rattle.codegen.proofs.Branching.{either_does}

module _ (whole : Code) (kept : ℕ → Type 0) where
  -- a test, wherever its code stands
  pub record Tests (test : ConditionValue) (piece : Fragment) : Type 0 where
    pub by : (before : Code) (cs : Own) (s : State) → Stands whole before (piece before)
        → PartEvaluates whole before (piece before) cs s (test s.storage)

  -- A turn of a loop at this line, wherever it stands: `turn go` is what it means after what uses one of the budget,
  -- where `go` comes after it. At its end the truth says whether that is so, or all is done.
  record TurnDoes (line depth : ℕ) (turn : (State → Outcome) → State → Outcome) (piece : Fragment) : Type 0 where
    by : (before : Code) (from to next : ℕ) (cs : Own) (s : State) (go : State → Outcome) → from ≤ end_of before
        → end_of (append before (piece before)) ≤ to → s.budget < depth → IsRoom whole cs
        → Sits whole kept before (piece before)
        → ((truth : Bool) (ds : Own) (t : State) → t.budget < s.budget → IsRoom whole ds → ds.truth ≡ truth
        → Does whole kept from to (end_of (append before (piece before))) ds t next (done_if go t truth))
        → Does whole kept from to (end_of before) cs s next (spend line s (turn go))

  -- with nothing left it doesn't matter what would come
  spent_same : (b line : ℕ) (s : State) (go other : State → Outcome) → b ≤ 0
      → spend_from b line s go ≡ spend_from b line s other
  spent_same zero line s go other none = refl
  spent_same (suc n) line s go other none = absurd (omega arith)

  -- ---- turns, and a branch back after each

  -- `rest n` is what follows what uses one of the budget, where n more turns may come after it.
  module _ (line depth : ℕ) (turn : (State → Outcome) → State → Outcome) (piece : Fragment)
      (once : TurnDoes line depth turn piece)
      (rest : ℕ → State → Outcome)
      (goes_on : (left : ℕ) → rest (suc left) ≡ turn (λ t. spend line t (rest left))) (before : Code)
      (sits : Sits whole kept before (append (piece before) (branch_code (end_of before)))) where
    abbrev begin : ℕ
    begin = end_of before

    abbrev part : Code
    part = piece before

    abbrev next : ℕ
    next = end_of (append before (append part (branch_code begin)))

    abbrev end : ℕ
    end = end_of (append before part)

    ends : end + 1 ≡ next
    ends =
        let joined_length = length-append (append before part).instructions (branch_code begin).instructions in
        omega (arith, ap end_of (joined_assoc before part (branch_code begin)), joined_length)

    branches : slice_get whole.instructions end ≡ Some (Branch begin)
    branches =
        first_stands whole (append before part) (branch_code begin) (Branch begin) [] refl
        (back whole before part (branch_code begin) sits.stands)

    -- at the end of a turn
    turn_ends : (go : State → Outcome) (truth : Bool) (cs : Own) (s : State) → cs.truth ≡ truth
        → Does whole kept begin next begin cs s next (go s)
        → Does whole kept begin next end cs s next (done_if go s truth)
    turn_ends go true cs s is again =
        after whole kept begin next end (end + 1) next cs cs s s (Done s) (keeps_all kept begin next cs)
        (branch_goes_on whole end begin cs s branches is) (stays whole kept begin next (end + 1) next cs s ends)
    turn_ends go false cs s is again =
        after whole kept begin next end begin next cs cs s s (go s) (keeps_all kept begin next cs)
        (branch_goes_to whole end begin cs s branches is) again

    turns_do : (left : ℕ) (cs : Own) (s : State) → s.budget ≤ left → s.budget < depth → IsRoom whole cs
        → Does whole kept begin next begin cs s next (spend line s (rest left))
    turns_do zero cs s le below room =
        subst (Does whole kept begin next begin cs s next) (spent_same s.budget line s (turn Done) (rest zero) le)
        (once.by before begin next next cs s Done (omega arith) (omega (arith, ends)) below room
        (front_sits whole kept before part (branch_code begin) sits)
        (λ truth ds t falls still is. absurd (omega arith)))
    turns_do (suc left) cs s le below room =
        let go : State → Outcome = λ t. spend line t (rest left) in
        subst (Does whole kept begin next begin cs s next) (ap (spend line s) (sym (goes_on left)))
        (once.by before begin next next cs s go (omega arith) (omega (arith, ends)) below room
        (front_sits whole kept before part (branch_code begin) sits)
        (λ truth ds t falls still is.
        turn_ends go truth ds t is (turns_do left ds t (omega arith) (omega arith) still)))

  -- ---- the test before each turn, and after it

  module _ (line depth : ℕ) (test : ConditionValue) (onward body : State → Outcome) (runs : IsRun body)
      (test_piece onward_piece turn_piece : Fragment)
      (tests : Tests test test_piece) (goes : Repeats whole kept depth onward onward_piece)
      (performs : Repeats whole kept depth (λ s. spend line s body) turn_piece) where
    -- a turn, and what follows what uses one of the budget where so many more may come after it
    abbrev turn_before : (State → Outcome) → State → Outcome
    turn_before go s = then_do (body s) (λ t. then_do (onward t) (unless_true test go))

    abbrev rest_before : ℕ → State → Outcome
    rest_before left s = then_do (body s) (λ t. then_do (onward t) (until_before line left test onward body))

    turn_before_does : TurnDoes line depth turn_before (sequence turn_piece (sequence onward_piece test_piece))
    turn_before_does = record {
      by = λ before from to next cs s go low high below room sits h.
          let a = turn_piece before in
          let second = append before a in
          let b = onward_piece second in
          let third = append second b in
          let c = test_piece third in
          let last = append third c in
          let rest = back_sits whole kept before a (append b c) sits in
          let same : end_of (append before (append a (append b c))) ≡ end_of last =
          sym (ap end_of (joined_assoc before a (append b c))) ∙ sym
          (ap end_of (joined_assoc second b c)) in
          let l1 = length-append before.instructions a.instructions in
          let l2 = length-append second.instructions b.instructions in
          let l3 = length-append third.instructions c.instructions in
          spend_does whole kept (end_of before) (end_of second) from to line (end_of before) (end_of second) next cs s
          body
          (λ t. then_do (onward t) (unless_true test go)) runs low (omega (arith, l2, l3, same))
          (performs.by before cs s below room (front_sits whole kept before a (append b c) sits)) (λ t ds falls keeps.
          let wide = still_room whole kept (end_of before) (end_of second) cs ds keeps room in
          then_does whole kept (end_of second) (end_of third) from to (end_of second) (end_of third) next ds t
          (onward t) (unless_true test go)
          (omega (arith, l1)) (omega (arith, l3, same))
          (goes.by second ds t (omega arith) wide (front_sits whole kept second b c rest)) (λ u es drops holds.
          let still = still_room whole kept (end_of second) (end_of third) ds es holds wide in
          evaluated_does whole kept (end_of third) (end_of last) from to (end_of third) (end_of last) next es u
          (test u.storage) (done_if go u)
          (omega (arith, l1, l2)) (omega (arith, same))
          (tests.by third es u (back whole second b c rest.stands)) (λ truth gs stands is.
          moved_from whole kept from to (end_of last) (end_of (append before (append a (append b c)))) next gs u
          (done_if go u truth) same
          (h truth gs u (omega arith) (still_room whole kept (end_of third) (end_of last) es gs stands still) is))));
    }

    -- the same where the test follows each turn, and `onward` where it is false
    abbrev turn_after : (State → Outcome) → State → Outcome
    turn_after go s = then_do (body s) (unless_true test (λ t. then_do (onward t) go))

    abbrev rest_after : ℕ → State → Outcome
    rest_after left s =
        then_do (body s) (unless_true test (λ t. then_do (onward t) (until_after line left test onward body)))

    abbrev clear : Fragment
    clear = work_fragment i.ClearTruth

    abbrev ways_piece : Fragment
    ways_piece = either_fragment nothing_fragment (sequence onward_piece clear)

    clears : (before : Code) (cs : Own) (s : State) → Stands whole before (clear before)
        → Comes whole (end_of before) cs s (end_of (append before (clear before))) (record cs { truth = false }) s
    clears before cs s st =
        let next : end_of before + 1 ≡ end_of (append before (clear before)) =
        sym (length-append before.instructions (clear before).instructions) in
        subst (λ (p : ℕ). Comes whole (end_of before) cs s p (record cs { truth = false }) s) next
        (steps_to whole (end_of before) (end_of before + 1) cs (record cs { truth = false }) s s (omega arith)
        (λ k. one_step whole (end_of before) cs s (Data i.ClearTruth)
        (first_stands whole before (clear before) (Data i.ClearTruth) [] refl st) k))

    -- After the test: nothing where it was true, and else `onward`, after which the truth is false.
    ways_do : (before part : Code) (w : Ways whole nothing_fragment (sequence onward_piece clear) before part)
        → Sits whole kept before part
        → (from to next : ℕ) (cs : Own) (s : State) (go : State → Outcome) (truth : Bool)
        → from ≤ end_of before → end_of (append before part) ≤ to → s.budget < depth → IsRoom whole cs
        → cs.truth ≡ truth
        → ((now : Bool) (ds : Own) (t : State) → t.budget ≤ s.budget → IsRoom whole ds → ds.truth ≡ now
        → Does whole kept from to (end_of (append before part)) ds t next (done_if go t now))
        → Does whole kept from to (end_of before) cs s next (done_if (λ t. then_do (onward t) go) s truth)
    ways_do before part w sits from to next cs s go true low high below room is h =
        let end = end_of (append before part) in
        let begin = end_of w.inner in
        let same : end_of (append w.inner empty_code) ≡ begin = ap end_of (joined_nothing w.inner) in
        after whole kept from to (end_of before) begin next cs cs s s (Done s) (keeps_all kept from to cs)
        (w.to_first cs s is)
        (moved_from whole kept from to begin (end_of (append w.inner empty_code)) next cs s (Done s) same
        (after whole kept from to (end_of (append w.inner empty_code)) end next cs cs s s (Done s)
        (keeps_all kept from to cs) (w.from_first cs s)
        (h true cs s (omega arith) room is)))
    ways_do before part w sits from to next cs s go false low high below room is h =
        let end = end_of (append before part) in
        let begin = end_of w.outer in
        let a = onward_piece w.outer in
        let second = append w.outer a in
        let b = clear second in
        let l1 = length-append w.outer.instructions a.instructions in
        let l2 = length-append second.instructions b.instructions in
        let same = ap end_of (joined_assoc w.outer a b) in
        after whole kept from to (end_of before) begin next cs cs s s (then_do (onward s) go)
        (keeps_all kept from to cs) (w.to_second cs s is)
        (then_does whole kept begin (end_of second) from to begin (end_of second) next cs s (onward s) go
        (omega (arith, w.second_begins))
        (omega (arith, l2, same, w.second_ends))
        (goes.by w.outer cs s below room
        (front_sits whole kept w.outer a b
        (within_sits whole kept before part w.outer (append a b) sits w.second_stands w.second_begins w.second_ends)))
        (λ t ds falls keeps.
        let es = record ds { truth = false } in
        let still = still_room whole kept begin (end_of second) cs ds keeps room in
        after whole kept from to (end_of second) (end_of (append second b)) next ds es t t (go t)
        (record { count = refl; by = λ k is outside. refl; line = λ e. e; returns = refl })
        (clears second ds t (back whole w.outer a b w.second_stands))
        (moved_from whole kept from to (end_of (append second b)) (end_of (append w.outer (append a b))) next es t
        (go t) (sym same)
        (after whole kept from to (end_of (append w.outer (append a b))) end next es es t t (go t)
        (keeps_all kept from to es) (w.from_second es t)
        (h false es t (omega arith) (record { counters = still.counters; line = still.line }) refl)))))

    module _ (blind_test : Blind test_piece) (blind_onward : Blind onward_piece) (blind_body : Blind turn_piece) where
      -- with at most `depth` turns, where less than that is left of the budget
      until_before_does : (most : ℕ) → depth ≡ most
          → Repeats whole kept depth (until_before line most test onward body)
          (until_before_fragment test_piece onward_piece turn_piece)
      until_before_does zero is = record { by = λ before cs s below room sits. absurd (omega (arith, is)) }
      until_before_does (suc left) is = record {
        by = λ before cs s below room sits.
            let turns = repetition_fragment turn_piece (sequence onward_piece test_piece) in
            let go : State → Outcome = λ t. spend line t (rest_before left) in
            let a = test_piece before in
            let second = append before a in
            let b = either_fragment nothing_fragment turns second in
            let next = end_of (append before (append a b)) in
            let l1 = length-append before.instructions a.instructions in
            let l2 = length-append second.instructions b.instructions in
            let same = ap end_of (joined_assoc before a b) in
            let none : Repeats whole kept depth Done nothing_fragment =
            record { by = λ now ds t less wide here. nothing_does whole kept now ds t } in
            let some : Repeats whole kept depth go turns = record {
              by = λ now ds t less wide here.
                  turns_do line depth turn_before (sequence turn_piece (sequence onward_piece test_piece))
                  turn_before_does rest_before
                  (λ n. refl) now here left ds t (omega (arith, is)) less wide;
            } in
            evaluated_does whole kept (end_of before) (end_of second) (end_of before) next (end_of before)
            (end_of second) next cs s (test s.storage)
            (done_if go s) (omega arith) (omega (arith, l2, same))
            (tests.by before cs s (front whole before a b sits.stands)) (λ truth ds keeps held.
            behind whole kept before a b ds s (done_if go s truth)
            (subst (λ (now : Bool). PartDoes whole kept second b ds s (done_if go s now)) held
            (either_does whole kept depth nothing_fragment turns (λ now t. done_if go t now) none some nothing_blind
            (turn_before_blind test_piece onward_piece turn_piece blind_test blind_onward blind_body) second ds s below
            (still_room whole kept (end_of before) (end_of second) cs ds keeps room)
            (back_sits whole kept before a b sits))));
      }

      turn_after_does : TurnDoes line depth turn_after (sequence turn_piece (sequence test_piece ways_piece))
      turn_after_does = record {
        by = λ before from to next cs s go low high below room sits h.
            let a = turn_piece before in
            let second = append before a in
            let b = test_piece second in
            let third = append second b in
            let c = ways_piece third in
            let last = append third c in
            let rest = back_sits whole kept before a (append b c) sits in
            let same : end_of (append before (append a (append b c))) ≡ end_of last =
            sym (ap end_of (joined_assoc before a (append b c))) ∙ sym
            (ap end_of (joined_assoc second b c)) in
            let l1 = length-append before.instructions a.instructions in
            let l2 = length-append second.instructions b.instructions in
            let l3 = length-append third.instructions c.instructions in
            let more : State → Outcome = λ t. then_do (onward t) go in
            spend_does whole kept (end_of before) (end_of second) from to line (end_of before) (end_of second) next cs s
            body
            (unless_true test more) runs low (omega (arith, l2, l3, same))
            (performs.by before cs s below room (front_sits whole kept before a (append b c) sits)) (λ t ds falls keeps.
            let wide = still_room whole kept (end_of before) (end_of second) cs ds keeps room in
            evaluated_does whole kept (end_of second) (end_of third) from to (end_of second) (end_of third) next ds t
            (test t.storage)
            (done_if more t) (omega (arith, l1)) (omega (arith, l3, same))
            (tests.by second ds t (front whole second b c rest.stands)) (λ truth es holds is.
            ways_do third c (ways whole nothing_fragment (sequence onward_piece clear) nothing_blind
            (onward_blind test_piece onward_piece turn_piece blind_test blind_onward blind_body) third
            (back whole second b c rest.stands))
            (back_sits whole kept second b c rest) from to next es t go truth (omega (arith, l1, l2))
            (omega (arith, same)) (omega arith)
            (still_room whole kept (end_of second) (end_of third) ds es holds wide) is (λ now gs u drops still was.
            moved_from whole kept from to (end_of last) (end_of (append before (append a (append b c)))) next gs u
            (done_if go u now) same
            (h now gs u (omega arith) still was))));
      }

      until_after_does : (most : ℕ) → depth ≡ most
          → Repeats whole kept depth (until_after line most test onward body)
          (until_after_fragment test_piece onward_piece turn_piece)
      until_after_does zero is = record { by = λ before cs s below room sits. absurd (omega (arith, is)) }
      until_after_does (suc left) is = record {
        by = λ before cs s below room sits.
            turns_do line depth turn_after (sequence turn_piece (sequence test_piece ways_piece)) turn_after_does
            rest_after (λ n. refl) before sits left cs s
            (omega (arith, is)) below room;
      }

      pub until_from_does : (when : TestTime)
          → Repeats whole kept depth (until_from when line depth test onward body)
          (until_from_fragment when test_piece onward_piece turn_piece)
      until_from_does Before = until_before_does depth refl
      until_from_does After = until_after_does depth refl
