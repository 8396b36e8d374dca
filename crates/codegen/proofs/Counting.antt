-- As many turns as an item says.
use Rattle.std.proofs.Common.{◌≡◌, ℕ, zero, suc, ◌+◌, ◌<◌, true, false, List, [], ◌∷◌, length, Option, Some, Ok, Err}
use Rattle.std.proofs.Common.{refl, ap, ◌∙◌, subst, arith, length-append, get_or-set_same}
use Rattle.std.specs.Prelude.{slice_get}
use Rattle.std.proofs.Math.ListN.{length-set}
use Rattle.std.proofs.lemmas.Option.{slice_get_within}
use Rattle.decimal18.specs.Fraction.{Fraction}
use Rattle.source_tree.specs.declared.reference.Reference.{Reference}
use Rattle.source_tree.specs.declared.expression.Operand.TheVariants as operand
use Rattle.source_tree.specs.Computed.{number_at}
use Rattle.source_tree.specs.Evaluated.{Evaluation, ◌>>=◌, evaluation_of}
use Rattle.source_tree.specs.NameRules.{reference_rules}
use Rattle.source_tree.specs.Performing.{turns, turns_by, turns_in}
use Rattle.source_tree.specs.Places.{LocatedItem}
use Rattle.source_tree.specs.References.{place_of}
use Rattle.source_tree.specs.Rules.{integer_item}
use Rattle.source_tree.specs.State.{State, Outcome, Done, spend, with_value}
use Rattle.data_instructions.specs.declared.instruction.DataInstruction.TheVariants as i
use Rattle.data_instructions.specs.Tables.{IsTables}
use Rattle.data_instructions.specs.Scratch.{step_with}
use Rattle.data_instructions.specs.Table.{push_step}
use Rattle.data_instructions.specs.Codes.{data_item}
use Rattle.data_instructions.proofs.Expressions.{value_works}
use Rattle.code_image.specs.declared.code.Code.{Code}
use Rattle.code_image.specs.declared.instruction.Instruction.TheVariants.{CountNumber}
use Rattle.code_image.specs.Points.{Own, scratch_of}
use Rattle.code_image.specs.Table.{counted_by, exec_code}
use Rattle.condition_codegen.specs.Fragments.{Fragment, append, sequence}
use Rattle.condition_codegen.specs.Meeting.{either_fragment, nothing_fragment}
use Rattle.condition_codegen.specs.DataCode.{take_fragment}
use Rattle.codegen.specs.Layout.{count_begin, counted_turn, counted_fragment}
use Rattle.condition_codegen.proofs.Fragments.{joined_assoc}
use Rattle.codegen.proofs.Standing.{front, first_stands, code_stands}
use Rattle.codegen.proofs.Blind.{Blind}
use Rattle.codegen.proofs.ConditionBlind.{nothing_blind}
use Rattle.codegen.proofs.BlindStatements.{counted_turn_blind}
use Rattle.codegen.proofs.Codes.{taking_coded}
use Rattle.codegen.proofs.Running.{at, one_step, WorksFrom, works_from}
use Rattle.codegen.proofs.DataDoing.{behind_code}
use Rattle.codegen.proofs.Doing.{end_of, setting, Keeps, keeps_set, Comes, Does, PartDoes, Sits, back_sits, IsRoom}
use Rattle.codegen.proofs.Doing.{after, wider, moved_from, steps_to, behind, nothing_does, Repeats}
use Rattle.codegen.proofs.Ways.{Ways, ways}
use Rattle.codegen.proofs.Branching.{first_does, second_does}
use Rattle.codegen.proofs.Turning.{counted_turn_does, own_counter}

-- with a number more
abbrev with_number : Option Fraction → Own → Own
with_number newest cs = record cs { numbers = newest ∷ cs.numbers }

-- after `count number`, which took it and found so many turns
abbrev counted_own : ℕ → ℕ → Own → Own
counted_own zero counter cs = record cs { truth = false }
counted_own (suc more) counter cs = record (setting cs counter more) { truth = true }

module _ (whole : Code) (kept : ℕ → Type 0) where
  count_step : (address counter : ℕ) (newest : Option Fraction) (e : Evaluation ℕ) (cs : Own) (s : State)
      → (evaluation_of newest >>= turns_by) ≡ e
      → slice_get whole.instructions address ≡ Some (CountNumber (record { number = counter }))
      → (k : ℕ) → exec_code whole (suc k) (at address (with_number newest cs) s)
      ≡ counted_by e cs.numbers counter (exec_code whole k) (at address (with_number newest cs) s)
  count_step address counter newest e cs s is here k =
      one_step whole address (with_number newest cs) s (CountNumber (record { number = counter })) here k
      ∙ ap (λ (found : Evaluation ℕ).
      counted_by found cs.numbers counter (exec_code whole k) (at address (with_number newest cs) s)) is

  number_comes : (address counter : ℕ) (newest : Option Fraction) (count : ℕ) (cs : Own) (s : State)
      → (evaluation_of newest >>= turns_by) ≡ Ok count
      → slice_get whole.instructions address ≡ Some (CountNumber (record { number = counter }))
      → Comes whole address (with_number newest cs) s (address + 1) (counted_own count counter cs) s
  number_comes address counter newest zero cs s is here =
      steps_to whole address (address + 1) (with_number newest cs) (counted_own zero counter cs) s s (omega arith)
      (count_step address counter newest (Ok zero) cs s is here)
  number_comes address counter newest (suc more) cs s is here =
      steps_to whole address (address + 1) (with_number newest cs) (counted_own (suc more) counter cs) s s (omega arith)
      (count_step address counter newest (Ok (suc more)) cs s is here)

  -- What is known where a loop begins whose turns a number counts.
  module _ (line depth : ℕ) (go : State → Outcome) (piece : Fragment) (blind : Blind piece)
      (each : Repeats whole kept depth (λ t. spend line t go) piece) (newest : Option Fraction)
      (before : Code) (cs : Own) (s : State) (below : s.budget < depth) (room : IsRoom whole cs)
      (sits : Sits whole kept before (counted_fragment piece before)) where
    abbrev begin : ℕ
    begin = end_of before

    abbrev first : Code
    first = count_begin before

    abbrev inner : Code
    inner = append before first

    abbrev part : Code
    part = either_fragment (counted_turn begin piece) nothing_fragment inner

    abbrev next : ℕ
    next = end_of (append before (append first part))

    here : slice_get whole.instructions begin ≡ Some (CountNumber (record { number = begin }))
    here = first_stands whole before (append first part) (CountNumber (record { number = begin })) part.instructions
        refl sits.stands

    starts : end_of inner ≡ begin + 1
    starts = let single : length first.instructions ≡ 1 =
        refl in omega (arith, single, length-append before.instructions first.instructions)

    ends : end_of (append inner part) ≡ next
    ends = ap end_of (joined_assoc before first part)

    ways_sit : Sits whole kept inner part
    ways_sit = back_sits whole kept before first part sits

    ways_here : Ways whole (counted_turn begin piece) nothing_fragment inner part
    ways_here = ways whole (counted_turn begin piece) nothing_fragment (counted_turn_blind begin piece blind)
        nothing_blind inner ways_sit.stands

    -- from the branch on
    ways_do : (count : ℕ) → Does whole kept begin next (end_of inner) (counted_own count begin cs) s
        (end_of (append inner part)) (turns line count go s)
    ways_do zero =
        second_does whole kept (counted_turn begin piece) nothing_fragment inner part ways_here ways_sit begin next
        (omega (arith, starts))
        (omega (arith, ends)) (counted_own zero begin cs) s (Done s) refl (λ now low high sit.
        let last = end_of (append now (nothing_fragment now)) in
        wider whole kept (end_of now) last begin next (end_of now) last (counted_own zero begin cs) s (Done s)
        (omega (arith, low, starts))
        (omega (arith, high, ends)) (nothing_does whole kept now (counted_own zero begin cs) s))
    ways_do (suc more) =
        let ds = counted_own (suc more) begin cs in
        let within : begin < length cs.counters =
        (let h = slice_get_within whole.instructions begin
        (CountNumber (record { number = begin })) here in omega (arith, room.counters)) in
        first_does whole kept (counted_turn begin piece) nothing_fragment inner part ways_here ways_sit begin next
        (omega (arith, starts))
        (omega (arith, ends)) ds s (turns line (suc more) go s) refl (λ now low high sit.
        let last = end_of (append now (counted_turn begin piece now)) in
        wider whole kept begin last begin next (end_of now) last ds s (turns line (suc more) go s) (omega arith)
        (omega (arith, high, ends))
        (counted_turn_does whole kept line depth begin more go piece each now ds s (omega (arith, low, starts))
        (own_counter whole kept before first part refl sits) below
        (record { counters = length-set cs.counters begin more ∙ room.counters; line = room.line })
        (get_or-set_same cs.counters begin more 0 within) sit))

    keeps_counted : (count : ℕ) → Keeps kept begin next (with_number newest cs) (counted_own count begin cs)
    keeps_counted zero = record { count = refl; by = λ k is outside. refl; line = λ e. e; returns = refl }
    keeps_counted (suc more) =
        let l = length-append inner.instructions part.instructions in
        let set = keeps_set kept begin next cs begin more (omega arith) (omega (arith, starts, ends, l)) in
        record { count = set.count; by = λ k is outside. set.by k is outside; line = λ e. e; returns = refl }

    -- As many turns as the newest number says, which is taken.
    pub counted_does : (e : Evaluation ℕ) → (evaluation_of newest >>= turns_by) ≡ e
        → PartDoes whole kept before (counted_fragment piece before) (with_number newest cs) s
        (with_value e s (λ count. turns line count go s))
    counted_does (Ok count) is =
        let ds = counted_own count begin cs in
        after whole kept begin next begin (begin + 1) next (with_number newest cs) ds s s (turns line count go s)
        (keeps_counted count)
        (number_comes begin begin newest count cs s is here)
        (moved_from whole kept begin next (begin + 1) (end_of inner) next ds s (turns line count go s) starts
        (subst (λ (p : ℕ). Does whole kept begin next (end_of inner) ds s p (turns line count go s)) ends
        (ways_do count)))
    counted_does (Err fault) is = (1, count_step begin begin newest (Err fault) cs s is here 0)

  -- a number that is found, and what goes on with it
  found_does : (from to address mid next : ℕ) (cs : Own) (s : State) (count : ℕ) → address + count ≡ mid
      → (found : Evaluation Fraction)
      (go : ℕ → Outcome)
      → WorksFrom whole address cs s count
      (step_with (found >>= (λ x. Ok (Some x))) (λ x. push_step x (scratch_of s cs)))
      → ((x : Fraction) → Does whole kept from to mid (with_number (Some x) cs) s next (with_value (turns_by x) s go))
      → Does whole kept from to address cs s next (with_value (found >>= turns_by) s go)
  found_does from to address mid next cs s count behind_is (Ok x) go h goes_on =
      let ds = with_number (Some x) cs in
      after whole kept from to address mid next cs ds s s (with_value (turns_by x) s go)
      (record { count = refl; by = λ k is outside. refl; line = λ e. e; returns = refl })
      (record { by = λ k. (count + k, h k ∙ ap (λ n. exec_code whole k (at n ds s)) behind_is); falls = omega arith })
      (goes_on x)
  found_does from to address mid next cs s count behind_is (Err fault) go h goes_on = h

  module _ (items : List LocatedItem) (entries : (n : ℕ) (one : LocatedItem) → slice_get items n ≡ Some one
      → slice_get whole.tables.items n ≡ Some (data_item one))
      (order : IsTables whole.tables) where
    -- The turns that an item says, wherever their code stands.
    pub said_does : (line depth : ℕ) (one : Reference) (go : State → Outcome) (piece : Fragment)
        → reference_rules items integer_item one ≡ [] → Blind piece
        → Repeats whole kept depth (λ t. spend line t go) piece
        → Repeats whole kept depth (λ s. with_value (turns_in items one s.storage) s (λ count. turns line count go s))
        (sequence (take_fragment items i.Push one) (counted_fragment piece))
    said_does line depth one go piece keep blind each = record {
      by = λ before cs s below room sits.
          let a = take_fragment items i.Push one before in
          let middle = append before a in
          let b = counted_fragment piece middle in
          let stands = front whole before a b sits.stands in
          let coded = taking_coded items whole entries i.Push integer_item one before keep stands in
          let works_as =
          value_works items whole.tables order (operand.Item one) coded.code coded.holds (scratch_of s cs) in
          let from = end_of before in
          let to = end_of (append before (append a b)) in
          found_does from to from (end_of middle) to cs s (length coded.code)
          (behind_code whole before a coded.code coded.is)
          (place_of items one s.storage >>= number_at s.storage) (λ count. turns line count go s)
          (subst (WorksFrom whole from cs s (length coded.code)) works_as
          (works_from whole coded.code from cs s (code_stands whole before a coded.code coded.is stands)))
          (λ x. behind whole kept before a b (with_number (Some x) cs) s
          (with_value (turns_by x) s (λ count. turns line count go s))
          (counted_does line depth go piece blind each (Some x) middle cs s below room
          (back_sits whole kept before a b sits) (turns_by x) refl));
    }
