-- Verified code comes to an end, whatever the budget: each instruction finds what it needs, each way back, of a turn, a
-- branch or a jump, goes to what uses one of the budget, and so does each code paragraph that is performed. Between two
-- of them each step takes a `perform` that has not come back from those that there are, or it leaves them as they are
-- and goes to a later address.
use Rattle.std.proofs.Common.{◌≡◌, ◌==◌, ℕ, zero, suc, ◌+◌, ◌<◌, ◌≤◌, List, [], ◌∷◌, length, get_or, All, Bool, true}
use Rattle.std.proofs.Common.{false, Option, None, Some, Ok, Err, refl, ◌∙◌, ap, subst, inl, inr, arith}
use Rattle.std.specs.Prelude.{slice_get, slice_index, slice_set}
use Rattle.std.proofs.lemmas.List.Elements.{All-cons, All-head, All-tail}
use Rattle.std.proofs.lemmas.Option.{slice_get-get_or, same_Some}
use Rattle.decimal18.specs.Fraction.{Fraction}
use Rattle.source_tree.specs.State.{Stopped, Budget, Faulted}
use Rattle.source_tree.specs.Evaluated.{FileStatus, Evaluation, ◌>>=◌, evaluation_of}
use Rattle.source_tree.specs.Performing.{turns_by}
use Rattle.source_tree.specs.Given.{RunInput}
use Rattle.source_tree.specs.Meaning.{Run}
use Rattle.source_tree.specs.Accepting.{next_line}
use Rattle.data_instructions.specs.declared.shape.Shape.{Shape}
use Rattle.data_instructions.specs.Scratch as step
use Rattle.data_instructions.specs.Scratch.{Step}
use Rattle.data_instructions.specs.Fits.{FitsShape, Safe}
use Rattle.data_instructions.specs.Table.{work, accept_step, date_step, after_showing}
use Rattle.data_instructions.specs.Shapes.{empty, shape_after_show}
use Rattle.data_instructions.proofs.Safety.{safe_accept, safe_date, safe_showing}
use Rattle.data_instructions.proofs.EachSafety.{safe}
use Rattle.records.specs.declared.verb.Verb.{Verb}
use Rattle.source_tree.specs.FileStatements.{step_on}
use Rattle.file_image.specs.declared.class.StatusClass.{StatusClass}
use Rattle.file_image.specs.declared.file.CodeFile.{CodeFile}
use Rattle.file_image.specs.declared.file.FileIndex.{FileIndex}
use Rattle.file_image.specs.Files.{places_of, entries_of}
use Rattle.code_image.specs.declared.code.Code.{Code}
use Rattle.code_image.specs.declared.counter.CounterIndex.{CounterIndex}
use Rattle.code_image.specs.declared.paragraph.ParagraphIndex.{ParagraphIndex}
use Rattle.code_image.specs.declared.instruction.Instruction.{Instruction}
use Rattle.code_image.specs.declared.instruction.Instruction.TheVariants.{Tick, Show, Stop, Count, CountNumber, Turn}
use Rattle.code_image.specs.declared.instruction.Instruction.TheVariants.{Accept, Date, Branch, Jump, Join, Perform}
use Rattle.code_image.specs.declared.instruction.Instruction.TheVariants.{Back, File, TestStatus, Unheard, Data}
use Rattle.code_image.specs.Demands.{UsesBudget, IsVerified}
use Rattle.code_image.specs.Points.{Return, Point, scratch_of, first_point}
use Rattle.code_image.specs.Table.{onward, over, tick_from, shown_point, worked_point, data_from, counted_turns}
use Rattle.code_image.specs.Table.{counted_by, counted_from, turn_from, branch_from, own_with_return, perform_at}
use Rattle.code_image.specs.Table.{back_if, back_from, without_line, received_point, filed_from, tested_point, act}
use Rattle.code_image.specs.Table.{exec_code, Runs}
use Rattle.code_image.proofs.WellFormed.{IsWellFormed, BudgetAt, LeadsWithin, GoesWithin, PerformsWithin, well_formed}
use Rattle.code_image.proofs.WellFormed.{begins}
use Rattle.code_image.proofs.Standing.{Known, known_next, known_behind_rest, known_behind_join, known_at_start}
use Rattle.code_image.proofs.Standing.{known_behind_perform, ComesBack, Stands, StandsAtRest, stands_first, rests_here}
use Rattle.code_image.proofs.Standing.{stands_elsewhere, stands_after_count, number_here, stands_after_number}

module _ (code : Code) (verified : IsVerified code) where
  -- the run ends from this point on
  abbrev Ends : Point → Type 0
  Ends p = (m : ℕ) × (run : Run) × (exec_code code m p ≡ Some run)

  -- what this instruction does at the point comes to an end
  abbrev Acts : Option Instruction → Point → Type 0
  Acts i p = (m : ℕ) × (run : Run) × (act code i (exec_code code m) p ≡ Some run)

  acted : (i : Option Instruction) (p : Point) → slice_get code.instructions p.address ≡ i → Acts i p → Ends p
  acted i p here a = (suc a.0, a.1, ap (λ one. act code one (exec_code code a.0) p) here ∙ a.2)

  -- A run ends from each later address in the code with no more of the budget and no more to come back to.
  record Onward (p : Point) : Type 0 where
    by : (q : Point) → p.address < q.address → q.address < length code.instructions → q.state.budget ≤ p.state.budget
        → length q.own.returns ≤ length p.own.returns → Stands code q → Ends q

  -- from each address in the code with less to come back to, and no more of the budget
  record Shorter (budget returns : ℕ) : Type 0 where
    by : (q : Point) → q.address < length code.instructions → q.state.budget ≤ budget → length q.own.returns < returns
        → Stands code q → Ends q

  -- and from each address in the code with less of the budget
  record Sooner (budget : ℕ) : Type 0 where
    by : (q : Point) → q.address < length code.instructions → q.state.budget < budget → Stands code q → Ends q

  -- at a `tick`, at rest
  tick_ends : (left line : ℕ) (p : Point) → slice_get code.instructions p.address ≡ Some (Tick line)
      → StandsAtRest code p → left ≤ p.state.budget
      → p.address + 1 < length code.instructions
      → Sooner p.state.budget
      → (m : ℕ) × (run : Run) × (tick_from left line (onward (exec_code code m) p) p.state ≡ Some run)
  tick_ends zero line p here rest le within sooner = (0, over Budget p.state, refl)
  tick_ends (suc n) line p here rest le within sooner =
      sooner.by (record p { address = p.address + 1; state = record p.state { budget = n; line = line } }) within
      (omega arith)
      (record {
        shape = empty;
        known = known_behind_rest code verified p.address (Tick line) here (λ tables s. refl);
        fits = rest.fits;
        returns = rest.returns;
      })

  -- at a `perform`, at rest
  perform_ends : (left line : ℕ) (first last : ParagraphIndex) (p : Point)
      → slice_get code.instructions p.address ≡ Some (Perform line first last)
      → StandsAtRest code p → left ≤ p.state.budget
      → PerformsWithin code p.address first.number last.number → Sooner p.state.budget
      → (m : ℕ) × (run : Run) × (tick_from left line
      (perform_at (exec_code code m) (slice_index code.starts first.number) last.number p) p.state ≡ Some run)
  perform_ends zero line first last p here rest le is sooner = (0, over Budget p.state, refl)
  perform_ends (suc n) line first last p here rest le is sooner =
      let newest : Return = record { last = last.number; next = p.address + 1 } in
      let start = slice_index code.starts first.number in
      let comes_back : ComesBack code newest =
      record { within = is.next; known = known_behind_perform code verified p.address line first last here } in
      sooner.by (record {
        address = start;
        state = record p.state { budget = n; line = line };
        own = own_with_return last.number p;
      }) is.starts.within (omega arith)
      (record {
        shape = empty;
        known = known_at_start code verified first.number is.starts;
        fits = rest.fits;
        returns = All-cons (ComesBack code) newest p.own.returns comes_back rest.returns;
      })

  -- at what uses one of the budget
  budget_ends : (one : Instruction) → UsesBudget (Some one) → (p : Point)
      → slice_get code.instructions p.address ≡ Some one → StandsAtRest code p
      → IsWellFormed code p.address one
      → Sooner p.state.budget → Acts (Some one) p
  budget_ends (Tick line) uses p here rest is sooner = tick_ends p.state.budget line p here rest (omega arith) is sooner
  budget_ends (Perform line first last) uses p here rest is sooner =
      perform_ends p.state.budget line first last p here rest (omega arith) is sooner
  budget_ends Show uses p here rest is sooner = absurd uses
  budget_ends Stop uses p here rest is sooner = absurd uses
  budget_ends (Count counter turns) uses p here rest is sooner = absurd uses
  budget_ends (CountNumber counter) uses p here rest is sooner = absurd uses
  budget_ends (Turn counter to) uses p here rest is sooner = absurd uses
  budget_ends Accept uses p here rest is sooner = absurd uses
  budget_ends Date uses p here rest is sooner = absurd uses
  budget_ends (Branch to) uses p here rest is sooner = absurd uses
  budget_ends (Jump to) uses p here rest is sooner = absurd uses
  budget_ends Join uses p here rest is sooner = absurd uses
  budget_ends (Back paragraph) uses p here rest is sooner = absurd uses
  budget_ends (File file verb) uses p here rest is sooner = absurd uses
  budget_ends (TestStatus class) uses p here rest is sooner = absurd uses
  budget_ends Unheard uses p here rest is sooner = absurd uses
  budget_ends (Data one) uses p here rest is sooner = absurd uses

  data_ends : (one : Step) (after : Shape) (p : Point) → Safe code.tables one after → Known code (p.address + 1) after
      → All (ComesBack code) p.own.returns → p.address + 1 < length code.instructions
      → Onward p → (m : ℕ) × (run : Run) × (data_from one (exec_code code m) p ≡ Some run)
  data_ends (step.Continues s) after p is_safe known returns within ends =
      ends.by (worked_point s p) (omega arith) within (omega arith) (omega arith)
      (record { shape = after; known = known; fits = is_safe; returns = returns })
  data_ends (step.Faulted fault) after p is_safe known returns within ends =
      (0, over (Faulted fault p.state.line) p.state, refl)
  data_ends step.Stuck after p is_safe known returns within ends = absurd is_safe

  -- back at what uses one of the budget
  again_ends : (p : Point) → BudgetAt code p.address → StandsAtRest code p → Sooner p.state.budget → Ends p
  again_ends p at rest sooner =
      acted (Some at.one) p at.here
      (budget_ends at.one at.uses p at.here rest (well_formed code verified p.address at.one at.here) sooner)

  -- at rest, to an address at which nothing is known
  goes_ends : (p : Point) → Stands code p → StandsAtRest code p → (to : ℕ) → Known code to empty → p.address < to
      → to < length code.instructions
      → Onward p → Ends (record p { address = to })
  goes_ends p stands rest to known later within onward_ends =
      onward_ends.by (record p { address = to }) later within (omega arith) (omega arith)
      (stands_elsewhere code verified p stands rest to known)

  -- at a `count number`, whatever the number says
  module _ (counter : CounterIndex) (p : Point)
      (here : slice_get code.instructions p.address ≡ Some (CountNumber counter)) (stands : Stands code p)
      (within : p.address + 1 < length code.instructions) (onward_ends : Onward p) where
    counted_ends : (turns : ℕ) (newest : Option Fraction) (older : List (Option Fraction))
        → p.own.numbers ≡ newest ∷ older
        → (m : ℕ) × (run : Run) × (counted_turns turns older counter.number (exec_code code m) p ≡ Some run)
    counted_ends zero newest older is =
        onward_ends.by (record p { address = p.address + 1; own = record p.own { numbers = older; truth = false } })
        (omega arith) within (omega arith) (omega arith)
        (stands_after_number code verified p stands counter here newest older is p.own.counters false)
    counted_ends (suc more) newest older is =
        let counters = slice_set p.own.counters counter.number more in
        onward_ends.by (record p
        { address = p.address + 1; own = record p.own { counters = counters; numbers = older; truth = true } })
        (omega arith) within (omega arith) (omega arith)
        (stands_after_number code verified p stands counter here newest older is counters true)

    counted_by_ends : (turns : Evaluation ℕ) (newest : Option Fraction) (older : List (Option Fraction))
        → p.own.numbers ≡ newest ∷ older
        → (m : ℕ) × (run : Run) × (counted_by turns older counter.number (exec_code code m) p ≡ Some run)
    counted_by_ends (Ok turns) newest older is = counted_ends turns newest older is
    counted_by_ends (Err fault) newest older is = (0, over (Faulted fault p.state.line) p.state, refl)

    number_ends : (numbers : List (Option Fraction)) → p.own.numbers ≡ numbers
        → (m : ℕ) × (run : Run) × (counted_from numbers counter.number (exec_code code m) p ≡ Some run)
    number_ends [] none =
        let some = number_here code verified p stands counter here in
        absurd (omega (arith, some, ap length none))
    number_ends (newest ∷ older) is = counted_by_ends (evaluation_of newest >>= turns_by) newest older is

  turn_ends : (left : ℕ) (counter : CounterIndex) (to : ℕ) (p : Point)
      → slice_get code.instructions p.address ≡ Some (Turn counter to)
      → Stands code p
      → IsWellFormed code p.address (Turn counter to) → Onward p → Sooner p.state.budget
      → (m : ℕ) × (run : Run) × (turn_from left counter.number to (exec_code code m) p ≡ Some run)
  turn_ends zero counter to p here stands is onward_ends sooner =
      goes_ends p stands (rests_here code verified p stands (Turn counter to) here (λ tables s. refl)) (p.address + 1)
      (known_behind_rest code verified p.address (Turn counter to) here (λ tables s. refl)) (omega arith) is.0
      onward_ends
  turn_ends (suc n) counter to p here stands is onward_ends sooner =
      let rest = rests_here code verified p stands (Turn counter to) here (λ tables s. refl) in
      again_ends (record p
      { address = to; own = record p.own { counters = slice_set p.own.counters counter.number n } }) is.2.budget
      (record { fits = rest.fits; returns = rest.returns }) sooner

  leads_ends : (p : Point) → Stands code p → StandsAtRest code p → (to : ℕ) → LeadsWithin code p.address to → Onward p
      → Ends (record p { address = to })
  leads_ends p stands rest to leads onward_ends =
      goes_ends p stands rest to (known_behind_join code verified to leads.before) leads.later leads.within onward_ends

  -- on after a `join`, or back at what uses one of the budget
  way_ends : (p : Point) → Stands code p → StandsAtRest code p → (to : ℕ) → GoesWithin code p.address to → Onward p
      → Sooner p.state.budget
      → Ends (record p { address = to })
  way_ends p stands rest to (inl on) onward_ends sooner = leads_ends p stands rest to on onward_ends
  way_ends p stands rest to (inr back) onward_ends sooner =
      again_ends (record p { address = to }) back.budget (record { fits = rest.fits; returns = rest.returns }) sooner

  branch_ends : (truth : Bool) (to : ℕ) (p : Point) → slice_get code.instructions p.address ≡ Some (Branch to)
      → Stands code p
      → IsWellFormed code p.address (Branch to) → Onward p
      → Sooner p.state.budget → (m : ℕ) × (run : Run) × (branch_from truth to (exec_code code m) p ≡ Some run)
  branch_ends true to p here stands is onward_ends sooner =
      goes_ends p stands (rests_here code verified p stands (Branch to) here (λ tables s. refl)) (p.address + 1)
      (known_behind_rest code verified p.address (Branch to) here (λ tables s. refl)) (omega arith) is.0 onward_ends
  branch_ends false to p here stands is onward_ends sooner =
      way_ends p stands (rests_here code verified p stands (Branch to) here (λ tables s. refl)) to is.1 onward_ends
      sooner

  module _ (p : Point) (paragraph : ParagraphIndex)
      (here : slice_get code.instructions p.address ≡ Some (Back paragraph)) (stands : Stands code p) where
    -- after a `back` that no `perform` waits for
    passes_ends : p.address + 1 < length code.instructions → Onward p → Ends (record p { address = p.address + 1 })
    passes_ends within onward_ends =
        goes_ends p stands (rests_here code verified p stands (Back paragraph) here (λ tables s. refl)) (p.address + 1)
        (known_behind_rest code verified p.address (Back paragraph) here (λ tables s. refl)) (omega arith) within
        onward_ends

    back_if_ends : (comes : Bool) (newest : Return) (older : List Return) → ComesBack code newest
        → All (ComesBack code) older
        → length older < length p.own.returns
        → p.address + 1 < length code.instructions → Onward p → Shorter p.state.budget (length p.own.returns)
        → (m : ℕ) × (run : Run) × (back_if comes (exec_code code m) newest older p ≡ Some run)
    back_if_ends true newest older back more less within onward_ends shorter =
        let rest = rests_here code verified p stands (Back paragraph) here (λ tables s. refl) in
        shorter.by (record p { address = newest.next; own = record p.own { returns = older } }) back.within
        (omega arith) less
        (record { shape = empty; known = back.known; fits = rest.fits; returns = more })
    back_if_ends false newest older back more less within onward_ends shorter = passes_ends within onward_ends

    back_ends : (returns : List Return) → All (ComesBack code) returns → length returns ≤ length p.own.returns
        → p.address + 1 < length code.instructions → Onward p
        → Shorter p.state.budget (length p.own.returns)
        → (m : ℕ) × (run : Run) × (back_from returns paragraph.number (exec_code code m) p ≡ Some run)
    back_ends [] all le within onward_ends shorter = passes_ends within onward_ends
    back_ends (newest ∷ older) all le within onward_ends shorter =
        let comes_back = All-head (ComesBack code) newest older all in
        let more = All-tail (ComesBack code) newest older all in
        back_if_ends (newest.last == paragraph.number) newest older comes_back more (omega (arith, le)) within
        onward_ends shorter

  -- at a file statement, at rest
  filed_ends : (file : FileIndex) (verb : Verb) (p : Point)
      → slice_get code.instructions p.address ≡ Some (File file verb)
      → StandsAtRest code p → (found : Option CodeFile) (one : CodeFile) → found ≡ Some one
      → p.address + 1 < length code.instructions
      → Onward p → (m : ℕ) × (run : Run) × (filed_from code file.number verb found (exec_code code m) p ≡ Some run)
  filed_ends file verb p here rest None one there within onward_ends = absurd cc
  filed_ends file verb p here rest (Some other) one there within onward_ends =
      let step = step_on (entries_of code.tables code.files) (places_of code.tables file.number other) verb p.state in
      onward_ends.by (received_point code file.number other step p) (omega arith) within (omega arith) (omega arith)
      (record {
        shape = empty;
        known = known_behind_rest code verified p.address (File file verb) here (λ tables s. refl);
        fits = record {
          numbers = rest.fits.numbers;
          places = rest.fits.places;
          line = rest.fits.line;
          sender = rest.fits.sender;
        };
        returns = rest.returns;
      })

  tested_ends : (class : StatusClass) (p : Point) → slice_get code.instructions p.address ≡ Some (TestStatus class)
      → StandsAtRest code p
      → p.address + 1 < length code.instructions → Onward p → Ends (tested_point class p)
  tested_ends class p here rest within onward_ends =
      onward_ends.by (tested_point class p) (omega arith) within (omega arith) (omega arith) (record {
        shape = empty;
        known = known_behind_rest code verified p.address (TestStatus class) here (λ tables s. refl);
        fits = record {
          numbers = rest.fits.numbers;
          places = rest.fits.places;
          line = rest.fits.line;
          sender = rest.fits.sender;
        };
        returns = rest.returns;
      })

  act_ends : (i : Instruction) (p : Point) → slice_get code.instructions p.address ≡ Some i → Stands code p
      → IsWellFormed code p.address i → Onward p
      → Shorter p.state.budget (length p.own.returns) → Sooner p.state.budget → Acts (Some i) p
  act_ends (Tick line) p here stands is onward_ends shorter sooner =
      budget_ends (Tick line) tt p here (rests_here code verified p stands (Tick line) here (λ tables s. refl)) is
      sooner
  act_ends Show p here stands is onward_ends shorter sooner =
      let next = known_next code p.address stands.shape Show stands.known here in
      onward_ends.by (shown_point p) (omega arith) is (omega arith) (omega arith) (record {
        shape = next.0;
        known = next.2;
        fits = subst (FitsShape code.tables (after_showing (scratch_of p.state p.own)))
            (same_Some (shape_after_show stands.shape) next.0 next.1)
            (safe_showing code.tables (scratch_of p.state p.own) stands.shape stands.fits);
        returns = stands.returns;
      })
  act_ends Stop p here stands is onward_ends shorter sooner = (0, over Stopped p.state, refl)
  act_ends (Count counter turns) p here stands is onward_ends shorter sooner =
      let counters = slice_set p.own.counters counter.number turns in
      onward_ends.by (record p { address = p.address + 1; own = record p.own { counters = counters } }) (omega arith)
      is.0 (omega arith) (omega arith)
      (stands_after_count code verified p stands counter turns here counters)
  act_ends (CountNumber counter) p here stands is onward_ends shorter sooner =
      number_ends counter p here stands is.0 onward_ends p.own.numbers refl
  act_ends (Turn counter to) p here stands is onward_ends shorter sooner =
      turn_ends (slice_index p.own.counters counter.number) counter to p here stands is onward_ends sooner
  act_ends Accept p here stands is onward_ends shorter sooner =
      let next = known_next code p.address stands.shape Accept stands.known here in
      data_ends (accept_step code.tables (next_line p.state.lines) (scratch_of p.state p.own)) next.0 (without_line p)
      (safe_accept code.tables (next_line p.state.lines) (scratch_of p.state p.own) stands.shape next.0 stands.fits
      next.1) next.2 stands.returns is
      (record { by = onward_ends.by })
  act_ends Date p here stands is onward_ends shorter sooner =
      let next = known_next code p.address stands.shape Date stands.known here in
      data_ends (date_step code.tables p.state.day (scratch_of p.state p.own)) next.0 p
      (safe_date code.tables p.state.day (scratch_of p.state p.own) stands.shape next.0 stands.fits next.1) next.2
      stands.returns is onward_ends
  act_ends (Branch to) p here stands is onward_ends shorter sooner =
      branch_ends p.own.truth to p here stands is onward_ends sooner
  act_ends (Jump to) p here stands is onward_ends shorter sooner =
      way_ends p stands (rests_here code verified p stands (Jump to) here (λ tables s. refl)) to is onward_ends sooner
  act_ends Join p here stands is onward_ends shorter sooner =
      goes_ends p stands (rests_here code verified p stands Join here (λ tables s. refl)) (p.address + 1)
      (known_behind_rest code verified p.address Join here (λ tables s. refl)) (omega arith) is onward_ends
  act_ends (Perform line first last) p here stands is onward_ends shorter sooner =
      budget_ends (Perform line first last) tt p here
      (rests_here code verified p stands (Perform line first last) here (λ tables s. refl)) is sooner
  act_ends (Back paragraph) p here stands is onward_ends shorter sooner =
      back_ends p paragraph here stands p.own.returns stands.returns (omega arith) is.next onward_ends shorter
  act_ends (File file verb) p here stands is onward_ends shorter sooner =
      filed_ends file verb p here (rests_here code verified p stands (File file verb) here (λ tables s. refl))
      (slice_get code.files file.number) is.one is.there is.next onward_ends
  act_ends (TestStatus class) p here stands is onward_ends shorter sooner =
      tested_ends class p here (rests_here code verified p stands (TestStatus class) here (λ tables s. refl)) is
      onward_ends
  act_ends Unheard p here stands is onward_ends shorter sooner =
      (0, over (Faulted FileStatus p.state.line) p.state, refl)
  act_ends (Data one) p here stands is onward_ends shorter sooner =
      let next = known_next code p.address stands.shape (Data one) stands.known here in
      data_ends (work code.tables one (scratch_of p.state p.own)) next.0 p
      (safe code.tables verified.tables one (scratch_of p.state p.own) stands.shape next.0 stands.fits next.1) next.2
      stands.returns is onward_ends

  -- so many instructions are left at the most
  halts_here : (budget returns : ℕ) → Sooner budget → Shorter budget returns → (left : ℕ) (p : Point) → Stands code p
      → p.address < length code.instructions
      → length code.instructions ≤ p.address + left → p.state.budget ≤ budget → length p.own.returns ≤ returns → Ends p
  halts_here budget returns sooner shorter zero p stands within at le few = absurd (omega arith)
  halts_here budget returns sooner shorter (suc left) p stands within at le few =
      let here = slice_get-get_or code.instructions p.address Stop (omega arith) in
      let i = get_or code.instructions p.address Stop in
      acted (Some i) p here
      (act_ends i p here stands (well_formed code verified p.address i here)
      (record {
        by = λ q later within less fewer there.
            halts_here budget returns sooner shorter left q there within (omega arith) (omega arith) (omega arith);
      })
      (record { by = λ q within less fewer there. shorter.by q within (omega arith) (omega arith) there })
      (record { by = λ q within less there. sooner.by q within (omega arith) there }))

  -- so much to come back to
  halts_within : (budget : ℕ) → Sooner budget → (returns : ℕ) (p : Point) → Stands code p
      → p.address < length code.instructions
      → p.state.budget ≤ budget
      → length p.own.returns ≤ returns → Ends p
  halts_within budget sooner zero p stands within le few =
      halts_here budget zero sooner (record { by = λ q within less fewer there. absurd (omega arith) })
      (length code.instructions) p stands within (omega arith) le few
  halts_within budget sooner (suc returns) p stands within le few =
      halts_here budget (suc returns) sooner (record {
        by = λ q within less fewer there. halts_within budget sooner returns q there within less (omega arith);
      })
      (length code.instructions) p stands within (omega arith) le few

  halts : (budget : ℕ) (p : Point) → Stands code p → p.address < length code.instructions → p.state.budget ≤ budget
      → Ends p
  halts zero p stands within le =
      halts_within zero (record { by = λ q within less there. absurd (omega arith) }) (length p.own.returns) p stands
      within le (omega arith)
  halts (suc budget) p stands within le =
      halts_within (suc budget) (record { by = λ q within less there. halts budget q there within (omega arith) })
      (length p.own.returns) p stands within le (omega arith)

  pub has_run : (given : RunInput) → (run : Run) × Runs code given run
  has_run given =
      let ended = halts given.budget (first_point code given) (stands_first code verified given) (begins code verified)
      (omega arith) in
      (ended.1, (ended.0, ended.2))
