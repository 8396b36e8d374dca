-- A run ends in one way, and what was told stays told.
use Rattle.std.proofs.Common.{◌≡◌, ℕ, zero, suc, ◌+◌, ◌≤◌, Bool, true, false, List, [], ◌∷◌, Option, Some, None, Ok}
use Rattle.std.proofs.Common.{Err, sym, ◌∙◌, ⊎_elim, arith}
use Rattle.std.specs.Prelude.{◌==◌, slice_get, slice_index, slice_set}
use Rattle.std.proofs.lemmas.Bool.{cases_lt}
use Rattle.decimal18.specs.Fraction.{Fraction}
use Rattle.source_tree.specs.State.{State}
use Rattle.source_tree.specs.Evaluated.{Evaluation, ◌>>=◌, evaluation_of}
use Rattle.source_tree.specs.Performing.{turns_by}
use Rattle.source_tree.specs.Given.{RunInput}
use Rattle.source_tree.specs.Meaning.{Run}
use Rattle.source_tree.specs.Accepting.{next_line}
use Rattle.records.specs.declared.verb.Verb.{Verb}
use Rattle.source_tree.specs.FileStatements.{step_on}
use Rattle.file_image.specs.declared.file.CodeFile.{CodeFile}
use Rattle.file_image.specs.Files.{places_of, entries_of}
use Rattle.code_image.specs.declared.code.Code.{Code}
use Rattle.code_image.specs.declared.instruction.Instruction.{Instruction}
use Rattle.code_image.specs.declared.instruction.Instruction.TheVariants.{Tick, Show, Stop, Count, CountNumber, Turn}
use Rattle.code_image.specs.declared.instruction.Instruction.TheVariants.{Accept, Date, Branch, Jump, Join, Perform}
use Rattle.code_image.specs.declared.instruction.Instruction.TheVariants.{Back, File, TestStatus, Unheard, Data}
use Rattle.data_instructions.specs.Scratch.{Step, Continues, Faulted, Stuck}
use Rattle.data_instructions.specs.Table.{work, accept_step, date_step}
use Rattle.code_image.specs.Points.{Return, Point, scratch_of, first_point}
use Rattle.code_image.specs.Table.{Next, onward, tick_from, shown_point, worked_point, data_from, counted_turns}
use Rattle.code_image.specs.Table.{counted_by, counted_from, turn_from, branch_from, own_with_return, perform_at}
use Rattle.code_image.specs.Table.{back_if, back_from, without_line, received_point, filed_from, tested_point, act}
use Rattle.code_image.specs.Table.{exec_code, Runs}

-- where f is over, g is over with the same run
abbrev Extends : Next → Next → Type 0
Extends f g = (p : Point) (run : Run) → f p ≡ Some run → g p ≡ Some run

module _ (f g : Next) (h : Extends f g) where
  tick_extends : (left line : ℕ) (p : Point) (s : State) (run : Run) → tick_from left line (onward f p) s ≡ Some run
      → tick_from left line (onward g p) s ≡ Some run
  tick_extends zero line p s run e = e
  tick_extends (suc n) line p s run e =
      h (record p { address = p.address + 1; state = record s { budget = n; line = line } }) run e

  data_extends : (step : Step) (p : Point) (run : Run) → data_from step f p ≡ Some run → data_from step g p ≡ Some run
  data_extends (Continues s) p run e = h (worked_point s p) run e
  data_extends (Faulted fault) p run e = e
  data_extends Stuck p run e = absurd cc

  counted_turns_extends : (turns : ℕ) (older : List (Option Fraction)) (counter : ℕ) (p : Point) (run : Run)
      → counted_turns turns older counter f p ≡ Some run
      → counted_turns turns older counter g p ≡ Some run
  counted_turns_extends zero older counter p run e =
      h (record p { address = p.address + 1; own = record p.own { numbers = older; truth = false } }) run e
  counted_turns_extends (suc more) older counter p run e =
      h (record p {
        address = p.address + 1;
        own = record p.own { counters = slice_set p.own.counters counter more; numbers = older; truth = true };
      }) run e

  counted_by_extends : (turns : Evaluation ℕ) (older : List (Option Fraction)) (counter : ℕ) (p : Point) (run : Run)
      → counted_by turns older counter f p ≡ Some run
      → counted_by turns older counter g p ≡ Some run
  counted_by_extends (Ok turns) older counter p run e = counted_turns_extends turns older counter p run e
  counted_by_extends (Err fault) older counter p run e = e

  counted_extends : (numbers : List (Option Fraction)) (counter : ℕ) (p : Point) (run : Run)
      → counted_from numbers counter f p ≡ Some run
      → counted_from numbers counter g p ≡ Some run
  counted_extends [] counter p run e = absurd cc
  counted_extends (newest ∷ older) counter p run e =
      counted_by_extends (evaluation_of newest >>= turns_by) older counter p run e

  turn_extends : (left counter to : ℕ) (p : Point) (run : Run) → turn_from left counter to f p ≡ Some run
      → turn_from left counter to g p ≡ Some run
  turn_extends zero counter to p run e = h (record p { address = p.address + 1 }) run e
  turn_extends (suc n) counter to p run e =
      h (record p { address = to; own = record p.own { counters = slice_set p.own.counters counter n } }) run e

  branch_extends : (truth : Bool) (to : ℕ) (p : Point) (run : Run) → branch_from truth to f p ≡ Some run
      → branch_from truth to g p ≡ Some run
  branch_extends true to p run e = h (record p { address = p.address + 1 }) run e
  branch_extends false to p run e = h (record p { address = to }) run e

  perform_extends : (left line start last : ℕ) (p : Point) (s : State) (run : Run)
      → tick_from left line (perform_at f start last p) s ≡ Some run
      → tick_from left line (perform_at g start last p) s ≡ Some run
  perform_extends zero line start last p s run e = e
  perform_extends (suc n) line start last p s run e =
      h (record { address = start; state = record s { budget = n; line = line }; own = own_with_return last p }) run e

  back_if_extends : (comes : Bool) (newest : Return) (older : List Return) (p : Point) (run : Run)
      → back_if comes f newest older p ≡ Some run
      → back_if comes g newest older p ≡ Some run
  back_if_extends true newest older p run e =
      h (record p { address = newest.next; own = record p.own { returns = older } }) run e
  back_if_extends false newest older p run e = h (record p { address = p.address + 1 }) run e

  back_extends : (returns : List Return) (paragraph : ℕ) (p : Point) (run : Run)
      → back_from returns paragraph f p ≡ Some run
      → back_from returns paragraph g p ≡ Some run
  back_extends [] paragraph p run e = h (record p { address = p.address + 1 }) run e
  back_extends (newest ∷ older) paragraph p run e = back_if_extends (newest.last == paragraph) newest older p run e

  filed_extends : (code : Code) (number : ℕ) (verb : Verb) (file : Option CodeFile) (p : Point) (run : Run)
      → filed_from code number verb file f p ≡ Some run → filed_from code number verb file g p ≡ Some run
  filed_extends code number verb None p run e = absurd cc
  filed_extends code number verb (Some one) p run e =
      h (received_point code number one
      (step_on (entries_of code.tables code.files) (places_of code.tables number one) verb p.state) p) run e

  act_extends : (code : Code) (i : Option Instruction) (p : Point) (run : Run) → act code i f p ≡ Some run
      → act code i g p ≡ Some run
  act_extends code None p run e = e
  act_extends code (Some (Tick line)) p run e = tick_extends p.state.budget line p p.state run e
  act_extends code (Some Show) p run e = h (shown_point p) run e
  act_extends code (Some (Data one)) p run e = data_extends (work code.tables one (scratch_of p.state p.own)) p run e
  act_extends code (Some Stop) p run e = e
  act_extends code (Some (Count counter turns)) p run e =
      h (record p
      { address = p.address + 1; own = record p.own { counters = slice_set p.own.counters counter.number turns } }) run
      e
  act_extends code (Some (CountNumber counter)) p run e = counted_extends p.own.numbers counter.number p run e
  act_extends code (Some (Turn counter to)) p run e =
      turn_extends (slice_index p.own.counters counter.number) counter.number to p run e
  act_extends code (Some Accept) p run e =
      data_extends (accept_step code.tables (next_line p.state.lines) (scratch_of p.state p.own)) (without_line p) run e
  act_extends code (Some Date) p run e =
      data_extends (date_step code.tables p.state.day (scratch_of p.state p.own)) p run e
  act_extends code (Some (Branch to)) p run e = branch_extends p.own.truth to p run e
  act_extends code (Some (Jump to)) p run e = h (record p { address = to }) run e
  act_extends code (Some Join) p run e = h (record p { address = p.address + 1 }) run e
  act_extends code (Some (Perform line first last)) p run e =
      perform_extends p.state.budget line (slice_index code.starts first.number) last.number p p.state run e
  act_extends code (Some (File file verb)) p run e =
      filed_extends code file.number verb (slice_get code.files file.number) p run e
  act_extends code (Some (TestStatus class)) p run e = h (tested_point class p) run e
  act_extends code (Some Unheard) p run e = e
  act_extends code (Some (Back paragraph)) p run e = back_extends p.own.returns paragraph.number p run e

longer : (code : Code) (m n : ℕ) → m ≤ n → Extends (exec_code code m) (exec_code code n)
longer code zero n le p run e = cc
longer code (suc m) zero le p run e = absurd (omega arith)
longer code (suc m) (suc n) le p run e =
    act_extends (exec_code code m) (exec_code code n) (longer code m n (omega arith)) code
    (slice_get code.instructions p.address) p run e

some_same : (run other : Run) → Some run ≡ Some other → run ≡ other
some_same run other e = cc

-- from any point
pub same_end : (code : Code) (m n : ℕ) (p : Point) (run other : Run) → exec_code code m p ≡ Some run
    → exec_code code n p ≡ Some other → run ≡ other
same_end code m n p run other r q =
    ⊎_elim
    (λ lt. some_same run other (sym (longer code m n (omega arith) p run r) ∙ q))
    (λ le. some_same run other (sym r ∙ longer code n m le p other q))
    (cases_lt m n)

pub one_run : (code : Code) (given : RunInput) (run other : Run) → Runs code given run → Runs code given other
    → run ≡ other
one_run code given run other r q = same_end code r.0 q.0 (first_point code given) run other r.1 q.1
