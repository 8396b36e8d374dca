-- Code without files tells no status.
use Rattle.std.proofs.Common.{◌≡◌, ℕ, zero, suc, ◌+◌, Bool, true, false, List, [], ◌∷◌, ◌++◌, Option, Some, None, Ok}
use Rattle.std.proofs.Common.{Err, refl, sym, ap, ◌∙◌, arith}
use Rattle.std.specs.Prelude.{◌==◌, map, slice_get, slice_index, slice_set}
use Rattle.station.specs.State.{Event, Shown}
use Rattle.decimal18.specs.Fraction.{Fraction}
use Rattle.source_tree.specs.State.{State, End, state_after_output}
use Rattle.source_tree.specs.Evaluated.{Evaluation, ◌>>=◌, evaluation_of}
use Rattle.source_tree.specs.Performing.{turns_by}
use Rattle.source_tree.specs.Given.{RunInput}
use Rattle.source_tree.specs.Meaning.{Run}
use Rattle.source_tree.specs.Accepting.{next_line}
use Rattle.source_tree.specs.Told.{note_count}
use Rattle.source_tree.proofs.Telling.{notes_append}
use Rattle.records.specs.declared.verb.Verb.{Verb}
use Rattle.file_image.specs.declared.file.CodeFile.{CodeFile}
use Rattle.code_image.specs.declared.code.Code.{Code}
use Rattle.code_image.specs.declared.instruction.Instruction.{Instruction}
use Rattle.code_image.specs.declared.instruction.Instruction.TheVariants.{Tick, Show, Stop, Count, CountNumber, Turn}
use Rattle.code_image.specs.declared.instruction.Instruction.TheVariants.{Accept, Date, Branch, Jump, Join, Perform}
use Rattle.code_image.specs.declared.instruction.Instruction.TheVariants.{Back, File, TestStatus, Unheard, Data}
use Rattle.data_instructions.specs.Scratch.{Step, Continues, Faulted, Stuck}
use Rattle.data_instructions.specs.Table.{work, accept_step, date_step}
use Rattle.code_image.specs.Points.{Return, Point, scratch_of, first_point}
use Rattle.code_image.specs.Table.{Next, over, onward, tick_from, shown_point, worked_point, data_from, counted_turns}
use Rattle.code_image.specs.Table.{counted_by, counted_from, turn_from, branch_from, own_with_return, perform_at}
use Rattle.code_image.specs.Table.{back_if, back_from, without_line, filed_from, tested_point, act, exec_code, Runs}

-- where f is over, no status was told since
abbrev Quiet : Next → Type 0
Quiet f = (p : Point) (run : Run) → f p ≡ Some run → note_count run.events ≡ note_count p.state.events

some_is : (run other : Run) → Some run ≡ Some other → run ≡ other
some_is run other e = cc

over_quiet : (end : End) (s : State) (run : Run) → Some (over end s) ≡ Some run
    → note_count run.events ≡ note_count s.events
over_quiet end s run e = ap (λ (r : Run). note_count r.events) (sym (some_is (over end s) run e))

shown_none : (bytes : List ℕ) → note_count (map Shown bytes) ≡ 0
shown_none [] = refl
shown_none (byte ∷ bytes) = shown_none bytes

no_more : (all old shown : ℕ) → all ≡ old + shown → shown ≡ 0 → all ≡ old
no_more all old shown sum none = omega arith

shown_quiet : (bytes : List ℕ) (s : State) → note_count (state_after_output bytes s).events ≡ note_count s.events
shown_quiet bytes s =
    no_more (note_count (state_after_output bytes s).events) (note_count s.events) (note_count (map Shown bytes))
    (notes_append s.events (map Shown bytes)) (shown_none bytes)

no_file : (files : List CodeFile) (number : ℕ) → files ≡ [] → slice_get files number ≡ None
no_file [] zero is = refl
no_file [] (suc number) is = refl
no_file (one ∷ more) number is = cc

module _ (f : Next) (h : Quiet f) where
  tick_quiet : (left line : ℕ) (p : Point) (run : Run) → tick_from left line (onward f p) p.state ≡ Some run
      → note_count run.events ≡ note_count p.state.events
  tick_quiet zero line p run e = over_quiet _ p.state run e
  tick_quiet (suc n) line p run e =
      h (record p { address = p.address + 1; state = record p.state { budget = n; line = line } }) run e

  data_quiet : (step : Step) (p : Point) (run : Run) → data_from step f p ≡ Some run
      → note_count run.events ≡ note_count p.state.events
  data_quiet (Continues s) p run e = h (worked_point s p) run e
  data_quiet (Faulted fault) p run e = over_quiet _ p.state run e
  data_quiet Stuck p run e = absurd cc

  turns_quiet : (turns : ℕ) (older : List (Option Fraction)) (counter : ℕ) (p : Point) (run : Run)
      → counted_turns turns older counter f p ≡ Some run
      → note_count run.events ≡ note_count p.state.events
  turns_quiet zero older counter p run e =
      h (record p { address = p.address + 1; own = record p.own { numbers = older; truth = false } }) run e
  turns_quiet (suc more) older counter p run e =
      h (record p {
        address = p.address + 1;
        own = record p.own { counters = slice_set p.own.counters counter more; numbers = older; truth = true };
      }) run e

  by_quiet : (turns : Evaluation ℕ) (older : List (Option Fraction)) (counter : ℕ) (p : Point) (run : Run)
      → counted_by turns older counter f p ≡ Some run
      → note_count run.events ≡ note_count p.state.events
  by_quiet (Ok turns) older counter p run e = turns_quiet turns older counter p run e
  by_quiet (Err fault) older counter p run e = over_quiet _ p.state run e

  counted_quiet : (numbers : List (Option Fraction)) (counter : ℕ) (p : Point) (run : Run)
      → counted_from numbers counter f p ≡ Some run
      → note_count run.events ≡ note_count p.state.events
  counted_quiet [] counter p run e = absurd cc
  counted_quiet (newest ∷ older) counter p run e = by_quiet (evaluation_of newest >>= turns_by) older counter p run e

  turn_quiet : (left counter to : ℕ) (p : Point) (run : Run) → turn_from left counter to f p ≡ Some run
      → note_count run.events ≡ note_count p.state.events
  turn_quiet zero counter to p run e = h (record p { address = p.address + 1 }) run e
  turn_quiet (suc n) counter to p run e =
      h (record p { address = to; own = record p.own { counters = slice_set p.own.counters counter n } }) run e

  branch_quiet : (truth : Bool) (to : ℕ) (p : Point) (run : Run) → branch_from truth to f p ≡ Some run
      → note_count run.events ≡ note_count p.state.events
  branch_quiet true to p run e = h (record p { address = p.address + 1 }) run e
  branch_quiet false to p run e = h (record p { address = to }) run e

  perform_quiet : (left line start last : ℕ) (p : Point) (run : Run)
      → tick_from left line (perform_at f start last p) p.state ≡ Some run
      → note_count run.events ≡ note_count p.state.events
  perform_quiet zero line start last p run e = over_quiet _ p.state run e
  perform_quiet (suc n) line start last p run e =
      h (record { address = start; state = record p.state { budget = n; line = line }; own = own_with_return last p })
      run e

  back_if_quiet : (comes : Bool) (newest : Return) (older : List Return) (p : Point) (run : Run)
      → back_if comes f newest older p ≡ Some run
      → note_count run.events ≡ note_count p.state.events
  back_if_quiet true newest older p run e =
      h (record p { address = newest.next; own = record p.own { returns = older } }) run e
  back_if_quiet false newest older p run e = h (record p { address = p.address + 1 }) run e

  back_quiet : (returns : List Return) (paragraph : ℕ) (p : Point) (run : Run)
      → back_from returns paragraph f p ≡ Some run
      → note_count run.events ≡ note_count p.state.events
  back_quiet [] paragraph p run e = h (record p { address = p.address + 1 }) run e
  back_quiet (newest ∷ older) paragraph p run e = back_if_quiet (newest.last == paragraph) newest older p run e

  filed_quiet : (code : Code) (number : ℕ) (verb : Verb) (file : Option CodeFile) (p : Point) (run : Run) → file ≡ None
      → filed_from code number verb file f p ≡ Some run → note_count run.events ≡ note_count p.state.events
  filed_quiet code number verb None p run is e = absurd cc
  filed_quiet code number verb (Some one) p run is e = absurd cc

  act_quiet : (code : Code) (i : Option Instruction) (p : Point) (run : Run) → code.files ≡ []
      → act code i f p ≡ Some run
      → note_count run.events ≡ note_count p.state.events
  act_quiet code None p run none e = absurd cc
  act_quiet code (Some (Tick line)) p run none e = tick_quiet p.state.budget line p run e
  act_quiet code (Some Show) p run none e = h (shown_point p) run e ∙ shown_quiet p.own.line p.state
  act_quiet code (Some (Data one)) p run none e = data_quiet (work code.tables one (scratch_of p.state p.own)) p run e
  act_quiet code (Some Stop) p run none e = over_quiet _ p.state run e
  act_quiet code (Some (Count counter turns)) p run none e =
      h (record p
      { address = p.address + 1; own = record p.own { counters = slice_set p.own.counters counter.number turns } }) run
      e
  act_quiet code (Some (CountNumber counter)) p run none e = counted_quiet p.own.numbers counter.number p run e
  act_quiet code (Some (Turn counter to)) p run none e =
      turn_quiet (slice_index p.own.counters counter.number) counter.number to p run e
  act_quiet code (Some Accept) p run none e =
      data_quiet (accept_step code.tables (next_line p.state.lines) (scratch_of p.state p.own)) (without_line p) run e
  act_quiet code (Some Date) p run none e =
      data_quiet (date_step code.tables p.state.day (scratch_of p.state p.own)) p run e
  act_quiet code (Some (Branch to)) p run none e = branch_quiet p.own.truth to p run e
  act_quiet code (Some (Jump to)) p run none e = h (record p { address = to }) run e
  act_quiet code (Some Join) p run none e = h (record p { address = p.address + 1 }) run e
  act_quiet code (Some (Perform line first last)) p run none e =
      perform_quiet p.state.budget line (slice_index code.starts first.number) last.number p run e
  act_quiet code (Some (File file verb)) p run none e =
      filed_quiet code file.number verb (slice_get code.files file.number) p run (no_file code.files file.number none) e
  act_quiet code (Some (TestStatus class)) p run none e = h (tested_point class p) run e
  act_quiet code (Some Unheard) p run none e = over_quiet _ p.state run e
  act_quiet code (Some (Back paragraph)) p run none e = back_quiet p.own.returns paragraph.number p run e

exec_quiet : (code : Code) (m : ℕ) → code.files ≡ [] → Quiet (exec_code code m)
exec_quiet code zero none p run e = absurd cc
exec_quiet code (suc m) none p run e =
    act_quiet (exec_code code m) (exec_quiet code m none) code (slice_get code.instructions p.address) p run none e

pub no_notes : (code : Code) (given : RunInput) (run : Run) → code.files ≡ [] → Runs code given run
    → note_count run.events ≡ 0
no_notes code given run none runs = exec_quiet code runs.0 none (first_point code given) run runs.1
