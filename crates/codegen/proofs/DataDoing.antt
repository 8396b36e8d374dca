-- What the code of statements on data does.
use Rattle.std.proofs.Common.{◌≡◌, ℕ, suc, ◌+◌, Bool, List, [], ◌∷◌, ◌++◌, length, map, Option, Some, None, Ok, Err}
use Rattle.std.proofs.Common.{refl, ap, ◌∙◌, arith, length-append}
use Rattle.std.specs.Prelude.{slice_get}
use Rattle.std.proofs.lemmas.List.{length-map}
use Rattle.items.specs.Texts.{padded_text}
use Rattle.source_tree.specs.Evaluated.{Fault, Evaluation, ◌>>=◌}
use Rattle.source_tree.specs.Arithmetic.{StoreResult}
use Rattle.source_tree.specs.Literals.{Sender}
use Rattle.source_tree.specs.References.{ItemPlace, storage_with}
use Rattle.source_tree.specs.Storage.{Storage}
use Rattle.source_tree.specs.State as state
use Rattle.source_tree.specs.State.{State, Outcome, Done, state_after_output, with_value}
use Rattle.data_instructions.specs.declared.place.Place.{Place}
use Rattle.data_instructions.specs.declared.tables.DataItem.{DataItem}
use Rattle.data_instructions.specs.declared.tables.DataTables.{DataTables}
use Rattle.data_instructions.specs.declared.instruction.DataInstruction.{DataInstruction}
use Rattle.data_instructions.specs.Scratch as step
use Rattle.data_instructions.specs.Scratch.{Scratch}
use Rattle.data_instructions.specs.Tables.{shortened_item, item_place}
use Rattle.data_instructions.specs.Table.{at_newest, accept_step}
use Rattle.data_instructions.specs.Codes.{go_on}
use Rattle.code_image.specs.declared.code.Code.{Code}
use Rattle.code_image.specs.declared.instruction.Instruction.TheVariants.{Show, Data}
use Rattle.code_image.specs.Points.{Own, scratch_of, state_with, own_with}
use Rattle.code_image.specs.Table.{over, data_from, exec_code}
use Rattle.condition_codegen.specs.Fragments.{append}
use Rattle.codegen.proofs.Running.{at, one_step, WorksFrom}
use Rattle.codegen.proofs.Doing.{end_of, keeps_all, Does, IsRoom, after}

module _ (whole : Code) where
  -- the address after a part that is code on data
  pub behind_code : (before part : Code) (code : List DataInstruction) → part.instructions ≡ map Data code
      → end_of before + length code ≡ end_of (append before part)
  behind_code before part code is =
      omega (arith, ap length is, length-append before.instructions part.instructions, length-map code Data)

  module _ (kept : ℕ → Type 0) (from to address next : ℕ) (cs : Own) (s : State) (count : ℕ)
      (behind_is : address + count ≡ next) where
    -- a MOVE from what was taken
    pub stored_does : (sender : Sender) (e : Evaluation Storage)
        → WorksFrom whole address cs s count (step.step_with e
        (λ after. step.Continues (record (scratch_of s cs) { storage = after; sender = Some sender })))
        → Does whole kept from to address cs s next (with_value e s (λ after. Done (record s { storage = after })))
    stored_does sender (Ok after) h = (
      record cs { sender = Some sender },
      record {
        by = λ k. (
          count + k,
          h k ∙ ap (λ n. exec_code whole k (at n (record cs { sender = Some sender }) (record s { storage = after })))
              behind_is,
        );
        falls = omega arith;
      },
      record { count = refl; by = λ k is outside. refl; line = λ e. e; returns = refl },
    )
    stored_does sender (Err fault) h = h

    pub moved_does : (found : Evaluation Sender) (each_one : Sender → Evaluation Storage)
        → WorksFrom whole address cs s count (step.step_with found (λ sender. step.step_with (each_one sender)
        (λ after. step.Continues (record (scratch_of s cs) { storage = after; sender = Some sender }))))
        → Does whole kept from to address cs s next
        (with_value (found >>= each_one) s (λ after. Done (record s { storage = after })))
    moved_does (Ok sender) each_one h = stored_does sender (each_one sender) h
    moved_does (Err fault) each_one h = h

    -- what a DISPLAY makes up is shown
    pub shown_does : (e : Evaluation (List ℕ)) → IsRoom whole cs → slice_get whole.instructions next ≡ Some Show
        → WorksFrom whole address cs s count
        (step.step_with e (λ bytes. step.Continues (record (scratch_of s cs) { line = cs.line ++ bytes })))
        → Does whole kept from to address cs s (next + 1) (with_value e s (λ bytes. Done (state_after_output bytes s)))
    shown_does (Ok bytes) room here h =
        let ds = record cs { line = cs.line ++ bytes } in (
          record cs { line = [] },
          record {
            by = λ k. (
              count + suc k,
              h (suc k) ∙ ap (λ n. exec_code whole (suc k) (at n ds s)) behind_is ∙ one_step whole next ds s Show here k
                  ∙ ap (λ l. exec_code whole k
                  (at (next + 1) (record cs { line = [] }) (state_after_output (l ++ bytes) s))) room.line,
            );
            falls = omega arith;
          },
          record { count = refl; by = λ k is outside. refl; line = λ e. refl; returns = refl },
        )
    shown_does (Err fault) room here h = h

    -- an arithmetic statement, and what goes on from there by whether a size error arose
    pub calculated_does : (last : ℕ) (e : Evaluation StoreResult) (go : Bool → State → Outcome)
        → WorksFrom whole address cs s count (step.step_with e
        (λ after. step.Continues (record (scratch_of s cs) { storage = after.storage; truth = after.size_error })))
        → ((after : StoreResult) → Does whole kept from to next (record cs { truth = after.size_error })
        (record s { storage = after.storage }) last (go after.size_error (record s { storage = after.storage })))
        → Does whole kept from to address cs s last
        (with_value e s (λ after. go after.size_error (record s { storage = after.storage })))
    calculated_does last (Ok stored) go h goes_on =
        let ds = record cs { truth = stored.size_error } in
        let t : State = record s { storage = stored.storage } in
        after whole kept from to address next last cs ds s t (go stored.size_error t)
        (record { count = refl; by = λ k is outside. refl; line = λ e. e; returns = refl })
        (record { by = λ k. (count + k, h k ∙ ap (λ n. exec_code whole k (at n ds t)) behind_is); falls = omega arith })
        (goes_on stored)
    calculated_does last (Err fault) go h goes_on = h

    -- The code of a place, and an instruction after it that takes the place and leaves these console lines. Only where
    -- it leaves them all may it find a fault.
    pub taken_does : (lines : List (List ℕ)) (taking : Scratch → step.Step) (made : step.Step) (e : Evaluation Storage)
        → WorksFrom whole address cs s count made
        → go_on made taking ≡ step.step_with e (λ after. step.Continues (record (scratch_of s cs) { storage = after }))
        → ((t : Scratch) (k : ℕ) → exec_code whole (suc k) (at next (own_with t cs) (state_with t s)) ≡ data_from
        (taking t) (exec_code whole k) (at next (own_with t cs) (record (state_with t s) { lines = lines })))
        → ((t : Scratch) (fault : Fault) → taking t ≡ step.Faulted fault → lines ≡ s.lines)
        → Does whole kept from to address cs s (next + 1)
        (with_value e s (λ after. Done (record s { storage = after; lines = lines })))
    taken_does lines taking (step.Continues t) (Ok after) h is one_more none = (
      cs,
      record {
        by = λ k. (
          count + suc k,
          h (suc k) ∙ ap (λ n. exec_code whole (suc k) (at n (own_with t cs) (state_with t s))) behind_is ∙ one_more t k
              ∙ ap (λ made. data_from made (exec_code whole k)
              (at next (own_with t cs) (record (state_with t s) { lines = lines }))) is,
        );
        falls = omega arith;
      },
      keeps_all kept from to cs,
    )
    taken_does lines taking (step.Continues t) (Err fault) h is one_more none = (
      count + 1,
      h 1 ∙ ap (λ n. exec_code whole 1 (at n (own_with t cs) (state_with t s))) behind_is ∙ one_more t 0
          ∙ ap (λ made.
          data_from made (exec_code whole 0) (at next (own_with t cs) (record (state_with t s) { lines = lines }))) is
          ∙ ap (λ (left : List (List ℕ)). Some (over (state.Faulted fault s.line) (record s { lines = left })))
          (none t fault is),
    )
    taken_does lines taking (step.Faulted found) (Ok after) h is one_more none = absurd cc
    taken_does lines taking (step.Faulted found) (Err fault) h is one_more none =
        let same : found ≡ fault = cc in (h.0, h.1 ∙ ap (λ (f : Fault). Some (over (state.Faulted f s.line) s)) same)
    taken_does lines taking step.Stuck (Ok after) h is one_more none = absurd cc
    taken_does lines taking step.Stuck (Err fault) h is one_more none = absurd cc

-- An ACCEPT of a console line finds no fault once its place is found.
no_fault : (entry : Option DataItem) (go : DataItem → Scratch) (fault : Fault)
    → step.step_at entry (λ one. step.Continues (go one)) ≡ step.Faulted fault → ⊥
no_fault None go fault e = cc
no_fault (Some one) go fault e = cc

abbrev taking_line : List ℕ → ItemPlace → Scratch → step.Step
taking_line line place t =
    step.Continues (record t { storage = storage_with place (padded_text place.item.length line) t.storage })

no_fault_at : (tables : DataTables) (line : List ℕ) (s : Scratch) (fault : Fault) (places : List Place)
    → at_newest tables places (taking_line line) s ≡ step.Faulted fault → ⊥
no_fault_at tables line s fault [] e = cc
no_fault_at tables line s fault (p ∷ ps) e =
    no_fault (slice_get tables.items p.item.number)
    (λ one. record s {
      places = ps;
      storage = storage_with (item_place (shortened_item one p.length) p.offset) (padded_text p.length line) s.storage;
    }) fault e

pub accepted_faultless : (tables : DataTables) (line : List ℕ) (s : Scratch) (fault : Fault)
    → accept_step tables line s ≡ step.Faulted fault → ⊥
accepted_faultless tables line s fault is = no_fault_at tables line s fault s.places is
