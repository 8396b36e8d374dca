-- What the code of INITIALIZE, SET, STRING and INSPECT does.
use Rattle.std.proofs.Common.{◌≡◌, ℕ, ◌+◌, Bool, Ok, Err, refl, ap, ◌∙◌, arith}
use Rattle.source_tree.specs.Evaluated.{Evaluation}
use Rattle.source_tree.specs.Storage.{Storage}
use Rattle.source_tree.specs.Stringing.{Strings}
use Rattle.source_tree.specs.State.{State, Outcome, Done, with_value}
use Rattle.data_instructions.specs.Scratch as step
use Rattle.code_image.specs.declared.code.Code.{Code}
use Rattle.code_image.specs.Points.{Own, scratch_of}
use Rattle.code_image.specs.Table.{exec_code}
use Rattle.codegen.proofs.Running.{at, WorksFrom}
use Rattle.codegen.proofs.Doing.{Does, after}

module _ (whole : Code) (kept : ℕ → Type 0) (from to address next : ℕ) (cs : Own) (s : State) (count : ℕ)
    (behind_is : address + count ≡ next) where
  -- what puts bytes into items, and leaves all else
  pub changed_does : (e : Evaluation Storage)
      → WorksFrom whole address cs s count
      (step.step_with e (λ after. step.Continues (record (scratch_of s cs) { storage = after })))
      → Does whole kept from to address cs s next (with_value e s (λ after. Done (record s { storage = after })))
  changed_does (Ok stored) h = (
    cs,
    record {
      by = λ k. (count + k, h k ∙ ap (λ n. exec_code whole k (at n cs (record s { storage = stored }))) behind_is);
      falls = omega arith;
    },
    record { count = refl; by = λ k is outside. refl; line = λ e. e; returns = refl },
  )
  changed_does (Err fault) h = h

  -- STRING, and what goes on from there by whether there was an overflow
  pub strung_does : (last : ℕ) (e : Evaluation Strings) (go : Bool → State → Outcome)
      → WorksFrom whole address cs s count (step.step_with e
      (λ after. step.Continues (record (scratch_of s cs) { storage = after.storage; truth = after.overflow })))
      → ((after : Strings) → Does whole kept from to next (record cs { truth = after.overflow })
      (record s { storage = after.storage }) last (go after.overflow (record s { storage = after.storage })))
      → Does whole kept from to address cs s last
      (with_value e s (λ after. go after.overflow (record s { storage = after.storage })))
  strung_does last (Ok made) go h goes_on =
      let ds = record cs { truth = made.overflow } in
      let t : State = record s { storage = made.storage } in
      after whole kept from to address next last cs ds s t (go made.overflow t)
      (record { count = refl; by = λ k is outside. refl; line = λ e. e; returns = refl })
      (record { by = λ k. (count + k, h k ∙ ap (λ n. exec_code whole k (at n ds t)) behind_is); falls = omega arith })
      (goes_on made)
  strung_does last (Err fault) go h goes_on = h
