-- What the machine does at a file statement, and where its status is tested.
use Rattle.std.proofs.Common.{◌≡◌, ℕ, suc, ◌+◌, List, [], ◌∷◌, Option, Some, None, refl, ap, ◌∙◌, arith, length-append}
use Rattle.std.specs.Prelude.{slice_get}
use Rattle.records.specs.declared.status.Status.{Status}
use Rattle.records.specs.declared.verb.Verb.{Verb}
use Rattle.records.specs.Connector.{Entry}
use Rattle.source_tree.specs.Filing.{unheard_outcome}
use Rattle.source_tree.specs.FileStatements.{state_after_status, step_on, file_statement}
use Rattle.source_tree.specs.ProgramFiles.{FilePlaces, ProgramFile, entries_of}
use Rattle.source_tree.specs.References.{ItemPlace}
use Rattle.source_tree.specs.Setting.{Scope}
use Rattle.source_tree.specs.State.{State, Outcome}
use Rattle.file_image.specs.declared.class.StatusClass.{StatusClass}
use Rattle.file_image.specs.Classes.{has_class}
use Rattle.file_image.specs.Files.{places_of}
use Rattle.code_image.specs.declared.code.Code.{Code}
use Rattle.code_image.specs.declared.instruction.Instruction.TheVariants.{File, TestStatus, Unheard}
use Rattle.code_image.specs.Points.{Own}
use Rattle.code_image.specs.Table.{received_point, filed_from, exec_code}
use Rattle.condition_codegen.specs.Fragments.{append}
use Rattle.statement_codegen.specs.FileCode.{file_fragment, test_fragment, unheard_fragment}
use Rattle.codegen.proofs.Standing.{Stands, first_stands}
use Rattle.codegen.proofs.Running.{at, one_step}
use Rattle.codegen.proofs.Doing.{end_of, PartDoes, steps_to, after, moved_from, behind, nothing_does}
use Rattle.codegen.proofs.HasFiles.{IsFiled, HasFiles}

-- after a file statement, and after its status was tested
abbrev pub ended : Status → Own → Own
ended status cs = record cs { status = status }

abbrev pub tested : StatusClass → Own → Own
tested class cs = record cs { truth = has_class class cs.status }

module _ (whole : Code) (kept : ℕ → Type 0) where
  pub test_then : (class : StatusClass) (before b : Code) (cs : Own) (s : State) (o : Outcome)
      → Stands whole before (append (test_fragment class before) b)
      → PartDoes whole kept (append before (test_fragment class before)) b (tested class cs) s o
      → PartDoes whole kept before (append (test_fragment class before) b) cs s o
  test_then class before b cs s o st d =
      let a = test_fragment class before in
      let ds = tested class cs in
      let from = end_of before in
      let to = end_of (append before (append a b)) in
      let same : end_of (append before a) ≡ from + 1 = length-append before.instructions (TestStatus class ∷ []) in
      let here = first_stands whole before (append a b) (TestStatus class) b.instructions refl st in
      after whole kept from to from (from + 1) to cs ds s s o
      (record { count = refl; by = λ k is outside. refl; line = λ e. e; returns = refl })
      (steps_to whole from (from + 1) cs ds s s (omega arith) (λ k. one_step whole from cs s (TestStatus class) here k))
      (moved_from whole kept from to (from + 1) (end_of (append before a)) to ds s o same
      (behind whole kept before a b ds s o d))

  pub unheard_does : (status : Option ItemPlace) (before : Code) (cs : Own) (s : State)
      → Stands whole before (unheard_fragment status before)
      → PartDoes whole kept before (unheard_fragment status before) cs s (unheard_outcome status s)
  unheard_does (Some item) before cs s st = nothing_does whole kept before cs s
  unheard_does None before cs s st = (
    1,
    one_step whole (end_of before) cs s Unheard
        (first_stands whole before (unheard_fragment None before) Unheard [] refl st) 0,
  )

  module _ (scope : Scope) (has : HasFiles whole scope) where
    -- the step of a file statement
    file_step : (verb : Verb) (file : ProgramFile) → IsFiled whole scope.items file
        → (address : ℕ) (cs : Own) (s : State)
        → slice_get whole.instructions address ≡ Some (File (record { number = file.places.number }) verb) → (k : ℕ)
        → (let step = step_on (entries_of scope.files) file.places verb s in
        exec_code whole (suc k) (at address cs s)
        ≡ exec_code whole k (at (address + 1) (ended step.status cs) (state_after_status file.places step s)))
    file_step verb file is address cs s here k =
        let p = at address cs s in
        let n = file.places.number in
        let step_with = λ (entries : List Entry) (places : FilePlaces). step_on entries places verb s in
        one_step whole address cs s (File (record { number = n }) verb) here k
        ∙ ap (λ o. filed_from whole n verb o (exec_code whole k) p) is.here
        ∙ ap (λ (entries : List Entry). exec_code whole k
        (received_point whole n is.code (step_with entries (places_of whole.tables n is.code)) p)) has.entries
        ∙ ap (λ (places : FilePlaces).
        exec_code whole k
        (at (address + 1) (ended (step_with (entries_of scope.files) places).status cs)
        (state_after_status places (step_with (entries_of scope.files) places) s)))
        is.places

    pub file_then : (verb : Verb) (file : ProgramFile) → IsFiled whole scope.items file
        → (before b : Code) (cs : Own) (s : State)
        (go : Status → State → Outcome) → Stands whole before (append (file_fragment verb file before) b)
        → ((status : Status) (t : State) → t.budget ≡ s.budget
        → PartDoes whole kept (append before (file_fragment verb file before)) b (ended status cs) t (go status t))
        → PartDoes whole kept before (append (file_fragment verb file before) b) cs s
        (file_statement (entries_of scope.files) file.places verb go s)
    file_then verb file is before b cs s go st h =
        let a = file_fragment verb file before in
        let instruction = File (record { number = file.places.number }) verb in
        let step = step_on (entries_of scope.files) file.places verb s in
        let t = state_after_status file.places step s in
        let ds = ended step.status cs in
        let from = end_of before in
        let to = end_of (append before (append a b)) in
        let same : end_of (append before a) ≡ from + 1 = length-append before.instructions (instruction ∷ []) in
        let here = first_stands whole before (append a b) instruction b.instructions refl st in
        after whole kept from to from (from + 1) to cs ds s t (go step.status t)
        (record { count = refl; by = λ k is outside. refl; line = λ e. e; returns = refl })
        (steps_to whole from (from + 1) cs ds s t (omega arith) (file_step verb file is from cs s here))
        (moved_from whole kept from to (from + 1) (end_of (append before a)) to ds t (go step.status t) same
        (behind whole kept before a b ds t (go step.status t) (h step.status t refl)))
