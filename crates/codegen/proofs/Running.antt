-- The machine along instructions on data.
use Rattle.std.proofs.Common.{◌≡◌, ℕ, suc, ◌+◌, List, [], ◌∷◌, length, Some, refl, ap, ◌∙◌, arith}
use Rattle.std.specs.Prelude.{slice_get}
use Rattle.source_tree.specs.State as state
use Rattle.source_tree.specs.State.{State}
use Rattle.data_instructions.specs.declared.instruction.DataInstruction.{DataInstruction}
use Rattle.data_instructions.specs.Scratch as step
use Rattle.data_instructions.specs.Scratch.{Scratch, Step}
use Rattle.data_instructions.specs.Table.{work}
use Rattle.data_instructions.specs.Codes.{go_on, works}
use Rattle.code_image.specs.declared.code.Code.{Code}
use Rattle.code_image.specs.declared.instruction.Instruction.{Instruction}
use Rattle.code_image.specs.declared.instruction.Instruction.TheVariants.{Data}
use Rattle.code_image.specs.Points.{Own, Point, scratch_of, state_with, own_with}
use Rattle.code_image.specs.Table.{over, data_from, act, exec_code}
use Rattle.codegen.proofs.Standing.{CodeStands, code_here, code_next}

-- at an instruction
abbrev pub at : ℕ → Own → State → Point
at address own s = record { address = address; state = s; own = own }

module _ (whole : Code) where
  pub one_step : (address : ℕ) (own : Own) (s : State) (i : Instruction) → slice_get whole.instructions address ≡ Some i
      → (k : ℕ) → exec_code whole (suc k) (at address own s) ≡ act whole (Some i) (exec_code whole k) (at address own s)
  one_step address own s i here k = ap (λ o. act whole o (exec_code whole k) (at address own s)) here

  -- What comes of instructions on data: the machine follows them, or its run is over with the fault. They are
  -- never stuck where their table isn't.
  abbrev pub WorksFrom : ℕ → Own → State → ℕ → Step → Type 0
  WorksFrom address own s count (step.Continues t) = (k : ℕ) → exec_code whole (count + k)
      (at address own s) ≡ exec_code whole k (at (address + count) (own_with t own) (state_with t s))
  WorksFrom address own s count (step.Faulted fault) =
      (j : ℕ) × (exec_code whole j (at address own s) ≡ Some (over (state.Faulted fault s.line) s))
  WorksFrom address own s count step.Stuck = Unit {0}

  -- one instruction, and then the others
  work_first :
      (address : ℕ) (own : Own) (s : State) (one : DataInstruction) (count : ℕ) (first : Step) (more : Scratch → Step)
      → ((k : ℕ) → exec_code whole (suc k) (at address own s) ≡ data_from first (exec_code whole k) (at address own s))
      → ((t : Scratch) → first ≡ step.Continues t
      → WorksFrom (address + 1) (own_with t own) (state_with t s) count (more t))
      → WorksFrom address own s (suc count) (go_on first more)
  work_first address own s one count (step.Continues t) more st rest = moved (more t) (rest t refl)
    where
      moved : (end : Step) → WorksFrom (address + 1) (own_with t own) (state_with t s) count end
          → WorksFrom address own s (suc count) end
      moved (step.Continues u) h = λ k.
          let more : suc count + k ≡ suc (count + k) = omega arith in
          let behind : address + 1 + count ≡ address + suc count = omega arith in
          ap (λ n. exec_code whole n (at address own s)) more ∙ st (count + k) ∙ h k
          ∙ ap (λ n. exec_code whole k (at n (own_with u own) (state_with u s))) behind
      moved (step.Faulted fault) h = (suc h.0, st h.0 ∙ h.1)
      moved step.Stuck h = tt
  work_first address own s one count (step.Faulted fault) more st rest = (1, st 0)
  work_first address own s one count step.Stuck more st rest = tt

  pub works_from : (code : List DataInstruction) (address : ℕ) (own : Own) (s : State) → CodeStands whole address code
      → WorksFrom address own s (length code) (works whole.tables code (scratch_of s own))
  works_from [] address own s st = λ k.
      let none : 0 + k ≡ k = omega arith in
      let here : address ≡ address + 0 = omega arith in
      ap (λ n. exec_code whole n (at address own s)) none ∙ ap (λ n. exec_code whole k (at n own s)) here
  works_from (one ∷ more) address own s st =
      work_first address own s one (length more) (work whole.tables one (scratch_of s own)) (works whole.tables more)
      (one_step address own s (Data one) (code_here whole address one more st))
      (λ t is. works_from more (address + 1) (own_with t own) (state_with t s) (code_next whole address one more st))
