-- Two ways whose branch and jump got their addresses at the end, where the last call may have failed.
use Rattle.std.proofs.Common.{◌≡◌, ℕ, ◌+◌, length, sym}
use Rattle.std.specs.Prelude.{Result, OnOk}
use Rattle.code_image.specs.declared.code.Code.{Code}
use Rattle.condition_codegen.specs.Fragments.{Fragment, append, sequence}
use Rattle.condition_codegen.specs.Meeting.{branch_code, jump_code, either_fragment, nothing_fragment}
use Rattle.condition_codegen.specs.ConditionCode.{and_fragment, or_fragment}
use Rattle.condition_codegen.specs.Phrases.{patched_code}
use Rattle.condition_codegen.proofs.Fragments.{joined_nothing}
use Rattle.condition_codegen.proofs.Meeting.{meeting}
use Rattle.condition_codegen.proofs.Sequences.{then_piece, on_ok}

module _ {T E : Type 0} (result : Result T E) where
  pub ways_met : (first second : Fragment) (before begun one middle two end : Code) (branch other : ℕ)
      → begun ≡ append before (branch_code 0) → branch ≡ length before.instructions → one ≡ append begun (first begun)
      → middle ≡ append one (jump_code 0) → other ≡ length one.instructions + 2
      → two ≡ append middle (second middle) → OnOk result (end ≡ patched_code branch other two)
      → OnOk result (end ≡ append before (either_fragment first second before))
  ways_met first second before begun one middle two end branch other p q r s t u v =
      on_ok result v (meeting first second before begun one middle two end branch other p q r s t u)

  -- the same after a piece
  pub head_met : (head first second : Fragment) (old before begun one middle two end : Code) (branch other : ℕ)
      → before ≡ append old (head old) → begun ≡ append before (branch_code 0) → branch ≡ length before.instructions
      → one ≡ append begun (first begun) → middle ≡ append one (jump_code 0) → other ≡ length one.instructions + 2
      → two ≡ append middle (second middle) → OnOk result (end ≡ patched_code branch other two)
      → OnOk result (end ≡ append old (sequence head (either_fragment first second) old))
  head_met head first second old before begun one middle two end branch other h p q r s t u v =
      on_ok result (ways_met first second before begun one middle two end branch other p q r s t u v)
      (then_piece head (either_fragment first second) old before end h)

  -- the same after two pieces
  pub heads_met : (tick head first second : Fragment) (old ticked before begun one middle two end : Code)
      (branch other : ℕ) → ticked ≡ append old (tick old) → before ≡ append ticked (head ticked)
      → begun ≡ append before (branch_code 0) → branch ≡ length before.instructions → one ≡ append begun (first begun)
      → middle ≡ append one (jump_code 0) → other ≡ length one.instructions + 2
      → two ≡ append middle (second middle) → OnOk result (end ≡ patched_code branch other two)
      → OnOk result (end ≡ append old (sequence tick (sequence head (either_fragment first second)) old))
  heads_met tick head first second old ticked before begun one middle two end branch other g h p q r s t u v =
      on_ok result (head_met head first second ticked before begun one middle two end branch other h p q r s t u v)
      (then_piece tick (sequence head (either_fragment first second)) old ticked end g)

  -- a piece, and another one if the truth is true
  pub and_met : (head first : Fragment) (old before begun one middle end : Code) (branch other : ℕ)
      → before ≡ append old (head old) → begun ≡ append before (branch_code 0) → branch ≡ length before.instructions
      → one ≡ append begun (first begun) → middle ≡ append one (jump_code 0) → other ≡ length one.instructions + 2
      → OnOk result (end ≡ patched_code branch other middle)
      → OnOk result (end ≡ append old (sequence head (and_fragment first) old))
  and_met head first old before begun one middle end branch other h p q r s t =
      head_met head first nothing_fragment old before begun one middle middle end branch other h p q r s t
      (sym (joined_nothing middle))

  -- a piece, and another one if the truth is false
  pub or_met : (head second : Fragment) (old before begun middle two end : Code) (branch other : ℕ)
      → before ≡ append old (head old) → begun ≡ append before (branch_code 0) → branch ≡ length before.instructions
      → middle ≡ append begun (jump_code 0) → other ≡ length begun.instructions + 2
      → two ≡ append middle (second middle) → OnOk result (end ≡ patched_code branch other two)
      → OnOk result (end ≡ append old (sequence head (or_fragment second) old))
  or_met head second old before begun middle two end branch other h p q =
      head_met head nothing_fragment second old before begun begun middle two end branch other h p q
      (sym (joined_nothing begun))
