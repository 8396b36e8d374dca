-- A turn with the branch back to it, and a way whose end is not met yet, where the last call may have failed.
use Rattle.std.proofs.Common.{◌≡◌, ℕ, ◌+◌, length, sym, ap, ◌∙◌, length-append, [], ◌∷◌, arith}
use Rattle.std.specs.Prelude.{Result, OnOk}
use Rattle.code_image.specs.declared.code.Code.{Code}
use Rattle.code_image.specs.declared.instruction.Instruction.TheVariants.{Branch, Jump, Join}
use Rattle.condition_codegen.specs.Fragments.{Fragment, append, sequence}
use Rattle.condition_codegen.specs.Meeting.{branch_code, jump_code}
use Rattle.codegen.specs.Phrases.{IsWay, Opens}
use Rattle.codegen.specs.UntilCode.{repetition_fragment}
use Rattle.condition_codegen.proofs.Sequences.{then_piece, is_so, ends_so}

module _ {T E : Type 0} (result : Result T E) where
  -- a turn, two pieces after it, and the branch back to it
  pub turn_met : (turn one two : Fragment) (begin : ℕ) (old turned tested after new : Code)
      → begin ≡ length old.instructions → turned ≡ append old (turn old) → tested ≡ append turned (one turned)
      → after ≡ append tested (two tested) → OnOk result (new ≡ append after (branch_code begin))
      → OnOk result (new ≡ append old (repetition_fragment turn (sequence one two) old))
  turn_met turn one two begin old turned tested after new b p q r e =
      let behind = sequence one two in
      is_so result new (append old (sequence (sequence turn behind) (λ _. branch_code begin) old))
      (append old (repetition_fragment turn behind old))
      (ends_so result (sequence turn behind) (λ _. branch_code begin) old after new
      (then_piece turn behind old turned after p (then_piece one two turned tested after q r)) e)
      (ap (λ n. append old (sequence (sequence turn behind) (λ _. branch_code n) old)) b)

-- A test, a branch, a way and the jump after it, where the ends aren't met yet.
pub way_opened : (test first : Fragment) (old tested begun done after : Code) (branch other : ℕ)
    → tested ≡ append old (test old) → begun ≡ append tested (branch_code 0) → done ≡ append begun (first begun)
    → after ≡ append done (jump_code 0) → branch ≡ length tested.instructions → other ≡ length done.instructions + 2
    → Opens test first old after (record { branch = branch; other = other })
way_opened test first old tested begun done after branch other p q r s t u =
    let branch_piece : Fragment = λ _. branch_code 0 in
    let jump_piece : Fragment = λ _. jump_code 0 in
    record {
      code = then_piece test (sequence branch_piece (sequence first jump_piece)) old tested after p
          (then_piece branch_piece (sequence first jump_piece) tested begun after q
          (then_piece first jump_piece begun done after r s));
      branch = t ∙ ap (λ (k : Code). length k.instructions) p;
      other = u ∙ sym (length-append done.instructions (Jump 0 ∷ Join ∷ []))
          ∙ sym (ap (λ (k : Code). length k.instructions) s);
    }

-- Both addresses of two ways are within the code at whose end they meet.
pub ends_within : (first second : Fragment) (before begun one middle two : Code) (branch other : ℕ)
    → begun ≡ append before (branch_code 0) → branch ≡ length before.instructions → one ≡ append begun (first begun)
    → middle ≡ append one (jump_code 0) → other ≡ length one.instructions + 2 → two ≡ append middle (second middle)
    → IsWay (length two.instructions) (record { branch = branch; other = other })
ends_within first second before begun one middle two branch other p q r s t u =
    let a : length begun.instructions ≡ length before.instructions + 1 =
    ap (λ (k : Code). length k.instructions) p ∙ length-append before.instructions (Branch 0 ∷ []) in
    let b : length one.instructions ≡ length begun.instructions + length (first begun).instructions =
    ap (λ (k : Code). length k.instructions) r ∙ length-append begun.instructions (first begun).instructions in
    let d : length middle.instructions ≡ length one.instructions + 2 =
    ap (λ (k : Code). length k.instructions) s ∙ length-append one.instructions (Jump 0 ∷ Join ∷ []) in
    let e : length two.instructions ≡ length middle.instructions + length (second middle).instructions =
    ap (λ (k : Code). length k.instructions) u ∙ length-append middle.instructions (second middle).instructions in
    record {
      branch = omega (arith, a, b, d, e, q);
      jump = omega (arith, t);
      other = omega (arith, d, e, t);
    }
