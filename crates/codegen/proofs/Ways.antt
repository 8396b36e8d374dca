-- The two ways of a branch that stands in a whole code.
use Rattle.std.proofs.Common.{◌≡◌, ℕ, ◌+◌, ◌≤◌, true, false, [], ◌∷◌, refl, sym, ap, subst, arith, length-append}
use Rattle.source_tree.specs.State.{State}
use Rattle.code_image.specs.declared.code.Code.{Code}
use Rattle.code_image.specs.declared.instruction.Instruction.TheVariants.{Branch, Jump, Join}
use Rattle.code_image.specs.Points.{Own}
use Rattle.condition_codegen.specs.Fragments.{Fragment, append, sequence}
use Rattle.condition_codegen.specs.Meeting.{branch_code, jump_code, join_code, either_fragment}
use Rattle.condition_codegen.proofs.Fragments.{joined_assoc}
use Rattle.codegen.proofs.Standing.{Stands, front, back, first_stands}
use Rattle.codegen.proofs.Blind.{Blind}
use Rattle.codegen.proofs.Either.{either_laid}
use Rattle.codegen.proofs.Doing.{end_of, Comes, branch_goes_on, branch_goes_to, jump_comes, join_comes}

-- Where each way begins, and how the machine comes there and after the branch.
pub record Ways (whole : Code) (first second : Fragment) (before part : Code) : Type 0 where
  -- the code before each way
  pub inner : Code
  pub outer : Code
  pub first_stands : Stands whole inner (first inner)
  pub second_stands : Stands whole outer (second outer)
  -- both stand in the branch
  pub first_begins : end_of before ≤ end_of inner
  pub first_ends : end_of (append inner (first inner)) ≤ end_of (append before part)
  pub second_begins : end_of before ≤ end_of outer
  pub second_ends : end_of (append outer (second outer)) ≤ end_of (append before part)
  pub to_first : (cs : Own) (s : State) → cs.truth ≡ true → Comes whole (end_of before) cs s (end_of inner) cs s
  pub from_first : (cs : Own) (s : State)
      → Comes whole (end_of (append inner (first inner))) cs s (end_of (append before part)) cs s
  pub to_second : (cs : Own) (s : State) → cs.truth ≡ false → Comes whole (end_of before) cs s (end_of outer) cs s
  pub from_second : (cs : Own) (s : State)
      → Comes whole (end_of (append outer (second outer))) cs s (end_of (append before part)) cs s

module _ (whole : Code) (first second : Fragment) where
  -- where the branch leads to the second way, and the jump after the last `join`
  module _ (before : Code) (other end : ℕ) where
    abbrev inner_code : Code
    inner_code = append before (branch_code other)

    abbrev middle : Code
    middle = append inner_code (first inner_code)

    abbrev outer_code : Code
    outer_code = append middle (jump_code end)

    abbrev last : Code
    last = append outer_code (second outer_code)

    abbrev part : Code
    part = sequence (λ now. branch_code other)
        (sequence first (sequence (λ now. jump_code end) (sequence second (λ now. join_code)))) before

    abbrev behind_jump : Code
    behind_jump = append (second outer_code) join_code

    abbrev behind_first : Code
    behind_first = append (jump_code end) behind_jump

    ends_part : end_of (append before part) ≡ end_of last + 1
    ends_part = omega (
      arith,
      ap end_of (joined_assoc before (branch_code other) (append (first inner_code) behind_first)),
      ap end_of (joined_assoc inner_code (first inner_code) behind_first),
      ap end_of (joined_assoc middle (jump_code end) behind_jump),
      ap end_of (joined_assoc outer_code (second outer_code) join_code),
      length-append last.instructions join_code.instructions,
    )

    laid_ways : Stands whole before part → other ≡ end_of outer_code → end ≡ end_of last + 1
        → Ways whole first second before part
    laid_ways st other_is end_is =
        let after_branch = back whole before (branch_code other) (append (first inner_code) behind_first) st in
        let after_first = back whole inner_code (first inner_code) behind_first after_branch in
        let after_jump = back whole middle (jump_code end) behind_jump after_first in
        let branches =
        first_stands whole before part (Branch other) (append (first inner_code) behind_first).instructions refl st in
        let jumps =
        first_stands whole middle behind_first (Jump end) (Join ∷ behind_jump.instructions) refl after_first in
        let joins = first_stands whole last join_code Join [] refl
        (back whole outer_code (second outer_code) join_code after_jump) in
        let l1 = length-append before.instructions (branch_code other).instructions in
        let l2 = length-append inner_code.instructions (first inner_code).instructions in
        let l3 = length-append middle.instructions (jump_code end).instructions in
        let l4 = length-append outer_code.instructions (second outer_code).instructions in
        let to = end_of (append before part) in
        record {
          inner = inner_code;
          outer = outer_code;
          first_stands = front whole inner_code (first inner_code) behind_first after_branch;
          second_stands = front whole outer_code (second outer_code) join_code after_jump;
          first_begins = omega (arith, l1);
          first_ends = omega (arith, ends_part, l3, l4);
          second_begins = omega (arith, l1, l2, l3);
          second_ends = omega (arith, ends_part);
          to_first = λ cs s is. subst (λ (p : ℕ). Comes whole (end_of before) cs s p cs s) (sym l1)
              (branch_goes_on whole (end_of before) other cs s branches is);
          from_first = λ cs s. jump_comes whole (end_of middle) end to cs s jumps (omega (arith, end_is, ends_part));
          to_second = λ cs s is. subst (λ (p : ℕ). Comes whole (end_of before) cs s p cs s) other_is
              (branch_goes_to whole (end_of before) other cs s branches is);
          from_second = λ cs s. join_comes whole (end_of last) to cs s joins (sym ends_part);
        }

  pub ways : Blind first → Blind second → (before : Code) → Stands whole before (either_fragment first second before)
      → Ways whole first second before (either_fragment first second before)
  ways f g before st =
      let l = either_laid first second f g before in
      subst (λ (c : Code). Ways whole first second before c) (sym l.is)
      (laid_ways before l.other l.end (subst (Stands whole before) l.is st) l.other_is l.end_is)
