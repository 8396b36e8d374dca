-- What an instruction is if it is of none of the kinds that were tested for.
use Rattle.std.proofs.Common.{◌≡◌, ◌≤◌, ◌<◌, ◌-◌, ℕ, List, length, refl, ⊎_elim, arith}
use Rattle.std.specs.Prelude.{Option, None, Some, slice_get}
use Rattle.std.proofs.lemmas.Option.{slice_get_within}
use Rattle.code_image.specs.declared.paragraph.ParagraphIndex.{ParagraphIndex}
use Rattle.code_image.specs.declared.instruction.Instruction.{Instruction}
use Rattle.code_image.specs.declared.instruction.Instruction.TheVariants.{Tick, Show, Stop, Count, CountNumber, Turn}
use Rattle.code_image.specs.declared.instruction.Instruction.TheVariants.{Accept, Date, Branch, Jump, Join, Perform}
use Rattle.code_image.specs.declared.instruction.Instruction.TheVariants.{Back, File, TestStatus, Unheard, Data}
use Rattle.code_image.specs.Demands.{UsesBudget, IsJoin, IsBack, IsFront}

pub other_budget : (one : Instruction) → ((line : ℕ) → one ≡ Tick line → ⊥)
    → ((line : ℕ) (first last : ParagraphIndex) → one ≡ Perform line first last → ⊥) → UsesBudget (Some one) → ⊥
other_budget (Tick line) tick perform uses = tick line refl
other_budget Show tick perform uses = uses
other_budget Stop tick perform uses = uses
other_budget (Count counter turns) tick perform uses = uses
other_budget (CountNumber counter) tick perform uses = uses
other_budget (Turn counter to) tick perform uses = uses
other_budget Accept tick perform uses = uses
other_budget Date tick perform uses = uses
other_budget (Branch to) tick perform uses = uses
other_budget (Jump to) tick perform uses = uses
other_budget Join tick perform uses = uses
other_budget (Perform line first last) tick perform uses = perform line first last refl
other_budget (Back paragraph) tick perform uses = uses
other_budget (File file verb) tick perform uses = uses
other_budget (TestStatus class) tick perform uses = uses
other_budget Unheard tick perform uses = uses
other_budget (Data one) tick perform uses = uses

pub other_back : (one : Instruction) → ((paragraph : ParagraphIndex) → one ≡ Back paragraph → ⊥) → IsBack (Some one) → ⊥
other_back (Tick line) back is = is
other_back Show back is = is
other_back Stop back is = is
other_back (Count counter turns) back is = is
other_back (CountNumber counter) back is = is
other_back (Turn counter to) back is = is
other_back Accept back is = is
other_back Date back is = is
other_back (Branch to) back is = is
other_back (Jump to) back is = is
other_back Join back is = is
other_back (Perform line first last) back is = is
other_back (Back paragraph) back is = back paragraph refl
other_back (File file verb) back is = is
other_back (TestStatus class) back is = is
other_back Unheard back is = is
other_back (Data one) back is = is

-- what is of a kind is one of the instructions
pub join_within : (is : List Instruction) (k : ℕ) → IsJoin (slice_get is k) → k < length is
join_within is k join = by_case (slice_get is k) refl join
  where
    by_case : (found : Option Instruction) → slice_get is k ≡ found → IsJoin found → k < length is
    by_case None e join = absurd join
    by_case (Some one) e join = slice_get_within is k one e

back_within : (is : List Instruction) (k : ℕ) → IsBack (slice_get is k) → k < length is
back_within is k back = by_case (slice_get is k) refl back
  where
    by_case : (found : Option Instruction) → slice_get is k ≡ found → IsBack found → k < length is
    by_case None e back = absurd back
    by_case (Some one) e back = slice_get_within is k one e

pub front_within : (is : List Instruction) (address : ℕ) → IsFront is address → address ≤ length is
front_within is address front = ⊎_elim (λ first. omega (arith, first))
    (λ back. let within = back_within is (address - 1) back in omega (arith, within)) front
