-- The code of turns up to where a condition is true doesn't depend on the instructions before it, but on how many there
-- are.
use Rattle.std.proofs.Common.{ℕ, false, List, [], ◌∷◌, length, Option, Some, None, ap, ◌∙◌}
use Rattle.source_tree.specs.declared.data_statement.DataStatement.TheVariants.{Move}
use Rattle.source_tree.specs.declared.until.TestTime.{TestTime}
use Rattle.source_tree.specs.declared.until.TestTime.TheVariants.{Before, After}
use Rattle.source_tree.specs.declared.until.Varying.{Varying}
use Rattle.source_tree.specs.declared.until.Until.{Until}
use Rattle.source_tree.specs.Places.{LocatedItem}
use Rattle.source_tree.specs.Until.{vary_operation}
use Rattle.data_instructions.specs.declared.instruction.DataInstruction.TheVariants as i
use Rattle.code_image.specs.declared.code.Code.{Code}
use Rattle.code_image.specs.declared.instruction.Instruction.TheVariants.{Tick}
use Rattle.condition_codegen.specs.Fragments.{Fragment, append, sequence, plain_code}
use Rattle.condition_codegen.specs.Meeting.{branch_code, either_fragment, nothing_fragment}
use Rattle.condition_codegen.specs.DataCode.{work_fragment}
use Rattle.condition_codegen.specs.ConditionCode.{condition_fragment}
use Rattle.codegen.specs.UntilCode.{tick_fragment, repetition_fragment, until_before_fragment, until_after_fragment}
use Rattle.codegen.specs.UntilCode.{until_from_fragment, vary_begin_fragment, vary_on_fragment, until_fragment}
use Rattle.codegen.proofs.Blind.{Blind, constant_blind, both_blind, work_blind, moving_blind}
use Rattle.codegen.proofs.BlindArithmetic.{arithmetic_blind}
use Rattle.codegen.proofs.Either.{either_blind}
use Rattle.codegen.proofs.ConditionBlind.{nothing_blind, condition_blind}

pub tick_blind : (line : ℕ) → Blind (tick_fragment line)
tick_blind line = constant_blind (plain_code (Tick line ∷ []))

-- the branch back knows how many instructions stand before the turn
pub turning_blind : (turn behind : Fragment) → Blind turn → Blind behind → Blind (repetition_fragment turn behind)
turning_blind turn behind f g = record {
  by = λ a b alike.
      let same = (both_blind turn behind f g).by a b alike in
      ap (λ (c : Code). append c (branch_code (length a.instructions))) same
      ∙ ap (λ (n : ℕ). append (sequence turn behind b) (branch_code n)) alike.count;
}

module _ (test onward turn : Fragment) (f : Blind test) (g : Blind onward) (h : Blind turn) where
  -- a turn with its test before the next one
  pub turn_before_blind : Blind (repetition_fragment turn (sequence onward test))
  turn_before_blind = turning_blind turn (sequence onward test) h (both_blind onward test g f)

  until_before_blind : Blind (until_before_fragment test onward turn)
  until_before_blind =
      let turns = repetition_fragment turn (sequence onward test) in
      both_blind test (either_fragment nothing_fragment turns) f
      (either_blind nothing_fragment turns nothing_blind turn_before_blind)

  -- what goes on where the test is false
  pub onward_blind : Blind (sequence onward (work_fragment i.ClearTruth))
  onward_blind = both_blind onward (work_fragment i.ClearTruth) g (work_blind i.ClearTruth)

  until_after_blind : Blind (until_after_fragment test onward turn)
  until_after_blind =
      let ways = either_fragment nothing_fragment (sequence onward (work_fragment i.ClearTruth)) in
      turning_blind turn (sequence test ways) h
      (both_blind test ways f
      (either_blind nothing_fragment (sequence onward (work_fragment i.ClearTruth)) nothing_blind onward_blind))

  until_from_blind : (tests : TestTime) → Blind (until_from_fragment tests test onward turn)
  until_from_blind Before = until_before_blind
  until_from_blind After = until_after_blind

module _ (items : List LocatedItem) where
  vary_begin_blind : (one : Option Varying) → Blind (vary_begin_fragment items one)
  vary_begin_blind None = nothing_blind
  vary_begin_blind (Some one) = moving_blind items (Move one.from (one.item ∷ []))

  pub vary_on_blind : (one : Option Varying) → Blind (vary_on_fragment items one)
  vary_on_blind None = nothing_blind
  vary_on_blind (Some one) = arithmetic_blind items false (vary_operation one)

  pub until_blind : (one : Until) (turn : Fragment) → Blind turn → Blind (until_fragment items one turn)
  until_blind one turn f =
      let test = condition_fragment items one.condition in
      let onward = vary_on_fragment items one.varying in
      both_blind (vary_begin_fragment items one.varying) (until_from_fragment one.test test onward turn)
      (vary_begin_blind one.varying)
      (until_from_blind test onward turn (condition_blind items one.condition) (vary_on_blind one.varying) f one.test)
