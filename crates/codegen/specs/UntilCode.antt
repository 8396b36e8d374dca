-- The code of turns up to where a condition is true (own choice).
use Rattle.std.specs.Prelude.{ℕ, false, List, [], ◌∷◌, length, Option, Some, None}
use Rattle.source_tree.specs.declared.until.TestTime.{TestTime}
use Rattle.source_tree.specs.declared.until.TestTime.TheVariants.{Before, After}
use Rattle.source_tree.specs.declared.until.Varying.{Varying}
use Rattle.source_tree.specs.declared.until.Until.{Until}
use Rattle.source_tree.specs.Places.{LocatedItem}
use Rattle.source_tree.specs.Until.{vary_operation}
use Rattle.data_instructions.specs.declared.instruction.DataInstruction.TheVariants as i
use Rattle.code_image.specs.declared.instruction.Instruction.TheVariants.{Tick}
use Rattle.condition_codegen.specs.Fragments.{Fragment, sequence, plain_code}
use Rattle.condition_codegen.specs.Meeting.{branch_code, either_fragment, nothing_fragment}
use Rattle.condition_codegen.specs.DataCode.{work_fragment, move_fragment}
use Rattle.condition_codegen.specs.ArithmeticCode.{arithmetic_fragment}
use Rattle.condition_codegen.specs.ConditionCode.{condition_fragment}

-- one of the budget, and nothing else
abbrev pub tick_fragment : ℕ → Fragment
tick_fragment line before = plain_code (Tick line ∷ [])

-- A turn, which begins with what uses one of the budget, and what follows it; where the truth is false then, the next turn begins.
abbrev pub repetition_fragment : Fragment → Fragment → Fragment
repetition_fragment turn behind before = sequence (sequence turn behind) (λ _. branch_code (length before.instructions)) before

-- The test stands before the first turn, and at the end of each.
abbrev pub until_before_fragment : Fragment → Fragment → Fragment → Fragment
until_before_fragment test onward turn = sequence test (either_fragment nothing_fragment (repetition_fragment turn (sequence onward test)))

-- The test follows what is performed, and `onward` comes only where it is false, which it is said again then.
abbrev pub until_after_fragment : Fragment → Fragment → Fragment → Fragment
until_after_fragment test onward turn =
    repetition_fragment turn (sequence test (either_fragment nothing_fragment (sequence onward (work_fragment i.ClearTruth))))

abbrev pub until_from_fragment : TestTime → Fragment → Fragment → Fragment → Fragment
until_from_fragment Before = until_before_fragment
until_from_fragment After = until_after_fragment

-- `items` are those of the table of items, in order.
module _ (items : List LocatedItem) where
  -- VARYING: FROM is moved in
  abbrev pub vary_begin_fragment : Option Varying → Fragment
  vary_begin_fragment None = nothing_fragment
  vary_begin_fragment (Some one) = move_fragment items one.from (one.item ∷ [])

  -- BY is added
  abbrev pub vary_on_fragment : Option Varying → Fragment
  vary_on_fragment None = nothing_fragment
  vary_on_fragment (Some one) = arithmetic_fragment items false (vary_operation one)

  abbrev pub until_fragment : Until → Fragment → Fragment
  until_fragment one turn =
      sequence (vary_begin_fragment one.varying) (until_from_fragment one.test (condition_fragment items one.condition) (vary_on_fragment one.varying) turn)
