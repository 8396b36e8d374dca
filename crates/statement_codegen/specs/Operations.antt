-- The code and the rules of an operation in two parts: the values that it begins with, and what comes of them.
use Rattle.std.specs.Prelude.{Bool, List, [], ◌∷◌, ◌++◌}
use Rattle.source_tree.specs.declared.arithmetic.Operation.{Operation}
use Rattle.source_tree.specs.declared.arithmetic.Operation.TheVariants.{Add, AddGiving, Subtract, SubtractGiving, Multiply, MultiplyGiving, Divide, DivideGiving, DivideRemainder, Compute}
use Rattle.source_tree.specs.declared.expression.Operator.TheVariants as operator
use Rattle.source_tree.specs.Places.{LocatedItem}
use Rattle.source_tree.specs.Broken.{RuleBreach, each}
use Rattle.source_tree.specs.NameRules.{reference_rules}
use Rattle.source_tree.specs.ArithmeticRules.{number_rules, number_receiver, updated_rules, given_rules, expression_rules}
use Rattle.data_instructions.specs.declared.calculation.Calculation.TheVariants as c
use Rattle.data_instructions.specs.declared.instruction.DataInstruction.TheVariants as i
use Rattle.data_instructions.specs.ArithmeticCodes.{duplicate, discard}
use Rattle.condition_codegen.specs.Fragments.{Fragment, sequence}
use Rattle.condition_codegen.specs.DataCode.{work_fragment, works_fragment}
use Rattle.condition_codegen.specs.ArithmeticCode.{division_fragment, value_fragment, total_fragment}
use Rattle.condition_codegen.specs.ArithmeticCode.{expression_fragment, updates_fragment, gives_fragment}
use Rattle.condition_codegen.specs.ArithmeticCode.{remainder_fragment}

abbrev pub discard_fragment : Fragment
discard_fragment = works_fragment (discard ∷ [])

module _ (items : List LocatedItem) where
  abbrev pub values_rules : Operation → List RuleBreach
  values_rules (Add operands receivers) = each (number_rules items) operands
  values_rules (AddGiving operands receivers) = each (number_rules items) operands
  values_rules (Subtract operands receivers) = each (number_rules items) operands
  values_rules (SubtractGiving operands minuend receivers) = each (number_rules items) operands ++ number_rules items minuend
  values_rules (Multiply factor receivers) = number_rules items factor
  values_rules (MultiplyGiving factor by receivers) = number_rules items factor ++ number_rules items by
  values_rules (Divide divisor receivers) = number_rules items divisor
  values_rules (DivideGiving first order second receivers) = number_rules items first ++ number_rules items second
  values_rules (DivideRemainder first order second quotient remainder) = number_rules items first ++ number_rules items second
  values_rules (Compute receivers value) = expression_rules items value

  abbrev pub results_rules : Operation → List RuleBreach
  results_rules (Add operands receivers) = updated_rules items receivers
  results_rules (AddGiving operands receivers) = given_rules items receivers
  results_rules (Subtract operands receivers) = updated_rules items receivers
  results_rules (SubtractGiving operands minuend receivers) = given_rules items receivers
  results_rules (Multiply factor receivers) = updated_rules items receivers
  results_rules (MultiplyGiving factor by receivers) = given_rules items receivers
  results_rules (Divide divisor receivers) = updated_rules items receivers
  results_rules (DivideGiving first order second receivers) = given_rules items receivers
  results_rules (DivideRemainder first order second quotient remainder) = reference_rules items number_receiver quotient.item ++ reference_rules items number_receiver remainder
  results_rules (Compute receivers value) = given_rules items receivers

  abbrev pub values_fragment : Operation → Fragment
  values_fragment (Add operands receivers) = total_fragment items operands
  values_fragment (AddGiving operands receivers) = total_fragment items operands
  values_fragment (Subtract operands receivers) = total_fragment items operands
  values_fragment (SubtractGiving operands minuend receivers) = sequence (total_fragment items operands) (value_fragment items minuend)
  values_fragment (Multiply factor receivers) = value_fragment items factor
  values_fragment (MultiplyGiving factor by receivers) = sequence (value_fragment items factor) (value_fragment items by)
  values_fragment (Divide divisor receivers) = value_fragment items divisor
  values_fragment (DivideGiving first order second receivers) = sequence (value_fragment items first) (value_fragment items second)
  values_fragment (DivideRemainder first order second quotient remainder) = sequence (value_fragment items first) (value_fragment items second)
  values_fragment (Compute receivers value) = expression_fragment items value

  -- `keep`: there is an ON SIZE ERROR phrase.
  module _ (keep : Bool) where
    abbrev pub results_fragment : Operation → Fragment
    results_fragment (Add operands receivers) = sequence (updates_fragment items keep operator.Add receivers) discard_fragment
    results_fragment (AddGiving operands receivers) = sequence (gives_fragment items keep receivers) discard_fragment
    results_fragment (Subtract operands receivers) = sequence (updates_fragment items keep operator.Subtract receivers) discard_fragment
    results_fragment (SubtractGiving operands minuend receivers) =
        sequence (works_fragment (duplicate 1 ∷ i.Calculate c.Subtract ∷ [])) (sequence (gives_fragment items keep receivers) (works_fragment (discard ∷ discard ∷ [])))
    results_fragment (Multiply factor receivers) = sequence (updates_fragment items keep operator.Multiply receivers) discard_fragment
    results_fragment (MultiplyGiving factor by receivers) = sequence (work_fragment (i.Calculate c.Multiply)) (sequence (gives_fragment items keep receivers) discard_fragment)
    results_fragment (Divide divisor receivers) = sequence (updates_fragment items keep operator.Divide receivers) discard_fragment
    results_fragment (DivideGiving first order second receivers) = division_fragment order (sequence (work_fragment (i.Calculate c.Divide)) (sequence (gives_fragment items keep receivers) discard_fragment))
    results_fragment (DivideRemainder first order second quotient remainder) = division_fragment order (remainder_fragment items keep quotient remainder)
    results_fragment (Compute receivers value) = sequence (gives_fragment items keep receivers) discard_fragment
