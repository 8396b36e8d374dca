-- Parts of the rules of arithmetic statements.
use Rattle.std.specs.Prelude.{List, [], ◌++◌}
use Rattle.source_tree.specs.declared.arithmetic.Receiver.{Receiver}
use Rattle.source_tree.specs.declared.arithmetic.Operation.{Operation}
use Rattle.source_tree.specs.declared.arithmetic.Operation.TheVariants.{Add, AddGiving, Subtract, SubtractGiving, Multiply, MultiplyGiving, Divide, DivideGiving, DivideRemainder, Compute}
use Rattle.source_tree.specs.Places.{LocatedItem}
use Rattle.source_tree.specs.Broken.{RuleBreach, each}
use Rattle.source_tree.specs.NameRules.{reference_rules}
use Rattle.source_tree.specs.ArithmeticRules.{number_rules, number_receiver, updated_rules, given_rules, expression_rules}
use Rattle.check_rules.specs.declared.asked.Asked.{Asked}
use Rattle.check_rules.specs.Asking.{asks}

-- a receiver of which that is asked
abbrev pub receiver_rules : List LocatedItem → Asked → Receiver → List RuleBreach
receiver_rules items asked one = reference_rules items (asks asked) one.item

-- What stands in front of the receivers; in COMPUTE nothing.
abbrev pub operands_rules : List LocatedItem → Operation → List RuleBreach
operands_rules items (Add operands receivers) = each (number_rules items) operands
operands_rules items (AddGiving operands receivers) = each (number_rules items) operands
operands_rules items (Subtract operands receivers) = each (number_rules items) operands
operands_rules items (SubtractGiving operands minuend receivers) = each (number_rules items) operands ++ number_rules items minuend
operands_rules items (Multiply factor receivers) = number_rules items factor
operands_rules items (MultiplyGiving factor by receivers) = number_rules items factor ++ number_rules items by
operands_rules items (Divide divisor receivers) = number_rules items divisor
operands_rules items (DivideGiving first order second receivers) = number_rules items first ++ number_rules items second
operands_rules items (DivideRemainder first order second quotient remainder) = number_rules items first ++ number_rules items second
operands_rules items (Compute receivers value) = []

-- The receivers, and what follows them.
abbrev pub receivers_rules : List LocatedItem → Operation → List RuleBreach
receivers_rules items (Add operands receivers) = updated_rules items receivers
receivers_rules items (AddGiving operands receivers) = given_rules items receivers
receivers_rules items (Subtract operands receivers) = updated_rules items receivers
receivers_rules items (SubtractGiving operands minuend receivers) = given_rules items receivers
receivers_rules items (Multiply factor receivers) = updated_rules items receivers
receivers_rules items (MultiplyGiving factor by receivers) = given_rules items receivers
receivers_rules items (Divide divisor receivers) = updated_rules items receivers
receivers_rules items (DivideGiving first order second receivers) = given_rules items receivers
receivers_rules items (DivideRemainder first order second quotient remainder) =
    reference_rules items number_receiver quotient.item ++ reference_rules items number_receiver remainder
receivers_rules items (Compute receivers value) = given_rules items receivers ++ expression_rules items value
