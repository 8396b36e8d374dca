-- The rules of what an arithmetic statement computes, by their parts.
use Rattle.std.proofs.Common.{◌≡◌, List, ◌++◌, refl}
use Rattle.std.proofs.lemmas.List.{append_assoc}
use Rattle.source_tree.specs.declared.arithmetic.Operation.{Operation}
use Rattle.source_tree.specs.declared.arithmetic.Operation.TheVariants.{Add, AddGiving, Subtract, SubtractGiving}
use Rattle.source_tree.specs.declared.arithmetic.Operation.TheVariants.{Multiply, MultiplyGiving, Divide, DivideGiving}
use Rattle.source_tree.specs.declared.arithmetic.Operation.TheVariants.{DivideRemainder, Compute}
use Rattle.source_tree.specs.Places.{LocatedItem}
use Rattle.source_tree.specs.NameRules.{reference_rules}
use Rattle.source_tree.specs.ArithmeticRules.{number_rules, number_receiver, operation_rules}
use Rattle.check_rules.specs.Operations.{operands_rules, receivers_rules}

pub operation_parts : (items : List LocatedItem) (one : Operation)
    → operation_rules items one ≡ operands_rules items one ++ receivers_rules items one
operation_parts items (Add operands receivers) = refl
operation_parts items (AddGiving operands receivers) = refl
operation_parts items (Subtract operands receivers) = refl
operation_parts items (SubtractGiving operands minuend receivers) = refl
operation_parts items (Multiply factor receivers) = refl
operation_parts items (MultiplyGiving factor by receivers) = refl
operation_parts items (Divide divisor receivers) = refl
operation_parts items (DivideGiving first order second receivers) = refl
operation_parts items (DivideRemainder first order second quotient remainder) =
    append_assoc (number_rules items first ++ number_rules items second)
    (reference_rules items number_receiver quotient.item) (reference_rules items number_receiver remainder)
operation_parts items (Compute receivers value) = refl
