-- An operation is its two parts.
use Rattle.std.proofs.Common.{◌≡◌, Bool, List, [], ◌++◌, refl, sym, ap, ◌∙◌}
use Rattle.source_tree.specs.declared.arithmetic.Operation.{Operation}
use Rattle.source_tree.specs.declared.arithmetic.Operation.TheVariants.{Add, AddGiving, Subtract, SubtractGiving}
use Rattle.source_tree.specs.declared.arithmetic.Operation.TheVariants.{Multiply, MultiplyGiving, Divide, DivideGiving}
use Rattle.source_tree.specs.declared.arithmetic.Operation.TheVariants.{DivideRemainder, Compute}
use Rattle.source_tree.specs.Places.{LocatedItem}
use Rattle.source_tree.specs.NameRules.{reference_rules}
use Rattle.source_tree.specs.ArithmeticRules.{number_rules, number_receiver, operation_rules}
use Rattle.code_image.specs.declared.code.Code.{Code}
use Rattle.condition_codegen.specs.Fragments.{Fragment, append, sequence}
use Rattle.condition_codegen.specs.ArithmeticCode.{value_fragment, total_fragment, operation_fragment}
use Rattle.statement_codegen.specs.Operations.{values_rules, results_rules, values_fragment, results_fragment}
use Rattle.condition_codegen.proofs.Kept.{front_kept, back_kept, both_kept}
use Rattle.condition_codegen.proofs.Fragments.{joined_assoc}

regrouped : (first second third : Fragment) (before : Code)
    → sequence first (sequence second third) before ≡ sequence (sequence first second) third before
regrouped first second third before =
    let one = first before in
    let two = second (append before one) in
    assoc one two (append before one) (joined_assoc before one two)
  where
    assoc : (one two now : Code) → append now two ≡ append before (append one two) → append one
        (append two (third (append now two))) ≡ append (append one two) (third (append before (append one two)))
    assoc one two now e = ap (λ (c : Code). append one (append two (third c))) e
        ∙ sym (joined_assoc one two (third (append before (append one two))))

module _ (items : List LocatedItem) (keep : Bool) where
  pub operation_parts : (one : Operation) (before : Code) → operation_fragment items keep one before ≡ sequence
      (values_fragment items one) (results_fragment items keep one) before
  operation_parts (Add operands receivers) before = refl
  operation_parts (AddGiving operands receivers) before = refl
  operation_parts (Subtract operands receivers) before = refl
  operation_parts (SubtractGiving operands minuend receivers) before =
      regrouped (total_fragment items operands) (value_fragment items minuend)
      (results_fragment items keep (SubtractGiving operands minuend receivers)) before
  operation_parts (Multiply factor receivers) before = refl
  operation_parts (MultiplyGiving factor by receivers) before =
      regrouped (value_fragment items factor) (value_fragment items by)
      (results_fragment items keep (MultiplyGiving factor by receivers)) before
  operation_parts (Divide divisor receivers) before = refl
  operation_parts (DivideGiving first order second receivers) before =
      regrouped (value_fragment items first) (value_fragment items second)
      (results_fragment items keep (DivideGiving first order second receivers)) before
  operation_parts (DivideRemainder first order second quotient remainder) before =
      regrouped (value_fragment items first) (value_fragment items second)
      (results_fragment items keep (DivideRemainder first order second quotient remainder)) before
  operation_parts (Compute receivers value) before = refl

module _ (items : List LocatedItem) where
  pub values_kept : (one : Operation) → operation_rules items one ≡ [] → values_rules items one ≡ []
  values_kept (Add operands receivers) e = front_kept _ _ e
  values_kept (AddGiving operands receivers) e = front_kept _ _ e
  values_kept (Subtract operands receivers) e = front_kept _ _ e
  values_kept (SubtractGiving operands minuend receivers) e = front_kept _ _ e
  values_kept (Multiply factor receivers) e = front_kept _ _ e
  values_kept (MultiplyGiving factor by receivers) e = front_kept _ _ e
  values_kept (Divide divisor receivers) e = front_kept _ _ e
  values_kept (DivideGiving first order second receivers) e = front_kept _ _ e
  values_kept (DivideRemainder first order second quotient remainder) e = front_kept _ _ (front_kept _ _ e)
  values_kept (Compute receivers value) e = back_kept _ _ e

  pub results_kept : (one : Operation) → operation_rules items one ≡ [] → results_rules items one ≡ []
  results_kept (Add operands receivers) e = back_kept _ _ e
  results_kept (AddGiving operands receivers) e = back_kept _ _ e
  results_kept (Subtract operands receivers) e = back_kept _ _ e
  results_kept (SubtractGiving operands minuend receivers) e = back_kept _ _ e
  results_kept (Multiply factor receivers) e = back_kept _ _ e
  results_kept (MultiplyGiving factor by receivers) e = back_kept _ _ e
  results_kept (Divide divisor receivers) e = back_kept _ _ e
  results_kept (DivideGiving first order second receivers) e = back_kept _ _ e
  results_kept (DivideRemainder first order second quotient remainder) e =
      let values = number_rules items first ++ number_rules items second in
      let one = reference_rules items number_receiver quotient.item in
      let other = reference_rules items number_receiver remainder in
      both_kept one other (back_kept values one (front_kept (values ++ one) other e))
      (back_kept (values ++ one) other e)
  results_kept (Compute receivers value) e = front_kept _ _ e
