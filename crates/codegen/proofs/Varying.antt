-- VARYING: its rules by their parts, and the code of ADD BY TO the item.
use Rattle.std.proofs.Common.{◌≡◌, false, List, [], ◌∷◌, ◌++◌, Some, refl, sym, ap, ◌∙◌}
use Rattle.source_tree.specs.declared.arithmetic.Receiver.{Receiver}
use Rattle.source_tree.specs.declared.expression.Operator.TheVariants as operator
use Rattle.source_tree.specs.declared.until.Varying.{Varying}
use Rattle.source_tree.specs.Broken.{each}
use Rattle.source_tree.specs.NameRules.{number_rules_of, reference_rules, operand_rules}
use Rattle.source_tree.specs.MoveRules.{move_rules}
use Rattle.source_tree.specs.ArithmeticRules.{numeric_item, number_rules, updated_rules, operation_rules}
use Rattle.source_tree.specs.ConditionRules.{varying_rules}
use Rattle.source_tree.specs.Until.{vary_operation}
use Rattle.source_tree.specs.Places.{LocatedItem}
use Rattle.data_instructions.specs.declared.instruction.DataInstruction.TheVariants as i
use Rattle.data_instructions.specs.ArithmeticCodes.{discard}
use Rattle.code_image.specs.declared.code.Code.{Code}
use Rattle.condition_codegen.specs.Fragments.{Fragment, append, sequence}
use Rattle.condition_codegen.specs.DataCode.{work_fragment, works_fragment}
use Rattle.condition_codegen.specs.ArithmeticCode.{value_fragment, total_fragment, update_fragment, updates_fragment}
use Rattle.codegen.specs.UntilCode.{vary_on_fragment}
use Rattle.condition_codegen.proofs.Kept.{front_kept, back_kept, item_kept}
use Rattle.condition_codegen.proofs.Fragments.{joined_nothing}

both_same : (first second third fourth : Fragment) → ((b : Code) → first b ≡ third b)
    → ((b : Code) → second b ≡ fourth b) → (b : Code) → sequence first second b ≡ sequence third fourth b
both_same first second third fourth p q b =
    ap (λ (c : Code). append c (second (append b c))) (p b) ∙ ap (append (third b)) (q (append b (third b)))

-- the item to which BY is added
abbrev pub varied : Varying → Receiver
varied one = record { item = one.item; rounded = false }

module _ (items : List LocatedItem) (one : Varying) where
  abbrev adding : varying_rules items (Some one) ≡ [] → operation_rules items (vary_operation one) ≡ []
  adding e = back_kept (move_rules items one.from (one.item ∷ []) ++ number_rules items one.from)
      (operation_rules items (vary_operation one)) e

  pub from_kept : varying_rules items (Some one) ≡ [] → operand_rules items one.from ≡ []
  from_kept e =
      front_kept (operand_rules items one.from) _
      (front_kept (move_rules items one.from (one.item ∷ [])) (number_rules items one.from)
      (front_kept (move_rules items one.from (one.item ∷ []) ++ number_rules items one.from)
      (operation_rules items (vary_operation one)) e))

  pub by_kept : varying_rules items (Some one) ≡ [] → number_rules items one.by ≡ []
  by_kept e = front_kept (number_rules items one.by) []
      (front_kept (each (number_rules items) (one.by ∷ [])) (updated_rules items (varied one ∷ [])) (adding e))

  pub varied_kept : varying_rules items (Some one) ≡ [] → number_rules_of items one.item ≡ []
  varied_kept e =
      item_kept items numeric_item one.item
      (front_kept (reference_rules items numeric_item one.item) []
      (back_kept (each (number_rules items) (one.by ∷ [])) (updated_rules items (varied one ∷ [])) (adding e)))

  pub vary_on_is : (before : Code)
      → sequence (work_fragment i.ClearTruth) (sequence (value_fragment items one.by)
      (sequence (update_fragment items false operator.Add (varied one)) (works_fragment (discard ∷ [])))) before
      ≡ vary_on_fragment items (Some one) before
  vary_on_is before =
      let clear = work_fragment i.ClearTruth in
      let last = works_fragment (discard ∷ []) in
      let value = value_fragment items one.by in
      let total = total_fragment items (one.by ∷ []) in
      let update = update_fragment items false operator.Add (varied one) in
      let updates = updates_fragment items false operator.Add (varied one ∷ []) in
      both_same clear (sequence value (sequence update last)) clear (sequence total (sequence updates last)) (λ b. refl)
      (both_same value (sequence update last) total (sequence updates last) (λ b. sym (joined_nothing (value b)))
      (both_same update last updates last (λ b. sym (joined_nothing (update b))) (λ b. refl)))
      before
