use Rattle.std.proofs.Common.{◌≡◌, List, length, sym, subst, ◌∙◌, arith}
use Rattle.std.proofs.lemmas.Grind.{common_steps}
use Rattle.std.specs.Prelude.{◌-◌, Some, slice_get}
use Rattle.code_image.specs.declared.instruction.Instruction.{Instruction}
use Rattle.code_image.specs.declared.instruction.Instruction.TheVariants.{Stop}
use Rattle.code_image.specs.Demands.{AllLead}
use Rattle.code_image.proofs.Shapes.{shape_by_files}
use Rattle.code_image.proofs.verified.has_shape.Goals as goal

pub returns : goal.returns
returns c =
    let all = c.as_slice-instructions.ensures in
    shape_by_files c.args.code.now c.has_files.result
    (subst AllLead all (c.all_lead.ensures.0 c.if-not-all_lead.false))
    (c.all_start.ensures.0 c.if-not-all_start.false) (c.in_ok-has_order.ensures.0 c.if-not-branch.false)
    (subst (λ (is : List Instruction). slice_get is (length is - 1) ≡ Some Stop) all
    (c.stops_last.ensures.0 c.if-not-stops_last.false)) (c.in_ok-find_operands.ensures.0 c.if-not-branch-2.false)
    c.has_files.ensures

pub returns-then-not-branch-2 : goal.returns-then-not-branch-2
returns-then-not-branch-2 c = (
  λ t. absurd cc,
  λ shape. sym c.if-not-branch-2.true ∙ c.in_ok-find_operands.ensures.1 shape.finds,
)

pub returns-then-not-branch : goal.returns-then-not-branch
returns-then-not-branch c = (
  λ t. absurd cc,
  λ shape. sym c.if-not-branch.true ∙ c.in_ok-has_order.ensures.1 shape.order,
)

pub has_files-requires : goal.has_files-requires
has_files-requires c = grind (arith, common_steps)
