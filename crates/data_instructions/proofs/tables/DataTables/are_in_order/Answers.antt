use Rattle.std.proofs.Common.{sym, ◌∙◌, arith}
use Rattle.std.proofs.lemmas.Grind.{common_steps}
use Rattle.data_instructions.proofs.Entries.{in_order, items_in_order, senders_in_order, inspections_in_order}
use Rattle.data_instructions.proofs.tables.DataTables.are_in_order.Goals as goal

pub returns-then-not-has_items : goal.returns-then-not-has_items
returns-then-not-has_items c = (
  λ t. absurd cc,
  λ order. sym c.if-not-has_items.true ∙ c.has_items.ensures.1 (items_in_order c.args.self.now c.as_slice-2.result.now
      c.as_slice-3.result.now c.as_slice-2.ensures c.as_slice-3.ensures order),
)

pub returns-then-not-has_senders : goal.returns-then-not-has_senders
returns-then-not-has_senders c = (
  λ t. absurd cc,
  λ order. sym c.if-not-has_senders.true
      ∙ c.has_senders.ensures.1 (senders_in_order c.args.self.now c.as_slice-4.result.now c.as_slice-4.ensures order),
)

pub returns : goal.returns
returns c = (
  λ t. in_order c.args.self.now c.as_slice.result.now c.as_slice-2.result.now c.as_slice-3.result.now
      c.as_slice-4.result.now c.as_slice-5.result.now c.as_slice.ensures c.as_slice-2.ensures c.as_slice-3.ensures
      c.as_slice-4.ensures c.as_slice-5.ensures
      (c.has_areas.ensures.0 c.if-not-has_areas.false) (c.has_items.ensures.0 c.if-not-has_items.false)
      (c.has_senders.ensures.0 c.if-not-has_senders.false) (c.has_inspections.ensures.0 t),
  λ order. c.has_inspections.ensures.1
      (inspections_in_order c.args.self.now c.as_slice-5.result.now c.as_slice-5.ensures order),
)

pub returns-then-not-has_areas : goal.returns-then-not-has_areas
returns-then-not-has_areas c = grind (arith, common_steps)
