use Rattle.std.proofs.Common.{arith, refl}
use Rattle.std.proofs.lemmas.Option.{slice_get_read, slice_get_within}
use Rattle.data_instructions.specs.Tables.{IsInspection}
use Rattle.data_instructions.proofs.Entries.{more_entries}
use Rattle.data_instructions.proofs.inspections.has_inspections.Goals as goal

pub loop-one-preserved : goal.loop-one-preserved
loop-one-preserved c =
    more_entries IsInspection c.args.inspections.now c.loop-one.one-index c.one-item.result
    (slice_get_read c.args.inspections.now _ c.loop-one.one-index c.one-item.result refl (omega arith) c.one-item.is)
    (c.is_inspection.ensures.0 c.if-not-is_inspection.false) c.loop-one.invariant

pub returns : goal.returns
returns c = (
  λ t k one here. let within =
      slice_get_within c.args.inspections.now k one here in c.loop-one.invariant k one (omega (arith, within)) here,
  λ all. refl,
)
