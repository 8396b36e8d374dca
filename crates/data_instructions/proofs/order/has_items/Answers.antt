use Rattle.std.proofs.Common.{arith, refl}
use Rattle.std.proofs.lemmas.Option.{slice_get_read, slice_get_within}
use Rattle.data_instructions.specs.Tables.{IsDataItem}
use Rattle.data_instructions.proofs.Entries.{more_entries}
use Rattle.data_instructions.proofs.order.has_items.Goals as goal

pub loop-one-preserved : goal.loop-one-preserved
loop-one-preserved c =
    more_entries (IsDataItem c.args.areas.now) c.args.items.now c.loop-one.one-index c.one-item.result
    (slice_get_read c.args.items.now _ c.loop-one.one-index c.one-item.result refl (omega arith) c.one-item.is)
    (c.is_data_item.ensures.0 c.if-not-is_data_item.false) c.loop-one.invariant

pub returns : goal.returns
returns c = (
  λ t k one here. let within =
      slice_get_within c.args.items.now k one here in c.loop-one.invariant k one (omega (arith, within)) here,
  λ all. refl,
)
