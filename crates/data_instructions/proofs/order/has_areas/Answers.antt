use Rattle.std.proofs.Common.{arith, refl, ◌<◌, ◌^◌, length, List, ℕ}
use Rattle.std.proofs.lemmas.Option.{slice_get_read, slice_get_within}
use Rattle.data_instructions.proofs.Entries.{more_entries}
use Rattle.data_instructions.proofs.order.has_areas.Goals as goal

pub loop-area-preserved : goal.loop-area-preserved
loop-area-preserved c =
    more_entries (λ (area : List ℕ). length area < 2 ^ 32) c.args.areas.now c.loop-area.area-index c.area-item.result
    (slice_get_read c.args.areas.now _ c.loop-area.area-index c.area-item.result refl (omega arith) c.area-item.is)
    (omega (arith, c.len.ensures, c.if-len.false)) c.loop-area.invariant

pub returns : goal.returns
returns c = (
  λ t k area here. let within =
      slice_get_within c.args.areas.now k area here in c.loop-area.invariant k area (omega (arith, within)) here,
  λ all. refl,
)

pub returns-then-len : goal.returns-then-len
returns-then-len c = (
  λ t. absurd cc,
  λ all. let short =
      all c.loop-area.area-index c.area-item.result (slice_get_read c.args.areas.now _ c.loop-area.area-index
      c.area-item.result refl (omega arith) c.area-item.is) in
      absurd (omega (arith, short, c.len.ensures, c.if-len.true)),
)
