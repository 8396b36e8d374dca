use Rattle.std.proofs.Common.{◌≡◌, ℕ, ◌≤◌, length, refl, arith}
use Rattle.std.specs.Ordering.{nat_cmp, ord_max}
use Rattle.std.proofs.lemmas.Grind.{common_steps}
use Rattle.std.proofs.lemmas.Option.{slice_get_read, slice_get_within}
use Rattle.data_instructions.specs.declared.tables.Inspection.{Inspection}
use Rattle.data_instructions.proofs.Entries.{more_entries}
use Rattle.data_machine.proofs.inspect_room.most_entries.Goals as goal

above : (a b m : ℕ) → m ≡ ord_max nat_cmp a b → (a ≤ m) × (b ≤ m)
above a b m is = (grind (arith, common_steps), grind (arith, common_steps))

pub loop-one-preserved : goal.loop-one-preserved
loop-one-preserved c =
    let tallying = above c.loop-one.most c.len.result c.max.result c.max.ensures in
    more_entries (λ (one : Inspection). (length one.tallying ≤ c.max-most.result)
    × (length one.replacing ≤ c.max-most.result)) c.args.inspections.now c.loop-one.one-index c.one-item.result
    (slice_get_read c.args.inspections.now _ c.loop-one.one-index c.one-item.result refl (omega arith) c.one-item.is) (
      omega (arith, c.len.ensures, tallying, c.max-most.ensures),
      omega (arith, c.len-in-loop-one.ensures, c.max-most.ensures),
    )
    (λ k one within here. let h = c.loop-one.invariant k one within here in
    (omega (arith, h.0, tallying, c.max-most.ensures), omega (arith, h.1, tallying, c.max-most.ensures)))

pub returns-clause-tallying : goal.returns-clause-tallying
returns-clause-tallying c = λ k one here. let within =
    slice_get_within c.args.inspections.now k one here in (c.loop-one.invariant k one (omega (arith, within)) here).0

pub returns-clause-replacing : goal.returns-clause-replacing
returns-clause-replacing c = λ k one here. let within =
    slice_get_within c.args.inspections.now k one here in (c.loop-one.invariant k one (omega (arith, within)) here).1
