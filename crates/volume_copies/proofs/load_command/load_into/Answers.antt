use Rattle.std.proofs.Common.{List, inl, inr, ⊎_elim, ap, refl, sym, subst}
use Rattle.station.specs.Disk.{Sector}
use Rattle.station.specs.State.{State}
use Rattle.station.proofs.Calls.{writes_then}
use Rattle.half_store.specs.Half.{Holds as HoldsHalf}
use Rattle.file_recovery.proofs.Foreign.{half_is_foreign}
use Rattle.file_recovery.proofs.Reopened.{same_present}
use Rattle.volume_copies.proofs.LoadsOfVolumes.{opened_loads, opened_later, unopened_loads, not_layout}
use Rattle.volume_copies.proofs.load_command.load_into.Goals as goal

-- an opening syncs, and the lines are written then
pub returns-in-Ok-clause-only : goal.returns-in-Ok-clause-only
returns-in-Ok-clause-only g c =
    let opened = c.in-Ok.ensures in
    writes_then g.D.Device _ _ _ _ _ _ (λ failed. inr failed)
    (record {
      honest = opened.honest;
      sectors = opened.sectors;
      failures = opened.failures;
      console = λ honest. record {
        events = ap (λ (s : State). s.events) (opened.state honest);
        lines = ap (λ (s : State). s.lines) (opened.state honest);
      };
    }) c.load_lines.ensures.only

pub returns-in-Ok-clause-loads : goal.returns-in-Ok-clause-loads
returns-in-Ok-clause-loads g c = λ honest files holds there.
    let d = g.D.Device in
    let old = c.args.device.now in
    let mid = c.open.new.device in
    let new = c.load_lines.new.device in
    ⊎_elim
    (λ trees.
    let loads = c.load_lines.ensures.loads files _
    (record { honest = c.in-Ok.ensures.honest.0 honest; there = c.in-Ok.ensures.stands honest files trees })
    (record { there = there; spec = refl }) c.first_number-first.ensures in
    opened_loads c.args.file.now.spec.name.items c.args.text.now files c.load_lines.result.rows _
    (λ image some held. inl held) c.load_lines.result.end (d.history old) (d.history mid) (d.history new) (d.state old)
    (d.state mid) (d.state new) (c.in-Ok.ensures.moments honest) loads)
    (λ half. absurd (c.in-Ok.ensures.foreign honest (half_is_foreign (d.state old).disk.present files half))) holds

pub returns-in-Layout-clause-loads : goal.returns-in-Layout-clause-loads
returns-in-Layout-clause-loads g c = λ honest files holds there.
    let d = g.D.Device in
    let old = c.args.device.now in
    let mid = c.open.new.device in
    let new = c.load_halves.new.device in
    let same = same_present (d.state old) (d.state mid) (c.in-Err.ensures.unwritten honest) in
    opened_later c.args.file.now.spec.name.items c.args.text.now files c.load_halves.result.rows
    c.load_halves.result.end (d.history old) (d.history mid) (d.history new) (d.state old) (d.state mid) (d.state new)
    (c.in-Err.ensures.moments honest) (c.in-Err.ensures.unwritten honest)
    (⊎_elim
    (λ trees. absurd (not_layout c.in-Layout.is (c.in-Err.ensures.opens honest files trees)))
    (λ half. c.load_halves.ensures.loads (c.in-Err.ensures.honest.0 honest) files
    (subst (λ (l : List Sector). HoldsHalf l files) (sym same) half) there c.first_number-first.ensures)
    holds)

pub returns-in_default-clause-loads : goal.returns-in_default-clause-loads
returns-in_default-clause-loads g c = λ honest files holds there.
    let d = g.D.Device in
    let old = c.args.device.now in
    let new = c.open.new.device in
    let of = c.in-Err.ensures in
    unopened_loads c.args.file.now.spec.name.items c.args.text.now files c.refused.result.rows c.refused.result.end
    c.in-Err.fault (d.history old) (d.history new) (d.state old) (d.state new) c.refused.ensures.end
    (⊎_elim (of.opens honest files)
    (λ half. ⊎_elim (λ layout. absurd (c.in_default.not-Layout layout)) (λ cause. cause)
    (of.foreign honest (half_is_foreign (d.state old).disk.present files half))) holds)
    c.refused.ensures.rows (of.moments honest) (of.unwritten honest)
