use Rattle.std.proofs.Common.{inr, refl, subst}
use Rattle.records.specs.Files.{Files}
use Rattle.half_store.specs.Half.{Holds as HoldsHalf}
use Rattle.half_store.specs.Stands.{Represents as RepresentsHalf}
use Rattle.volume_copies.proofs.LoadsOfVolumes.{opened_loads, unopened_loads}
use Rattle.volume_copies.proofs.load_command.load_halves.Goals as goal

pub returns-in-Ok-clause-loads : goal.returns-in-Ok-clause-loads
returns-in-Ok-clause-loads g c = λ honest files holds there next.
    let d = g.D.Device in
    let old = c.args.device.now in
    let mid = c.open.new.device in
    let new = c.load_lines.new.device in
    let same = c.one_list_of_files.ensures (d.state old).disk.present _ files (c.in-Ok.ensures.holds honest) holds in
    let stands = subst (λ (l : Files). RepresentsHalf c.in-Ok.store (d.state mid).disk l) same
    (c.in-Ok.ensures.stands honest) in
    let loads = c.load_lines.ensures.loads files _
    (record { honest = c.in-Ok.ensures.only.honest.0 honest; there = stands })
    (record { there = there; spec = refl }) next in
    opened_loads c.args.file.now.spec.name.items c.args.text.now files c.load_lines.result.rows HoldsHalf
    (λ image some half. inr half) c.load_lines.result.end (d.history old) (d.history mid) (d.history new) (d.state old)
    (d.state mid) (d.state new) (c.in-Ok.ensures.moments honest) loads

pub returns-in-Err-clause-loads : goal.returns-in-Err-clause-loads
returns-in-Err-clause-loads g c = λ honest files holds there next.
    let d = g.D.Device in
    let old = c.args.device.now in
    let new = c.open.new.device in
    unopened_loads c.args.file.now.spec.name.items c.args.text.now files c.refused.result.rows c.refused.result.end
    c.in-Err.fault (d.history old) (d.history new) (d.state old) (d.state new) c.refused.ensures.end
    (c.in-Err.ensures.opens honest files holds) c.refused.ensures.rows (c.in-Err.ensures.moments honest)
    (c.in-Err.ensures.unwritten honest)
