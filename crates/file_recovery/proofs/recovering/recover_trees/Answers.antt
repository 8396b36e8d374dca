use Rattle.std.proofs.Common.{◌≡◌, ◌≤◌, inr, ℕ, Err, sym, ap, subst, ◌∙◌}
use Rattle.btree.proofs.Passing.{same_error}
use Rattle.pages.specs.Pages.{sectors_of}
use Rattle.volume_format.proofs.Faults.{device_back}
use Rattle.station.specs.Disk.{Disk}
use Rattle.station.specs.State.{State}
use Rattle.file_recovery.specs.Recovered.{RefusedTrees, IsReadCause, IsTreeCause}
use Rattle.file_bytes.specs.Stored.{files_of}
use Rattle.file_recovery.proofs.ReadTrees.{trees_there, no_trees, refused_of, cause_of, tree_cause_of}
use Rattle.file_recovery.proofs.Reopened.{synced_then_read, still_synced, still_opening, synced_at_most}
use Rattle.file_recovery.proofs.TwoStores.{ok_so, ok_anyway, err_anyway, trees_refused, trees_cause}
use Rattle.file_recovery.proofs.recovering.recover_trees.Goals as goal

pub returns-in-Err-clause-refused : goal.returns-in-Err-clause-refused
returns-in-Err-clause-refused g c = λ honest.
    let image = (g.D.Device.state c.args.device.now).disk.present in
    subst (RefusedTrees image) (sym c.to_fault.ensures)
    (refused_of image c.in-Err.error (c.in-Err.ensures.refused honest))

pub returns-in-Err-clause-opens : goal.returns-in-Err-clause-opens
returns-in-Err-clause-opens g c = λ honest files holds.
    subst IsReadCause (sym c.to_fault.ensures) (cause_of c.in-Err.error (c.in-Err.ensures.opens honest holds.0 holds.1))

pub returns-clause-only : goal.returns-clause-only
returns-clause-only g c =
    let opened = c.in-Ok.ensures in
    synced_then_read g.D.Device _ _ c.args.device.now c.open.new.device c.read_volume.new.device opened.honest
    opened.sectors opened.failures opened.state c.read_volume.ensures.only

pub returns-clause-holds : goal.returns-clause-holds
returns-clause-holds g c = λ honest.
    let before : Disk = (g.D.Device.state c.args.device.now).disk in
    let now : Disk = (g.D.Device.state c.open.new.device).disk in
    let agrees = c.in-Ok.ensures.agrees honest in
    let same : now.present ≡ before.present = ap (λ (s : State). s.disk.present) (c.in-Ok.ensures.state honest) in
    ok_so c.read_volume.result
    (λ files holds. trees_there c.in-Ok.pages before now agrees c.in-Ok.ensures.map same (files_of files.items) holds)
    (c.read_volume.ensures.holds (c.open.ensures.honest.0 honest) agrees)

pub returns-clause-refused : goal.returns-clause-refused
returns-clause-refused g c = λ honest.
    let before : Disk = (g.D.Device.state c.args.device.now).disk in
    let now : Disk = (g.D.Device.state c.open.new.device).disk in
    let agrees = c.in-Ok.ensures.agrees honest in
    let same : now.present ≡ before.present = ap (λ (s : State). s.disk.present) (c.in-Ok.ensures.state honest) in
    trees_refused before.present c.read_volume.result c.read_volume.ensures.cause
    (λ told. no_trees c.in-Ok.pages before now agrees c.in-Ok.ensures.map same
    (c.read_volume.ensures.damaged (c.open.ensures.honest.0 honest) agrees told))

pub returns-clause-opens : goal.returns-clause-opens
returns-clause-opens g c = λ honest files holds.
    let before : Disk = (g.D.Device.state c.args.device.now).disk in
    let now : Disk = (g.D.Device.state c.open.new.device).disk in
    let agrees = c.in-Ok.ensures.agrees honest in
    let same : now.present ≡ before.present = ap (λ (s : State). s.disk.present) (c.in-Ok.ensures.state honest) in
    trees_cause before.present c.read_volume.result c.read_volume.ensures.cause
    (λ told. no_trees c.in-Ok.pages before now agrees c.in-Ok.ensures.map same
    (c.read_volume.ensures.damaged (c.open.ensures.honest.0 honest) agrees told) files holds)

pub read_volume-requires-clause-sectors : goal.read_volume-requires-clause-sectors
read_volume-requires-clause-sectors g c =
    subst (λ (n : ℕ). sectors_of c.in-Ok.pages ≤ n) (sym c.open.ensures.sectors) c.in-Ok.ensures.ready.1

pub returns-in-Err-clause-only : goal.returns-in-Err-clause-only
returns-in-Err-clause-only g c =
    synced_at_most g.D.Device _ _ c.args.device.now c.open.new.device c.in-Err.ensures.honest c.in-Err.ensures.sectors
    c.in-Err.ensures.failures
    (λ is. ap Err (device_back c.in-Err.error (sym c.to_fault.ensures ∙ same_error is))) c.in-Err.ensures.unwritten

pub returns-in-Err-clause-foreign : goal.returns-in-Err-clause-foreign
returns-in-Err-clause-foreign g c = λ honest foreign.
    subst IsTreeCause (sym c.to_fault.ensures) (tree_cause_of c.in-Err.error (c.in-Err.ensures.foreign honest foreign))

pub returns-clause-moments : goal.returns-clause-moments
returns-clause-moments g c =
    still_opening g.D.Device _ c.args.device.now c.open.new.device c.read_volume.new.device c.in-Ok.ensures.honest
    c.in-Ok.ensures.moments c.read_volume.ensures.only

pub returns-clause-state : goal.returns-clause-state
returns-clause-state g c = λ honest. ok_anyway c.read_volume.result
    (still_synced g.D.Device _ c.args.device.now c.open.new.device c.read_volume.new.device c.in-Ok.ensures.honest
    c.in-Ok.ensures.state c.read_volume.ensures.only honest)

pub returns-clause-unwritten : goal.returns-clause-unwritten
returns-clause-unwritten g c = λ honest. err_anyway c.read_volume.result
    (inr (still_synced g.D.Device _ c.args.device.now c.open.new.device c.read_volume.new.device c.in-Ok.ensures.honest
    c.in-Ok.ensures.state c.read_volume.ensures.only honest))

pub returns-clause-foreign : goal.returns-clause-foreign
returns-clause-foreign g c = λ honest foreign. absurd (c.in-Ok.ensures.foreign honest foreign)
