use Rattle.std.proofs.Common.{◌≡◌, List, inr, sym, subst, ◌∙◌}
use Rattle.station.specs.Disk.{Sector}
use Rattle.records.specs.declared.fault.StoreFault.{StoreFault}
use Rattle.records.specs.declared.fault.StoreFault.TheVariants.{Damaged}
use Rattle.file_bytes.specs.Stored.{files_of}
use Rattle.file_recovery.specs.Recovered.{HoldsFiles, IsRecoveryRefusal}
use Rattle.file_recovery.proofs.Reopened.{same_present}
use Rattle.volume_copies.proofs.LoadsOfVolumes.{volume_read, volume_of_opened, unopened_loads, never_found_damaged}
use Rattle.volume_copies.proofs.LoadsOfVolumes.{same_fault}
use Rattle.volume_copies.proofs.load_command.load_volume.Goals as goal

pub returns-in-Ok-clause-loads : goal.returns-in-Ok-clause-loads
returns-in-Ok-clause-loads g c = λ honest files holds.
    let d = g.D.Device in
    let old = c.args.device.now in
    let mid = c.recover.new.device in
    let new = c.load_file.new.device in
    let own = files_of c.deref.result.now in
    let image = (d.state old).disk.present in
    let held : HoldsFiles image own =
    subst (λ l. HoldsFiles image (files_of l)) (sym c.deref.ensures.value) (c.in-Ok.ensures.holds honest) in
    volume_read c.args.name.now c.args.text.now own files c.load_file.result.rows c.load_file.result.end (d.history old)
    (d.history mid) (d.history new) (d.state old) (d.state mid) (d.state new)
    (c.one_list_of_files.ensures image own files held holds) (c.in-Ok.ensures.moments honest)
    (c.in-Ok.ensures.state honest) held (c.load_file.ensures.loads (c.in-Ok.ensures.only.honest.0 honest))

pub returns-in-Ok-clause-damaged : goal.returns-in-Ok-clause-damaged
returns-in-Ok-clause-damaged g c = λ honest e.
    let d = g.D.Device in
    let old = c.args.device.now in
    let mid = c.recover.new.device in
    let new = c.load_file.new.device in
    let own = files_of c.deref.result.now in
    let image = (d.state old).disk.present in
    let held : HoldsFiles image own =
    subst (λ l. HoldsFiles image (files_of l)) (sym c.deref.ensures.value) (c.in-Ok.ensures.holds honest) in
    let same = same_present (d.state old) (d.state mid) (inr (c.in-Ok.ensures.state honest)) in
    let loads = c.load_file.ensures.loads (c.in-Ok.ensures.only.honest.0 honest)
    (subst (λ (l : List Sector). HoldsFiles l own) (sym same) held) in
    absurd (never_found_damaged c.args.name.now c.args.text.now own c.load_file.result.rows c.load_file.result.end
    (d.history mid) (d.history new) (d.state mid) (d.state new) loads e)

pub returns-in-Err-clause-loads : goal.returns-in-Err-clause-loads
returns-in-Err-clause-loads g c = λ honest files holds.
    let d = g.D.Device in
    let old = c.args.device.now in
    let new = c.recover.new.device in
    let name = c.args.name.now in
    let text = c.args.text.now in
    volume_of_opened name text files c.refused.result.rows c.refused.result.end (d.history old) (d.history new)
    (d.state old) (d.state new)
    (unopened_loads name text files c.refused.result.rows c.refused.result.end c.in-Err.fault (d.history old)
    (d.history new) (d.state old) (d.state new) c.refused.ensures.end (c.in-Err.ensures.opens honest files holds)
    c.refused.ensures.rows (c.in-Err.ensures.moments honest) (c.in-Err.ensures.unwritten honest))

pub returns-in-Err-clause-damaged : goal.returns-in-Err-clause-damaged
returns-in-Err-clause-damaged g c = λ honest e.
    let image = (g.D.Device.state c.args.device.now).disk.present in
    let is : c.in-Err.fault ≡ Damaged = same_fault _ _ (sym c.refused.ensures.end ∙ e) in (
      subst (λ (f : StoreFault). IsRecoveryRefusal image f) is (c.in-Err.ensures.refused honest),
      c.in-Err.ensures.unwritten honest,
    )
