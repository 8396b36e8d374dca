-- A refusal of recovery, as a command reports it.
use Rattle.std.proofs.Common.{◌≡◌, ◌⊎◌, List, Result, Err, inl, inr, refl, sym, ap, subst, ◌∙◌}
use Rattle.station.specs.Calls.{OnlyWrites}
use Rattle.station.specs.Disk.{Sector}
use Rattle.station.specs.History.{Through}
use Rattle.station.specs.Opening.{IsOpening}
use Rattle.station.specs.State.{state_after_sync}
use Rattle.station.specs.declared.device.Device.{Ghosts as Devices}
use Rattle.records.specs.declared.fault.StoreFault.{StoreFault}
use Rattle.records.specs.declared.fault.StoreFault.TheVariants as store
use Rattle.records.specs.Files.{Files}
use Rattle.file_recovery.specs.Recovered.{HoldsFiles, IsRecoveryRefusal, IsReadCause}
use Rattle.volume_commands.specs.declared.volume_error.VolumeError.{VolumeError}
use Rattle.volume_commands.specs.declared.volume_error.VolumeError.TheVariants.{Device, Damaged}
use Rattle.volume_commands.specs.Faults.{error_of}
use Rattle.volume_commands.specs.Calls.{ReadsVolume, IsVolumeRefusal}

abbrev pub refused : (T E : Type 0) → E → Result T E
refused T E error = Err error

pub same_error : (A B : Type 0) (error other : VolumeError) → refused B VolumeError error ≡ refused B VolumeError other
    → refused A VolumeError error ≡ refused A VolumeError other
same_error A B error other e = let same : error ≡ other = cc in ap (refused A VolumeError) same

pub failed_device : (A B : Type 0) (fault : StoreFault)
    → refused B VolumeError (error_of fault) ≡ refused B VolumeError Device
    → refused A StoreFault fault ≡ refused A StoreFault store.Device
failed_device A B store.Device e = refl
failed_device A B store.Full e = cc
failed_device A B store.Damaged e = cc
failed_device A B store.Memory e = cc
failed_device A B store.Spent e = cc
failed_device A B store.Layout e = cc
failed_device A B store.Old e = cc

not_damage : (B : Type 0) (fault : StoreFault) → IsReadCause fault
    → refused B VolumeError (error_of fault) ≡ refused B VolumeError Damaged → ⊥
not_damage B fault (inl same) e =
    let k : refused B VolumeError Device ≡ refused B VolumeError Damaged =
    ap (λ (f : StoreFault). refused B VolumeError (error_of f)) (sym same) ∙ e in cc
not_damage B fault (inr same) e =
    let k : refused B VolumeError (error_of store.Memory) ≡ refused B VolumeError Damaged =
    ap (λ (f : StoreFault). refused B VolumeError (error_of f)) (sym same) ∙ e in cc

is_refusal : (image : List Sector) (fault : StoreFault) → IsRecoveryRefusal image fault
    → IsVolumeRefusal image (error_of fault)
is_refusal image store.Device so = tt
is_refusal image store.Full so = absurd so
is_refusal image store.Damaged so = so
is_refusal image store.Memory so = tt
is_refusal image store.Spent so = absurd so
is_refusal image store.Layout so = absurd so
is_refusal image store.Old so = absurd so

module _ {D : Type 0} (d : Devices D) where
  pub reads_of_fault : (A B : Type 0) (fault : StoreFault) (error : VolumeError) (old new : D) → error ≡ error_of fault
      → OnlyWrites d (refused A StoreFault fault ≡ refused A StoreFault store.Device) old new
      → (d.is_honest old → Through (d.history old) (d.history new) (d.state new) (IsOpening (d.state old)))
      → (d.is_honest old → (d.state new ≡ d.state old) ⊎ (d.state new ≡ state_after_sync (d.state old)))
      → (d.is_honest old → IsRecoveryRefusal (d.state old).disk.present fault)
      → (d.is_honest old → (files : Files) → HoldsFiles (d.state old).disk.present files → IsReadCause fault)
      → ReadsVolume d (refused B VolumeError error) old new
  reads_of_fault A B fault error old new is only moments unwritten why opens =
      let reads : ReadsVolume d (refused B VolumeError (error_of fault)) old new = record {
        only = record {
          honest = only.honest;
          sectors = only.sectors;
          failures = record {
            no_fewer = only.failures.no_fewer;
            failed = λ e. only.failures.failed (failed_device A B fault e);
          };
          console = only.console;
        };
        moments = moments;
        state = λ _. tt;
        unwritten = unwritten;
        refused = λ honest. is_refusal _ fault (why honest);
        opens = λ honest files holds e. not_damage B fault (opens honest files holds) e;
      } in
      subst (λ (x : VolumeError). ReadsVolume d (refused B VolumeError x) old new) (sym is) reads

  pub same_refusal : (A B : Type 0) (error : VolumeError) (old new : D)
      → ReadsVolume d (refused A VolumeError error) old new
      → ReadsVolume d (refused B VolumeError error) old new
  same_refusal A B error old new reads = record {
    only = record {
      honest = reads.only.honest;
      sectors = reads.only.sectors;
      failures = record {
        no_fewer = reads.only.failures.no_fewer;
        failed = λ e. reads.only.failures.failed (same_error A B error Device e);
      };
      console = reads.only.console;
    };
    moments = reads.moments;
    state = λ _. tt;
    unwritten = reads.unwritten;
    refused = reads.refused;
    opens = λ honest files holds e. reads.opens honest files holds (same_error A B error Damaged e);
  }

  -- a refusal that is passed on
  pub reads_refused : (A B : Type 0) (error other : VolumeError) (r : Result B VolumeError) (old new : D)
      → r ≡ Err other → other ≡ error
      → ReadsVolume d (refused A VolumeError error) old new → ReadsVolume d r old new
  reads_refused A B error other r old new is same reads =
      subst (λ (q : Result B VolumeError). ReadsVolume d q old new) (sym (is ∙ ap (refused B VolumeError) same))
      (same_refusal A B error old new reads)
