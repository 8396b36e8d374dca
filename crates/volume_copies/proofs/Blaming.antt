-- What a copy says of the old volume and of the new one, where its faults are those of the new one.
use Rattle.std.proofs.Common.{◌≡◌, List, sym, ap, subst}
use Rattle.std.specs.Prelude.{Result, Ok, Err, IfErr}
use Rattle.station.specs.Disk.{Sector}
use Rattle.station.specs.declared.device.Device.{Ghosts as Devices}
use Rattle.records.specs.declared.fault.StoreFault.{StoreFault}
use Rattle.records.specs.declared.fault.StoreFault.TheVariants.{Device}
use Rattle.volume_copies.specs.Blamed.{blamed_on_new}
use Rattle.volume_copies.specs.Copied.{IsAbandoned, IsCopyRefusal, KeepsDevice, LeavesNew}
use Rattle.volume_copies.specs.Made.{IsUnmade}
use Rattle.volume_copies.specs.declared.copied.VolumeCopy.{VolumeCopy}
use Rattle.volume_copies.specs.declared.copied.VolumeCopy.TheVariants.{Done, Different}
use Rattle.volume_copies.specs.declared.copy_error.CopyError.{CopyError}
use Rattle.volume_copies.specs.declared.copy_error.CopyError.TheVariants.{Old, New}

-- a fault of the old volume is none of the new one
pub old_not_new : {T A : Type 0} {one two : StoreFault} → (◌≡◌ {A = Result T CopyError} (Err (Old one)) (Err (New two)))
    → A
old_not_new is = cc

pub same_old : {T : Type 0} {one two : StoreFault} → (◌≡◌ {A = Result T CopyError} (Err (Old one)) (Err (Old two)))
    → one ≡ two
same_old is = cc

same_new : {T : Type 0} {one two : StoreFault} → (◌≡◌ {A = Result T CopyError} (Err (New one)) (Err (New two)))
    → one ≡ two
same_new is = cc

ok_not_err : {T E A : Type 0} {x : T} {e : E} → (◌≡◌ {A = Result T E} (Ok x) (Err e)) → A
ok_not_err is = cc

module _ (copy : Result VolumeCopy StoreFault) {told : Result VolumeCopy CopyError} (is : told ≡ blamed_on_new copy)
  where
    pub never_old : {fault : StoreFault} {A : Type 0} → told ≡ Err (Old fault) → A
    never_old {fault} {A} old = by copy (subst (λ (r : Result VolumeCopy CopyError). r ≡ Err (Old fault)) is old)
      where
        by : (r : Result VolumeCopy StoreFault) → blamed_on_new r ≡ Err (Old fault) → A
        by (Ok x) e = ok_not_err e
        by (Err f) e = old_not_new (sym e)

    failed : told ≡ Err (New Device) → copy ≡ Err Device
    failed new = by copy (subst (λ (r : Result VolumeCopy CopyError). r ≡ Err (New Device)) is new)
      where
        by : (r : Result VolumeCopy StoreFault) → blamed_on_new r ≡ Err (New Device) → r ≡ Err Device
        by (Ok x) e = ok_not_err e
        by (Err f) e = ap Err (same_new e)

    pub told_refused : (image : List Sector) → IfErr told (IsCopyRefusal image)
    told_refused image = subst (λ (r : Result VolumeCopy CopyError). IfErr r (IsCopyRefusal image)) (sym is) (by copy)
      where
        by : (r : Result VolumeCopy StoreFault) → IfErr (blamed_on_new r) (IsCopyRefusal image)
        by (Ok x) = tt
        by (Err f) = tt

    pub told_unmade : IsAbandoned told → IsUnmade copy
    told_unmade left = by copy (subst IsAbandoned is left)
      where
        by : (r : Result VolumeCopy StoreFault) → IsAbandoned (blamed_on_new r) → IsUnmade r
        by (Ok Done) abandoned = abandoned
        by (Ok Different) abandoned = tt
        by (Err f) abandoned = abandoned

    pub told_leaves : {E : Type 0} (old new : E) → IfErr told (λ error. LeavesNew error old new)
    told_leaves {E} old new = subst (λ (r : Result VolumeCopy CopyError). IfErr r (λ error. LeavesNew error old new))
        (sym is) (by copy)
      where
        by : (r : Result VolumeCopy StoreFault) → IfErr (blamed_on_new r) (λ error. LeavesNew error old new)
        by (Ok x) = tt
        by (Err f) = tt

    pub told_different : told ≡ Ok Different → copy ≡ Ok Different
    told_different differs = by copy (subst (λ (r : Result VolumeCopy CopyError). r ≡ Ok Different) is differs)
      where
        by : (r : Result VolumeCopy StoreFault) → blamed_on_new r ≡ Ok Different → r ≡ Ok Different
        by (Ok Done) e = cc
        by (Ok Different) e = cc
        by (Err f) e = ok_not_err (sym e)

    pub told_keeps : {E : Type 0} (e : Devices E) (old made new : E) → new ≡ made
        → KeepsDevice e (copy ≡ Err Device) old made → KeepsDevice e (told ≡ Err (New Device)) old new
    told_keeps {E} e old made new same keeps =
        subst (λ (one : E). KeepsDevice e (told ≡ Err (New Device)) old one) (sym same) (record {
          honest = keeps.honest;
          sectors = keeps.sectors;
          failures = record {
            no_fewer = keeps.failures.no_fewer;
            failed = λ blamed. keeps.failures.failed (failed blamed);
          };
        })
