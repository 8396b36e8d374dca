-- What is told of a volume that one of two stores wrote.
use Rattle.std.proofs.Common.{◌≡◌, ⊎_elim, List, refl, ap}
use Rattle.std.specs.Prelude.{Result, Ok, Err, IfOk, IfErr, OnOk, OnErr}
use Rattle.station.specs.Disk.{Sector}
use Rattle.pages.specs.Layout.{IsForeign}
use Rattle.records.specs.declared.fault.StoreFault.{StoreFault}
use Rattle.records.specs.declared.fault.StoreFault.TheVariants.{Device, Full, Damaged, Memory, Spent, Layout, Old}
use Rattle.records.specs.Files.{Files}
use Rattle.volume_format.specs.Volume.{Holds as HoldsTrees}
use Rattle.half_store.specs.Half.{Holds as HoldsHalf}
use Rattle.half_store.specs.Opened.{IsOpenRefusal as RefusedHalf}
use Rattle.file_recovery.specs.Faults.{IsReadFault}
use Rattle.file_recovery.specs.Recovered.{HoldsFiles, IsRecoveryRefusal, RefusedTrees, IsReadCause, IsTreeCause}
use Rattle.file_recovery.proofs.Foreign.{half_is_foreign, trees_are_own, never_both_foreign}
use Rattle.file_recovery.proofs.ReadTrees.{refused_read, cause_read}

pub ok_so : {T E : Type 0} {P Q : T → Type 0} (result : Result T E) → ((x : T) → P x → Q x) → IfOk result P
    → IfOk result Q
ok_so (Ok x) from so = from x so
ok_so (Err e) from so = tt

pub ok_anyway : {T E A : Type 0} (result : Result T E) → A → OnOk result A
ok_anyway (Ok x) holds = holds
ok_anyway (Err e) holds = tt

pub err_anyway : {T E A : Type 0} (result : Result T E) → A → OnErr result A
err_anyway (Ok x) holds = tt
err_anyway (Err e) holds = holds

-- of the halves, where the newest root isn't that of trees
module _ (image : List Sector) where
  half_fault : (fault : StoreFault) → IsForeign image → RefusedHalf image fault → IsRecoveryRefusal image fault
  half_fault Device foreign is = tt
  half_fault Full foreign is = is
  half_fault Damaged foreign is =
      λ files holds. ⊎_elim (λ trees. trees_are_own image files trees foreign) (λ half. is files half) holds
  half_fault Memory foreign is = tt
  half_fault Spent foreign is = is
  half_fault Layout foreign is = never_both_foreign image foreign is
  half_fault Old foreign is = is

module _ (image : List Sector) {T : Type 0} where
  -- of the trees
  pub trees_refused : (result : Result T StoreFault) → IfErr result IsReadFault
      → (result ≡ Err Damaged → (files : Files) → HoldsTrees image files → ⊥) → IfErr result (RefusedTrees image)
  trees_refused (Ok x) cause never = tt
  trees_refused (Err fault) cause never = refused_read image fault cause (λ is. never (ap Err is))

  pub trees_cause : (result : Result T StoreFault) → IfErr result IsReadFault → (result ≡ Err Damaged → ⊥)
      → IfErr result IsReadCause
  trees_cause (Ok x) cause never = tt
  trees_cause (Err fault) cause never = cause_read fault cause (λ is. never (ap Err is))

  pub half_refused : (result : Result T StoreFault) → IsForeign image → IfErr result (λ fault. RefusedHalf image fault)
      → IfErr result (IsRecoveryRefusal image)
  half_refused (Ok x) foreign is = tt
  half_refused (Err fault) foreign is = half_fault image fault foreign is

  pub half_cause : (result : Result T StoreFault) (files : Files) → IsForeign image
      → (HoldsHalf image files → IfErr result IsReadCause) → HoldsFiles image files → IfErr result IsReadCause
  half_cause result files foreign cause holds =
      ⊎_elim (λ trees. absurd (trees_are_own image files trees foreign)) cause holds

-- of the trees, where it isn't that the newest root is the other store's
module _ (image : List Sector) where
  pub either_refused : (fault : StoreFault) → (fault ≡ Layout → ⊥) → RefusedTrees image fault
      → (IsForeign image → IsTreeCause fault) → IsRecoveryRefusal image fault
  either_refused Device other is tells = tt
  either_refused Full other is tells = is
  either_refused Damaged other is tells = λ files holds. ⊎_elim (is files)
      (λ half. ⊎_elim (λ layout. other layout) (λ cause. ⊎_elim (λ never. cc) (λ never. cc) cause)
      (tells (half_is_foreign image files half))) holds
  either_refused Memory other is tells = tt
  either_refused Spent other is tells = is
  either_refused Layout other is tells = absurd (other refl)
  either_refused Old other is tells = is

  pub either_cause : (fault : StoreFault) (files : Files) → (fault ≡ Layout → ⊥)
      → (HoldsTrees image files → IsReadCause fault) → (IsForeign image → IsTreeCause fault) → HoldsFiles image files
      → IsReadCause fault
  either_cause fault files other cause tells holds =
      ⊎_elim cause
      (λ half. ⊎_elim (λ layout. absurd (other layout)) (λ is. is) (tells (half_is_foreign image files half))) holds
