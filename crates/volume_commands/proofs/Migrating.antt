-- A volume is migrated after its files were recovered.
use Rattle.std.proofs.Common.{◌≡◌, ◌⊎◌, inl, inr, List, refl, ◌∙◌}
use Rattle.std.specs.Prelude.{Result, Ok, Err, OnOk}
use Rattle.station.specs.Disk.{Sector}
use Rattle.station.specs.History.{Through}
use Rattle.station.specs.Opening.{IsOpening}
use Rattle.station.specs.State.{State}
use Rattle.station.proofs.Spans.{goes, weakens}
use Rattle.records.specs.declared.fault.StoreFault.{StoreFault}
use Rattle.records.specs.declared.fault.StoreFault.TheVariants.{Device, Full, Damaged, Memory, Spent, Layout, Old}
use Rattle.records.specs.Files.{Files}
use Rattle.alternate_keys.specs.Migrated.{IsMigrating, IsMigrateRefusal}
use Rattle.alternate_keys.specs.Opened.{FailsWith, IsReadCause}
use Rattle.file_recovery.specs.Recovered.{IsRecoveryRefusal}

-- what a first sync may leave was possible before
opening_migrates : (old state : State) (files : Files) → IsOpening old state → IsMigrating old files state
opening_migrates old state files opening = record {
  events = opening.events;
  images = λ image crash. inl (opening.images image crash);
}

-- what a migration leaves later was possible before the sync, or holds the files
migrates_since : (old mid state : State) (files : Files) → IsOpening old mid → IsMigrating mid files state
    → IsMigrating old files state
migrates_since old mid state files opening migrating = record {
  events = migrating.events ∙ opening.events;
  images = λ image crash. elim (migrating.images image crash) [
    | inl was ↦ inl (opening.images image was)
    | inr holds ↦ inr holds
  ];
}

pub recovered_only : (a b : List State) (old mid : State) (files : Files) → Through a b mid (IsOpening old)
    → Through a b mid (IsMigrating old files)
recovered_only a b old mid files =
    weakens a b mid (IsOpening old) (IsMigrating old files) (λ state. opening_migrates old state files)

pub recovered_then : (a b c : List State) (old mid new : State) (files : Files) → Through a b mid (IsOpening old)
    → Through b c new (IsMigrating mid files) → Through a c new (IsMigrating old files)
recovered_then a b c old mid new files first second =
    goes a b c mid new (IsMigrating old files) (recovered_only a b old mid files first)
    (weakens b c new (IsMigrating mid files) (IsMigrating old files)
    (λ state. migrates_since old mid state files first.now) second)

-- A refusal of recovery tells no more than one of a migration does.
pub recovery_refused : (image : List Sector) (fault : StoreFault) → IsRecoveryRefusal image fault
    → IsMigrateRefusal image fault
recovery_refused image Device why = tt
recovery_refused image Full why = absurd why
recovery_refused image Damaged why = λ files holds. why files (inl holds)
recovery_refused image Memory why = tt
recovery_refused image Spent why = absurd why
recovery_refused image Layout why = absurd why
recovery_refused image Old why = absurd why

-- Recovery refuses an image as damaged, unless the device or memory failed.
pub refused_as_damaged : (image : List Sector) (fault : StoreFault) → IsRecoveryRefusal image fault
    → (fault ≡ Damaged) ⊎ IsReadCause fault
refused_as_damaged image Device why = inr (inl refl)
refused_as_damaged image Full why = absurd why
refused_as_damaged image Damaged why = inl refl
refused_as_damaged image Memory why = inr (inr refl)
refused_as_damaged image Spent why = absurd why
refused_as_damaged image Layout why = absurd why
refused_as_damaged image Old why = absurd why

-- A call that fails with one fault doesn't succeed.
pub never_ok : {T : Type 0} (fault : StoreFault) (result : Result T StoreFault) (G : Type 0) → FailsWith fault result
    → OnOk result G
never_ok fault (Ok x) G fails = absurd fails
never_ok fault (Err e) G fails = tt
