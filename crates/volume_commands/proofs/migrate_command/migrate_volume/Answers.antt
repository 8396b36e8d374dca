use Rattle.std.proofs.Common.{◌≡◌, inr, ⊎_elim, List, ap, sym, subst, ◌∙◌}
use Rattle.std.proofs.lemmas.Result.{on_ok_weaker}
use Rattle.station.specs.Disk.{Sector}
use Rattle.station.specs.State.{State, state_after_sync}
use Rattle.pages.specs.Layout.{IsForeign}
use Rattle.half_store.specs.Half.{Holds as HoldsHalf}
use Rattle.records.specs.Files.{Files}
use Rattle.records.specs.declared.fault.StoreFault.TheVariants.{Layout}
use Rattle.volume_format.specs.Volume.{Holds}
use Rattle.file_bytes.specs.Stored.{files_of}
use Rattle.file_recovery.proofs.Foreign.{half_is_foreign}
use Rattle.volume_commands.specs.Migrate.{present_on, HasMigrated}
use Rattle.volume_commands.proofs.Migrating.{never_ok, recovered_only, recovered_then, recovery_refused}
use Rattle.volume_commands.proofs.Migrating.{refused_as_damaged}
use Rattle.volume_commands.proofs.migrate_command.migrate_volume.Given.{Over}
use Rattle.volume_commands.proofs.migrate_command.migrate_volume.Goals as goal
use Rattle.volume_commands.proofs.migrate_command.migrate_volume.Goals.{After-migrate}

pub returns-in-Err-clause-moments : goal.returns-in-Err-clause-moments
returns-in-Err-clause-moments g c = λ honest files holds.
    recovered_only _ _ _ _ files (c.in-Err.ensures.moments honest)

pub returns-in-Err-clause-damaged : goal.returns-in-Err-clause-damaged
returns-in-Err-clause-damaged g c = λ honest none. (
  refused_as_damaged (present_on g.D.Device c.args.device.now) c.in-Err.fault (c.in-Err.ensures.refused honest),
  c.in-Err.ensures.unwritten honest,
)

pub returns-in-Err-clause-halves : goal.returns-in-Err-clause-halves
returns-in-Err-clause-halves g c = λ honest files half.
    (inr (c.in-Err.ensures.opens honest files (inr half)), c.in-Err.ensures.unwritten honest)

pub returns-in-Err-clause-refused : goal.returns-in-Err-clause-refused
returns-in-Err-clause-refused g c = λ honest.
    recovery_refused (present_on g.D.Device c.args.device.now) c.in-Err.fault (c.in-Err.ensures.refused honest)

-- the image that was recovered is the one that is migrated
same : (g : Over) (c : After-migrate g) → g.D.Device.is_honest c.args.device.now
    → present_on g.D.Device c.args.device.now ≡ present_on g.D.Device c.recover.new.device
same g c honest = sym (ap (λ (s : State). s.disk.present) (c.in-Ok.ensures.state honest))

-- it is the other store's if it has files in halves
foreign : (g : Over) (c : After-migrate g) → g.D.Device.is_honest c.args.device.now → (files : Files)
    → HoldsHalf (present_on g.D.Device c.args.device.now) files
    → IsForeign (present_on g.D.Device c.recover.new.device)
foreign g c honest files half =
    subst (λ (l : List Sector). IsForeign l) (same g c honest)
    (half_is_foreign (present_on g.D.Device c.args.device.now) files half)

pub returns-clause-moments : goal.returns-clause-moments
returns-clause-moments g c = λ honest files holds.
    let now = c.in-Ok.ensures.only.honest.0 honest in
    recovered_then _ _ _ _ _ _ files (c.in-Ok.ensures.moments honest)
    (⊎_elim
    (λ trees. c.migrate.ensures.moments now files (subst (λ (l : List Sector). Holds l files) (same g c honest) trees))
    (λ half. recovered_only _ _ _ _ files (c.migrate.ensures.opening now (foreign g c honest files half))) holds)

pub returns-clause-migrated : goal.returns-clause-migrated
returns-clause-migrated g c = λ honest.
    let now = c.in-Ok.ensures.only.honest.0 honest in
    let files = files_of c.in-Ok.files.items in
    ⊎_elim
    (λ trees. on_ok_weaker c.migrate.result (λ each. (files, trees, each))
    (c.migrate.ensures.migrated now files (subst (λ (l : List Sector). Holds l files) (same g c honest) trees)))
    (λ half. never_ok Layout c.migrate.result (HasMigrated g.D.Device c.args.device.now c.migrate.new.device)
    (c.migrate.ensures.foreign now (foreign g c honest files half)).0)
    (c.in-Ok.ensures.holds honest)

pub returns-clause-damaged : goal.returns-clause-damaged
returns-clause-damaged g c = λ honest none.
    absurd (none (files_of c.in-Ok.files.items) (c.in-Ok.ensures.holds honest))

pub returns-clause-halves : goal.returns-clause-halves
returns-clause-halves g c = λ honest files half.
    let synced = c.in-Ok.ensures.state honest in
    let told = c.migrate.ensures.foreign (c.in-Ok.ensures.only.honest.0 honest) (foreign g c honest files half) in
    (told.0, inr (⊎_elim (λ still. still ∙ synced) (λ again. again ∙ ap state_after_sync synced) told.1))
