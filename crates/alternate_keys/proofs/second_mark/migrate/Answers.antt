use Rattle.std.proofs.Common.{◌≡◌, ◌⊎◌, inr, Err, List, refl, sym, ap, subst, ◌∙◌, arith}
use Rattle.std.specs.Prelude.{IfErr, OnErr}
use Rattle.std.proofs.lemmas.Result.{on_ok_weaker}
use Rattle.station.specs.Disk.{Sector}
use Rattle.station.specs.History.{Through}
use Rattle.station.specs.State.{State, state_after_sync}
use Rattle.station.proofs.Calls.{blames_one}
use Rattle.station.proofs.Spans.{goes}
use Rattle.pages.specs.Image.{Volume}
use Rattle.pages.specs.Layout.{version_of}
use Rattle.pages.specs.Pages.{mark_of, IsFull}
use Rattle.pages.specs.declared.error.PagesError.TheVariants as pages
use Rattle.records.specs.declared.fault.StoreFault.{StoreFault}
use Rattle.records.specs.declared.fault.StoreFault.TheVariants.{Device, Full, Layout}
use Rattle.records.specs.Files.{Files}
use Rattle.volume_format.specs.Volume.{Holds}
use Rattle.volume_format.proofs.Faults.{device_back}
use Rattle.alternate_keys.specs.Migrated.{HasMark, IsMigrateRefusal, IsMigrating, LacksRoomToMigrate}
use Rattle.alternate_keys.specs.Opened.{IsReadCause}
use Rattle.alternate_keys.specs.Settles.{IsChanged}
use Rattle.alternate_keys.specs.Stands.{Represents}
use Rattle.alternate_keys.proofs.Faults.{refused_by_call}
use Rattle.alternate_keys.proofs.OpenedStore.{tells_of}
use Rattle.alternate_keys.proofs.Passing.{never_ok, on_refused, passed, same_error}
use Rattle.alternate_keys.proofs.Remaking.{commit_through, lacks_commit, lacks_pages, mark_there, migrated_image}
use Rattle.alternate_keys.proofs.Remaking.{migrating, never_spent_then, not_second, open_not_full, open_refused}
use Rattle.alternate_keys.proofs.Remaking.{opened_stands}
use Rattle.alternate_keys.proofs.Remaking.{opening_through, reads_through, refused_by}
use Rattle.alternate_keys.proofs.Still.{same_volume}
use Rattle.alternate_keys.proofs.second_mark.migrate.Given.{Over}
use Rattle.alternate_keys.proofs.second_mark.migrate.Goals as goal
use Rattle.alternate_keys.proofs.second_mark.migrate.Goals.{After-remake_catalog, After-commit_pages}

pub returns-in-Err-clause-moments : goal.returns-in-Err-clause-moments
returns-in-Err-clause-moments g c = λ honest files holds.
    opening_through _ _ _ _ files (c.in-Err.ensures.moments honest)

pub returns-in-Err-clause-refused : goal.returns-in-Err-clause-refused
returns-in-Err-clause-refused g c = λ honest.
    let present : List Sector = (g.D.Device.state c.args.device.now).disk.present in
    subst (λ (f : StoreFault). IsMigrateRefusal present f) (sym c.to_fault.ensures)
    (open_refused present c.in-Err.error (c.in-Err.ensures.refused honest))

pub returns-in-Err-clause-unwritten : goal.returns-in-Err-clause-unwritten
returns-in-Err-clause-unwritten g c = λ is honest.
    let told : c.to_fault.result ≡ Full = cc in
    absurd (open_not_full _ c.in-Err.error (c.in-Err.ensures.refused honest) (sym c.to_fault.ensures ∙ told))

pub returns-in-Err-clause-failures : goal.returns-in-Err-clause-failures
returns-in-Err-clause-failures g c =
    let failures = c.in-Err.ensures.failures in
    record {
      no_fewer = failures.no_fewer;
      failed = λ is. failures.failed (ap Err (device_back c.in-Err.error (sym c.to_fault.ensures ∙ same_error is)));
    }

pub returns-in-Err-clause-migrated : goal.returns-in-Err-clause-migrated
returns-in-Err-clause-migrated g c = λ honest files holds. tt

pub returns-in-Err-clause-idle : goal.returns-in-Err-clause-idle
returns-in-Err-clause-idle g c = λ honest mark. tt

pub returns-in-Err-clause-unchanged : goal.returns-in-Err-clause-unchanged
returns-in-Err-clause-unchanged g c = λ honest mark. c.in-Err.ensures.unwritten honest

pub returns-in-Err-clause-foreign : goal.returns-in-Err-clause-foreign
returns-in-Err-clause-foreign g c = λ honest foreign. (
  subst (λ (f : StoreFault). (f ≡ Layout) ⊎ IsReadCause f) (sym c.to_fault.ensures)
      (tells_of c.in-Err.error (c.in-Err.ensures.foreign honest foreign)),
  c.in-Err.ensures.unwritten honest,
)

pub returns-in-Err-clause-opening : goal.returns-in-Err-clause-opening
returns-in-Err-clause-opening g c = λ honest foreign. c.in-Err.ensures.moments honest

pub returns-in-Second-clause-moments : goal.returns-in-Second-clause-moments
returns-in-Second-clause-moments g c = λ honest files holds.
    opening_through _ _ _ _ files (c.in-Ok.ensures.moments honest)

pub returns-in-Second-clause-migrated : goal.returns-in-Second-clause-migrated
returns-in-Second-clause-migrated g c = λ honest files holds.
    let mark : mark_of c.in-Ok.pages ≡ 1 = sym c.mark.ensures.is ∙ ap version_of c.in-Second.is in
    let new = g.D.Device.state c.open.new.device in
    migrated_image c.in-Ok.pages new.disk files mark
    (opened_stands c.in-Ok.pages (g.D.Device.state c.args.device.now) new files (c.in-Ok.ensures.state honest)
    (c.in-Ok.ensures.agrees honest) c.in-Ok.ensures.map c.in-Ok.ensures.ready.2 holds)

pub returns-in-Second-clause-failures : goal.returns-in-Second-clause-failures
returns-in-Second-clause-failures g c =
    record { no_fewer = c.in-Ok.ensures.failures.no_fewer; failed = λ is. never_ok is }

pub returns-in-Second-clause-idle : goal.returns-in-Second-clause-idle
returns-in-Second-clause-idle g c = λ honest mark. c.in-Ok.ensures.state honest

pub returns-in-Second-clause-unchanged : goal.returns-in-Second-clause-unchanged
returns-in-Second-clause-unchanged g c = λ honest mark. tt

pub returns-in-Second-clause-unwritten : goal.returns-in-Second-clause-unwritten
returns-in-Second-clause-unwritten g c = λ is honest. never_ok is

pub returns-in-Second-clause-foreign : goal.returns-in-Second-clause-foreign
returns-in-Second-clause-foreign g c = λ honest foreign. absurd (c.in-Ok.ensures.foreign honest foreign)

pub returns-in-Second-clause-opening : goal.returns-in-Second-clause-opening
returns-in-Second-clause-opening g c = λ honest foreign. c.in-Ok.ensures.moments honest

pub returns-in-Second-clause-refused : goal.returns-in-Second-clause-refused
returns-in-Second-clause-refused g c = λ honest. tt

pub remake_catalog-requires-clause-sectors : goal.remake_catalog-requires-clause-sectors
remake_catalog-requires-clause-sectors g c =
    let few = c.in-Ok.ensures.ready.1 in
    let same = c.in-Ok.ensures.sectors in
    omega (arith, few, same)

pub remake_catalog-requires-clause-mark : goal.remake_catalog-requires-clause-mark
remake_catalog-requires-clause-mark g c =
    sym c.mark.ensures.is ∙ not_second c.mark.result c.in_default.not-Second

pub set_mark-requires : goal.set_mark-requires
set_mark-requires g c =
    let mark = c.remake_catalog.ensures.prepares.committed.mark in
    let first = sym c.mark.ensures.is ∙ not_second c.mark.result c.in_default.not-Second in
    omega (arith, mark, first)

pub commit_pages-requires-clause-unspent : goal.commit_pages-requires-clause-unspent
commit_pages-requires-clause-unspent g c =
    c.set_mark.ensures.spent ∙ c.remake_catalog.ensures.prepares.committed.spent ∙ c.in-Ok.ensures.ready.0

pub commit_pages-requires-clause-sectors : goal.commit_pages-requires-clause-sectors
commit_pages-requires-clause-sectors g c =
    let few = c.in-Ok.ensures.ready.1 in
    let same = c.in-Ok.ensures.sectors in
    let now = c.remake_catalog.ensures.prepares.only.sectors in
    let set = ap (λ (v : Volume). v.root.sectors) (c.set_mark.ensures.committed
    ∙ same_volume c.in-Ok.pages c.remake_catalog.new.pages c.remake_catalog.ensures.prepares.committed) in
    omega (arith, few, same, now, set)

-- the pages that were opened have the files of the disk
opened : (g : Over) (c : After-remake_catalog g) → g.D.Device.is_honest c.args.device.now → (files : Files)
    → Holds (g.D.Device.state c.args.device.now).disk.present files
    → Represents c.in-Ok.pages (g.D.Device.state c.open.new.device).disk files
opened g c honest files holds =
    opened_stands c.in-Ok.pages (g.D.Device.state c.args.device.now) (g.D.Device.state c.open.new.device) files
    (c.in-Ok.ensures.state honest) (c.in-Ok.ensures.agrees honest) c.in-Ok.ensures.map c.in-Ok.ensures.ready.2 holds

-- the volume has the first mark
first : (g : Over) (c : After-remake_catalog g) → mark_of c.in-Ok.pages ≡ 0
first g c =
    sym c.mark.ensures.is ∙ not_second c.mark.result c.in_default.not-Second

-- what a crash leaves until the catalog is made anew
before : (g : Over) (c : After-remake_catalog g) → g.D.Device.is_honest c.args.device.now → (files : Files)
    → Through (g.D.Device.history c.args.device.now) (g.D.Device.history c.remake_catalog.new.device)
    (g.D.Device.state c.remake_catalog.new.device) (IsMigrating (g.D.Device.state c.args.device.now) files)
before g c honest files =
    reads_through g.D.Device (c.remake_catalog.result ≡ Err Device) (g.D.Device.history c.args.device.now)
    c.open.new.device c.remake_catalog.new.device (IsMigrating (g.D.Device.state c.args.device.now) files)
    (c.in-Ok.ensures.honest.0 honest) c.remake_catalog.ensures.prepares.only
    (opening_through _ _ _ _ files (c.in-Ok.ensures.moments honest))

pub returns-in_err-remake_catalog-clause-moments : goal.returns-in_err-remake_catalog-clause-moments
returns-in_err-remake_catalog-clause-moments g c = λ honest files holds.
    let at = goal.at.returns-in_err-remake_catalog-clause-moments g c in
    before g at.After-remake_catalog honest files

pub returns-in_err-remake_catalog-clause-unwritten : goal.returns-in_err-remake_catalog-clause-unwritten
returns-in_err-remake_catalog-clause-unwritten g c = λ is honest.
    c.remake_catalog.ensures.prepares.only.state (c.in-Ok.ensures.honest.0 honest) ∙ c.in-Ok.ensures.state honest

pub returns-in_err-remake_catalog-clause-unchanged : goal.returns-in_err-remake_catalog-clause-unchanged
returns-in_err-remake_catalog-clause-unchanged g c = λ honest mark.
    let old = g.D.Device.state c.args.device.now in
    let new = g.D.Device.state c.remake_catalog.new.device in
    passed c.from_residual.result c.in_err-remake_catalog.field-0.0 c.from_residual.ensures.1
    (λ r. OnErr r ((new ≡ old) ⊎ (new ≡ state_after_sync old)))
    (inr (c.remake_catalog.ensures.prepares.only.state (c.in-Ok.ensures.honest.0 honest)
    ∙ c.in-Ok.ensures.state honest))

-- why the catalog isn't made anew
refused_here : (g : Over) (c : After-remake_catalog g) → g.D.Device.is_honest c.args.device.now
    → IfErr c.remake_catalog.result (IsMigrateRefusal (g.D.Device.state c.args.device.now).disk.present)
refused_here g c honest =
    let agrees = c.in-Ok.ensures.agrees honest in
    refused_by c.remake_catalog.result (g.D.Device.state c.args.device.now).disk.present c.remake_catalog.ensures.cause
    (λ is. lacks_pages c.in-Ok.pages (g.D.Device.state c.open.new.device).disk
    (g.D.Device.state c.args.device.now).disk.present
    (ap (λ (s : State). s.disk.present) (c.in-Ok.ensures.state honest)) agrees c.in-Ok.ensures.map (first g c)
    c.in-Ok.ensures.filled (c.remake_catalog.ensures.room is))
    (λ is files holds. c.remake_catalog.ensures.damaged (c.in-Ok.ensures.honest.0 honest) agrees files
    (opened g c honest files holds).holds is)
    (λ is. never_spent_then c.in-Ok.pages c.in-Ok.pages c.in-Ok.pages c.in-Ok.ensures.ready.0
    (record { volume = refl; mark = refl; spent = refl }) refl (c.remake_catalog.ensures.spent is))

pub returns-in_err-remake_catalog-clause-refused : goal.returns-in_err-remake_catalog-clause-refused
returns-in_err-remake_catalog-clause-refused g c = λ honest.
    let at = goal.at.returns-in_err-remake_catalog-clause-refused g c in
    let present : List Sector = (g.D.Device.state c.args.device.now).disk.present in
    passed c.from_residual.result c.in_err-remake_catalog.field-0.0 c.from_residual.ensures.1
    (λ r. IfErr r (IsMigrateRefusal present))
    (subst (λ r. IfErr r (IsMigrateRefusal present)) c.in_err-remake_catalog.was
    (refused_here g at.After-remake_catalog honest))

pub returns-in_err-remake_catalog-clause-honest : goal.returns-in_err-remake_catalog-clause-honest
returns-in_err-remake_catalog-clause-honest g c =
    let only = c.remake_catalog.ensures.prepares.only in
    (λ h. only.honest.0 (c.in-Ok.ensures.honest.0 h), λ h. c.in-Ok.ensures.honest.1 (only.honest.1 h))

pub returns-in_err-remake_catalog-clause-sectors : goal.returns-in_err-remake_catalog-clause-sectors
returns-in_err-remake_catalog-clause-sectors g c =
    c.remake_catalog.ensures.prepares.only.sectors ∙ c.in-Ok.ensures.sectors

pub returns-in_err-remake_catalog-clause-failures : goal.returns-in_err-remake_catalog-clause-failures
returns-in_err-remake_catalog-clause-failures g c =
    blames_one (c.open.result ≡ Err pages.Device) (c.remake_catalog.result ≡ Err Device) _ _ _ _
    (λ is. inr (refused_by_call c.in_err-remake_catalog.was c.from_residual.ensures.1 is)) c.open.ensures.failures
    c.remake_catalog.ensures.prepares.only.failures

pub returns-in_err-remake_catalog-clause-migrated : goal.returns-in_err-remake_catalog-clause-migrated
returns-in_err-remake_catalog-clause-migrated g c = λ honest files holds.
    on_refused c.from_residual.result c.in_err-remake_catalog.field-0.0 c.from_residual.ensures.1 _

pub returns-in_err-remake_catalog-clause-idle : goal.returns-in_err-remake_catalog-clause-idle
returns-in_err-remake_catalog-clause-idle g c = λ honest mark.
    on_refused c.from_residual.result c.in_err-remake_catalog.field-0.0 c.from_residual.ensures.1 _

pub returns-in_err-remake_catalog-clause-foreign : goal.returns-in_err-remake_catalog-clause-foreign
returns-in_err-remake_catalog-clause-foreign g c = λ honest foreign. absurd (c.in-Ok.ensures.foreign honest foreign)

pub returns-in_err-remake_catalog-clause-opening : goal.returns-in_err-remake_catalog-clause-opening
returns-in_err-remake_catalog-clause-opening g c = λ honest foreign. absurd (c.in-Ok.ensures.foreign honest foreign)

-- the pages that wait for the commit
changed : (g : Over) (c : After-commit_pages g) → g.D.Device.is_honest c.args.device.now → (files : Files)
    → Represents c.in-Ok.pages (g.D.Device.state c.open.new.device).disk files
    → IsChanged g.D.Device c.set_mark.new.self c.remake_catalog.new.device files files
changed g c honest files stands =
    let now = c.in-Ok.ensures.honest.0 honest in
    migrating g.D.Device _ c.in-Ok.pages c.remake_catalog.new.pages c.set_mark.new.self c.open.new.device
    c.remake_catalog.new.device files now stands c.remake_catalog.ensures.prepares
    (c.in_ok-remake_catalog.ensures.will now stands.agrees files stands.holds) c.set_mark.ensures.mark
    c.set_mark.ensures.catalog c.set_mark.ensures.pages c.set_mark.ensures.committed c.set_mark.ensures.agrees

pub returns-clause-honest : goal.returns-clause-honest
returns-clause-honest g c =
    let middle = c.remake_catalog.ensures.prepares.only.honest in
    let last = c.commit_pages.ensures.only.honest in
    (λ h. last.0 (middle.0 (c.in-Ok.ensures.honest.0 h)), λ h. c.in-Ok.ensures.honest.1 (middle.1 (last.1 h)))

pub returns-clause-failures : goal.returns-clause-failures
returns-clause-failures g c =
    blames_one (c.open.result ≡ Err pages.Device) (c.commit_pages.result ≡ Err Device)
    (c.commit_pages.result ≡ Err Device) _ _ _ (λ is. inr is) c.open.ensures.failures
    (blames_one (c.remake_catalog.result ≡ Err Device) (c.commit_pages.result ≡ Err Device)
    (c.commit_pages.result ≡ Err Device) _ _ _ (λ is. inr is) c.remake_catalog.ensures.prepares.only.failures
    c.commit_pages.ensures.only.failures)

pub returns-clause-moments : goal.returns-clause-moments
returns-clause-moments g c = λ honest files holds.
    let at = goal.at.returns-clause-moments g c in
    let only = c.remake_catalog.ensures.prepares.only in
    let stands = opened g at.After-remake_catalog honest files holds in
    let settles = c.commit_pages.ensures.settles files files (changed g at.After-commit_pages honest files stands) in
    goes _ _ _ _ _ _ (before g at.After-remake_catalog honest files)
    (commit_through _ _ _ (g.D.Device.state c.args.device.now) (g.D.Device.state c.remake_catalog.new.device) files
    (ap (λ (s : State). s.events) (only.state (c.in-Ok.ensures.honest.0 honest) ∙ c.in-Ok.ensures.state honest))
    settles.moments)

pub returns-clause-migrated : goal.returns-clause-migrated
returns-clause-migrated g c = λ honest files holds.
    let at = goal.at.returns-clause-migrated g c in
    let stands = opened g at.After-remake_catalog honest files holds in
    let settles = c.commit_pages.ensures.settles files files (changed g at.After-commit_pages honest files stands) in
    on_ok_weaker c.commit_pages.result (λ there. migrated_image c.commit_pages.new.pages
    (g.D.Device.state c.commit_pages.new.device).disk files (c.commit_pages.ensures.mark ∙ c.set_mark.ensures.mark)
    there) settles.stands

-- a volume with the second mark isn't made anew
marked : (g : Over) (c : After-remake_catalog g) → g.D.Device.is_honest c.args.device.now
    → HasMark 1 (g.D.Device.state c.args.device.now).disk.present → ⊥
marked g c honest mark =
    let still = ap (λ (s : State). s.disk.present) (c.in-Ok.ensures.state honest) in
    let one = mark_there c.in-Ok.pages (g.D.Device.state c.open.new.device).disk 1 (c.in-Ok.ensures.agrees honest)
    c.in-Ok.ensures.map (subst (λ (l : List Sector). HasMark 1 l) (sym still) mark) in
    let zero = first g c in
    omega (arith, one, zero)

pub returns-clause-unchanged : goal.returns-clause-unchanged
returns-clause-unchanged g c = λ honest mark.
    absurd (marked g (goal.at.returns-clause-unchanged g c).After-remake_catalog honest mark)

pub returns-clause-sectors : goal.returns-clause-sectors
returns-clause-sectors g c =
    c.commit_pages.ensures.only.sectors ∙ c.remake_catalog.ensures.prepares.only.sectors ∙ c.in-Ok.ensures.sectors

pub returns-clause-idle : goal.returns-clause-idle
returns-clause-idle g c = λ honest mark.
    absurd (marked g (goal.at.returns-clause-idle g c).After-remake_catalog honest mark)

pub returns-clause-foreign : goal.returns-clause-foreign
returns-clause-foreign g c = λ honest foreign. absurd (c.in-Ok.ensures.foreign honest foreign)

pub returns-clause-opening : goal.returns-clause-opening
returns-clause-opening g c = λ honest foreign. absurd (c.in-Ok.ensures.foreign honest foreign)

pub returns-clause-unwritten : goal.returns-clause-unwritten
returns-clause-unwritten g c = λ is honest.
    let only = c.remake_catalog.ensures.prepares.only in
    let now = c.in-Ok.ensures.honest.0 honest in
    c.commit_pages.ensures.unwritten is (only.honest.0 now) ∙ only.state now ∙ c.in-Ok.ensures.state honest

-- why the commit is refused for want of room
lacks_here : (g : Over) (c : After-commit_pages g) → g.D.Device.is_honest c.args.device.now
    → mark_of c.in-Ok.pages ≡ 0 → IsFull c.set_mark.new.self
    → LacksRoomToMigrate (g.D.Device.state c.args.device.now).disk.present
lacks_here g c honest zero full =
    let prepares = c.remake_catalog.ensures.prepares in
    let unspent = c.set_mark.ensures.spent ∙ prepares.committed.spent ∙ c.in-Ok.ensures.ready.0 in
    let most = c.remake_catalog.ensures.filled in
    let set = c.set_mark.ensures.filled in
    let none = c.in-Ok.ensures.filled in
    lacks_commit c.in-Ok.pages c.set_mark.new.self (g.D.Device.state c.open.new.device).disk _
    (ap (λ (s : State). s.disk.present) (c.in-Ok.ensures.state honest)) (c.in-Ok.ensures.agrees honest)
    c.in-Ok.ensures.map zero
    (c.set_mark.ensures.committed ∙ same_volume c.in-Ok.pages c.remake_catalog.new.pages prepares.committed)
    (omega (arith, most, set, none))
    (c.needed_by.ensures.short c.set_mark.new.self unspent full)

pub returns-clause-refused : goal.returns-clause-refused
returns-clause-refused g c = λ honest.
    let at = goal.at.returns-clause-refused g c in
    refused_by c.commit_pages.result (g.D.Device.state c.args.device.now).disk.present c.commit_pages.ensures.cause
    (λ is. lacks_here g at.After-commit_pages honest (first g at.After-remake_catalog)
    (c.commit_pages.ensures.full is))
    (λ is files holds. (c.commit_pages.ensures.settles files files (changed g at.After-commit_pages honest files
    (opened g at.After-remake_catalog honest files holds))).sound is)
    (λ is. never_spent_then c.in-Ok.pages c.remake_catalog.new.pages c.set_mark.new.self c.in-Ok.ensures.ready.0
    c.remake_catalog.ensures.prepares.committed c.set_mark.ensures.spent (c.commit_pages.ensures.spent is))
