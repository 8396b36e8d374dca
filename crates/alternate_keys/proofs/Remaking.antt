-- The map after its catalog was made anew, and the disk after the commit.
use Rattle.std.proofs.Common.{◌≡◌, ◌⊎◌, inl, inr, ⊎_elim, ◌+◌, ◌≤◌, ◌<◌, ◌^◌, true, false, ℕ, List, [], refl, ap, sym}
use Rattle.std.proofs.Common.{subst, ◌∙◌, arith}
use Rattle.std.specs.Prelude.{map, Option, Result, Ok, Err, IfErr}
use Rattle.std.specs.List.{flat_map}
use Rattle.station.specs.Blocks.{CrashLeaves}
use Rattle.station.specs.Calls.{OnlyReads}
use Rattle.station.specs.Disk.{Disk, Sector, IsCrashImage}
use Rattle.station.specs.History.{Through}
use Rattle.station.specs.Opening.{IsOpening}
use Rattle.station.specs.State.{State, state_after_sync}
use Rattle.station.specs.declared.device.Device.{Ghosts as Devices}
use Rattle.station.proofs.Calls.{reads_nothing}
use Rattle.station.proofs.Crash.{settled_image}
use Rattle.station.proofs.Spans.{weakens}
use Rattle.pages.specs.Image.{Map, Volume, Reads, map_of}
use Rattle.pages.specs.Layout.{map_count, version_of}
use Rattle.pages.specs.Pages.{map_now, catalog_of, mark_of, is_spent, committed_of, sectors_of, filled_of}
use Rattle.pages.specs.Pages.{changed_pages_of}
use Rattle.pages.specs.Pages.{generation_of, next_generation, Agrees, KeepsCommitted, SameCommitted}
use Rattle.pages.specs.Use.{free_count}
use Rattle.pages.specs.declared.error.PagesError.{PagesError}
use Rattle.pages.specs.declared.error.PagesError.TheVariants as pages
use Rattle.pages.specs.declared.page_map.PageMap.{PageMap}
use Rattle.pages.specs.declared.volume_mark.VolumeMark.{VolumeMark}
use Rattle.pages.specs.declared.volume_mark.VolumeMark.TheVariants.{First, Second}
use Rattle.pages.specs.Errors.{RefusesImage}
use Rattle.pages.proofs.One.{one_map}
use Rattle.btree_pages.specs.declared.row_layout.RowLayout.{RowLayout}
use Rattle.btree.specs.Builds.{Builds}
use Rattle.btree.specs.Entries.{entries_of_rows}
use Rattle.btree.specs.Refusals.{IsWriteRefusal}
use Rattle.records.specs.declared.fault.StoreFault.{StoreFault}
use Rattle.records.specs.declared.fault.StoreFault.TheVariants.{Device, Full, Damaged, Memory, Spent, Layout, Old}
use Rattle.records.specs.Files.{Files}
use Rattle.records.specs.Stores.{Either}
use Rattle.volume_format.specs.Catalog.{catalog_layout}
use Rattle.volume_format.specs.Faults.{fault_of}
use Rattle.volume_format.specs.Forest.{IsForest}
use Rattle.volume_format.specs.Volume.{Holds, MapHolds, catalog_entry, trees_of}
use Rattle.volume_format.proofs.Faults.{damaged_back, device_back}
use Rattle.row_trees.specs.Calls.{EditsPages}
use Rattle.alternate_keys.specs.Created.{Prepares}
use Rattle.alternate_keys.specs.Faults.{IsWriteFault}
use Rattle.alternate_keys.specs.Held.{held_law}
use Rattle.alternate_keys.specs.Migrated.{HasMark, IsMigrated, IsMigrating, IsMigrateRefusal, LacksRoomToMigrate}
use Rattle.alternate_keys.specs.Migrated.{with_mark}
use Rattle.alternate_keys.specs.Opened.{HoldsNone}
use Rattle.alternate_keys.specs.Settles.{IsChanged}
use Rattle.alternate_keys.specs.Stands.{Represents}
use Rattle.alternate_keys.proofs.Migrating.{remade}
use Rattle.alternate_keys.proofs.OpenedStore.{stands_for}
use Rattle.alternate_keys.proofs.Preparing.{map_with}
use Rattle.alternate_keys.proofs.Still.{same_volume}

-- of two marks, one that isn't the second is the first
pub not_second : (mark : VolumeMark) → (mark ≡ Second → ⊥) → version_of mark ≡ 0
not_second First never = refl
not_second Second never = absurd (never refl)

-- a call on pages alone
pub edits_kept : {D : Type 0} (d : Devices D) (p q : PageMap) (a : D) → KeepsCommitted p q
    → EditsPages d ⊥ p a q a
edits_kept d p q a keeps = record {
  only = reads_nothing d a;
  committed = keeps.committed;
  catalog = keeps.catalog;
  agrees = λ honest agrees. keeps.agrees (d.state a).disk agrees;
}

map_marked : (p q : PageMap) (image : List Sector) (root : ℕ) (after : List (Option Sector)) → SameCommitted p q
    → catalog_of q ≡ root → (map_now q image).pages ≡ after
    → map_with 1 ((map_now p image).generation + 1) root after ≡ with_mark 1 (next_generation (map_now q image))
map_marked p q image root after same catalog is =
    ap (λ v. map_with 1 (v.generation + 1) root after) (sym same.volume)
    ∙ ap (λ (n : ℕ). map_with 1 ((map_now q image).generation + 1) n after) (sym catalog)
    ∙ ap (λ (l : List (Option Sector)). map_with 1 ((map_now q image).generation + 1) (catalog_of q) l) (sym is)

-- The old catalog has released its pages, and the new one was built.
pub remade_map : (p q : PageMap) (image : List Sector) (files : Files) (holds : MapHolds (map_now p image) files)
    (layout : RowLayout) (cleared after : List (Option Sector)) (rows : List (List ℕ)) (root : ℕ)
    → layout ≡ catalog_layout 1 → IsForest cleared (flat_map trees_of holds.kept)
    → entries_of_rows (catalog_layout 1) rows ≡ map (catalog_entry 1) holds.kept
    → Builds layout cleared rows after root → SameCommitted p q → catalog_of q ≡ root
    → (map_now q image).pages ≡ after → MapHolds (with_mark 1 (next_generation (map_now q image))) files
remade_map p q image files holds layout cleared after rows root is forest listed built same catalog pages_are =
    let new : Builds (catalog_layout 1) cleared rows after root =
    subst (λ (l : RowLayout). Builds l cleared rows after root) is built in
    subst (λ (m : Map). MapHolds m files) (map_marked p q image root after same catalog pages_are)
    (remade (map_now p image) files holds cleared after root new.levels forest new.stands new.moves
    (ap (entries_of_rows (catalog_layout 1)) new.in_order ∙ listed))

-- The mark is set.
pub set_will : (p q : PageMap) (image : List Sector) (files : Files) → mark_of q ≡ 1 → catalog_of q ≡ catalog_of p
    → (map_now q image).pages ≡ (map_now p image).pages → committed_of q ≡ committed_of p
    → MapHolds (with_mark 1 (next_generation (map_now p image))) files
    → MapHolds (next_generation (map_now q image)) files
set_will p q image files mark catalog pages_are committed holds =
    let m : Map = map_now p image in
    subst (λ (x : Map). MapHolds x files)
    (ap (λ (v : Volume). map_with 1 (v.root.generation + 1) m.catalog m.pages) (sym committed)
    ∙ ap (λ (n : ℕ). map_with n (generation_of q + 1) m.catalog m.pages) (sym mark)
    ∙ ap (λ (n : ℕ). map_with (mark_of q) (generation_of q + 1) n m.pages) (sym catalog)
    ∙ ap (λ (l : List (Option Sector)). map_with (mark_of q) (generation_of q + 1) (catalog_of q) l) (sym pages_are))
    holds

-- what was committed has the files still
pub was_held : (p q : PageMap) (disk : Disk) (files : Files) → committed_of q ≡ committed_of p
    → Represents p disk files → MapHolds (map_of disk.present (committed_of q)) files
was_held p q disk files same stands = subst (λ (v : Volume). MapHolds (map_of disk.present v) files) (sym same)
    (subst (λ (m : Map). MapHolds m files) stands.still stands.holds)

-- after a commit whatever a crash leaves has the mark and the files
pub migrated_image : (p : PageMap) (disk : Disk) (files : Files) → mark_of p ≡ 1 → Represents p disk files
    → (image : List Sector) → IsCrashImage disk image → IsMigrated files image
migrated_image p disk files mark stands image crash =
    let settled = stands.agrees.committed.settled in
    let is : image ≡ disk.present =
    settled_image disk.present image (subst (λ (d : Disk). IsCrashImage d image) settled crash) in (
      subst (λ (l : List Sector). HasMark 1 l) (sym is)
          (committed_of p, stands.agrees.committed.reads, sym (ap (λ (m : Map). m.mark) stands.still) ∙ mark),
      held_law p disk image files stands crash,
    )

-- the mark that was read is that of the image
pub mark_there : (p : PageMap) (disk : Disk) (n : ℕ) → Agrees p disk
    → ((image : List Sector) → map_now p image ≡ map_of image (committed_of p)) → HasMark n disk.present
    → mark_of p ≡ n
mark_there p disk n agrees map_is (v, reads, is) =
    let same = one_map disk.present (map_of disk.present (committed_of p)) (map_of disk.present v)
    (committed_of p, agrees.committed.reads, refl) (v, reads, refl) in
    ap (λ (m : Map). m.mark) (map_is disk.present ∙ same) ∙ is

-- each moment
pub opening_through : (past later : List State) (new old : State) (files : Files)
    → Through past later new (IsOpening old) → Through past later new (IsMigrating old files)
opening_through past later new old files through =
    weakens past later new (IsOpening old) (IsMigrating old files)
    (λ state is. record { events = is.events; images = λ image crash. inl (is.images image crash) }) through

one_of : (files : Files) (image : List Sector) → Either Holds files files image → Holds image files
one_of files image either = ⊎_elim (λ is. is) (λ is. is) either

pub commit_through : (past later : List State) (new old between : State) (files : Files) → between.events ≡ old.events
    → Through past later new (CrashLeaves between.events (Either Holds files files))
    → Through past later new (IsMigrating old files)
commit_through past later new old between files same through =
    weakens past later new (CrashLeaves between.events (Either Holds files files)) (IsMigrating old files)
    (λ state is. record {
      events = is.events ∙ same;
      images = λ image crash. inr (one_of files image (is.images image crash));
    }) through

-- Why it is refused.
pub open_refused : (image : List Sector) (error : PagesError) → RefusesImage image error
    → IsMigrateRefusal image (fault_of error)
open_refused image pages.Device is = tt
open_refused image pages.Full is = absurd is
open_refused image pages.Damaged is = λ files holds. is.none holds.0 holds.1
open_refused image pages.Memory is = tt
open_refused image pages.Spent is = is
open_refused image pages.ForeignMark is = is

write_refused : (image : List Sector) (fault : StoreFault) → IsWriteFault fault
    → (fault ≡ Full → LacksRoomToMigrate image) → (fault ≡ Damaged → HoldsNone image) → (fault ≡ Spent → ⊥)
    → IsMigrateRefusal image fault
write_refused image Device why full damaged spent = tt
write_refused image Full why full damaged spent = full refl
write_refused image Damaged why full damaged spent = damaged refl
write_refused image Memory why full damaged spent = tt
write_refused image Spent why full damaged spent = spent refl
write_refused image Layout why full damaged spent = absurd why
write_refused image Old why full damaged spent = absurd why

pub refused_by : {T : Type 0} (result : Result T StoreFault) (image : List Sector) → IfErr result IsWriteFault
    → (result ≡ Err Full → LacksRoomToMigrate image) → (result ≡ Err Damaged → HoldsNone image)
    → (result ≡ Err Spent → ⊥) → IfErr result (IsMigrateRefusal image)
refused_by (Ok x) image why full damaged spent = tt
refused_by (Err fault) image why full damaged spent =
    write_refused image fault why (λ is. full (ap Err is)) (λ is. damaged (ap Err is)) (λ is. spent (ap Err is))

-- opening is never refused for want of room
pub open_not_full : (image : List Sector) (error : PagesError) → RefusesImage image error → fault_of error ≡ Full → ⊥
open_not_full image pages.Device is full = cc
open_not_full image pages.Full is full = is
open_not_full image pages.Damaged is full = cc
open_not_full image pages.Memory is full = cc
open_not_full image pages.Spent is full = is
open_not_full image pages.ForeignMark is full = cc

-- why a new tree isn't built
pub build_writes : (error : PagesError) (fault : StoreFault) → IsWriteRefusal error → fault ≡ fault_of error
    → IsWriteFault fault
build_writes error fault why is = subst IsWriteFault (sym is) (fault_of_build error why)
  where
    fault_of_build : (error : PagesError) → IsWriteRefusal error → IsWriteFault (fault_of error)
    fault_of_build pages.Device why = tt
    fault_of_build pages.Full why = tt
    fault_of_build pages.Damaged why = tt
    fault_of_build pages.Memory why = tt
    fault_of_build pages.Spent why = tt
    fault_of_build pages.ForeignMark why = why

pub build_not_device : (error : PagesError) (fault : StoreFault) → IsWriteRefusal error → fault ≡ fault_of error
    → fault ≡ Device → ⊥
build_not_device error fault why is told = subst IsWriteRefusal (device_back error (sym is ∙ told)) why

pub build_not_damaged : (error : PagesError) (fault : StoreFault) → IsWriteRefusal error → fault ≡ fault_of error
    → fault ≡ Damaged → ⊥
build_not_damaged error fault why is told = subst IsWriteRefusal (damaged_back error (sym is ∙ told)) why

-- the mark of the last commit is the first one
first_mark : (p : PageMap) (image : List Sector) → map_now p image ≡ map_of image (committed_of p) → mark_of p ≡ 0
    → (committed_of p).root.mark ≡ 0
first_mark p image map_is zero = sym (ap (λ (m : Map). m.mark) map_is) ∙ zero

-- too few sectors are free: for the new pages, or for the commit
pub lacks_pages : (p : PageMap) (disk : Disk) (image : List Sector) → disk.present ≡ image → Agrees p disk
    → ((image : List Sector) → map_now p image ≡ map_of image (committed_of p)) → mark_of p ≡ 0
    → filled_of p ≡ 0 → free_count (committed_of p) < filled_of p + 9 → LacksRoomToMigrate image
lacks_pages p disk image same agrees map_is zero none few = record {
  volume = committed_of p;
  reads = subst (λ (l : List Sector). Reads l (committed_of p)) same agrees.committed.reads;
  first = first_mark p image (map_is image) zero;
  short = inl (omega (arith, few, none));
}

pub lacks_commit : (p q : PageMap) (disk : Disk) (image : List Sector) → disk.present ≡ image → Agrees p disk
    → ((image : List Sector) → map_now p image ≡ map_of image (committed_of p)) → mark_of p ≡ 0
    → committed_of q ≡ committed_of p → filled_of q ≤ 9
    → (free_count (committed_of q) < filled_of q + map_count (sectors_of q)) ⊎ (2 ^ 63 ≤ generation_of q + 1)
    → LacksRoomToMigrate image
lacks_commit p q disk image same agrees map_is zero committed few short = record {
  volume = committed_of q;
  reads = subst (λ (v : Volume). Reads image v) (sym committed)
      (subst (λ (l : List Sector). Reads l (committed_of p)) same agrees.committed.reads);
  first = ap (λ (v : Volume). v.root.mark) committed ∙ first_mark p image (map_is image) zero;
  short = ⊎_elim (λ (is : free_count (committed_of q) < filled_of q + map_count (sectors_of q)).
      inl (omega (arith, is, few))) (λ is. inr is) short;
}

-- The map that was opened has the files of the disk.
pub opened_stands : (p : PageMap) (old new : State) (files : Files) → new ≡ state_after_sync old
    → Agrees p new.disk → ((image : List Sector) → map_now p image ≡ map_of image (committed_of p))
    → changed_pages_of p ≡ [] → Holds old.disk.present files → Represents p new.disk files
opened_stands p old new files sync agrees map_is rested holds =
    stands_for p new.disk files agrees map_is rested
    (subst (λ (s : State). Holds s.disk.present files) (sym sync) holds)

module _ {D : Type 0} (d : Devices D) where
  -- a call that only reads
  pub reads_through : (A : Type 0) (past : List State) (a b : D) (P : State → Type 0) → d.is_honest a
      → OnlyReads d A a b → Through past (d.history a) (d.state a) P → Through past (d.history b) (d.state b) P
  reads_through A past a b P honest only through =
      subst (λ (h : List State). Through past h (d.state b) P) (sym (only.history honest))
      (subst (λ (s : State). Through past (d.history a) s P) (sym (only.state honest)) through)

  -- The pages wait for a commit: what is committed has the files, and the next generation has them with the new mark.
  pub migrating : (A : Type 0) (p q r : PageMap) (a b : D) (files : Files) → d.is_honest a
      → Represents p (d.state a).disk files → Prepares d A p a q b
      → MapHolds (with_mark 1 (next_generation (map_now q (d.state a).disk.present))) files → mark_of r ≡ 1
      → catalog_of r ≡ catalog_of q
      → ((image : List Sector) → (map_now r image).pages ≡ (map_now q image).pages)
      → committed_of r ≡ committed_of q → ((disk : Disk) → Agrees q disk → Agrees r disk)
      → IsChanged d r b files files
  migrating A p q r a b files honest stands prepares will mark catalog pages_are committed agrees =
      let only = prepares.only in
      let still = only.state honest in
      let same = committed ∙ same_volume p q prepares.committed in
      record {
        honest = only.honest.0 honest;
        agrees = agrees (d.state b).disk (prepares.agrees honest stands.agrees);
        was = subst (λ (s : State). MapHolds (map_of s.disk.present (committed_of r)) files) (sym still)
            (was_held p r (d.state a).disk files same stands);
        will = subst (λ (s : State). MapHolds (next_generation (map_now r s.disk.present)) files) (sym still)
            (set_will q r (d.state a).disk.present files mark catalog (pages_are (d.state a).disk.present) committed
            will);
      }

-- pages that were opened are not spent after calls that commit nothing
pub never_spent_then : (p q r : PageMap) → is_spent p ≡ false → SameCommitted p q → is_spent r ≡ is_spent q
    → is_spent r ≡ true → ⊥
never_spent_then p q r unspent same still is =
    let clash : true ≡ false = sym is ∙ still ∙ same.spent ∙ unspent in cc
