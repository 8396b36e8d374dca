-- What a commit of pages says of files.
use Rattle.std.proofs.Common.{◌≡◌, ◌⊎◌, ⊎_elim, ◌<◌, ◌≤◌, ◌^◌, inl, inr, ℕ, Bool, true, false, List, ◌∷◌, length, refl}
use Rattle.std.proofs.Common.{sym, ap, subst, ◌∙◌, arith}
use Rattle.std.proofs.lemmas.Bool.{eq-eqb, eqb-true}
use Rattle.std.proofs.Math.Dec.{eqb}
use Rattle.std.specs.Prelude.{[]}
use Rattle.station.specs.Disk.{Disk, Sector}
use Rattle.station.specs.State.{State, Event}
use Rattle.station.specs.History.{Through}
use Rattle.station.specs.Blocks.{CrashLeaves}
use Rattle.station.specs.declared.device.Device.{Ghosts as Devices}
use Rattle.station.proofs.Spans.{weakens}
use Rattle.pages.specs.Image.{Map, map_of}
use Rattle.pages.specs.Changes.{BeforeOrAfter}
use Rattle.pages.specs.Commits.{IfUnchanged, IfAtRest, IsAsCommitted, LeavesOldOrNew, DoesNothing}
use Rattle.pages.specs.Pages.{map_now, catalog_of, mark_of, committed_of, changed_pages_of, next_generation, HasChanges}
use Rattle.pages.specs.Pages.{is_spent, Agrees, OpenBounds}
use Rattle.pages.specs.declared.page_map.PageMap.{PageMap}
use Rattle.records.specs.Files.{Files}
use Rattle.records.specs.Stores.{Either}
use Rattle.volume_format.specs.Volume.{MapHolds, Holds}
use Rattle.volume_format.proofs.Empty.{next_holds}
use Rattle.volume_format.proofs.OneFiles.{one_in_map_most}
use Rattle.alternate_keys.specs.Settles.{IsChanged}
use Rattle.alternate_keys.specs.Stands.{Represents}

-- an image of either map
either_by : (before after : Map) (old now : Files) (image : List Sector) → MapHolds before old → MapHolds after now
    → BeforeOrAfter before after image → Either Holds old now image
either_by before after old now image first second (inl is) = inl (before, is, first)
either_by before after old now image first second (inr is) = inr (after, is, second)

-- where each moment leaves the map before or after, it leaves the files of either
pub moments_hold : (past later : List State) (new : State) (seen : List Event) (before after : Map) (old now : Files)
    → MapHolds before old → MapHolds after now →
    Through past later new (CrashLeaves seen (BeforeOrAfter before after))
    → Through past later new (CrashLeaves seen (Either Holds old now))
moments_hold past later new seen before after old now first second through =
    weakens past later new (CrashLeaves seen (BeforeOrAfter before after)) (CrashLeaves seen (Either Holds old now))
    (λ state leaves. record {
      events = leaves.events;
      images = λ image crash. either_by before after old now image first second (leaves.images image crash);
    }) through

-- after a commit the store stands for the files of the map that was put
pub stands_then : (p : PageMap) (disk : Disk) (m : Map) (files : Files) → Agrees p disk
    → ((image : List Sector) → map_now p image ≡ map_of image (committed_of p)) → changed_pages_of p ≡ []
    → map_now p disk.present ≡ m → MapHolds m files → Represents p disk files
stands_then p disk m files agrees committed rested is holds = record {
  agrees = agrees;
  still = committed disk.present;
  rested = rested;
  holds = subst (λ (x : Map). MapHolds x files) (sym is) holds;
}

-- whether something was changed
abbrev pub IsSame : PageMap → Type 0
IsSame p = (changed_pages_of p ≡ []) × (catalog_of p ≡ (committed_of p).root.catalog)
    × (mark_of p ≡ (committed_of p).root.mark)

by_mark : (b : Bool) (p : PageMap) → changed_pages_of p ≡ [] → catalog_of p ≡ (committed_of p).root.catalog
    → eqb (mark_of p) (committed_of p).root.mark ≡ b → HasChanges p ⊎ IsSame p
by_mark true p none catalog is = inr (none, catalog, eqb-true (mark_of p) (committed_of p).root.mark is)
by_mark false p none catalog is =
    inl (λ same. let clash : true ≡ false = sym (eq-eqb (mark_of p) (committed_of p).root.mark same.2) ∙ is in cc)

by_catalog : (b : Bool) (p : PageMap) → changed_pages_of p ≡ [] → eqb (catalog_of p) (committed_of p).root.catalog ≡ b
    → HasChanges p ⊎ IsSame p
by_catalog true p none is = by_mark (eqb (mark_of p) (committed_of p).root.mark) p none
    (eqb-true (catalog_of p) (committed_of p).root.catalog is) refl
by_catalog false p none is =
    inl (λ same. let clash : true ≡ false = sym (eq-eqb (catalog_of p) (committed_of p).root.catalog same.1) ∙ is in cc)

by_pages : (pages : List ℕ) (p : PageMap) → changed_pages_of p ≡ pages → HasChanges p ⊎ IsSame p
by_pages [] p is = by_catalog (eqb (catalog_of p) (committed_of p).root.catalog) p is refl
by_pages (page ∷ pages) p is = inl (λ same. let clash : page ∷ pages ≡ [] = sym is ∙ same.0 in cc)

pub changed_or_not : (p : PageMap) → HasChanges p ⊎ IsSame p
changed_or_not p = by_pages (changed_pages_of p) p refl

-- Where nothing was changed, the files before are those after, and stay.
pub rests_then : (p q : PageMap) (old new : Disk) (before after : Files) → Agrees q new
    → ((image : List Sector) → map_now q image ≡ map_of image (committed_of q)) → changed_pages_of q ≡ [] → q ≡ p
    → new ≡ old →
    (map_now p old.present).generation < 2 ^ 63
    → length (map_now p old.present).pages ≤ 921600 → MapHolds (map_of old.present (committed_of p)) before
    → MapHolds (next_generation (map_now p old.present)) after → Represents q new after
rests_then p q old new before after agrees committed rested same still few small was will =
    let m : Map = map_now p old.present in
    let is : m ≡ map_of old.present (committed_of p) =
    subst (λ (x : PageMap). map_now x old.present ≡ map_of old.present (committed_of x)) same (committed old.present) in
    let here : MapHolds m before = subst (λ (x : Map). MapHolds x before) (sym is) was in
    let files : before ≡ after = one_in_map_most (next_generation m) before after (omega (arith, few))
    (omega (arith, small)) (next_holds m before here) will in
    let map_is : map_now q new.present ≡ m =
    ap (λ (d : Disk). map_now q d.present) still ∙ ap (λ (x : PageMap). map_now x old.present) same in
    record {
      agrees = agrees;
      still = committed new.present;
      rested = rested;
      holds = subst (λ (x : Map). MapHolds x after) (sym map_is) (subst (λ (l : Files). MapHolds m l) files here);
    }

module _ {D : Type 0} (d : Devices D) where
  -- after a commit the store holds the files after it, whether something was changed or not
  pub commit_stands : (p q : PageMap) (a b : D) (before after : Files) → IsChanged d p a before after → OpenBounds
      → is_spent p ≡ false → Agrees q (d.state b).disk → IsAsCommitted q → changed_pages_of q ≡ []
      → (HasChanges p → map_now q (d.state b).disk.present ≡ next_generation (map_now p (d.state a).disk.present))
      → IfAtRest p (q ≡ p) → IfUnchanged p (DoesNothing d a b) → Represents q (d.state b).disk after
  commit_stands p q a b before after changed bounds unspent agrees committed rested advances rests nothing =
      let bounded = bounds p (d.state a).disk.present unspent in
      ⊎_elim (λ changes. stands_then q (d.state b).disk (next_generation (map_now p (d.state a).disk.present)) after
      agrees committed rested (advances changes) changed.will)
      (λ none. rests_then p q (d.state a).disk (d.state b).disk before after agrees committed rested
      (rests (λ changes. changes none) unspent)
      (ap (λ (s : State). s.disk) (nothing none.0 none.1 none.2 changed.honest).0) bounded.0 bounded.1 changed.was
      changed.will) (changed_or_not p)

  -- and each moment of it leaves the files before it, or those after
  pub commit_moments : (p : PageMap) (a b : D) (before after : Files) → IsChanged d p a before after
      → LeavesOldOrNew d p a b
      → Through (d.history a) (d.history b) (d.state b) (CrashLeaves (d.state a).events (Either Holds before after))
  commit_moments p a b before after changed leaves =
      moments_hold (d.history a) (d.history b) (d.state b) (d.state a).events
      (map_of (d.state a).disk.present (committed_of p)) (next_generation (map_now p (d.state a).disk.present)) before
      after changed.was changed.will (leaves changed.honest changed.agrees)
