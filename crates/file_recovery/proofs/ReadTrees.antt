-- What is told of a volume of trees whose catalog was read.
use Rattle.std.proofs.Common.{◌≡◌, ◌⊎◌, ◌≤◌, ◌^◌, inl, inr, ℕ, zero, suc, Bool, false, List, length, refl, sym, ap}
use Rattle.std.proofs.Common.{subst}
use Rattle.std.specs.Prelude.{replicate}
use Rattle.station.specs.Disk.{Disk, Sector}
use Rattle.pages.specs.Image.{Map, IsImageOf as HoldsMap, map_of}
use Rattle.pages.specs.Errors.{RefusesImage}
use Rattle.pages.specs.Pages.{map_now, committed_of, Agrees}
use Rattle.pages.specs.declared.page_map.PageMap.{PageMap}
use Rattle.pages.specs.declared.error.PagesError.{PagesError}
use Rattle.pages.specs.declared.error.PagesError.TheVariants as pages
use Rattle.pages.proofs.One.{one_map}
use Rattle.records.specs.declared.fault.StoreFault.{StoreFault}
use Rattle.records.specs.declared.fault.StoreFault.TheVariants.{Device, Full, Damaged, Memory, Spent, Layout, Old}
use Rattle.records.specs.Files.{Files, AreShort}
use Rattle.volume_format.specs.Volume.{MapHolds, Holds}
use Rattle.file_recovery.specs.Covered.{IsCovered}
use Rattle.volume_format.specs.Faults.{fault_of}
use Rattle.file_recovery.specs.Faults.{IsReadFault}
use Rattle.file_recovery.specs.Kept.{FindsCatalog, NoCatalog}
use Rattle.file_recovery.specs.Recovered.{RefusedTrees, IsReadCause, IsTreeCause}
use Rattle.file_recovery.proofs.Covering.{NoneMarked, none_held, catalog_held, stray_held, long_held}

-- no page is marked at first
pub none_marked : (n : ℕ) → NoneMarked (replicate n false)
none_marked zero page = refl
none_marked (suc n) zero = refl
none_marked (suc n) (suc page) = none_marked n page

-- what was read, of the map before
module _ (m after : Map) (same : after ≡ m) (generation : ℕ) (is : m.generation ≡ generation) (old : List Bool)
    (none : NoneMarked old) where
  pub catalog_is_held : (files : Files) (new : List Bool) → FindsCatalog m generation files old new
      → IsCovered after.pages new → (m.mark ≡ 0 → AreShort files) → MapHolds m files
  catalog_is_held files new found covered short =
      catalog_held m files old new none (subst (λ (n : ℕ). FindsCatalog m n files old new) (sym is) found)
      (subst (λ (x : Map). IsCovered x.pages new) same covered) short

  pub none_is_held : length old ≡ length m.pages → NoCatalog m generation old → (files : Files) → MapHolds m files → ⊥
  none_is_held many never = none_held m old many none (subst (λ (n : ℕ). NoCatalog m n old) (sym is) never)

  pub stray_is_held : (files : Files) (new : List Bool) → length m.pages ≤ 2 ^ 20
      → FindsCatalog m generation files old new → (IsCovered after.pages new → ⊥) → (others : Files) → MapHolds m others
      → ⊥
  stray_is_held files new small found stray =
      stray_held m files old new small (subst (λ (n : ℕ). FindsCatalog m n files old new) (sym is) found)
      (λ covered. stray (subst (λ (x : Map). IsCovered x.pages new) (sym same) covered))

  pub long_is_held : (files : Files) (new : List Bool) → length m.pages ≤ 2 ^ 20
      → FindsCatalog m generation files old new → ((m.mark ≡ 0 → AreShort files) → ⊥) → (others : Files)
      → MapHolds m others → ⊥
  long_is_held files new small found =
      long_held m files old new small (subst (λ (n : ℕ). FindsCatalog m n files old new) (sym is) found)

-- the map that was opened is the one of the disk, whatever waited on it before
module _ (p : PageMap) (before now : Disk) (agrees : Agrees p now) (own : (image : List Sector)
    → map_now p image ≡ map_of image (committed_of p)) (same : now.present ≡ before.present) where
  held : HoldsMap before.present (map_now p now.present)
  held = subst (λ (image : List Sector). HoldsMap image (map_now p now.present)) same
      (committed_of p, agrees.committed.reads, sym (own now.present))

  pub trees_there : (files : Files) → MapHolds (map_now p now.present) files → Holds before.present files
  trees_there files holds = (map_now p now.present, held, holds)

  pub no_trees : ((files : Files) → MapHolds (map_now p now.present) files → ⊥) → (files : Files)
      → Holds before.present files → ⊥
  no_trees never files holds = never files (subst (λ (m : Map). MapHolds m files)
      (one_map before.present holds.0 (map_now p now.present) holds.1 held) holds.2)

-- a refusal to open
pub refused_of : (image : List Sector) (error : PagesError) → RefusesImage image error
    → RefusedTrees image (fault_of error)
refused_of image pages.Device is = tt
refused_of image pages.Full is = is
refused_of image pages.Damaged is = λ files holds. is.none holds.0 holds.1
refused_of image pages.Memory is = tt
refused_of image pages.Spent is = is
refused_of image pages.ForeignMark is = is

pub cause_of : (error : PagesError) → (error ≡ pages.Device) ⊎ (error ≡ pages.Memory) → IsReadCause (fault_of error)
cause_of error (inl is) = inl (ap fault_of is)
cause_of error (inr is) = inr (ap fault_of is)

pub tree_cause_of : (error : PagesError)
    → (error ≡ pages.ForeignMark) ⊎ ((error ≡ pages.Device) ⊎ (error ≡ pages.Memory)) → IsTreeCause (fault_of error)
tree_cause_of error (inl is) = inl (ap fault_of is)
tree_cause_of error (inr is) = inr (cause_of error is)

-- a refusal to read the catalog
pub refused_read : (image : List Sector) (fault : StoreFault) → IsReadFault fault
    → (fault ≡ Damaged → (files : Files) → Holds image files → ⊥) → RefusedTrees image fault
refused_read image Device is never = tt
refused_read image Full is never = is
refused_read image Damaged is never = never refl
refused_read image Memory is never = tt
refused_read image Spent is never = is
refused_read image Layout is never = absurd is
refused_read image Old is never = is

pub cause_read : (fault : StoreFault) → IsReadFault fault → (fault ≡ Damaged → ⊥) → IsReadCause fault
cause_read Device is never = inl refl
cause_read Full is never = absurd is
cause_read Damaged is never = absurd (never refl)
cause_read Memory is never = inr refl
cause_read Spent is never = absurd is
cause_read Layout is never = absurd is
cause_read Old is never = absurd is
