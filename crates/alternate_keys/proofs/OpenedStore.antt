-- A volume that was opened.
use Rattle.std.proofs.Common.{◌≡◌, ◌⊎◌, inl, inr, List, refl, sym, ap, subst, ◌∙◌}
use Rattle.std.specs.Prelude.{[]}
use Rattle.station.specs.Disk.{Disk, Sector}
use Rattle.pages.specs.Image.{Map, IsImageOf as HoldsMap, map_of}
use Rattle.pages.specs.Errors.{RefusesImage}
use Rattle.pages.specs.Pages.{map_now, committed_of, changed_pages_of, Agrees}
use Rattle.pages.specs.declared.page_map.PageMap.{PageMap}
use Rattle.pages.specs.declared.error.PagesError.{PagesError}
use Rattle.pages.specs.declared.error.PagesError.TheVariants as pages
use Rattle.pages.proofs.One.{one_map}
use Rattle.records.specs.declared.fault.StoreFault.TheVariants.{Layout}
use Rattle.records.specs.Files.{Files}
use Rattle.volume_format.specs.Volume.{MapHolds, Holds}
use Rattle.volume_format.specs.Faults.{fault_of}
use Rattle.alternate_keys.specs.Opened.{HasMap, IsOpenRefusal, IsReadCause}
use Rattle.alternate_keys.specs.Stands.{Represents}

-- what the pages read stands for what the disk holds
pub stands_for : (p : PageMap) (disk : Disk) (files : Files) → Agrees p disk
    → ((image : List Sector) → map_now p image ≡ map_of image (committed_of p)) → changed_pages_of p ≡ []
    → Holds disk.present files → Represents p disk files
stands_for p disk files agrees map rested holds =
    let m : Map = map_of disk.present (committed_of p) in
    let own : HoldsMap disk.present m = (committed_of p, agrees.committed.reads, refl) in
    let same : holds.0 ≡ m = one_map disk.present holds.0 m holds.1 own in
    record {
      agrees = agrees;
      still = map disk.present;
      rested = rested;
      holds = subst (λ (x : Map). MapHolds x files) (same ∙ sym (map disk.present)) holds.2;
    }

-- and is a map that the disk holds
pub map_there : (p : PageMap) (disk : Disk) → Agrees p disk → HasMap disk.present
map_there p disk agrees = (map_of disk.present (committed_of p), (committed_of p, agrees.committed.reads, refl))

pub refused_of : (image : List Sector) (error : PagesError) → RefusesImage image error
    → IsOpenRefusal image (fault_of error)
refused_of image pages.Device is = tt
refused_of image pages.Full is = is
refused_of image pages.Damaged is = λ files holds. is.none holds.0 holds.1
refused_of image pages.Memory is = tt
refused_of image pages.Spent is = is
refused_of image pages.ForeignMark is = is

pub cause_of : (error : PagesError) → (error ≡ pages.Device) ⊎ (error ≡ pages.Memory) → IsReadCause (fault_of error)
cause_of error (inl is) = inl (ap fault_of is)
cause_of error (inr is) = inr (ap fault_of is)

pub tells_of : (error : PagesError) → (error ≡ pages.ForeignMark) ⊎ (error ≡ pages.Device) ⊎ (error ≡ pages.Memory)
    → (fault_of error ≡ Layout) ⊎ IsReadCause (fault_of error)
tells_of error (inl is) = inl (ap fault_of is)
tells_of error (inr is) = inr (cause_of error is)
