-- Maps of pages that a call only reads, and calls after it.
use Rattle.std.proofs.Common.{◌≡◌, ◌≢◌, ◌≤◌, ◌^◌, ℕ, true, false, List, length, ap, subst}
use Rattle.std.specs.Prelude.{◌↔◌, Option, Result, Ok, Err}
use Rattle.station.specs.Calls.{OnlyReads}
use Rattle.station.specs.Disk.{Sector}
use Rattle.station.specs.State.{State}
use Rattle.station.specs.declared.device.Device.{Ghosts as Devices}
use Rattle.pages.specs.Image.{Map}
use Rattle.pages.specs.Pages.{is_spent, map_now, page_count, Agrees, IsUnchanged}
use Rattle.pages.specs.declared.page_map.PageMap.{PageMap}
use Rattle.pages.specs.declared.error.PagesError.{PagesError}
use Rattle.pages.specs.declared.error.PagesError.TheVariants.{Spent}
use Rattle.btree.specs.Calls.{IfAgrees, OnPages, OnChange, pages_on}
use Rattle.btree.specs.Changes.{pages_of_map, CountsPages}
use Rattle.btree.specs.Results.{ExactlyIfSpent}
use Rattle.btree.proofs.Frames.{false_unless}
use Rattle.btree.proofs.Passing.{never_ok}
use Rattle.btree.proofs.TreeNodes.{few_pages}

-- A map is not spent unless a call on it is refused as spent.
pub live_unless : {T : Type 0} (result : Result T PagesError) (pages : PageMap) → ExactlyIfSpent pages result
    → result ≢ Err Spent → is_spent pages ≡ false
live_unless result pages exactly other = false_unless (is_spent pages) (λ spent. other (exactly.1 spent))

pub live_after : {T : Type 0} {x : T} (pages : PageMap)
    → ((◌≡◌ {A = Result T PagesError} (Ok x) (Err Spent)) ↔ (is_spent pages ≡ true)) → is_spent pages ≡ false
live_after pages exactly = live_unless (Ok _) pages exactly (λ is. never_ok is)

-- A map that is not spent has few page numbers.
pub small_map : (pages : PageMap) (image : List Sector) (number : ℕ) → CountsPages pages → number ≡ page_count pages
    → (is_spent pages ≡ false → number ≤ 921600) → is_spent pages ≡ false
    → length (pages_of_map pages image) ≤ 2 ^ 20
small_map pages image number counts is few live =
    few_pages (pages_of_map pages image) (page_count pages) number (counts image) is (few live)

-- A call that only reads changes no page of the map.
pub pages_same : (old new : PageMap) (image : List Sector) → IsUnchanged old new
    → pages_of_map new image ≡ pages_of_map old image
pages_same old new image unchanged = ap (λ (m : Map). m.pages) (unchanged.map image)

module _ {D : Type 0} (device : Devices D) where
  -- A call that only reads changes no disk. So what is claimed of pages over the disk after it holds over the disk
  -- before it,
  pub pages_at : (A : Type 0) (old now : PageMap) (a b : D) (P : List (Option Sector) → Type 0) → OnlyReads device A a b
      → IfAgrees device old a (Agrees now (device.state b).disk) → OnPages device now b P
      → IfAgrees device old a (P (pages_on device now a))
  pages_at A old now a b P only agrees claim = λ honest agreed.
      subst (λ (s : State). P (map_now now s.disk.present).pages) (only.state honest)
      (claim (only.honest.0 honest) (agrees honest agreed))

  -- and so is what is claimed of a change.
  pub change_at : (A : Type 0) (old now new : PageMap) (a b : D) (P : List (Option Sector) → List (Option Sector)
      → Type 0) → OnlyReads device A a b → IfAgrees device old a (Agrees now (device.state b).disk)
      → OnChange device now new b P → IfAgrees device old a (P (pages_on device now a) (pages_on device new a))
  change_at A old now new a b P only agrees claim = λ honest agreed.
      subst (λ (s : State). P (map_now now s.disk.present).pages (map_now new s.disk.present).pages)
      (only.state honest) (claim (only.honest.0 honest) (agrees honest agreed))

  -- A change after a call that only reads is a change of the map from before that call.
  pub change_before : (A : Type 0) (old now new : PageMap) (a b : D) (P : List (Option Sector) → List (Option Sector)
      → Type 0) → IsUnchanged old now → OnlyReads device A a b
      → IfAgrees device old a (Agrees now (device.state b).disk) → OnChange device now new b P
      → OnChange device old new a P
  change_before A old now new a b P unchanged only agrees claim = λ honest agreed.
      subst (λ (p : List (Option Sector)). P p (pages_on device new a))
      (pages_same old now (device.state a).disk.present unchanged)
      (change_at A old now new a b P only agrees claim honest agreed)
