-- What a loop over a chain keeps of the map of pages and of the device, page by page.
use Rattle.std.proofs.Common.{◌≡◌, ◌<◌, ◌≤◌, ◌+◌, ◌*◌, ℕ, suc, List, length, drop, set, true, false, refl, sym, ap}
use Rattle.std.proofs.Common.{subst}
use Rattle.std.proofs.Common.{◌∙◌, arith}
use Rattle.std.specs.Prelude.{Option, Some, None}
use Rattle.station.specs.Disk.{Sector}
use Rattle.station.specs.State.{State}
use Rattle.station.specs.Calls.{OnlyReads}
use Rattle.station.specs.declared.device.Device.{Ghosts as Devices}
use Rattle.station.proofs.Calls.{reads_then, reads_nothing}
use Rattle.pages.specs.Changes.{ChangesPage}
use Rattle.pages.specs.Pages.{catalog_of, changed_pages_of, is_spent, Agrees, SameCommitted, KeepsCommitted}
use Rattle.pages.specs.declared.page_map.PageMap.{PageMap}
use Rattle.btree.specs.Changes.{pages_of_map}
use Rattle.btree.proofs.Frames.{false_unless}
use Rattle.btree.proofs.Passing.{committed_on}
use Rattle.chains.specs.Chain.{next_in, next_at, Stands, pages_for, link_bytes}
use Rattle.chains.specs.Links.{IsCut}
use Rattle.chains.proofs.Fronts.{sets_once}
use Rattle.chains.proofs.Loops.{RestToWrite, RestToRelease, writes_here, writes_step, releases_here, releases_step}
use Rattle.chains.proofs.Parts.{link_low}
use Rattle.chains.proofs.Refusing.{changed_more}
use Rattle.chains.proofs.Unwritten.{still_agrees}

module _ {D : Type 0} (device : Devices D) where
  -- so many pages of a chain were read and changed
  pub record KeepsMap (old new : PageMap) (before after : D) (place : ℕ) : Type 0 where
    pub only : OnlyReads device ⊥ before after
    pub committed : SameCommitted old new
    pub catalog : catalog_of new ≡ catalog_of old
    pub agrees : device.is_honest before → Agrees old (device.state before).disk → Agrees new (device.state after).disk
    pub changed_pages : length (changed_pages_of new) ≤ length (changed_pages_of old) + place
    pub unspent : 0 < place → is_spent old ≡ false

  pub keeps_nothing : (p : PageMap) (now : D) → KeepsMap p p now now 0
  keeps_nothing p now = record {
    only = reads_nothing device now;
    committed = record { volume = refl; mark = refl; spent = refl };
    catalog = refl;
    agrees = λ honest agrees. agrees;
    changed_pages = omega arith;
    unspent = λ some. absurd (omega (arith, some));
  }

  pub keeps_next : (one two three : PageMap) (first mid last : D) (page place : ℕ) (blamed : Type 0)
      → KeepsMap one two first mid place → OnlyReads device blamed mid last → KeepsCommitted two three
      → ChangesPage (changed_pages_of two) page (changed_pages_of three) → (is_spent two ≡ true → ⊥)
      → KeepsMap one three first last (place + 1)
  keeps_next one two three first mid last page place blamed keeps only later changes unspent = record {
    only = reads_then device ⊥ blamed ⊥ first mid last (λ e. absurd e) keeps.only only;
    committed = committed_on one two three keeps.committed later.committed;
    catalog = later.catalog ∙ keeps.catalog;
    agrees = λ h a. later.agrees (device.state last).disk
        (still_agrees two _ _ (only.state (keeps.only.honest.0 h)) (keeps.agrees h a));
    changed_pages = changed_more (changed_pages_of one) (changed_pages_of two) page (changed_pages_of three) place
        keeps.changed_pages changes;
    unspent = λ some. false_unless (is_spent one) (λ was. unspent (keeps.committed.spent ∙ was));
  }

  -- if the device is honest and holds the map, and a chain of so many pages stood on it
  abbrev pub IfStood : PageMap → D → ℕ → ℕ → Type 0 → Type 0
  IfStood pages now count first claim = device.is_honest now → Agrees pages (device.state now).disk
      → Stands (pages_of_map pages (device.state now).disk.present) count first → claim

  -- the pages of a map, over what the device held at the call
  abbrev pub over : PageMap → D → List (Option Sector)
  over pages now = pages_of_map pages (device.state now).disk.present

  next_before : (pages : PageMap) (before after : State) (count page next : ℕ) → after ≡ before
      → (Stands (pages_of_map pages after.disk.present) count page
      → next ≡ next_at (pages_of_map pages after.disk.present) page)
      → Stands (pages_of_map pages before.disk.present) count page
      → next_at (pages_of_map pages before.disk.present) page ≡ next
  next_before pages before after count page next same found stands =
      sym (subst (λ (s : State). next ≡ next_at (pages_of_map pages s.disk.present) page) same
      (found (subst (λ (s : State). Stands (pages_of_map pages s.disk.present) count page) (sym same) stands)))

  module _ (one two : PageMap) (first mid : D) (start place page more : ℕ) (keeps : KeepsMap one two first mid place)
    where
      -- a record of some bytes: the next page is written
      pub writes_next : (three : PageMap) (bytes part spelled : List ℕ) (next : ℕ)
          → place + suc more ≡ pages_for (length bytes)
          → IsCut (drop (place * 4080) bytes) part (drop ((place + 1) * 4080) bytes)
          → IfStood two mid (suc more) page (next ≡ next_at (over two mid) page)
          → ((image : List Sector) → pages_of_map three image ≡ set (pages_of_map two image) page (Some spelled))
          → spelled ≡ link_bytes next part → next_in (link_bytes next part) ≡ next
          → IfStood one first (pages_for (length bytes)) start
          (RestToWrite (over one first) bytes start (over two first) place page)
          → IfStood one first (pages_for (length bytes)) start
          (RestToWrite (over one first) bytes start (over three first) (place + 1) next)
      writes_next three bytes part spelled next count cut found sets spells reads rest = λ honest agrees stands.
          let before = rest honest agrees stands in
          let here = writes_here (over one first) bytes start (over two first) place page more count before in
          let is = next_before two _ _ (suc more) page next (keeps.only.state honest)
          (found (keeps.only.honest.0 honest) (keeps.agrees honest agrees)) here in
          writes_step (over one first) bytes part start (over two first) (over three first) place page next cut is
          (sets_once (over two first) (over three first) page (Some (link_bytes next part))
          (link_low (over two first) page here.1) (sets (device.state first).disk.present
          ∙ ap (λ (b : List ℕ). set (over two first) page (Some b)) spells)) reads before

      -- no chain stands if one of its pages is refused as damaged
      pub writes_stop : (bytes : List ℕ) (told : Type 0) → place + suc more ≡ pages_for (length bytes)
          → IfStood one first (pages_for (length bytes)) start
          (RestToWrite (over one first) bytes start (over two first) place page) → told
          → (device.is_honest mid → Agrees two (device.state mid).disk → told → Stands (over two mid) (suc more) page
          → ⊥)
          → IfStood one first (pages_for (length bytes)) start ⊥
      writes_stop bytes told count rest is never = λ honest agrees stands.
          never (keeps.only.honest.0 honest) (keeps.agrees honest agrees) is
          (subst (λ (s : State). Stands (pages_of_map two s.disk.present) (suc more) page)
          (sym (keeps.only.state honest))
          (writes_here (over one first) bytes start (over two first) place page more count
          (rest honest agrees stands)))

      -- a chain of so many pages: the next page is released
      pub releases_next : (three : PageMap) (count next : ℕ) → place + suc more ≡ count
          → IfStood two mid (suc more) page (next ≡ next_at (over two mid) page)
          → ((image : List Sector) → pages_of_map three image ≡ set (pages_of_map two image) page None)
          → IfStood one first count start (RestToRelease (over one first) count start (over two first) place page)
          → IfStood one first count start
          (RestToRelease (over one first) count start (over three first) (place + 1) next)
      releases_next three count next whole found sets rest = λ honest agrees stands.
          let before = rest honest agrees stands in
          let here = releases_here (over one first) count start (over two first) place page more whole before in
          let is = next_before two _ _ (suc more) page next (keeps.only.state honest)
          (found (keeps.only.honest.0 honest) (keeps.agrees honest agrees)) here in
          releases_step (over one first) count start (over two first) (over three first) place page more next whole is
          (link_low (over two first) page here.1) (sets (device.state first).disk.present) before

      pub releases_stop : (count : ℕ) (told : Type 0) → place + suc more ≡ count
          → IfStood one first count start (RestToRelease (over one first) count start (over two first) place page)
          → told
          → (device.is_honest mid → Agrees two (device.state mid).disk → told → Stands (over two mid) (suc more) page
          → ⊥)
          → IfStood one first count start ⊥
      releases_stop count told whole rest is never = λ honest agrees stands.
          never (keeps.only.honest.0 honest) (keeps.agrees honest agrees) is
          (subst (λ (s : State). Stands (pages_of_map two s.disk.present) (suc more) page)
          (sym (keeps.only.state honest)) (releases_here (over one first) count start (over two first) place page more
          whole (rest honest agrees stands)))
