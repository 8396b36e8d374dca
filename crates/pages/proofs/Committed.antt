-- The next volume, once its blocks and its root are there.
use Rattle.std.proofs.Common.{◌≡◌, inl, inr, ⊎_elim, ◌≤◌, ◌%◌, ℕ, List, [], length, set, refl, sym, ◌∙◌, ap, subst}
use Rattle.std.proofs.Common.{arith, get_or-set_other}
use Rattle.std.specs.Prelude.{Option, Some}
use Rattle.std.proofs.lemmas.List.Elements.{Contains-append_right}
use Rattle.station.specs.Disk.{Disk, Sector, idle_disk, IsCrashImage}
use Rattle.station.specs.State.{State, Event}
use Rattle.station.specs.History.{Through}
use Rattle.station.specs.Blocks.{CrashLeaves, OldOrNew, Old, New, with_all}
use Rattle.station.specs.declared.blocks.Block.{Block}
use Rattle.station.proofs.Crash.{settled_image}
use Rattle.station.proofs.Spans.{stays, weakens}
use Rattle.station.proofs.TwoPhase.{all_same_outside, with_all_count}
use Rattle.roots.specs.Root.{root_in}
use Rattle.roots.specs.declared.root.RootSector.TheVariants.{Valid}
use Rattle.pages.specs.declared.change.Change.{Change}
use Rattle.pages.specs.Layout.{newest, known_families}
use Rattle.pages.specs.Image.{Map, pages_in, Volume, names, Reads, map_of, IsImageOf, KeepsUsed, IsCommitted}
use Rattle.pages.specs.Changes.{pages_after, next_map, BeforeOrAfter}
use Rattle.pages.specs.Plan.{IsPlan}
use Rattle.pages.specs.Payload.{SpellsRoot}
use Rattle.pages.proofs.Roots.{next_newest, enough}
use Rattle.pages.proofs.Frame.{SameAt, pages_same, same_maps, newest_same, still_holds}
use Rattle.pages.proofs.Staging.{keeps_used}

-- a crash leaves the map of a volume at rest
at_rest : (v : Volume) (after : Map) (s : State) → IsCommitted v s.disk
    → CrashLeaves s.events (BeforeOrAfter (map_of s.disk.present v) after) s
at_rest v after s rests = record {
  events = refl;
  images = λ image crash. inl (subst (λ (l : List Sector). IsImageOf l (map_of s.disk.present v)) (sym (settled_image
      s.disk.present image (subst (λ (d : Disk). IsCrashImage d image) rests.settled crash))) (v, rests.reads, refl));
}

pub stays_at_rest : (h : List State) (s : State) (v : Volume) (after : Map) → IsCommitted v s.disk
    → Through h h s (CrashLeaves s.events (BeforeOrAfter (map_of s.disk.present v) after))
stays_at_rest h s v after rests =
    stays h s (CrashLeaves s.events (BeforeOrAfter (map_of s.disk.present v) after)) (at_rest v after s rests)

module _ (v w : Volume) (base : List Sector) (blocks : List Block) (changes : List Change) (bytes : Sector)
    (reads : Reads base v) (plan : IsPlan v w blocks changes) (spells : SpellsRoot w.root bytes) where
  abbrev staged : List Sector
  staged = with_all base blocks

  abbrev root : ℕ
  root = w.root.generation % 2

  abbrev image : List Sector
  image = set staged root bytes

  all : v.root.sectors ≤ length base
  all = (enough base v reads).1

  keeps : KeepsUsed v base staged
  keeps = keeps_used v base blocks staged plan.free (all_same_outside base blocks)

  valid : root_in known_families (length staged) (spells.root.generation % 2) bytes ≡ Valid spells.root
  valid =
      subst (λ (g : ℕ). root_in known_families (length staged) (g % 2) bytes ≡ Valid spells.root)
      (sym spells.generation)
      (spells.valid (length staged) (omega (arith, plan.sectors, all, with_all_count base blocks)))

  image_newest : newest image ≡ Some w.root
  image_newest = ap (λ (g : ℕ). newest (set staged (g % 2) bytes)) (sym spells.generation)
      ∙ next_newest staged v.root spells.root w.root bytes (newest_same v base staged keeps ∙ reads.root) spells.mark
      plan.mark (spells.generation ∙ plan.generation) (spells.sectors ∙ plan.sectors) spells.reads valid

  same_named : SameAt image staged (names w)
  same_named s has = ⊎_elim
      (λ none. inl none) (λ place. inr (get_or-set_other staged root s bytes [] (λ e. omega (arith, e, place.0))))
      ((plan.maps base all reads).places s has)

  pub next_reads : Reads image w
  next_reads = record { root = image_newest; maps = same_maps w staged image (plan.maps base all reads) same_named }

  next_pages : pages_in image w.table ≡ pages_after (pages_in base v.table) changes
  next_pages = pages_same image staged w.table (λ s has. same_named s (Contains-append_right w.root.maps w.table s has))
      ∙ plan.pages base all reads

  pub next_is : map_of image w ≡ next_map (map_of base v) changes w.root.mark w.root.catalog
  next_is = ap (λ (pages : List (Option Sector)).
      record { mark = w.root.mark; generation = w.root.generation; catalog = w.root.catalog; pages = pages }) next_pages
      ∙ ap (λ (g : ℕ).
      record {
        mark = w.root.mark;
        generation = g;
        catalog = w.root.catalog;
        pages = pages_after (pages_in base v.table) changes;
      })
      plan.generation

  before_or_after : (left : List Sector) → OldOrNew base blocks root bytes left
      → BeforeOrAfter (map_of base v) (next_map (map_of base v) changes w.root.mark w.root.catalog) left
  before_or_after left (Old spares) =
      inl (still_holds v base left reads (keeps_used v base blocks left plan.free spares))
  before_or_after left (New is) = inr (subst (λ (l : List Sector).
      IsImageOf l (next_map (map_of base v) changes w.root.mark w.root.catalog)) (sym is) (w, next_reads, next_is))

  pub amid_maps : (seen : List Event) (s : State) → CrashLeaves seen (OldOrNew base blocks root bytes) s
      → CrashLeaves seen (BeforeOrAfter (map_of base v) (next_map (map_of base v) changes w.root.mark w.root.catalog)) s
  amid_maps seen s amid =
      record { events = amid.events; images = λ left crash. before_or_after left (amid.images left crash) }

  pub now_committed : (d : Disk) → d ≡ idle_disk image → IsCommitted w d
  now_committed d is = subst (IsCommitted w) (sym is) (record { settled = refl; reads = next_reads })

  pub now_is : (d : Disk) → d ≡ idle_disk image
      → map_of d.present w ≡ next_map (map_of base v) changes w.root.mark w.root.catalog
  now_is d is = ap (λ (e : Disk). map_of e.present w) is ∙ next_is

  -- the same, with the mark and the catalog's page by other names
  pub amid_maps_as : (mark page : ℕ) → w.root.mark ≡ mark → w.root.catalog ≡ page
      → (seen : List Event) (s : State) → CrashLeaves seen (OldOrNew base blocks root bytes) s
      → CrashLeaves seen (BeforeOrAfter (map_of base v) (next_map (map_of base v) changes mark page)) s
  amid_maps_as mark page own is seen s amid =
      subst (λ (n : ℕ). CrashLeaves seen (BeforeOrAfter (map_of base v) (next_map (map_of base v) changes mark n)) s) is
      (subst
      (λ (m : ℕ).
      CrashLeaves seen (BeforeOrAfter (map_of base v) (next_map (map_of base v) changes m w.root.catalog)) s)
      own (amid_maps seen s amid))

  -- at each moment of a call
  pub amid_through : (mark page : ℕ) → w.root.mark ≡ mark → w.root.catalog ≡ page → (a b : List State) (s : State)
      (seen : List Event) → Through a b s (CrashLeaves seen (OldOrNew base blocks root bytes))
      → Through a b s (CrashLeaves seen (BeforeOrAfter (map_of base v) (next_map (map_of base v) changes mark page)))
  amid_through mark page own is a b s seen = weakens a b s (CrashLeaves seen (OldOrNew base blocks root bytes))
      (CrashLeaves seen (BeforeOrAfter (map_of base v) (next_map (map_of base v) changes mark page)))
      (amid_maps_as mark page own is seen)

  pub now_is_as : (mark page : ℕ) → w.root.mark ≡ mark → w.root.catalog ≡ page → (d : Disk) → d ≡ idle_disk image
      → map_of d.present w ≡ next_map (map_of base v) changes mark page
  now_is_as mark page own is d same =
      now_is d same ∙ ap (λ (m : ℕ). next_map (map_of base v) changes m w.root.catalog) own
      ∙ ap (next_map (map_of base v) changes mark) is
