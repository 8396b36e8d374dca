use Rattle.std.proofs.Common.{◌≡◌, ℕ, List, get_or, sym, ◌∙◌, ap, subst}
use Rattle.std.specs.Prelude.{Option, None}
use Rattle.station.specs.Disk.{Sector}
use Rattle.pages.specs.Image.{pages_in}
use Rattle.pages.specs.Changes.{changed_pages}
use Rattle.pages.specs.Pages.{committed_of}
use Rattle.pages.proofs.Edits.{Away, away_same, away_changed}
use Rattle.pages.proofs.Caches.{none_found, unnamed_page}
use Rattle.pages.proofs.Lookups.{table_fits, committed_after, cache_after}
use Rattle.pages.proofs.page_map.PageMap.load.Given.{Over}
use Rattle.std.proofs.Common.{[], inl, inr, refl}
use Rattle.pages.proofs.Keeping.{unchanged_self}
use Rattle.pages.proofs.Passing.{never_ok, spent_not_device, never_spent, device_alone, device_is_read, reads_never}
use Rattle.pages.proofs.page_map.PageMap.load.Goals as goal

-- the page wasn't changed
away : (g : Over) (c : goal.After-self-2-1 g) → Away c.args.page c.args.self.now.changes.items
away g c = subst (Away c.args.page) c.deref.ensures.value (none_found c.find_change.result
    (Away c.args.page c.deref.result.now) (sym c.is_some.ensures ∙ c.if-is_some.false) c.find_change.ensures.absent)

pub load_page-requires : goal.load_page-requires
load_page-requires g c = table_fits c.args.self.now c.entries.result.now (g.D.Device.sectors c.args.device.now)
    (c.args.self.now.ready c.if-self.false) c.entries.ensures c.requires.sectors

pub returns-clause-agrees : goal.returns-clause-agrees
returns-clause-agrees g c = λ honest agrees.
    let changed = changed_pages c.args.self.now.changes.items in
    let same = c.load_page.ensures.only.state honest in
    record {
      committed = committed_after (committed_of c.args.self.now) _ _ same agrees.committed;
      cache = cache_after c.args.self.now.volume.table c.entries.result.now changed c.args.self.now.cache.entries
          c.load_page.new.cache.entries _ _ c.entries.ensures same agrees.cache
          (c.load_page.ensures.right changed (away_changed c.args.self.now.changes.items c.args.page (away g c))
          honest);
    }

pub returns-clause-changed : goal.returns-clause-changed
returns-clause-changed g c = λ has.
    absurd (away_changed c.args.self.now.changes.items c.args.page (away g c) has)

pub returns-clause-absent : goal.returns-clause-absent
returns-clause-absent g c = λ image none.
    let table = c.args.self.now.volume.table in
    let changes = c.args.self.now.changes.items in
    let zero_there : get_or table c.args.page 0 ≡ 0 = unnamed_page image table c.args.page
    (sym (away_same (λ (o : Option Sector). o) (pages_in image table) changes c.args.page None (away g c)) ∙ none) in
    c.load_page.ensures.absent (ap (λ (l : List ℕ). get_or l c.args.page 0) c.entries.ensures ∙ zero_there)

pub returns-then-self-clause-only : goal.returns-then-self-clause-only
returns-then-self-clause-only g c = reads_never g.D.Device _ c.args.device.now (λ is. spent_not_device is)

pub returns-then-self-clause-unchanged : goal.returns-then-self-clause-unchanged
returns-then-self-clause-unchanged g c = unchanged_self c.args.self.now

pub returns-then-self-clause-loads : goal.returns-then-self-clause-loads
returns-then-self-clause-loads g c = ([], inl refl)

pub returns-then-self-clause-spent : goal.returns-then-self-clause-spent
returns-then-self-clause-spent g c = (λ is. c.if-self.true, λ was. refl)

pub returns-then-self-clause-cause : goal.returns-then-self-clause-cause
returns-then-self-clause-cause g c = inr refl

pub returns-then-is_some-clause-only : goal.returns-then-is_some-clause-only
returns-then-is_some-clause-only g c = reads_never g.D.Device _ c.args.device.now (λ is. never_ok is)

pub returns-then-is_some-clause-unchanged : goal.returns-then-is_some-clause-unchanged
returns-then-is_some-clause-unchanged g c = record {
  map = λ image. refl;
  changed_pages = refl;
  filled = refl;
  committed = record { volume = refl; mark = refl; spent = refl };
}

pub returns-then-is_some-clause-loads : goal.returns-then-is_some-clause-loads
returns-then-is_some-clause-loads g c = ([], inl refl)

pub returns-then-is_some-clause-spent : goal.returns-then-is_some-clause-spent
returns-then-is_some-clause-spent g c =
    (λ is. never_ok is, λ was. never_spent c.args.self.now.spent c.if-self.false was)

pub returns-then-is_some-2-clause-only : goal.returns-then-is_some-2-clause-only
returns-then-is_some-2-clause-only g c = reads_never g.D.Device _ c.args.device.now (λ is. never_ok is)

pub returns-then-is_some-2-clause-unchanged : goal.returns-then-is_some-2-clause-unchanged
returns-then-is_some-2-clause-unchanged g c = record {
  map = λ image. refl;
  changed_pages = refl;
  filled = refl;
  committed = record { volume = refl; mark = refl; spent = refl };
}

pub returns-then-is_some-2-clause-loads : goal.returns-then-is_some-2-clause-loads
returns-then-is_some-2-clause-loads g c = ([], inl refl)

pub returns-then-is_some-2-clause-spent : goal.returns-then-is_some-2-clause-spent
returns-then-is_some-2-clause-spent g c =
    (λ is. never_ok is, λ was. never_spent c.args.self.now.spent c.if-self.false was)

pub returns-clause-unchanged : goal.returns-clause-unchanged
returns-clause-unchanged g c = record {
  map = λ image. refl;
  changed_pages = refl;
  filled = refl;
  committed = record { volume = refl; mark = refl; spent = refl };
}

pub returns-clause-spent : goal.returns-clause-spent
returns-clause-spent g c = (
  λ is. device_alone c.load_page.result c.load_page.ensures.cause is,
  λ was. never_spent c.args.self.now.spent c.if-self.false was,
)

pub returns-clause-cause : goal.returns-clause-cause
returns-clause-cause g c = device_is_read c.load_page.result c.load_page.ensures.cause
