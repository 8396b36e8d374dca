use Rattle.std.proofs.Common.{◌≡◌, List, refl, sym, ◌∙◌, subst}
use Rattle.std.specs.Prelude.{Option, Some, None, IfSome, option_copied, Contains, nat_eq}
use Rattle.std.specs.Map.{lookup}
use Rattle.std.proofs.lemmas.Bool.{false≢true}
use Rattle.station.specs.Disk.{Disk, Sector}
use Rattle.pages.specs.Image.{pages_in}
use Rattle.pages.specs.Changes.{changed_pages}
use Rattle.pages.specs.Pages.{map_now, page_of, Agrees}
use Rattle.pages.specs.Visits.{Visits}
use Rattle.pages.specs.declared.change.Change.{Change}
use Rattle.pages.proofs.Edits.{Away, away_same, away_changed, changed_at}
use Rattle.pages.proofs.Caches.{viewed, held_page}
use Rattle.pages.proofs.Lookups.{changed_bytes}
use Rattle.pages.proofs.Visiting.{ReadyIfUnspent, with_cache, visits_changed, visits_other, not_there, first_there}
use Rattle.pages.proofs.page_map.PageMap.visit.Goals as goal

-- the page was changed
was_changed : (c : goal.After-view) → Contains (changed_pages c.args.self.now.changes.items) c.args.page
was_changed c =
    let found = c.in-Some.ensures.found in
    subst (λ (l : List Change). Contains (changed_pages l) c.args.page) c.deref.ensures.value
    (changed_at c.deref.result.now c.in-Some.i c.args.page c.index.result.now found.0 (found.1 c.index.result.now))

changed_page : (c : goal.After-view) (image : List Sector)
    → option_copied c.view.result ≡ page_of (map_now c.args.self.now image) c.args.page
changed_page c image = c.view.ensures ∙ changed_bytes image c.args.self.now c.deref.result.now c.args.page c.in-Some.i
    c.index.result.now (c.args.self.now.ready c.if-self.false) c.deref.ensures.value c.in-Some.ensures.found.0
    c.in-Some.ensures.found.1 c.index.ensures

pub returns-in-Some : goal.returns-in-Some
returns-in-Some c = (
  (refl, λ _. tt, visits_changed c.args.self.now _ c.args.page (was_changed c)),
  record {
    visits = tt;
    page = λ disk agrees.
        viewed c.view.result (page_of (map_now c.args.self.now disk.present) c.args.page) (changed_page c disk.present);
    changed = λ unspent has image. changed_page c image;
    cached = λ unspent away. absurd (away (was_changed c));
    spent = λ is. absurd (false≢true (sym c.if-self.false ∙ is));
  },
)

-- the page wasn't changed, and the cache hasn't it
absent_away : (c : goal.After-self-then-not-promote_page-1)
    → Contains (changed_pages c.args.self.now.changes.items) c.args.page → ⊥
absent_away c = away_changed c.args.self.now.changes.items c.args.page
    (subst (Away c.args.page) c.deref.ensures.value c.in_default.ensures.absent)

visits_absent : (c : goal.After-self-then-not-promote_page-1) (ready : ReadyIfUnspent c.args.self.now)
    → Visits c.args.page c.args.self.now (with_cache c.args.self.now c.promote_page.new.cache ready)
visits_absent c ready = visits_other c.args.self.now c.promote_page.new.cache ready c.args.page
    c.promote_page.ensures.entries (absent_away c) c.if-self.false

absent_page : (c : goal.After-self-then-not-promote_page-1)
    → None ≡ lookup (nat_eq c.args.page) c.args.self.now.cache.entries
absent_page c = not_there (lookup (nat_eq c.args.page) c.args.self.now.cache.entries) c.promote_page.result
    c.promote_page.ensures.is_there c.if-not-promote_page.true

pub returns-then-not-promote_page : goal.returns-then-not-promote_page
returns-then-not-promote_page c = (
  (refl, λ _. tt, visits_absent c _),
  record {
    visits = tt;
    page = λ disk agrees. tt;
    changed = λ unspent has. absurd (absent_away c has);
    cached = λ unspent other. absent_page c;
    spent = λ is. refl;
  },
)

-- the page wasn't changed, and the cache has it
away : (c : goal.After-most_recent_page) → Away c.args.page c.args.self.now.changes.items
away c = subst (Away c.args.page) c.deref.ensures.value c.in_default.ensures.absent

visits_found : (c : goal.After-most_recent_page) (ready : ReadyIfUnspent c.args.self.now)
    → Visits c.args.page c.args.self.now (with_cache c.args.self.now c.promote_page.new.cache ready)
visits_found c ready = visits_other c.args.self.now c.promote_page.new.cache ready c.args.page
    c.promote_page.ensures.entries (away_changed c.args.self.now.changes.items c.args.page (away c)) c.if-self.false

found_page : (c : goal.After-most_recent_page)
    → option_copied c.most_recent_page.result ≡ lookup (nat_eq c.args.page) c.args.self.now.cache.entries
found_page c = first_there c.args.self.now.cache.entries c.promote_page.new.cache c.args.self.now.cache.cap c.args.page
    c.promote_page.result c.most_recent_page.result c.promote_page.ensures.entries c.promote_page.ensures.is_there
    c.if-not-promote_page.false c.most_recent_page.ensures

found_bytes : (c : goal.After-most_recent_page) (disk : Disk) → Agrees c.args.self.now disk
    → IfSome c.most_recent_page.result
    (λ bytes. page_of (map_now c.args.self.now disk.present) c.args.page ≡ Some bytes.now)
found_bytes c disk agrees =
    let pages = pages_in disk.present c.args.self.now.volume.table in
    let changes = c.args.self.now.changes.items in
    held_page pages (changed_pages changes) c.args.self.now.cache.entries c.args.page
    (page_of (map_now c.args.self.now disk.present) c.args.page) c.most_recent_page.result agrees.cache (found_page c)
    (away_same (λ (o : Option Sector). o) pages changes c.args.page None (away c))

pub returns : goal.returns
returns c = (
  (refl, λ _. tt, visits_found c _),
  record {
    visits = tt;
    page = found_bytes c;
    changed = λ unspent has. absurd (away_changed c.args.self.now.changes.items c.args.page (away c) has);
    cached = λ unspent other. found_page c;
    spent = λ is. absurd (false≢true (sym c.if-self.false ∙ is));
  },
)
