use Rattle.std.proofs.Common.{◌≡◌, List, ◌∙◌, subst}
use Rattle.std.specs.Prelude.{Option, None, option_copied}
use Rattle.station.specs.Disk.{Sector}
use Rattle.pages.specs.Image.{pages_in}
use Rattle.pages.specs.Changes.{changed_pages}
use Rattle.pages.specs.Pages.{map_now, page_of}
use Rattle.pages.proofs.Edits.{Away, away_same, away_changed}
use Rattle.pages.proofs.Caches.{viewed, held_page}
use Rattle.pages.proofs.Lookups.{changed_bytes}
use Rattle.pages.proofs.page_map.PageMap.view.Goals as goal

changed_page : (c : goal.After-view) (image : List Sector)
    → option_copied c.view.result ≡ page_of (map_now c.args.self.now image) c.args.page
changed_page c image = c.view.ensures ∙ changed_bytes image c.args.self.now c.deref.result.now c.args.page c.in-Some.i
    c.index.result.now (c.args.self.now.ready c.if-self.false) c.deref.ensures.value c.in-Some.ensures.found.0
    c.in-Some.ensures.found.1 c.index.ensures

pub returns-in-Some-clause-changed : goal.returns-in-Some-clause-changed
returns-in-Some-clause-changed c = λ unspent has image. changed_page c image

pub returns-in-Some-clause-page : goal.returns-in-Some-clause-page
returns-in-Some-clause-page c = λ disk agrees.
    viewed c.view.result (page_of (map_now c.args.self.now disk.present) c.args.page) (changed_page c disk.present)

pub returns-in-None-clause-page : goal.returns-in-None-clause-page
returns-in-None-clause-page c = λ disk agrees.
    let table = c.args.self.now.volume.table in
    let changes = c.args.self.now.changes.items in
    let away : Away c.args.page changes = subst (Away c.args.page) c.deref.ensures.value c.in-None.ensures.absent in
    held_page (pages_in disk.present table) (changed_pages changes) c.args.self.now.cache.entries c.args.page
    (page_of (map_now c.args.self.now disk.present) c.args.page) c.seen_page.result agrees.cache c.seen_page.ensures
    (away_same (λ (o : Option Sector). o) (pages_in disk.present table) changes c.args.page None away)

pub returns-in-None-clause-changed : goal.returns-in-None-clause-changed
returns-in-None-clause-changed c = λ unspent has image.
    let changes = c.args.self.now.changes.items in
    let away : Away c.args.page changes = subst (Away c.args.page) c.deref.ensures.value c.in-None.ensures.absent in
    absurd (away_changed changes c.args.page away has)
