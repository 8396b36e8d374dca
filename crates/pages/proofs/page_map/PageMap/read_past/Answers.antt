use Rattle.std.proofs.Common.{◌≡◌, ℕ, Bool, List, get_or, sym, ◌∙◌, ap, subst, if◌then◌else◌}
use Rattle.std.specs.Prelude.{Option, Some, None, IfOk}
use Rattle.station.specs.Disk.{Sector}
use Rattle.pages.specs.Image.{pages_in}
use Rattle.pages.specs.Changes.{changed_pages}
use Rattle.pages.specs.Cache.{IsCacheOf}
use Rattle.pages.proofs.Edits.{Away, away_same, away_changed}
use Rattle.pages.proofs.Lookups.{changed_bytes, table_fits}
use Rattle.std.proofs.Common.{inr, refl}
use Rattle.pages.proofs.Passing.{never_ok, never_err, ok_is, spent_not_device, never_spent, device_alone}
use Rattle.pages.proofs.Passing.{device_is_read, reads_never}
use Rattle.pages.proofs.page_map.PageMap.read_past.Goals as goal

pub fetch_page-requires : goal.fetch_page-requires
fetch_page-requires g c = table_fits c.args.self.now c.entries.result.now (g.D.Device.sectors c.args.device.now)
    (c.args.self.now.ready c.if-self.false) c.entries.ensures c.requires.sectors

pub returns-in-Some-clause-page : goal.returns-in-Some-clause-page
returns-in-Some-clause-page g c = λ honest agrees.
    sym (c.view.ensures ∙ changed_bytes (g.D.Device.state c.args.device.now).disk.present c.args.self.now
    c.deref.result.now c.args.page c.in-Some.i c.index.result.now (c.args.self.now.ready c.if-self.false)
    c.deref.ensures.value c.in-Some.ensures.found.0 c.in-Some.ensures.found.1 c.index.ensures)
    ∙ c.copy_page.ensures.copied

pub returns-in-None-clause-page : goal.returns-in-None-clause-page
returns-in-None-clause-page g c = λ honest agrees.
    let present = (g.D.Device.state c.args.device.now).disk.present in
    let table = c.args.self.now.volume.table in
    let changes = c.args.self.now.changes.items in
    let away : Away c.args.page changes = subst (Away c.args.page) c.deref.ensures.value c.in-None.ensures.absent in
    let cache = subst (λ (l : List ℕ). IsCacheOf (pages_in present l) (changed_pages changes)
    c.args.self.now.cache.entries) (sym c.entries.ensures) agrees.cache in
    subst (λ (o : Option Sector). IfOk c.fetch_page.result
    (λ (is_there : Bool). o ≡ (if is_there then Some c.fetch_page.new.bytes else None)))
    (ap (λ (l : List ℕ). get_or (pages_in present l) c.args.page None) c.entries.ensures
    ∙ sym (away_same (λ (o : Option Sector). o) (pages_in present table) changes c.args.page None away))
    (c.fetch_page.ensures.page (changed_pages changes) honest cache)

pub returns-in-None-clause-changed : goal.returns-in-None-clause-changed
returns-in-None-clause-changed g c = λ has.
    let changes = c.args.self.now.changes.items in
    let away : Away c.args.page changes = subst (Away c.args.page) c.deref.ensures.value c.in-None.ensures.absent in
    absurd (away_changed changes c.args.page away has)

pub returns-then-self-clause-only : goal.returns-then-self-clause-only
returns-then-self-clause-only g c = reads_never g.D.Device _ c.args.device.now (λ is. spent_not_device is)

pub returns-then-self-clause-absent : goal.returns-then-self-clause-absent
returns-then-self-clause-absent g c = λ is. never_err is

pub returns-then-self-clause-spent : goal.returns-then-self-clause-spent
returns-then-self-clause-spent g c = (λ is. c.if-self.true, λ was. refl)

pub returns-then-self-clause-cause : goal.returns-then-self-clause-cause
returns-then-self-clause-cause g c = inr refl

pub returns-in-Some-clause-only : goal.returns-in-Some-clause-only
returns-in-Some-clause-only g c = reads_never g.D.Device _ c.args.device.now (λ is. never_ok is)

pub returns-in-Some-clause-absent : goal.returns-in-Some-clause-absent
returns-in-Some-clause-absent g c = λ is. (refl, c.copy_page.ensures.absent (ok_is is))

pub returns-in-Some-clause-spent : goal.returns-in-Some-clause-spent
returns-in-Some-clause-spent g c = (λ is. never_ok is, λ was. never_spent c.args.self.now.spent c.if-self.false was)

pub returns-in-Some-clause-kept : goal.returns-in-Some-clause-kept
returns-in-Some-clause-kept g c = λ is. never_ok is

pub returns-in-None-clause-spent : goal.returns-in-None-clause-spent
returns-in-None-clause-spent g c = (
  λ is. device_alone c.fetch_page.result c.fetch_page.ensures.cause is,
  λ was. never_spent c.args.self.now.spent c.if-self.false was,
)

pub returns-in-None-clause-kept : goal.returns-in-None-clause-kept
returns-in-None-clause-kept g c = λ is. device_alone c.fetch_page.result c.fetch_page.ensures.cause is

pub returns-in-None-clause-cause : goal.returns-in-None-clause-cause
returns-in-None-clause-cause g c = device_is_read c.fetch_page.result c.fetch_page.ensures.cause
