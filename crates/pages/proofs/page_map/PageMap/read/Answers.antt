use Rattle.std.proofs.Common.{◌≡◌, ℕ, List, get_or, sym, ◌∙◌, ap, subst}
use Rattle.std.specs.Prelude.{Option, None, IfOk}
use Rattle.station.specs.Disk.{Sector}
use Rattle.pages.specs.Image.{pages_in}
use Rattle.pages.specs.Changes.{changed_pages}
use Rattle.pages.specs.Cache.{IsCacheOf}
use Rattle.pages.specs.Pages.{committed_of}
use Rattle.pages.proofs.Edits.{Away, away_same, away_changed}
use Rattle.pages.proofs.Lookups.{changed_bytes, table_fits, committed_after, cache_after}
use Rattle.std.proofs.Common.{inr, refl}
use Rattle.std.specs.Prelude.{Contains}
use Rattle.pages.specs.declared.change.Change.{Change}
use Rattle.pages.proofs.Edits.{changed_at}
use Rattle.pages.proofs.Keeping.{unchanged_self}
use Rattle.pages.proofs.Passing.{never_ok, never_err, spent_not_device, never_spent, device_alone, device_is_read}
use Rattle.pages.proofs.Passing.{reads_never}
use Rattle.pages.proofs.page_map.PageMap.read.Goals as goal

pub recall_page-requires : goal.recall_page-requires
recall_page-requires g c = table_fits c.args.self.now c.entries.result.now (g.D.Device.sectors c.args.device.now)
    (c.args.self.now.ready c.if-self.false) c.entries.ensures c.requires.sectors

pub returns-in-Some-clause-page : goal.returns-in-Some-clause-page
returns-in-Some-clause-page g c = λ honest agrees. c.bytes.ensures
    ∙ changed_bytes (g.D.Device.state c.args.device.now).disk.present c.args.self.now c.deref.result.now c.args.page
    c.in-Some.i c.index.result.now (c.args.self.now.ready c.if-self.false) c.deref.ensures.value
    c.in-Some.ensures.found.0 c.in-Some.ensures.found.1 c.index.ensures

pub returns-in-None-clause-page : goal.returns-in-None-clause-page
returns-in-None-clause-page g c = λ honest agrees.
    let present = (g.D.Device.state c.args.device.now).disk.present in
    let table = c.args.self.now.volume.table in
    let changes = c.args.self.now.changes.items in
    let entries = c.args.self.now.cache.entries in
    let away : Away c.args.page changes = subst (Away c.args.page) c.deref.ensures.value c.in-None.ensures.absent in
    let cache = subst (λ (l : List ℕ). IsCacheOf (pages_in present l) (changed_pages changes) entries)
    (sym c.entries.ensures) agrees.cache in
    subst (λ (o : Option Sector). IfOk c.recall_page.result (λ bytes. bytes ≡ o))
    (ap (λ (l : List ℕ). get_or (pages_in present l) c.args.page None) c.entries.ensures
    ∙ sym (away_same (λ (o : Option Sector). o) (pages_in present table) changes c.args.page None away))
    (c.recall_page.ensures.page (changed_pages changes) honest cache)

pub returns-in-None-clause-agrees : goal.returns-in-None-clause-agrees
returns-in-None-clause-agrees g c = λ honest agrees.
    let changed = changed_pages c.args.self.now.changes.items in
    let away : Away c.args.page c.args.self.now.changes.items =
    subst (Away c.args.page) c.deref.ensures.value c.in-None.ensures.absent in
    let same = c.recall_page.ensures.only.state honest in
    record {
      committed = committed_after (committed_of c.args.self.now) _ _ same agrees.committed;
      cache = cache_after c.args.self.now.volume.table c.entries.result.now changed c.args.self.now.cache.entries
          c.recall_page.new.cache.entries _ _ c.entries.ensures same agrees.cache
          (c.recall_page.ensures.right changed (away_changed c.args.self.now.changes.items c.args.page away) honest);
    }

pub returns-in-None-clause-changed : goal.returns-in-None-clause-changed
returns-in-None-clause-changed g c = λ has.
    let changes = c.args.self.now.changes.items in
    let away : Away c.args.page changes = subst (Away c.args.page) c.deref.ensures.value c.in-None.ensures.absent in
    absurd (away_changed changes c.args.page away has)

pub returns-then-self-clause-only : goal.returns-then-self-clause-only
returns-then-self-clause-only g c = reads_never g.D.Device _ c.args.device.now (λ is. spent_not_device is)

pub returns-then-self-clause-unchanged : goal.returns-then-self-clause-unchanged
returns-then-self-clause-unchanged g c = unchanged_self c.args.self.now

pub returns-then-self-clause-absent : goal.returns-then-self-clause-absent
returns-then-self-clause-absent g c = λ is. never_err is

pub returns-then-self-clause-spent : goal.returns-then-self-clause-spent
returns-then-self-clause-spent g c = (λ is. c.if-self.true, λ was. refl)

pub returns-then-self-clause-cause : goal.returns-then-self-clause-cause
returns-then-self-clause-cause g c = inr refl

pub returns-in-Some-clause-only : goal.returns-in-Some-clause-only
returns-in-Some-clause-only g c = reads_never g.D.Device _ c.args.device.now (λ is. never_ok is)

pub returns-in-Some-clause-unchanged : goal.returns-in-Some-clause-unchanged
returns-in-Some-clause-unchanged g c = record {
  map = λ image. refl;
  changed_pages = refl;
  filled = refl;
  committed = record { volume = refl; mark = refl; spent = refl };
}

pub returns-in-Some-clause-recalls : goal.returns-in-Some-clause-recalls
returns-in-Some-clause-recalls g c = λ away.
    absurd (away (subst (λ (l : List Change). Contains (changed_pages l) c.args.page) c.deref.ensures.value
    (changed_at c.deref.result.now c.in-Some.i c.args.page c.index.result.now c.in-Some.ensures.found.0
    (c.in-Some.ensures.found.1 c.index.result.now))))

pub returns-in-Some-clause-spent : goal.returns-in-Some-clause-spent
returns-in-Some-clause-spent g c = (λ is. never_ok is, λ was. never_spent c.args.self.now.spent c.if-self.false was)

pub returns-in-None-clause-unchanged : goal.returns-in-None-clause-unchanged
returns-in-None-clause-unchanged g c = record {
  map = λ image. refl;
  changed_pages = refl;
  filled = refl;
  committed = record { volume = refl; mark = refl; spent = refl };
}

pub returns-in-None-clause-recalls : goal.returns-in-None-clause-recalls
returns-in-None-clause-recalls g c = λ away. c.recall_page.ensures.recalls

pub returns-in-None-clause-spent : goal.returns-in-None-clause-spent
returns-in-None-clause-spent g c = (
  λ is. device_alone c.recall_page.result c.recall_page.ensures.cause is,
  λ was. never_spent c.args.self.now.spent c.if-self.false was,
)

pub returns-in-None-clause-cause : goal.returns-in-None-clause-cause
returns-in-None-clause-cause g c = device_is_read c.recall_page.result c.recall_page.ensures.cause
