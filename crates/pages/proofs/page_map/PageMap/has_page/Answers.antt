use Rattle.std.proofs.Common.{◌≡◌, ◌==◌, ℕ, List, length, not, map, get_or, sym, ◌∙◌, ap, arith}
use Rattle.std.specs.Prelude.{None, is_some, false}
use Rattle.std.specs.Prelude.{Option}
use Rattle.std.proofs.lemmas.List.{length-map, get_or_past}
use Rattle.station.specs.Disk.{Sector}
use Rattle.pages.specs.declared.change.Change.{Change}
use Rattle.pages.specs.Image.{page_at, pages_in}
use Rattle.pages.specs.Changes.{list_after, mapped_after}
use Rattle.pages.proofs.Edits.{length-applied, away_same, kept_at}
use Rattle.pages.proofs.Taking.{named_at}
use Rattle.pages.proofs.page_map.PageMap.has_page.Goals as goal

-- whether the map has a page, over any image
abbrev there : List Sector → List ℕ → List Change → ℕ → Option Sector
there image table changes page = get_or (list_after (λ (o : Option Sector). o) (pages_in image table) changes) page None

pub returns-then-page-eq0 : goal.returns-then-page-eq0
returns-then-page-eq0 c = λ image.
    let ready = c.args.self.now.ready c.requires.unspent in
    let table = c.args.self.now.volume.table in
    let changes = c.args.self.now.changes.items in
    let none : get_or (mapped_after table changes) 0 false ≡ false =
    away_same is_some (map (λ (s : ℕ). not (s == 0)) table) changes 0 false (λ k d lt is.
    omega (arith, (ready.pages k d lt).0, is)) ∙ named_at table 0 ∙ ap (λ (s : ℕ). not (s == 0)) ready.sound.unused in
    sym (ap (λ (n : ℕ). is_some (there image table changes n)) c.if-page-eq0.true ∙ sym (kept_at image table changes 0)
    ∙ none)

pub returns-then-page-entries : goal.returns-then-page-entries
returns-then-page-entries c = λ image.
    let table = c.args.self.now.volume.table in
    let changes = c.args.self.now.changes.items in
    sym (ap is_some (get_or_past (list_after (λ (o : Option Sector). o) (pages_in image table) changes) c.args.page None
    (omega (
      arith,
      c.if-page-entries.true,
      ap (λ (l : List ℕ). length l) c.entries.ensures,
      length-applied (λ (o : Option Sector). o) (pages_in image table) changes,
      length-map table (page_at image),
    ))))

pub returns : goal.returns
returns c = λ image.
    let table = c.args.self.now.volume.table in
    let changes = c.args.self.now.changes.items in
    c.is_kept.ensures
    ∙ ap (λ (l : List ℕ). get_or (mapped_after l c.deref.result.now) c.args.page false) c.entries-2.ensures
    ∙ ap (λ (l : List Change). get_or (mapped_after table l) c.args.page false) c.deref.ensures.value
    ∙ kept_at image table changes c.args.page
