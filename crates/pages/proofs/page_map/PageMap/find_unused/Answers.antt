use Rattle.std.proofs.Common.{◌≡◌, ◌<◌, ◌+◌, ◌/◌, ◌^◌, ◌∙◌, ℕ, List, [], length, get_or, refl, sym, ap, subst, arith}
use Rattle.std.specs.Prelude.{false}
use Rattle.pages.specs.Image.{NamesOnce}
use Rattle.pages.specs.Changes.{changed_pages, mapped_after, ArePlaced}
use Rattle.pages.specs.declared.change.Change.{Change}
use Rattle.pages.proofs.Edits.{unused_none, used_some}
use Rattle.pages.proofs.page_map.PageMap.find_unused.Goals as goal

pub unused_page-requires : goal.unused_page-requires
unused_page-requires c =
    let ready = c.args.self.now.ready c.if-self.false in
    let sound = ready.sound in
    let maps : length c.args.self.now.volume.maps.items ≡ (c.args.self.now.volume.sectors + 1023) / 1024 =
    sound.maps_count in
    let low : length c.args.self.now.volume.table < 2 ^ 32 = omega (arith, sound.count, maps, sound.most) in
    record {
      few = subst (λ (l : List ℕ). length l < 2 ^ 32) (sym c.entries.ensures) low;
      once = subst (λ (l : List Change). NamesOnce (changed_pages l)) (sym c.deref.ensures.value) ready.once;
      placed = subst (λ (l : List Change). ArePlaced l c.args.self.now.places) (sym c.deref.ensures.value) ready.placed;
    }

-- the use of a page, as the map has it
at_map : (table table' : List ℕ) (changes changes' : List Change) (page : ℕ) → table' ≡ table → changes' ≡ changes
    → get_or (mapped_after table changes) page false ≡ get_or (mapped_after table' changes') page false
at_map table table' changes changes' page t d = ap (λ (l : List ℕ). get_or (mapped_after l changes) page false) (sym t)
    ∙ ap (λ (l : List Change). get_or (mapped_after table' l) page false) (sym d)

pub returns-in-Some-clause-unused : goal.returns-in-Some-clause-unused
returns-in-Some-clause-unused c = λ image.
    let table = c.args.self.now.volume.table in
    let changes = c.args.self.now.changes.items in
    unused_none image table changes c.in-Some.page (at_map table c.entries.result.now changes c.deref.result.now
    c.in-Some.page c.entries.ensures c.deref.ensures.value ∙ c.in-Some.ensures.found.2)

pub returns-in-Some-clause-full : goal.returns-in-Some-clause-full
returns-in-Some-clause-full c = λ is.
    let table = c.args.self.now.volume.table in
    let changes = c.args.self.now.changes.items in (
      λ full. absurd (cc),
      λ each. absurd (each [] c.in-Some.page (
        c.in-Some.ensures.found.0,
        subst (λ (l : List ℕ). c.in-Some.page < length l) c.entries.ensures c.in-Some.ensures.found.1,
      )
          (unused_none [] table changes c.in-Some.page (at_map table c.entries.result.now changes c.deref.result.now
          c.in-Some.page c.entries.ensures c.deref.ensures.value ∙ c.in-Some.ensures.found.2))),
    )

pub returns-in-None-clause-full : goal.returns-in-None-clause-full
returns-in-None-clause-full c = λ is.
    let table = c.args.self.now.volume.table in
    let changes = c.args.self.now.changes.items in (
      λ full image page within. used_some image table changes page
          (at_map table c.entries.result.now changes c.deref.result.now page c.entries.ensures c.deref.ensures.value
          ∙ c.in-None.ensures.full page within.0
          (subst (λ (l : List ℕ). page < length l) (sym c.entries.ensures) within.1)),
      λ each. refl,
    )
