use Rattle.std.proofs.Common.{List, refl, ap, sym, subst, arith}
use Rattle.std.specs.Prelude.{IsOkUnless}
use Rattle.std.proofs.lemmas.Bool.{false≢true}
use Rattle.pages.specs.Cache.{IsCacheOf}
use Rattle.pages.specs.Changes.{changed_pages}
use Rattle.pages.specs.Needed.{filled_count}
use Rattle.pages.specs.declared.change.Change.{Change}
use Rattle.pages.specs.declared.error.PagesError.TheVariants.{Memory}
use Rattle.pages.proofs.Keeping.{keeps_change, keeps_committed, ready_after}
use Rattle.pages.proofs.Passing.{passed, on_refused, on_err}
use Rattle.pages.proofs.page_map.PageMap.rewrite.Goals as goal

pub invariant_of-self-2 : goal.invariant_of-self-2
invariant_of-self-2 c = record {
  ready = λ unspent.
      let self = c.args.self.now in
      let set = c.set_change.ensures in
      ready_after self.volume self.changes.items c.reserve_change.new.changes.items c.set_change.new.changes.items
      self.places c.set_change.new.places self.mark c.args.page c.set_change.result (self.ready unspent)
      c.reserve_change.ensures.items c.requires.page.1 set.bounds set.once set.err set.placed;
}

pub returns-clause-keeps : goal.returns-clause-keeps
returns-clause-keeps c =
    let set = c.in_ok-set_change.ensures in
    let taken = c.take_page-kept.ensures in
    keeps_change c.args.self.now _ c.reserve_change.new.changes.items c.args.page
    (record { volume = refl; mark = refl; spent = refl }) refl c.reserve_change.ensures.items
    set.changes_page taken.valid.0 taken.entries

pub returns-in_err-reserve_change-clause-cause : goal.returns-in_err-reserve_change-clause-cause
returns-in_err-reserve_change-clause-cause c =
    passed c.from_residual.result Memory c.from_residual.ensures.1 (λ r. IsOkUnless r Memory) refl

pub returns-in_err-reserve_change-clause-keeps : goal.returns-in_err-reserve_change-clause-keeps
returns-in_err-reserve_change-clause-keeps c =
    keeps_committed c.args.self.now _ (record { volume = refl; mark = refl; spent = refl }) refl
    (λ pages is. subst (λ (l : List Change). IsCacheOf pages (changed_pages l) c.args.self.now.cache.entries)
    (sym c.reserve_change.ensures.items) is)

pub returns-in_err-reserve_change-clause-map : goal.returns-in_err-reserve_change-clause-map
returns-in_err-reserve_change-clause-map c = on_refused c.from_residual.result Memory c.from_residual.ensures.1 _

pub returns-in_err-reserve_change-clause-changes_page : goal.returns-in_err-reserve_change-clause-changes_page
returns-in_err-reserve_change-clause-changes_page c =
    on_refused c.from_residual.result Memory c.from_residual.ensures.1 _

pub returns-in_err-reserve_change-clause-fills : goal.returns-in_err-reserve_change-clause-fills
returns-in_err-reserve_change-clause-fills c = on_refused c.from_residual.result Memory c.from_residual.ensures.1 _

pub returns-in_err-reserve_change-clause-forgets : goal.returns-in_err-reserve_change-clause-forgets
returns-in_err-reserve_change-clause-forgets c = on_refused c.from_residual.result Memory c.from_residual.ensures.1 _

pub returns-in_err-reserve_change-clause-unchanged : goal.returns-in_err-reserve_change-clause-unchanged
returns-in_err-reserve_change-clause-unchanged c =
    on_err c.from_residual.result (ap changed_pages c.reserve_change.ensures.items)

pub returns-in_err-reserve_change-clause-unfilled : goal.returns-in_err-reserve_change-clause-unfilled
returns-in_err-reserve_change-clause-unfilled c =
    on_err c.from_residual.result (ap filled_count c.reserve_change.ensures.items)

pub returns-in_err-reserve_change-clause-filled : goal.returns-in_err-reserve_change-clause-filled
returns-in_err-reserve_change-clause-filled c = omega (arith, ap filled_count c.reserve_change.ensures.items)

pub returns-in_err-reserve_change-clause-cache : goal.returns-in_err-reserve_change-clause-cache
returns-in_err-reserve_change-clause-cache c = on_err c.from_residual.result refl

pub returns-in_err-set_change-clause-cause : goal.returns-in_err-set_change-clause-cause
returns-in_err-set_change-clause-cause c =
    let room = c.in_ok-reserve_change.ensures.room in
    absurd (false≢true (c.in_err-set_change.ensures.sure room.0 room.1))

pub returns-in_err-set_change-clause-keeps : goal.returns-in_err-set_change-clause-keeps
returns-in_err-set_change-clause-keeps c =
    let room = c.in_ok-reserve_change.ensures.room in
    absurd (false≢true (c.in_err-set_change.ensures.sure room.0 room.1))

pub returns-in_err-set_change-clause-map : goal.returns-in_err-set_change-clause-map
returns-in_err-set_change-clause-map c =
    let room = c.in_ok-reserve_change.ensures.room in
    absurd (false≢true (c.in_err-set_change.ensures.sure room.0 room.1))

pub returns-in_err-set_change-clause-changes_page : goal.returns-in_err-set_change-clause-changes_page
returns-in_err-set_change-clause-changes_page c =
    let room = c.in_ok-reserve_change.ensures.room in
    absurd (false≢true (c.in_err-set_change.ensures.sure room.0 room.1))

pub returns-in_err-set_change-clause-unchanged : goal.returns-in_err-set_change-clause-unchanged
returns-in_err-set_change-clause-unchanged c =
    let room = c.in_ok-reserve_change.ensures.room in
    absurd (false≢true (c.in_err-set_change.ensures.sure room.0 room.1))

pub returns-in_err-set_change-clause-filled : goal.returns-in_err-set_change-clause-filled
returns-in_err-set_change-clause-filled c =
    let room = c.in_ok-reserve_change.ensures.room in
    absurd (false≢true (c.in_err-set_change.ensures.sure room.0 room.1))

pub returns-in_err-set_change-clause-fills : goal.returns-in_err-set_change-clause-fills
returns-in_err-set_change-clause-fills c =
    let room = c.in_ok-reserve_change.ensures.room in
    absurd (false≢true (c.in_err-set_change.ensures.sure room.0 room.1))

pub returns-in_err-set_change-clause-unfilled : goal.returns-in_err-set_change-clause-unfilled
returns-in_err-set_change-clause-unfilled c =
    let room = c.in_ok-reserve_change.ensures.room in
    absurd (false≢true (c.in_err-set_change.ensures.sure room.0 room.1))

pub returns-in_err-set_change-clause-err : goal.returns-in_err-set_change-clause-err
returns-in_err-set_change-clause-err c =
    let room = c.in_ok-reserve_change.ensures.room in
    absurd (false≢true (c.in_err-set_change.ensures.sure room.0 room.1))

pub returns-in_err-set_change-clause-capacity : goal.returns-in_err-set_change-clause-capacity
returns-in_err-set_change-clause-capacity c =
    let room = c.in_ok-reserve_change.ensures.room in
    absurd (false≢true (c.in_err-set_change.ensures.sure room.0 room.1))

pub returns-in_err-set_change-clause-forgets : goal.returns-in_err-set_change-clause-forgets
returns-in_err-set_change-clause-forgets c =
    let room = c.in_ok-reserve_change.ensures.room in
    absurd (false≢true (c.in_err-set_change.ensures.sure room.0 room.1))

pub returns-in_err-set_change-clause-cache : goal.returns-in_err-set_change-clause-cache
returns-in_err-set_change-clause-cache c =
    let room = c.in_ok-reserve_change.ensures.room in
    absurd (false≢true (c.in_err-set_change.ensures.sure room.0 room.1))
