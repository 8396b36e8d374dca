use Rattle.std.proofs.Common.{refl}
use Rattle.pages.proofs.Keeping.{keeps_change, ready_after}
use Rattle.std.proofs.Common.{◌≡◌, ◌↔◌, inl, inr, true, List, ap, sym, subst}
use Rattle.std.specs.Prelude.{Err}
use Rattle.pages.specs.Cache.{IsCacheOf}
use Rattle.pages.specs.Changes.{changed_pages}
use Rattle.pages.specs.Errors.{IsEditRefusal}
use Rattle.pages.specs.Needed.{filled_count}
use Rattle.pages.specs.Pages.{is_spent}
use Rattle.pages.specs.declared.change.Change.{Change}
use Rattle.pages.specs.declared.error.PagesError.TheVariants.{Memory, Spent}
use Rattle.pages.proofs.Keeping.{keeps_self, keeps_committed}
use Rattle.pages.proofs.Passing.{passed, never_ok, on_refused, on_err, memory_not_spent, never_spent}
use Rattle.pages.proofs.page_map.PageMap.change.Goals as goal

pub invariant_of-self-2 : goal.invariant_of-self-2
invariant_of-self-2 c = record {
  ready = λ unspent.
      let self = c.args.self.now in
      let set = c.set_change.ensures in
      ready_after self.volume self.changes.items self.changes.items c.set_change.new.changes.items self.places
      c.set_change.new.places self.mark c.args.page c.set_change.result (self.ready unspent) refl c.requires.page.1
      set.bounds set.once set.err set.placed;
}

pub returns-clause-keeps : goal.returns-clause-keeps
returns-clause-keeps c =
    let set = c.in_ok-set_change.ensures in
    let left = c.forget_page.ensures in
    keeps_change c.args.self.now _ c.args.self.now.changes.items c.args.page
    (record { volume = refl; mark = refl; spent = refl }) refl refl set.changes_page left.valid.0 left.entries

pub returns-then-self-clause-keeps : goal.returns-then-self-clause-keeps
returns-then-self-clause-keeps c = keeps_self c.args.self.now

pub returns-then-self-clause-cause : goal.returns-then-self-clause-cause
returns-then-self-clause-cause c = inr refl

pub returns-then-self-clause-spent : goal.returns-then-self-clause-spent
returns-then-self-clause-spent c = (λ is. c.if-self.true, λ was. refl)

pub returns-in_err-set_change-clause-keeps : goal.returns-in_err-set_change-clause-keeps
returns-in_err-set_change-clause-keeps c =
    keeps_committed c.args.self.now _ (record { volume = refl; mark = refl; spent = refl }) refl
    (λ pages is. subst (λ (l : List Change). IsCacheOf pages (changed_pages l) c.args.self.now.cache.entries)
    (sym c.in_err-set_change.ensures.err) is)

pub returns-in_err-set_change-clause-cause : goal.returns-in_err-set_change-clause-cause
returns-in_err-set_change-clause-cause c =
    passed c.from_residual.result Memory c.from_residual.ensures.1 (λ r. IsEditRefusal r) (inl refl)

pub returns-in_err-set_change-clause-map : goal.returns-in_err-set_change-clause-map
returns-in_err-set_change-clause-map c = on_refused c.from_residual.result Memory c.from_residual.ensures.1 _

pub returns-in_err-set_change-clause-changes_page : goal.returns-in_err-set_change-clause-changes_page
returns-in_err-set_change-clause-changes_page c = on_refused c.from_residual.result Memory c.from_residual.ensures.1 _

pub returns-in_err-set_change-clause-fills : goal.returns-in_err-set_change-clause-fills
returns-in_err-set_change-clause-fills c = on_refused c.from_residual.result Memory c.from_residual.ensures.1 _

pub returns-in_err-set_change-clause-forgets : goal.returns-in_err-set_change-clause-forgets
returns-in_err-set_change-clause-forgets c = on_refused c.from_residual.result Memory c.from_residual.ensures.1 _

pub returns-in_err-set_change-clause-unchanged : goal.returns-in_err-set_change-clause-unchanged
returns-in_err-set_change-clause-unchanged c =
    on_err c.from_residual.result (ap changed_pages c.in_err-set_change.ensures.err)

pub returns-in_err-set_change-clause-unfilled : goal.returns-in_err-set_change-clause-unfilled
returns-in_err-set_change-clause-unfilled c =
    on_err c.from_residual.result (ap filled_count c.in_err-set_change.ensures.err)

pub returns-in_err-set_change-clause-cache : goal.returns-in_err-set_change-clause-cache
returns-in_err-set_change-clause-cache c = on_err c.from_residual.result refl

pub returns-in_err-set_change-clause-filled : goal.returns-in_err-set_change-clause-filled
returns-in_err-set_change-clause-filled c = c.set_change.ensures.filled (c.args.self.now.ready c.if-self.false).once

pub returns-in_err-set_change-clause-spent : goal.returns-in_err-set_change-clause-spent
returns-in_err-set_change-clause-spent c = passed c.from_residual.result Memory c.from_residual.ensures.1
    (λ r. (r ≡ Err Spent) ↔ (is_spent c.args.self.now ≡ true))
    (λ is. memory_not_spent is, λ was. never_spent c.args.self.now.spent c.if-self.false was)

pub returns-clause-filled : goal.returns-clause-filled
returns-clause-filled c = c.set_change.ensures.filled (c.args.self.now.ready c.if-self.false).once

pub returns-clause-spent : goal.returns-clause-spent
returns-clause-spent c = (
  λ is. never_ok is,
  λ was. never_spent c.args.self.now.spent c.if-self.false was,
)
