use Rattle.std.proofs.Common.{◌∙◌, Err, ap, sym}
use Rattle.std.proofs.lemmas.Result.{err_from_is_err_and}
use Rattle.std.proofs.Common.{◌≡◌, ◌↔◌, inr, [], true, refl, arith}
use Rattle.pages.specs.Errors.{IsAllocateRefusal}
use Rattle.pages.specs.Pages.{is_spent, HasEachPage}
use Rattle.pages.specs.declared.error.PagesError.TheVariants.{Full, Spent}
use Rattle.pages.proofs.Keeping.{keeps_self, keeps_committed, keeps_then}
use Rattle.pages.proofs.Passing.{never_ok, still_error, if_refused, on_err, found_is_allocate, edit_not_full}
use Rattle.pages.proofs.Passing.{passed as passed_on}
use Rattle.pages.proofs.page_map.PageMap.allocate.Goals as goal

pub returns-in_err-page-clause-full : goal.returns-in_err-page-clause-full
returns-in_err-page-clause-full c = λ is.
    let passed = err_from_is_err_and c.from_residual.result c.from_residual.ensures.1 in
    let told = passed.1 ∙ ap Err passed.2 in
    let full = c.in_err-page.ensures.full is in
    (λ refused. full.0 (sym told ∙ refused), λ each. told ∙ full.1 each)

pub returns-in_err-page-clause-page : goal.returns-in_err-page-clause-page
returns-in_err-page-clause-page c =
    if_refused c.from_residual.result c.in_err-page.field-0.0 c.from_residual.ensures.1 _

pub returns-in_err-edit-clause-page : goal.returns-in_err-edit-clause-page
returns-in_err-edit-clause-page c =
    if_refused c.from_residual-in_err-edit.result c.in_err-edit.field-0.0 c.from_residual-in_err-edit.ensures.1 _

pub returns-in_err-page-clause-unused : goal.returns-in_err-page-clause-unused
returns-in_err-page-clause-unused c =
    if_refused c.from_residual.result c.in_err-page.field-0.0 c.from_residual.ensures.1 _

pub returns-in_err-edit-clause-unused : goal.returns-in_err-edit-clause-unused
returns-in_err-edit-clause-unused c =
    if_refused c.from_residual-in_err-edit.result c.in_err-edit.field-0.0 c.from_residual-in_err-edit.ensures.1 _

pub returns-in_err-page-clause-map : goal.returns-in_err-page-clause-map
returns-in_err-page-clause-map c =
    if_refused c.from_residual.result c.in_err-page.field-0.0 c.from_residual.ensures.1 _

pub returns-in_err-edit-clause-map : goal.returns-in_err-edit-clause-map
returns-in_err-edit-clause-map c =
    if_refused c.from_residual-in_err-edit.result c.in_err-edit.field-0.0 c.from_residual-in_err-edit.ensures.1 _

pub returns-in_err-page-clause-changes_page : goal.returns-in_err-page-clause-changes_page
returns-in_err-page-clause-changes_page c =
    if_refused c.from_residual.result c.in_err-page.field-0.0 c.from_residual.ensures.1 _

pub returns-in_err-edit-clause-changes_page : goal.returns-in_err-edit-clause-changes_page
returns-in_err-edit-clause-changes_page c =
    if_refused c.from_residual-in_err-edit.result c.in_err-edit.field-0.0 c.from_residual-in_err-edit.ensures.1 _

pub returns-in_err-page-clause-fills : goal.returns-in_err-page-clause-fills
returns-in_err-page-clause-fills c =
    if_refused c.from_residual.result c.in_err-page.field-0.0 c.from_residual.ensures.1 _

pub returns-in_err-edit-clause-fills : goal.returns-in_err-edit-clause-fills
returns-in_err-edit-clause-fills c =
    if_refused c.from_residual-in_err-edit.result c.in_err-edit.field-0.0 c.from_residual-in_err-edit.ensures.1 _

pub returns-in_err-page-clause-forgets : goal.returns-in_err-page-clause-forgets
returns-in_err-page-clause-forgets c =
    if_refused c.from_residual.result c.in_err-page.field-0.0 c.from_residual.ensures.1 _

pub returns-in_err-edit-clause-forgets : goal.returns-in_err-edit-clause-forgets
returns-in_err-edit-clause-forgets c =
    if_refused c.from_residual-in_err-edit.result c.in_err-edit.field-0.0 c.from_residual-in_err-edit.ensures.1 _

pub returns-in_err-page-clause-unchanged : goal.returns-in_err-page-clause-unchanged
returns-in_err-page-clause-unchanged c = on_err c.from_residual.result refl

pub returns-in_err-edit-clause-unchanged : goal.returns-in_err-edit-clause-unchanged
returns-in_err-edit-clause-unchanged c = on_err c.from_residual-in_err-edit.result c.in_err-edit.ensures.unchanged

pub returns-in_err-page-clause-unfilled : goal.returns-in_err-page-clause-unfilled
returns-in_err-page-clause-unfilled c = on_err c.from_residual.result refl

pub returns-in_err-edit-clause-unfilled : goal.returns-in_err-edit-clause-unfilled
returns-in_err-edit-clause-unfilled c = on_err c.from_residual-in_err-edit.result c.in_err-edit.ensures.unfilled

pub returns-in_err-page-clause-err : goal.returns-in_err-page-clause-err
returns-in_err-page-clause-err c = on_err c.from_residual.result (λ image. refl)

pub returns-in_err-edit-clause-err : goal.returns-in_err-edit-clause-err
returns-in_err-edit-clause-err c = on_err c.from_residual-in_err-edit.result c.in_err-edit.ensures.err

pub returns-in_err-page-clause-cache : goal.returns-in_err-page-clause-cache
returns-in_err-page-clause-cache c = on_err c.from_residual.result refl

pub returns-in_err-edit-clause-cache : goal.returns-in_err-edit-clause-cache
returns-in_err-edit-clause-cache c = on_err c.from_residual-in_err-edit.result c.in_err-edit.ensures.cache

pub returns-in_err-page-clause-filled : goal.returns-in_err-page-clause-filled
returns-in_err-page-clause-filled c = omega arith

pub returns-in_err-page-clause-keeps : goal.returns-in_err-page-clause-keeps
returns-in_err-page-clause-keeps c = keeps_self c.args.self.now

pub returns-in_err-page-clause-same : goal.returns-in_err-page-clause-same
returns-in_err-page-clause-same c = λ is. refl

pub returns-in_err-page-clause-cause : goal.returns-in_err-page-clause-cause
returns-in_err-page-clause-cause c = passed_on c.from_residual.result c.in_err-page.field-0.0 c.from_residual.ensures.1
    (λ r. IsAllocateRefusal r)
    (found_is_allocate c.in_err-page.field-0.0 c.in_err-page.ensures.cause)

pub returns-in_err-page-clause-spent : goal.returns-in_err-page-clause-spent
returns-in_err-page-clause-spent c = passed_on c.from_residual.result c.in_err-page.field-0.0 c.from_residual.ensures.1
    (λ r. (r ≡ Err Spent) ↔ (is_spent c.args.self.now ≡ true))
    (λ is. c.in_err-page.ensures.spent.0 (still_error is), λ was. still_error (c.in_err-page.ensures.spent.1 was))

pub returns-in_err-edit-clause-full : goal.returns-in_err-edit-clause-full
returns-in_err-edit-clause-full c = λ unspent.
    let there = c.in_ok-page.ensures in
    passed_on c.from_residual-in_err-edit.result c.in_err-edit.field-0.0 c.from_residual-in_err-edit.ensures.1
    (λ r. (r ≡ Err Full) ↔ HasEachPage c.args.self.now) (
      λ is. edit_not_full c.in_err-edit.field-0.0 c.in_err-edit.ensures.cause is,
      λ each. absurd (each [] c.in_ok-page.page there.page (there.unused [])),
    )

pub returns-in_err-edit-clause-same : goal.returns-in_err-edit-clause-same
returns-in_err-edit-clause-same c =
    passed_on c.from_residual-in_err-edit.result c.in_err-edit.field-0.0 c.from_residual-in_err-edit.ensures.1
    (λ r. r ≡ Err Full → c.edit.new.self ≡ c.args.self.now)
    (λ is. edit_not_full c.in_err-edit.field-0.0 c.in_err-edit.ensures.cause is)

pub returns-in_err-edit-clause-cause : goal.returns-in_err-edit-clause-cause
returns-in_err-edit-clause-cause c =
    passed_on c.from_residual-in_err-edit.result c.in_err-edit.field-0.0 c.from_residual-in_err-edit.ensures.1
    (λ r. IsAllocateRefusal r) (inr c.in_err-edit.ensures.cause)

pub returns-in_err-edit-clause-spent : goal.returns-in_err-edit-clause-spent
returns-in_err-edit-clause-spent c =
    let told = c.in_err-edit.ensures.spent in
    passed_on c.from_residual-in_err-edit.result c.in_err-edit.field-0.0 c.from_residual-in_err-edit.ensures.1
    (λ r. (r ≡ Err Spent) ↔ (is_spent c.args.self.now ≡ true))
    (λ is. told.0 (still_error is), λ was. still_error (told.1 was))

pub returns-clause-keeps : goal.returns-clause-keeps
returns-clause-keeps c = keeps_then _ c.edit.new.self _ c.edit.ensures.keeps
    (keeps_committed _ _ (record { volume = refl; mark = refl; spent = refl }) refl (λ pages is. is))

pub returns-clause-full : goal.returns-clause-full
returns-clause-full c = λ unspent.
    let there = c.in_ok-page.ensures in
    (λ is. never_ok is, λ each. absurd (each [] c.in_ok-page.page there.page (there.unused [])))

pub returns-clause-same : goal.returns-clause-same
returns-clause-same c = λ is. never_ok is

pub returns-clause-spent : goal.returns-clause-spent
returns-clause-spent c = (λ is. never_ok is, λ was. never_ok (c.in_ok-page.ensures.spent.1 was))
