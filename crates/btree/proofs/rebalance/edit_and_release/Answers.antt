use Rattle.std.proofs.Common.{◌≡◌, true, List, set, sym, ◌∙◌, ap}
use Rattle.std.specs.Prelude.{Option, None, IfErr, Err}
use Rattle.station.specs.Disk.{Sector}
use Rattle.pages.specs.Pages.{is_spent, changed_pages_of}
use Rattle.pages.specs.declared.error.PagesError.TheVariants.{Spent}
use Rattle.btree.specs.Refusals.{IsPutRefusal}
use Rattle.btree.proofs.Clearing.{keeps_on}
use Rattle.btree.proofs.Passing.{passed, never_ok, still_error, edit_is_put, page_stays, changes_two}
use Rattle.btree.proofs.rebalance.edit_and_release.Goals as goal

pub returns-clause-map : goal.returns-clause-map
returns-clause-map c = λ image. c.in_ok-release.ensures.map image
    ∙ ap (λ (l : List (Option Sector)). set l c.args.right None) (c.in_ok-edit.ensures.map image)

pub release-requires : goal.release-requires
release-requires c = record {
  page = page_stays c.args.pages.now c.edit.new.self c.args.right c.edit.ensures.keeps.committed
      c.requires.right;
}

pub returns-clause-changed_pages : goal.returns-clause-changed_pages
returns-clause-changed_pages c = changes_two (changed_pages_of c.args.pages.now) c.args.left
    (changed_pages_of c.edit.new.self) c.args.right (changed_pages_of c.release.new.self)
    c.in_ok-edit.ensures.changes_page c.in_ok-release.ensures.changes_page

pub returns-in_err-release-clause-keeps : goal.returns-in_err-release-clause-keeps
returns-in_err-release-clause-keeps c = keeps_on c.args.pages.now c.edit.new.self c.release.new.self
    c.edit.ensures.keeps c.release.ensures.keeps

pub returns-clause-keeps : goal.returns-clause-keeps
returns-clause-keeps c = keeps_on c.args.pages.now c.edit.new.self c.release.new.self c.edit.ensures.keeps
    c.release.ensures.keeps

pub returns-in_err-edit-clause-spent : goal.returns-in_err-edit-clause-spent
returns-in_err-edit-clause-spent c = passed c.from_residual.result c.in_err-edit.field-0.0 c.from_residual.ensures.1
    (λ r. r ≡ Err Spent → is_spent c.args.pages.now ≡ true) (λ is. c.in_err-edit.ensures.spent.0 (still_error is))

pub returns-in_err-release-clause-spent : goal.returns-in_err-release-clause-spent
returns-in_err-release-clause-spent c = passed c.from_residual-in_err-release.result c.in_err-release.field-0.0
    c.from_residual-in_err-release.ensures.1 (λ r. r ≡ Err Spent → is_spent c.args.pages.now ≡ true)
    (λ is. sym c.edit.ensures.keeps.committed.spent ∙ c.in_err-release.ensures.spent.0 (still_error is))

pub returns-clause-spent : goal.returns-clause-spent
returns-clause-spent c = λ is. never_ok is

pub returns-in_err-edit-clause-cause : goal.returns-in_err-edit-clause-cause
returns-in_err-edit-clause-cause c = passed c.from_residual.result c.in_err-edit.field-0.0 c.from_residual.ensures.1
    (λ r. IfErr r IsPutRefusal) (edit_is_put c.in_err-edit.field-0.0 c.in_err-edit.ensures.cause)

pub returns-in_err-release-clause-cause : goal.returns-in_err-release-clause-cause
returns-in_err-release-clause-cause c = passed c.from_residual-in_err-release.result c.in_err-release.field-0.0
    c.from_residual-in_err-release.ensures.1 (λ r. IfErr r IsPutRefusal)
    (edit_is_put c.in_err-release.field-0.0 c.in_err-release.ensures.cause)
