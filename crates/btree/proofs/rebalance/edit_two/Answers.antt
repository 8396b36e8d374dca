use Rattle.std.proofs.Common.{◌≡◌, true, List, set, sym, ◌∙◌, ap}
use Rattle.std.specs.Prelude.{Option, Some, IfErr, Err}
use Rattle.station.specs.Disk.{Sector}
use Rattle.pages.specs.Pages.{is_spent, changed_pages_of, filled_of}
use Rattle.pages.specs.declared.error.PagesError.TheVariants.{Spent}
use Rattle.btree.specs.Refusals.{IsPutRefusal}
use Rattle.btree.proofs.Clearing.{keeps_on}
use Rattle.btree.proofs.Passing.{passed, never_ok, still_error, edit_is_put}
use Rattle.btree.proofs.Passing.{page_stays, changes_two, few_then}
use Rattle.btree.proofs.rebalance.edit_two.Goals as goal

pub returns-clause-map : goal.returns-clause-map
returns-clause-map c = λ image. c.in_ok-edit-2.ensures.map image
    ∙ ap (λ (l : List (Option Sector)). set l c.args.right (Some c.args.upper.now)) (c.in_ok-edit.ensures.map image)

pub edit-requires-2 : goal.edit-requires-2
edit-requires-2 c = record {
  page = page_stays c.args.pages.now c.edit.new.self c.args.right c.edit.ensures.keeps.committed
      c.requires.right;
}

pub returns-in_err-edit-2-clause-keeps : goal.returns-in_err-edit-2-clause-keeps
returns-in_err-edit-2-clause-keeps c =
    keeps_on c.args.pages.now c.edit.new.self c.edit-2.new.self c.edit.ensures.keeps c.edit-2.ensures.keeps

pub returns-clause-keeps : goal.returns-clause-keeps
returns-clause-keeps c =
    keeps_on c.args.pages.now c.edit.new.self c.edit-2.new.self c.edit.ensures.keeps c.edit-2.ensures.keeps

pub returns-clause-changed_pages : goal.returns-clause-changed_pages
returns-clause-changed_pages c =
    changes_two (changed_pages_of c.args.pages.now) c.args.left (changed_pages_of c.edit.new.self)
    c.args.right (changed_pages_of c.edit-2.new.self) c.in_ok-edit.ensures.changes_page
    c.in_ok-edit-2.ensures.changes_page

pub returns-clause-filled : goal.returns-clause-filled
returns-clause-filled c = few_then (filled_of c.args.pages.now) (filled_of c.edit.new.self)
    (filled_of c.edit-2.new.self) 1 1 c.edit.ensures.filled
    c.edit-2.ensures.filled

pub returns-in_err-edit-clause-spent : goal.returns-in_err-edit-clause-spent
returns-in_err-edit-clause-spent c = passed c.from_residual.result c.in_err-edit.field-0.0 c.from_residual.ensures.1
    (λ r. r ≡ Err Spent → is_spent c.args.pages.now ≡ true)
    (λ is. c.in_err-edit.ensures.spent.0 (still_error is))

pub returns-in_err-edit-2-clause-spent : goal.returns-in_err-edit-2-clause-spent
returns-in_err-edit-2-clause-spent c =
    passed c.from_residual-in_err-edit-2.result c.in_err-edit-2.field-0.0 c.from_residual-in_err-edit-2.ensures.1
    (λ r. r ≡ Err Spent → is_spent c.args.pages.now ≡ true)
    (λ is. sym c.edit.ensures.keeps.committed.spent ∙ c.in_err-edit-2.ensures.spent.0 (still_error is))

pub returns-clause-spent : goal.returns-clause-spent
returns-clause-spent c = λ is. never_ok is

pub returns-in_err-edit-clause-cause : goal.returns-in_err-edit-clause-cause
returns-in_err-edit-clause-cause c = passed c.from_residual.result c.in_err-edit.field-0.0 c.from_residual.ensures.1
    (λ r. IfErr r IsPutRefusal)
    (edit_is_put c.in_err-edit.field-0.0 c.in_err-edit.ensures.cause)

pub returns-in_err-edit-2-clause-cause : goal.returns-in_err-edit-2-clause-cause
returns-in_err-edit-2-clause-cause c =
    passed c.from_residual-in_err-edit-2.result c.in_err-edit-2.field-0.0 c.from_residual-in_err-edit-2.ensures.1
    (λ r. IfErr r IsPutRefusal)
    (edit_is_put c.in_err-edit-2.field-0.0 c.in_err-edit-2.ensures.cause)
