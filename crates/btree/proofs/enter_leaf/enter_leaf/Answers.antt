use Rattle.std.proofs.Common.{false, ◌≡◌, true, rules}
use Rattle.std.specs.Prelude.{IfErr, Err, Ok}
use Rattle.std.proofs.Common.{sym, refl}
use Rattle.pages.specs.Pages.{is_spent, changed_pages_of}
use Rattle.pages.specs.declared.error.PagesError.TheVariants.{Spent}
use Rattle.btree.specs.Refusals.{IsPutRefusal}
use Rattle.btree.proofs.Passing.{passed, never_ok, never_err, still_error}
use Rattle.btree.proofs.Passing.{edit_is_put}
use Rattle.btree.proofs.Passing.{few_equal, false_not_true}
use Rattle.btree.proofs.Clearing.{keeps_still}
use Rattle.btree.proofs.ChangedPages.{changes_count}
use Rattle.btree.proofs.enter_leaf.enter_leaf.Goals as goal

pub returns-clause-done : goal.returns-clause-done
returns-clause-done c = λ _ disk agrees.
    let spelled : c.spell_entered-is_spelled.result ≡ true = search rules in
    record {
      bytes = c.in-Some.bytes.now;
      new = c.spell_entered-is_spelled.new.spelled;
      at = c.in-Some.ensures.page disk agrees;
      enters = c.spell_entered-is_spelled.ensures spelled;
      is = c.in_ok-edit.ensures.map disk.present;
    }

pub returns-in-None-clause-keeps : goal.returns-in-None-clause-keeps
returns-in-None-clause-keeps c = keeps_still c.args.pages.now

pub returns-in-None-clause-done : goal.returns-in-None-clause-done
returns-in-None-clause-done c = λ is. false_not_true is

pub returns-in-None-clause-spent : goal.returns-in-None-clause-spent
returns-in-None-clause-spent c = λ is. never_ok is

pub returns-in-None-clause-same : goal.returns-in-None-clause-same
returns-in-None-clause-same c = λ is. refl

pub returns-in-None-clause-changed_pages : goal.returns-in-None-clause-changed_pages
returns-in-None-clause-changed_pages c =
    few_equal (changed_pages_of c.args.pages.now) (changed_pages_of c.args.pages.now) 1 refl

pub returns-then-not-is_spelled-clause-keeps : goal.returns-then-not-is_spelled-clause-keeps
returns-then-not-is_spelled-clause-keeps c = keeps_still c.args.pages.now

pub returns-then-not-is_spelled-clause-done : goal.returns-then-not-is_spelled-clause-done
returns-then-not-is_spelled-clause-done c = λ is. false_not_true is

pub returns-then-not-is_spelled-clause-spent : goal.returns-then-not-is_spelled-clause-spent
returns-then-not-is_spelled-clause-spent c = λ is. never_ok is

pub returns-then-not-is_spelled-clause-same : goal.returns-then-not-is_spelled-clause-same
returns-then-not-is_spelled-clause-same c = λ is. refl

pub returns-then-not-is_spelled-clause-changed_pages : goal.returns-then-not-is_spelled-clause-changed_pages
returns-then-not-is_spelled-clause-changed_pages c =
    few_equal (changed_pages_of c.args.pages.now) (changed_pages_of c.args.pages.now) 1 refl

pub returns-in_err-edit-clause-same : goal.returns-in_err-edit-clause-same
returns-in_err-edit-clause-same c = passed c.from_residual.result c.in_err-edit.field-0.0 c.from_residual.ensures.1
    (λ r. r ≡ Ok false → c.edit.new.self ≡ c.args.pages.now)
    (λ is. never_err is)

pub returns-clause-same : goal.returns-clause-same
returns-clause-same c = λ is. false_not_true (sym is)

pub returns-clause-spent : goal.returns-clause-spent
returns-clause-spent c = λ is. never_ok is

pub returns-in_err-edit-clause-changed_pages : goal.returns-in_err-edit-clause-changed_pages
returns-in_err-edit-clause-changed_pages c =
    few_equal (changed_pages_of c.args.pages.now) (changed_pages_of c.edit.new.self) 1 c.in_err-edit.ensures.unchanged

pub returns-clause-changed_pages : goal.returns-clause-changed_pages
returns-clause-changed_pages c = changes_count (changed_pages_of c.args.pages.now) c.args.page
    (changed_pages_of c.edit.new.self) c.in_ok-edit.ensures.changes_page

pub returns-in_err-edit-clause-spent : goal.returns-in_err-edit-clause-spent
returns-in_err-edit-clause-spent c = passed c.from_residual.result c.in_err-edit.field-0.0 c.from_residual.ensures.1
    (λ r. r ≡ Err Spent → is_spent c.args.pages.now ≡ true)
    (λ is. c.in_err-edit.ensures.spent.0 (still_error is))

pub returns-in_err-edit-clause-cause : goal.returns-in_err-edit-clause-cause
returns-in_err-edit-clause-cause c = passed c.from_residual.result c.in_err-edit.field-0.0 c.from_residual.ensures.1
    (λ r. IfErr r IsPutRefusal)
    (edit_is_put c.in_err-edit.field-0.0 c.in_err-edit.ensures.cause)
