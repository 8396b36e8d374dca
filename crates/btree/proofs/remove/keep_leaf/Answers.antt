use Rattle.std.proofs.Common.{◌≡◌, length, refl, arith}
use Rattle.pages.specs.Pages.{IsPage, page_count}
use Rattle.btree_pages.specs.declared.row_layout.Kind.TheVariants.{Leaf}
use Rattle.btree.specs.Changes.{pages_of_map}
use Rattle.btree.proofs.Writes.{write_one}
use Rattle.btree.proofs.Sharing.{spells_some}
use Rattle.btree.proofs.Lessening.{has_room, true_or_false}
use Rattle.std.specs.Prelude.{IfErr, Err}
use Rattle.std.proofs.Common.{true}
use Rattle.pages.specs.Pages.{is_spent, changed_pages_of}
use Rattle.pages.specs.declared.error.PagesError.TheVariants.{Damaged, Spent}
use Rattle.btree.specs.Refusals.{IsRestRefusal}
use Rattle.btree.proofs.Passing.{passed, never_ok, still_error, damaged_not_spent}
use Rattle.btree.proofs.Passing.{edit_is_put, put_is_rest}
use Rattle.btree.proofs.Passing.{put_not_damaged}
use Rattle.btree.proofs.Clearing.{keeps_still}
use Rattle.btree.proofs.ChangedPages.{changes_count}
use Rattle.btree.proofs.remove.keep_leaf.Goals as goal

pub returns-then-not-is_page-clause-damaged : goal.returns-then-not-is_page-clause-damaged
returns-then-not-is_page-clause-damaged c =
    λ is image some is_in. true_or_false (c.is_page.ensures.is.1 (has_room (pages_of_map c.args.pages.now image)
    (page_count c.args.pages.now) c.args.lone.page (c.is_page.ensures.count image) some is_in)) c.if-not-is_page.true

pub returns-clause-stays : goal.returns-clause-stays
returns-clause-stays c = λ image.
    let node = c.args.lone.node in
    let before = pages_of_map c.args.pages.now image in
    let page : IsPage c.args.pages.now c.args.lone.page = c.is_page.ensures.is.0 c.if-not-is_page.false in
    let count : length before ≡ page_count c.args.pages.now = c.is_page.ensures.count image in
    record {
      page_is = refl;
      own = λ rows. write_one node.layout Leaf before (pages_of_map c.edit.new.self image) c.args.lone.page
          c.bytes-spelled.result rows node.rows (c.in_ok-edit.ensures.map image) (omega (arith, page.1, count))
          (spells_some node c.bytes-spelled.result c.requires.lone.0 c.count-count.ensures.node c.requires.lone.1
          c.bytes-spelled.ensures.reads);
    }

pub returns-then-not-is_page-clause-keeps : goal.returns-then-not-is_page-clause-keeps
returns-then-not-is_page-clause-keeps c = keeps_still c.args.pages.now

pub returns-then-not-is_page-clause-spent : goal.returns-then-not-is_page-clause-spent
returns-then-not-is_page-clause-spent c = λ is. damaged_not_spent is

pub returns-clause-spent : goal.returns-clause-spent
returns-clause-spent c = λ is. never_ok is

pub returns-clause-changed_pages : goal.returns-clause-changed_pages
returns-clause-changed_pages c = changes_count (changed_pages_of c.args.pages.now) c.args.lone.page
    (changed_pages_of c.edit.new.self) c.in_ok-edit.ensures.changes_page

pub returns-in_err-edit-clause-spent : goal.returns-in_err-edit-clause-spent
returns-in_err-edit-clause-spent c = passed c.from_residual.result c.in_err-edit.field-0.0 c.from_residual.ensures.1
    (λ r. r ≡ Err Spent → is_spent c.args.pages.now ≡ true)
    (λ is. c.in_err-edit.ensures.spent.0 (still_error is))

pub returns-in_err-edit-clause-cause : goal.returns-in_err-edit-clause-cause
returns-in_err-edit-clause-cause c = passed c.from_residual.result c.in_err-edit.field-0.0 c.from_residual.ensures.1
    (λ r. IfErr r IsRestRefusal)
    (put_is_rest c.in_err-edit.field-0.0 (edit_is_put c.in_err-edit.field-0.0 c.in_err-edit.ensures.cause))

pub returns-in_err-edit-clause-damaged : goal.returns-in_err-edit-clause-damaged
returns-in_err-edit-clause-damaged c =
    λ is image some is_in. passed c.from_residual.result c.in_err-edit.field-0.0 c.from_residual.ensures.1
    (λ r. r ≡ Err Damaged → ⊥)
    (λ e. put_not_damaged c.in_err-edit.field-0.0 (edit_is_put c.in_err-edit.field-0.0 c.in_err-edit.ensures.cause) e)
    is

pub returns-clause-damaged : goal.returns-clause-damaged
returns-clause-damaged c = λ is. never_ok is
