use Rattle.std.proofs.Common.{◌≡◌, ◌↔◌, true, refl}
use Rattle.std.specs.Prelude.{Err, IfErr}
use Rattle.pages.specs.Pages.{is_spent, changed_pages_of}
use Rattle.pages.specs.declared.error.PagesError.TheVariants.{Spent}
use Rattle.btree.specs.Changes.{pages_of_map}
use Rattle.btree.specs.Refusals.{IsPutRefusal}
use Rattle.btree.proofs.ChangedPages.{changes_count}
use Rattle.btree.proofs.Passing.{passed, never_ok, still_error, if_refused, edit_is_put, few_equal}
use Rattle.btree.proofs.Writes.{write_one, is_low, spells_node}
use Rattle.btree.proofs.update_parent.put_back.Goals as goal

pub returns-clause-pages : goal.returns-clause-pages
returns-clause-pages c = λ image can.
    let node = c.args.node in
    write_one node.layout node.kind (pages_of_map c.args.pages.now image) (pages_of_map c.edit.new.self image)
    c.args.page c.bytes-spelled.result node.rows node.rows
    (c.in_ok-edit.ensures.map image) (is_low (pages_of_map c.args.pages.now image) c.args.page can.is_in)
    (spells_node node node c.bytes-spelled.result (record { layout = refl; kind = refl }) c.bytes-spelled.ensures.reads
    can.lengths can.enough)

pub returns-clause-changed_pages : goal.returns-clause-changed_pages
returns-clause-changed_pages c = changes_count (changed_pages_of c.args.pages.now) c.args.page
    (changed_pages_of c.edit.new.self) c.in_ok-edit.ensures.changes_page

pub returns-clause-spent : goal.returns-clause-spent
returns-clause-spent c = (λ is. never_ok is, λ was. never_ok (c.in_ok-edit.ensures.spent.1 was))

pub returns-in_err-edit-clause-is : goal.returns-in_err-edit-clause-is
returns-in_err-edit-clause-is c =
    if_refused c.from_residual.result c.in_err-edit.field-0.0 c.from_residual.ensures.1 _

pub returns-in_err-edit-clause-pages : goal.returns-in_err-edit-clause-pages
returns-in_err-edit-clause-pages c =
    if_refused c.from_residual.result c.in_err-edit.field-0.0 c.from_residual.ensures.1 _

pub returns-in_err-edit-clause-changed_pages : goal.returns-in_err-edit-clause-changed_pages
returns-in_err-edit-clause-changed_pages c = few_equal (changed_pages_of c.args.pages.now)
    (changed_pages_of c.edit.new.self) 1 c.in_err-edit.ensures.unchanged

pub returns-in_err-edit-clause-cause : goal.returns-in_err-edit-clause-cause
returns-in_err-edit-clause-cause c = passed c.from_residual.result c.in_err-edit.field-0.0 c.from_residual.ensures.1
    (λ r. IfErr r IsPutRefusal)
    (edit_is_put c.in_err-edit.field-0.0 c.in_err-edit.ensures.cause)

pub returns-in_err-edit-clause-spent : goal.returns-in_err-edit-clause-spent
returns-in_err-edit-clause-spent c = passed c.from_residual.result c.in_err-edit.field-0.0 c.from_residual.ensures.1
    (λ r. (r ≡ Err Spent) ↔ (is_spent c.args.pages.now ≡ true))
    (λ is. c.in_err-edit.ensures.spent.0 (still_error is), λ was. still_error (c.in_err-edit.ensures.spent.1 was))
