use Rattle.std.proofs.Common.{arith}
use Rattle.btree_pages.specs.declared.row_layout.Kind.TheVariants.{Inner}
use Rattle.btree.specs.Changes.{pages_of_map}
use Rattle.btree.specs.Puts.{two_rows}
use Rattle.btree.proofs.TwoRows.{two_named}
use Rattle.btree.proofs.Writes.{put_node}
use Rattle.std.specs.Prelude.{Err, IfErr, ◌↔◌}
use Rattle.std.proofs.Common.{◌≡◌, true}
use Rattle.pages.specs.Pages.{is_spent}
use Rattle.pages.specs.declared.error.PagesError.TheVariants.{Spent}
use Rattle.btree.specs.Refusals.{IsWriteRefusal}
use Rattle.btree.proofs.Passing.{passed, never_ok, still_error, if_refused}
use Rattle.btree.proofs.put_new.new_root.Goals as goal

pub returns-clause-pages : goal.returns-clause-pages
returns-clause-pages c = λ image.
    let left = c.args.split.now in
    let right = c.args.right.now in
    let named = two_named c.args.layout left.left.layout right.node.layout left.left.rows right.node.rows left.page
    right.page c.key.result.now c.key-2.result.now c.new-top.result c.insert_child.new.self c.insert_child-2.new.self
    c.requires.left_layout c.requires.right_layout c.key.ensures.key c.key.ensures.length c.key-2.ensures.key
    c.key-2.ensures.length c.new-top.ensures c.insert_child.ensures c.insert_child-2.ensures in
    put_node c.args.layout Inner c.insert_child-2.new.self (two_rows c.args.layout left right) c.in_ok-page.page
    (pages_of_map c.args.pages.now image) (pages_of_map c.put_new.new.pages image) named.0
    (c.in_ok-page.ensures.pages image) named.1 (omega arith)

pub returns-in_err-page-clause-full : goal.returns-in_err-page-clause-full
returns-in_err-page-clause-full c = λ is.
    let told = rw is at c.from_residual.ensures.1 in
    c.in_err-page.ensures.full (cc told)

pub returns-in_err-page-clause-some : goal.returns-in_err-page-clause-some
returns-in_err-page-clause-some c =
    if_refused c.from_residual.result c.in_err-page.field-0.0 c.from_residual.ensures.1 _

pub returns-in_err-page-clause-pages : goal.returns-in_err-page-clause-pages
returns-in_err-page-clause-pages c =
    if_refused c.from_residual.result c.in_err-page.field-0.0 c.from_residual.ensures.1 _

pub returns-in_err-page-clause-cause : goal.returns-in_err-page-clause-cause
returns-in_err-page-clause-cause c = passed c.from_residual.result c.in_err-page.field-0.0 c.from_residual.ensures.1
    (λ r. IfErr r IsWriteRefusal)
    c.in_err-page.ensures.cause

pub returns-in_err-page-clause-spent : goal.returns-in_err-page-clause-spent
returns-in_err-page-clause-spent c =
    let told = c.in_err-page.ensures.spent in
    passed c.from_residual.result c.in_err-page.field-0.0 c.from_residual.ensures.1
    (λ r. (r ≡ Err Spent) ↔ (is_spent c.args.pages.now ≡ true))
    (λ is. told.0 (still_error is), λ was. still_error (told.1 was))

pub returns-clause-full : goal.returns-clause-full
returns-clause-full c = λ is. never_ok is

pub returns-clause-spent : goal.returns-clause-spent
returns-clause-spent c = (λ is. never_ok is, λ was. never_ok (c.in_ok-page.ensures.spent.1 was))
