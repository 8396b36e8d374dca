use Rattle.std.proofs.Common.{List, ℕ, [], ◌∷◌, ◌++◌, length, length-append, ◌≡◌, ◌∙◌, ap, arith}
use Rattle.std.proofs.lemmas.List.Elements.{All-cons, All-nil}
use Rattle.btree_pages.specs.declared.row_layout.Kind.TheVariants.{Leaf}
use Rattle.btree_pages.specs.RowLayouts.{row_length}
use Rattle.btree_pages.specs.Node.{Node}
use Rattle.btree_pages.specs.Edits.{node_with_row}
use Rattle.btree.specs.Changes.{pages_of_map}
use Rattle.btree.proofs.Writes.{put_node}
use Rattle.std.specs.Prelude.{Err, IfErr, ◌↔◌}
use Rattle.std.proofs.Common.{true}
use Rattle.pages.specs.Pages.{is_spent}
use Rattle.pages.specs.declared.error.PagesError.TheVariants.{Spent}
use Rattle.btree.specs.Refusals.{IsWriteRefusal}
use Rattle.btree.proofs.Passing.{passed, never_ok, still_error, if_refused}
use Rattle.btree.proofs.put_new.first_leaf.Goals as goal

pub returns-clause-pages : goal.returns-clause-pages
returns-clause-pages c = λ image.
    let row = c.args.key.now ++ c.args.value.now in
    let P = λ (row : List ℕ). length row ≡ row_length c.args.layout Leaf in
    put_node c.args.layout Leaf c.insert.new.self (row ∷ []) c.in_ok-page.page (pages_of_map c.args.pages.now image)
    (pages_of_map c.put_new.new.pages image)
    (c.insert.ensures ∙ ap (λ (n : Node). node_with_row n 0 row) c.new-leaf.ensures) (c.in_ok-page.ensures.pages image)
    (All-cons P row [] (omega (arith, length-append c.args.key.now c.args.value.now, c.requires.key, c.requires.value))
    (All-nil P)) (omega arith)

pub returns-in_err-page-clause-full : goal.returns-in_err-page-clause-full
returns-in_err-page-clause-full c = λ is.
    let told = rw is at c.from_residual.ensures.1 in
    c.in_err-page.ensures.full (cc told)

pub returns-in_err-page-clause-some : goal.returns-in_err-page-clause-some
returns-in_err-page-clause-some c =
    if_refused c.from_residual.result c.in_err-page.field-0.0 c.from_residual.ensures.1 _

pub returns-in_err-page-clause-pages : goal.returns-in_err-page-clause-pages
returns-in_err-page-clause-pages c =
    if_refused c.from_residual.result c.in_err-page.field-0.0 c.from_residual.ensures.1 _

pub returns-in_err-page-clause-cause : goal.returns-in_err-page-clause-cause
returns-in_err-page-clause-cause c = passed c.from_residual.result c.in_err-page.field-0.0 c.from_residual.ensures.1
    (λ r. IfErr r IsWriteRefusal)
    c.in_err-page.ensures.cause

pub returns-in_err-page-clause-spent : goal.returns-in_err-page-clause-spent
returns-in_err-page-clause-spent c =
    let told = c.in_err-page.ensures.spent in
    passed c.from_residual.result c.in_err-page.field-0.0 c.from_residual.ensures.1
    (λ r. (r ≡ Err Spent) ↔ (is_spent c.args.pages.now ≡ true))
    (λ is. told.0 (still_error is), λ was. still_error (told.1 was))

pub returns-clause-full : goal.returns-clause-full
returns-clause-full c = λ is. never_ok is

pub returns-clause-spent : goal.returns-clause-spent
returns-clause-spent c = (λ is. never_ok is, λ was. never_ok (c.in_ok-page.ensures.spent.1 was))
