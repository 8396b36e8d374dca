use Rattle.std.proofs.Common.{◌≡◌, true, length, length-append, inl, refl, ◌∙◌, ap, arith}
use Rattle.std.proofs.lemmas.List.{append-nil}
use Rattle.std.specs.Prelude.{IfErr, Err}
use Rattle.pages.specs.Pages.{is_spent}
use Rattle.pages.specs.declared.error.PagesError.TheVariants.{Spent}
use Rattle.btree_pages.specs.Node.{Node}
use Rattle.btree.specs.Changes.{pages_of_map}
use Rattle.btree.specs.Refusals.{IsPutRefusal}
use Rattle.btree.proofs.Passing.{passed, never_ok, still_error, if_refused, on_refused}
use Rattle.btree.proofs.Sharing.{write_joined, spells_two}
use Rattle.btree.proofs.rebalance.merge.Goals as goal

pub returns-clause-pages : goal.returns-clause-pages
returns-clause-pages c = λ image one two both.
    let node = c.append.new.self in
    let count =
    ap (λ (n : Node). length n.rows) c.append.ensures ∙ length-append c.args.left.node.rows c.args.right.node.rows in
    write_joined c.args.left.node.layout c.args.left.node.kind (pages_of_map c.args.pages.now image)
    (pages_of_map c.edit_and_release.new.pages image) c.args.left.page c.args.right.page c.bytes-spelled.result one two
    node.rows
    (record {
      is = c.in_ok-edit_and_release.ensures.map image;
      both = both;
    })
    (spells_two c.args.left.node.layout c.args.left.node.kind node c.bytes-spelled.result
    (ap (λ (n : Node). n.layout) c.append.ensures) (ap (λ (n : Node). n.kind) c.append.ensures)
    c.count-count.ensures.node (omega (arith, count, c.requires.many)) c.bytes-spelled.ensures.reads)

pub returns-clause-even : goal.returns-clause-even
returns-clause-even c = inl refl

pub returns-clause-rows : goal.returns-clause-rows
returns-clause-rows c = append-nil c.append.new.self.rows ∙ ap (λ (n : Node). n.rows) c.append.ensures

pub returns-in_err-edit_and_release-clause-spent : goal.returns-in_err-edit_and_release-clause-spent
returns-in_err-edit_and_release-clause-spent c =
    passed c.from_residual.result c.in_err-edit_and_release.field-0.0 c.from_residual.ensures.1
    (λ r. r ≡ Err Spent → is_spent c.args.pages.now ≡ true)
    (λ is. c.in_err-edit_and_release.ensures.spent (still_error is))

pub returns-clause-spent : goal.returns-clause-spent
returns-clause-spent c = λ is. never_ok is

pub returns-in_err-edit_and_release-clause-cause : goal.returns-in_err-edit_and_release-clause-cause
returns-in_err-edit_and_release-clause-cause c =
    passed c.from_residual.result c.in_err-edit_and_release.field-0.0 c.from_residual.ensures.1
    (λ r. IfErr r IsPutRefusal) c.in_err-edit_and_release.ensures.cause

pub returns-in_err-edit_and_release-clause-rows : goal.returns-in_err-edit_and_release-clause-rows
returns-in_err-edit_and_release-clause-rows c =
    if_refused c.from_residual.result c.in_err-edit_and_release.field-0.0 c.from_residual.ensures.1 _

pub returns-in_err-edit_and_release-clause-pages : goal.returns-in_err-edit_and_release-clause-pages
returns-in_err-edit_and_release-clause-pages c =
    if_refused c.from_residual.result c.in_err-edit_and_release.field-0.0 c.from_residual.ensures.1 _

pub returns-in_err-edit_and_release-clause-joined : goal.returns-in_err-edit_and_release-clause-joined
returns-in_err-edit_and_release-clause-joined c =
    if_refused c.from_residual.result c.in_err-edit_and_release.field-0.0 c.from_residual.ensures.1 _

pub returns-in_err-edit_and_release-clause-even : goal.returns-in_err-edit_and_release-clause-even
returns-in_err-edit_and_release-clause-even c =
    if_refused c.from_residual.result c.in_err-edit_and_release.field-0.0 c.from_residual.ensures.1 _

pub returns-in_err-edit_and_release-clause-changed_pages : goal.returns-in_err-edit_and_release-clause-changed_pages
returns-in_err-edit_and_release-clause-changed_pages c =
    on_refused c.from_residual.result c.in_err-edit_and_release.field-0.0 c.from_residual.ensures.1 _

pub returns-in_err-edit_and_release-clause-filled : goal.returns-in_err-edit_and_release-clause-filled
returns-in_err-edit_and_release-clause-filled c =
    on_refused c.from_residual.result c.in_err-edit_and_release.field-0.0 c.from_residual.ensures.1 _
