use Rattle.std.proofs.Common.{◌≡◌, ◌+◌, ◌++◌, true, ℕ, List, length, length-append, sym, ◌∙◌, ap, arith}
use Rattle.std.proofs.lemmas.List.{append-nil}
use Rattle.std.specs.Prelude.{IfErr, Err}
use Rattle.pages.specs.Pages.{is_spent}
use Rattle.pages.specs.declared.error.PagesError.TheVariants.{Spent}
use Rattle.btree.specs.Propagates.{node_with}
use Rattle.btree.specs.Refusals.{IsPutRefusal}
use Rattle.btree.proofs.JoinedPairs.{halved}
use Rattle.btree.proofs.Passing.{passed, never_ok, still_error, if_refused, on_refused}
use Rattle.btree.proofs.Sharing.{write_shared, spells_two, shared_evenly}
use Rattle.btree.proofs.rebalance.redistribute.Goals as goal

pub returns-clause-pages : goal.returns-clause-pages
returns-clause-pages c = λ image one two both.
    let lower = c.share_rows.new.left in
    let upper = c.share_rows.new.right in
    let enough = halved lower.rows upper.rows c.args.left.node.rows c.args.right.node.rows 2 c.share_rows.ensures.rows
    c.share_rows.ensures.left_even c.share_rows.ensures.right_even c.requires.many in
    write_shared c.args.left.node.layout c.args.left.node.kind _ _ c.args.left.page c.args.right.page
    c.bytes-lower.result c.bytes-upper.result one two lower.rows upper.rows
    (record { is = c.in_ok-edit_two.ensures.map image; both = both })
    (spells_two _ _ lower c.bytes-lower.result c.share_rows.ensures.left.layout c.share_rows.ensures.left.kind
    c.count-left_count.ensures.node enough.0 c.bytes-lower.ensures.reads)
    (spells_two _ _ upper c.bytes-upper.result c.share_rows.ensures.right.layout c.share_rows.ensures.right.kind
    c.count-right_count.ensures.node enough.1 c.bytes-upper.ensures.reads)

pub returns-clause-even : goal.returns-clause-even
returns-clause-even c =
    let left = c.share_rows.new.left in
    let right = c.share_rows.new.right in
    let count : length left.rows + length right.rows ≡ length c.args.left.node.rows + length c.args.right.node.rows =
    sym (length-append left.rows right.rows) ∙ ap length c.share_rows.ensures.rows
    ∙ length-append c.args.left.node.rows c.args.right.node.rows in
    shared_evenly c.args.left.node.layout c.args.left.node.kind (node_with c.args.left.page left.rows)
    (node_with c.args.right.page right.rows)
    (omega (arith, count, c.requires.full, c.share_rows.ensures.left_even, c.share_rows.ensures.right_even))
    (omega (arith, count, c.requires.full, c.share_rows.ensures.left_even, c.share_rows.ensures.right_even))

pub returns-clause-rows : goal.returns-clause-rows
returns-clause-rows c =
    ap (λ (l : List (List ℕ)). c.share_rows.new.left.rows ++ l) (append-nil c.share_rows.new.right.rows)
    ∙ c.share_rows.ensures.rows

pub returns-in_err-edit_two-clause-spent : goal.returns-in_err-edit_two-clause-spent
returns-in_err-edit_two-clause-spent c =
    passed c.from_residual.result c.in_err-edit_two.field-0.0 c.from_residual.ensures.1
    (λ r. r ≡ Err Spent → is_spent c.args.pages.now ≡ true) (λ is. c.in_err-edit_two.ensures.spent (still_error is))

pub returns-clause-spent : goal.returns-clause-spent
returns-clause-spent c = λ is. never_ok is

pub returns-in_err-edit_two-clause-cause : goal.returns-in_err-edit_two-clause-cause
returns-in_err-edit_two-clause-cause c =
    passed c.from_residual.result c.in_err-edit_two.field-0.0 c.from_residual.ensures.1
    (λ r. IfErr r IsPutRefusal) c.in_err-edit_two.ensures.cause

pub returns-in_err-edit_two-clause-rows : goal.returns-in_err-edit_two-clause-rows
returns-in_err-edit_two-clause-rows c =
    if_refused c.from_residual.result c.in_err-edit_two.field-0.0 c.from_residual.ensures.1 _

pub returns-in_err-edit_two-clause-pages : goal.returns-in_err-edit_two-clause-pages
returns-in_err-edit_two-clause-pages c =
    if_refused c.from_residual.result c.in_err-edit_two.field-0.0 c.from_residual.ensures.1 _

pub returns-in_err-edit_two-clause-joined : goal.returns-in_err-edit_two-clause-joined
returns-in_err-edit_two-clause-joined c =
    if_refused c.from_residual.result c.in_err-edit_two.field-0.0 c.from_residual.ensures.1 _

pub returns-in_err-edit_two-clause-even : goal.returns-in_err-edit_two-clause-even
returns-in_err-edit_two-clause-even c =
    if_refused c.from_residual.result c.in_err-edit_two.field-0.0 c.from_residual.ensures.1 _

pub returns-in_err-edit_two-clause-changed_pages : goal.returns-in_err-edit_two-clause-changed_pages
returns-in_err-edit_two-clause-changed_pages c =
    on_refused c.from_residual.result c.in_err-edit_two.field-0.0 c.from_residual.ensures.1 _

pub returns-in_err-edit_two-clause-filled : goal.returns-in_err-edit_two-clause-filled
returns-in_err-edit_two-clause-filled c =
    on_refused c.from_residual.result c.in_err-edit_two.field-0.0 c.from_residual.ensures.1 _
