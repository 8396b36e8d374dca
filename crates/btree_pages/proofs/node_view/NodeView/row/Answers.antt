use Rattle.std.proofs.Common.{ℕ, List, take, ap, ◌∙◌, arith}
use Rattle.btree_pages.proofs.Views.{row_is, row_within}
use Rattle.btree_pages.proofs.node_view.NodeView.row.Goals as goal

pub overflow_mul-place : goal.overflow_mul-place
overflow_mul-place c =
    let page = c.self.inside in
    let known = c.self.invariant in
    let fits = row_within page.layout page.kind page.count page.rows.now known.0 known.1 known.2 c.args.self.now
    c.args.place c.row_length-length.result c.self.view_is c.requires c.row_length-length.ensures in
    omega (arith, fits)

pub split_at-requires : goal.split_at-requires
split_at-requires c =
    let page = c.self.inside in
    let known = c.self.invariant in
    let fits = row_within page.layout page.kind page.count page.rows.now known.0 known.1 known.2 c.args.self.now
    c.args.place c.row_length-length.result c.self.view_is c.requires c.row_length-length.ensures in
    omega (arith, fits, known.2)

pub split_at-requires-2 : goal.split_at-requires-2
split_at-requires-2 c =
    let page = c.self.inside in
    let known = c.self.invariant in
    let fits = row_within page.layout page.kind page.count page.rows.now known.0 known.1 known.2 c.args.self.now
    c.args.place c.row_length-length.result c.self.view_is c.requires c.row_length-length.ensures in
    omega (arith, fits, known.2, c.split_at.ensures.back_len)

pub returns-clause-row : goal.returns-clause-row
returns-clause-row c =
    let page = c.self.inside in
    let known = c.self.invariant in
    c.split_at-2.ensures.front
    ∙ ap (λ (from : List ℕ). take c.row_length-length.result from) c.split_at.ensures.back
    ∙ row_is page.layout page.kind page.count page.rows.now known.0 known.1 known.2 c.args.self.now c.args.place
    c.row_length-length.result c.self.view_is c.requires c.row_length-length.ensures
