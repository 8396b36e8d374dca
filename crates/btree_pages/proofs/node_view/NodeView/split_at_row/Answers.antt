use Rattle.std.proofs.Common.{◌≡◌, ◌-◌, ◌*◌, ℕ, length, ap, ◌∙◌, arith}
use Rattle.btree_pages.specs.RowLayouts.{row_length}
use Rattle.btree_pages.specs.Node.{Node}
use Rattle.btree_pages.proofs.Changed.{fits_in}
use Rattle.btree_pages.proofs.Edited.{together}
use Rattle.btree_pages.proofs.Around.{cut_before, cut_behind}
use Rattle.btree_pages.proofs.Views.{counted}
use Rattle.btree_pages.proofs.node_view.NodeView.split_at_row.Goals as goal

pub overflow_mul-place : goal.overflow_mul-place
overflow_mul-place c =
    let page = c.self.inside in
    let known = c.self.invariant in
    let rows = counted page.layout page.kind page.count page.rows.now c.args.self.now c.self.view_is in
    let fits = fits_in page.layout page.kind c.row_length-length.result c.args.place c.row_length-length.ensures known.0
    (omega (arith, rows, known.1)) in
    omega (arith, fits)

pub split_at-requires-2 : goal.split_at-requires-2
split_at-requires-2 c =
    let page = c.self.inside in
    let rows = counted page.layout page.kind page.count page.rows.now c.args.self.now c.self.view_is in
    let parts =
    together c.row_length-length.result page.count c.args.place (page.count - c.args.place) (omega (arith, rows)) in
    omega (arith, parts, c.split_at.ensures.front_len)

pub returns-clause-before : goal.returns-clause-before
returns-clause-before c =
    let page = c.self.inside in
    let known = c.self.invariant in
    let long = c.row_length-length.result in
    let rows = counted page.layout page.kind page.count page.rows.now c.args.self.now c.self.view_is in
    let fits = fits_in page.layout page.kind long page.count c.row_length-length.ensures known.0 known.1 in
    let parts = together long page.count c.args.place (page.count - c.args.place) (omega (arith, rows)) in
    cut_before page.layout page.kind page.count page.rows.now c.args.self.now c.args.place long c.split_at.result.0.now
    c.self.view_is c.row_length-length.ensures (omega (arith, rows)) (omega (arith, fits, known.2))
    c.split_at.ensures.front
    c.split_at-2.result.0.now c.split_at-2.ensures.front (omega (arith, parts, c.split_at.ensures.front_len))

pub returns-clause-behind : goal.returns-clause-behind
returns-clause-behind c =
    let page = c.self.inside in
    let known = c.self.invariant in
    let long = c.row_length-length.result in
    let rows = counted page.layout page.kind page.count page.rows.now c.args.self.now c.self.view_is in
    let fits = fits_in page.layout page.kind long page.count c.row_length-length.ensures known.0 known.1 in
    cut_behind page.layout page.kind page.count page.rows.now c.args.self.now c.args.place long c.split_at.result.0.now
    c.self.view_is c.row_length-length.ensures (omega (arith, rows)) (omega (arith, fits, known.2))
    c.split_at.ensures.front
    c.split_at-2.result.1.now (length c.args.self.now.rows - c.args.place) c.split_at-2.ensures.back
    (omega (arith, rows))

pub returns-clause-behind_length : goal.returns-clause-behind_length
returns-clause-behind_length c =
    let page = c.self.inside in
    let rows = counted page.layout page.kind page.count page.rows.now c.args.self.now c.self.view_is in
    let more : ℕ = length c.args.self.now.rows - c.args.place in
    let wide : c.row_length-length.result ≡ row_length c.args.self.now.layout c.args.self.now.kind =
    c.row_length-length.ensures ∙ ap (λ (one : Node). row_length one.layout one.kind) c.self.view_is in
    let parts = together c.row_length-length.result page.count c.args.place more (omega (arith, rows)) in
    let long : length c.split_at-2.result.1.now ≡ more * c.row_length-length.result =
    omega (arith, parts, c.split_at.ensures.front_len, c.split_at-2.ensures.back_len) in
    long ∙ ap (λ (k : ℕ). more * k) wide
