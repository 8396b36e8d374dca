use Rattle.std.proofs.Common.{arith}
use Rattle.btree_pages.proofs.Changed.{fits_in}
use Rattle.btree_pages.proofs.Views.{counted}
use Rattle.btree_pages.proofs.tree_page.TreePage.split_off.Goals as goal

pub split_rows-requires-clause-place : goal.split_rows-requires-clause-place
split_rows-requires-clause-place c =
    let page = c.self.inside in
    let rows = counted page.layout page.kind page.count page.bytes c.args.self.now c.self.view_is in
    omega (arith, rows)

pub split_rows-requires-clause-fits : goal.split_rows-requires-clause-fits
split_rows-requires-clause-fits c =
    let page = c.self.inside in
    fits_in page.layout page.kind c.row_length-row.result page.count c.row_length-row.ensures c.self.invariant.0
    c.self.invariant.1

pub overflow_sub-right : goal.overflow_sub-right
overflow_sub-right c =
    let page = c.self.inside in
    let rows = counted page.layout page.kind page.count page.bytes c.args.self.now c.self.view_is in
    omega (arith, rows)

pub invariant_of-self : goal.invariant_of-self
invariant_of-self c =
    let page = c.self.inside in
    let known = c.self.invariant in
    let rows = counted page.layout page.kind page.count page.bytes c.args.self.now c.self.view_is in
    (known.0, omega (arith, known.1, rows))
