use Rattle.std.proofs.Common.{arith}
use Rattle.btree_pages.proofs.Changed.{fits_in}
use Rattle.btree_pages.proofs.Views.{counted}
use Rattle.btree_pages.proofs.tree_page.TreePage.remove.Goals as goal

pub remove_row-requires-clause-place : goal.remove_row-requires-clause-place
remove_row-requires-clause-place c =
    let page = c.self.inside in
    let rows = counted page.layout page.kind page.count page.bytes c.args.self.now c.self.view_is in
    omega (arith, rows)

pub remove_row-requires-clause-fits : goal.remove_row-requires-clause-fits
remove_row-requires-clause-fits c =
    let page = c.self.inside in
    fits_in page.layout page.kind c.row_length-row.result page.count c.row_length-row.ensures c.self.invariant.0
    c.self.invariant.1

pub invariant_of-self : goal.invariant_of-self
invariant_of-self c = (c.self.invariant.0, omega (arith, c.self.invariant.1))
