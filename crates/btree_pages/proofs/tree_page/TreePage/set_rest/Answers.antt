use Rattle.std.proofs.Common.{arith}
use Rattle.btree_pages.proofs.Changed.{fits_in}
use Rattle.btree_pages.proofs.Views.{counted}
use Rattle.btree_pages.proofs.tree_page.TreePage.set_rest.Goals as goal

pub put_rest-requires-clause-place : goal.put_rest-requires-clause-place
put_rest-requires-clause-place c =
    let page = c.self.inside in
    let rows = counted page.layout page.kind page.count page.bytes c.args.self.now c.self.view_is in
    omega (arith, rows)

pub put_rest-requires-clause-fits : goal.put_rest-requires-clause-fits
put_rest-requires-clause-fits c =
    let page = c.self.inside in
    fits_in page.layout page.kind c.row_length-row.result page.count c.row_length-row.ensures c.self.invariant.0
    c.self.invariant.1

pub invariant_of-self : goal.invariant_of-self
invariant_of-self c = (c.self.invariant.0, omega (arith, c.self.invariant.1))
