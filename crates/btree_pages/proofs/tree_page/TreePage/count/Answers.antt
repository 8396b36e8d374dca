use Rattle.btree_pages.proofs.Views.{counted, is_node_at}
use Rattle.btree_pages.proofs.tree_page.TreePage.count.Goals as goal

pub returns-clause-rows : goal.returns-clause-rows
returns-clause-rows c =
    let page = c.self.inside in
    counted page.layout page.kind page.count page.bytes c.args.self.now c.self.view_is

pub returns-clause-node : goal.returns-clause-node
returns-clause-node c =
    let page = c.self.inside in
    let known = c.self.invariant in
    is_node_at page.layout page.kind page.count page.bytes known.0 known.1 c.self.told c.args.self.now c.self.view_is
