use Rattle.btree_pages.proofs.PageWrites.{whole_reads, whole_zeros}
use Rattle.btree_pages.proofs.tree_page.TreePage.bytes.Goals as goal

pub returns-clause-reads : goal.returns-clause-reads
returns-clause-reads c =
    let page = c.self.inside in
    whole_reads page.layout page.kind page.count c.row_length.result page.bytes c.head.result c.front-rows.result
    c.joined.result c.args.self.now c.self.view_is c.row_length.ensures c.self.invariant.0 c.self.invariant.1
    c.self.told c.front-rows.ensures c.joined.ensures c.head.ensures.long c.head.ensures.kind c.head.ensures.count

pub returns-clause-zeros : goal.returns-clause-zeros
returns-clause-zeros c =
    let page = c.self.inside in
    whole_zeros page.layout page.kind page.count c.row_length.result page.bytes c.head.result c.front-rows.result
    c.joined.result c.args.self.now c.self.view_is c.row_length.ensures c.self.invariant.0 c.self.invariant.1
    c.self.told c.front-rows.ensures c.joined.ensures c.head.ensures.long c.head.ensures.zeros
