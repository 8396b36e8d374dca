use Rattle.std.proofs.Common.{◌≤◌, suc, ◌+◌, ◌-◌, ◌*◌, ℕ, length, Some, ap, ◌∙◌, arith}
use Rattle.btree_pages.specs.RowLayouts.{row_length}
use Rattle.btree_pages.specs.Node.{Node}
use Rattle.btree_pages.proofs.Edited.{together}
use Rattle.btree_pages.proofs.PageWrites.{rest_reads, rest_zeros}
use Rattle.btree_pages.proofs.Places.{rows_fit}
use Rattle.btree_pages.proofs.node_view.NodeView.spell_with_rest.Goals as goal

pub spell_around-requires : goal.spell_around-requires
spell_around-requires c =
    let node : Node = c.args.self.now in
    let row : ℕ = row_length node.layout node.kind in
    let n : ℕ = length node.rows in
    let fits : n * row ≤ 4080 =
    rows_fit node.layout node.kind n c.count.ensures.node.layout c.count.ensures.node.fits in
    let parts = together row n c.args.place (suc (n - (c.args.place + 1))) (omega arith) in
    omega arith

pub returns-clause-reads : goal.returns-clause-reads
returns-clause-reads c =
    rest_reads c.args.self.now c.args.place c.head-head.result c.split_at_row.result.0.now
    c.key.result.now c.args.rest.now c.split_at_row-2.result.1.now c.spell_around.new.spelled c.spell_around.ensures
    c.head-head.ensures.long c.split_at_row.ensures.before_length (omega arith)
    c.requires.place c.count.ensures.node.fits c.key.ensures.key (c.head-head.ensures.kind ∙ ap Some c.kind.ensures)
    (omega arith) c.split_at_row.ensures.before c.split_at_row-2.ensures.behind_length
    c.split_at_row-2.ensures.behind

pub returns-clause-zeros : goal.returns-clause-zeros
returns-clause-zeros c =
    rest_zeros c.args.self.now c.args.place c.head-head.result c.split_at_row.result.0.now
    c.key.result.now c.args.rest.now c.split_at_row-2.result.1.now c.spell_around.new.spelled c.spell_around.ensures
    c.head-head.ensures.long c.split_at_row.ensures.before_length (omega arith)
    c.requires.place c.head-head.ensures.zeros c.split_at_row-2.ensures.behind_length
