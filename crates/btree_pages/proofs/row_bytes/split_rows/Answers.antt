use Rattle.std.proofs.Common.{◌-◌, replicate, ap, ◌∙◌, arith}
use Rattle.btree_pages.specs.Node.{rows_in}
use Rattle.btree_pages.proofs.Edited.{rows_left, rows_right}
use Rattle.btree_pages.proofs.row_bytes.split_rows.Goals as goal

pub returns-clause-left : goal.returns-clause-left
returns-clause-left c =
    ap (rows_in c.args.row c.args.place) c.erase.ensures
    ∙ rows_left c.args.row c.args.count c.args.place c.start-at.result (replicate (c.start-end.result
    - c.start-at.result) 0) c.args.bytes.now c.requires.place c.start-at.ensures.start (omega (arith, c.told-bytes))

pub returns-clause-right : goal.returns-clause-right
returns-clause-right c =
    ap (rows_in c.args.row (c.args.count - c.args.place)) c.put.ensures
    ∙ rows_right c.args.row c.args.count c.args.place c.start-at.result c.start-end.result (replicate 4080 0)
    c.args.bytes.now c.requires.place c.start-at.ensures.start c.start-end.ensures.start (omega (arith, c.told-bytes))
