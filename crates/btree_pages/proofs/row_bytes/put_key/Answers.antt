use Rattle.std.proofs.Common.{ap, ◌∙◌, arith}
use Rattle.btree_pages.specs.Node.{rows_in}
use Rattle.btree_pages.proofs.Edited.{rows_after_key}
use Rattle.btree_pages.proofs.row_bytes.put_key.Goals as goal

pub returns : goal.returns
returns c =
    ap (rows_in c.args.row c.args.count) c.put.ensures
    ∙ rows_after_key c.args.row c.args.count c.args.place c.start-at.result c.args.key.now c.args.bytes.now
    c.requires.place c.start-at.ensures.start (omega (arith, c.told-bytes)) c.requires.key
