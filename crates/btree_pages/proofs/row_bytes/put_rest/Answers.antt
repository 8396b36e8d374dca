use Rattle.std.proofs.Common.{ap, ◌∙◌, arith}
use Rattle.btree_pages.specs.Node.{rows_in}
use Rattle.btree_pages.proofs.Edited.{rows_after_rest}
use Rattle.btree_pages.proofs.row_bytes.put_rest.Goals as goal

pub returns : goal.returns
returns c =
    ap (rows_in c.args.row c.args.count) c.put.ensures
    ∙ rows_after_rest c.args.row c.args.count c.args.place c.start-at.result c.args.key_length c.args.rest.now
    c.args.bytes.now c.requires.place c.start-at.ensures.start (omega (arith, c.told-bytes)) c.requires.rest
