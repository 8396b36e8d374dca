use Rattle.std.proofs.Common.{ℕ, ◌+◌, length, ap, ◌∙◌, arith}
use Rattle.btree_pages.specs.Bytes.{put_at}
use Rattle.btree_pages.specs.Node.{rows_in}
use Rattle.btree_pages.proofs.Edited.{rows_after_insert}
use Rattle.btree_pages.proofs.row_bytes.insert_row.Goals as goal

pub returns : goal.returns
returns c =
    let at : ℕ = c.start-at.result in
    let key = c.args.key.now in
    let rest = c.args.rest.now in
    ap (rows_in c.args.row (c.args.count + 1)) (c.put-2.ensures
    ∙ ap (put_at (at + length key) rest) (c.put.ensures ∙ ap (put_at at key) c.copy_within.ensures.after))
    ∙ rows_after_insert c.args.row c.args.count c.args.place at c.start-end.result key rest c.args.bytes.now
    c.requires.place c.start-at.ensures.start c.start-end.ensures.start c.requires.row (omega (arith, c.told-bytes))
