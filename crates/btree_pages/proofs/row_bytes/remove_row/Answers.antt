use Rattle.std.proofs.Common.{ℕ, ◌-◌, replicate, ap, ◌∙◌, arith}
use Rattle.btree_pages.specs.Bytes.{put_at}
use Rattle.btree_pages.specs.Node.{rows_in}
use Rattle.btree_pages.proofs.Edited.{rows_after_remove}
use Rattle.btree_pages.proofs.row_bytes.remove_row.Goals as goal

pub returns : goal.returns
returns c =
    let end : ℕ = c.start-end.result in
    ap (rows_in c.args.row (c.args.count - 1))
    (c.erase.ensures ∙ ap (put_at (end - c.args.row) (replicate c.args.row 0)) c.copy_within.ensures.after)
    ∙ rows_after_remove c.args.row c.args.count c.args.place c.start-at.result end (replicate c.args.row 0)
    c.args.bytes.now c.requires.place c.start-at.ensures.start c.start-end.ensures.start (omega (arith, c.told-bytes))
