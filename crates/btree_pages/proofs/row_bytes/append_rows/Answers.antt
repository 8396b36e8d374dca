use Rattle.std.proofs.Common.{◌+◌, List, ℕ, ap, ◌∙◌, arith}
use Rattle.btree_pages.specs.Bytes.{put_at}
use Rattle.btree_pages.specs.Node.{rows_in}
use Rattle.btree_pages.proofs.Edited.{rows_appended}
use Rattle.btree_pages.proofs.row_bytes.append_rows.Goals as goal

pub returns : goal.returns
returns c =
    ap (rows_in c.args.row (c.args.count + c.args.more))
    (c.put.ensures ∙ ap (λ (part : List ℕ). put_at c.start-at.result part c.args.bytes.now) c.split_at.ensures.front)
    ∙ rows_appended c.args.row c.args.count c.args.more c.start-at.result c.start-end.result
    c.args.bytes.now c.args.other.now c.start-at.ensures.start c.start-end.ensures.start (omega (arith, c.told-bytes))
    (omega (arith, c.told-other))
