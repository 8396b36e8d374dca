use Rattle.std.proofs.Common.{replicate, ap, ◌∙◌, rules}
use Rattle.btree_pages.specs.Bytes.{put_at}
use Rattle.btree_pages.proofs.Changed.{put_joined}
use Rattle.btree_pages.proofs.header.joined.Goals as goal

pub returns : goal.returns
returns c = c.put-2.ensures ∙ ap (put_at 16 c.args.rows.now) c.put.ensures
    ∙ put_joined c.args.head.now c.args.rows.now (replicate 4096 0) c.told-head c.told-rows (search rules)
