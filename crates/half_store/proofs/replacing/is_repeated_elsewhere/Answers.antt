use Rattle.std.proofs.Common.{not, sym, ◌∙◌}
use Rattle.records.specs.Rows.{Row, part, same_bytes}
use Rattle.records.specs.Changes.{is_at}
use Rattle.records.specs.Stores.{pair_of}
use Rattle.half_store.proofs.Replaced.{any_row_filter}
use Rattle.half_store.proofs.replacing.is_repeated_elsewhere.Goals as goal

pub returns : goal.returns
returns c = c.stands_elsewhere.ensures ∙ sym (any_row_filter
    (λ (row : Row). same_bytes (part c.args.key.now.place row.bytes) (part c.args.key.now.place c.args.bytes.now))
    (λ (row : Row). not (is_at c.args.organization (pair_of c.args.organization c.args.prime.now c.args.number) row))
    c.args.rows.now)
