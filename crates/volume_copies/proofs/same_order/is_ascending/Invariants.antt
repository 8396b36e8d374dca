use Rattle.std.proofs.Common.{◌≡◌, ◌<◌, ◌≤◌, ◌-◌, ℕ}
use Rattle.std.specs.Prelude.{slice_index_or}
use Rattle.std.specs.declared.cmp.Ordering.TheVariants.{Less}
use Rattle.records.specs.Rows.{Row, pair_cmp}
use Rattle.file_bytes.specs.Stored.{rows_of}
use Rattle.volume_copies.specs.Ascents.{pair_at}
use Rattle.volume_copies.proofs.same_order.is_ascending.Given as goal

abbrev pub invariant-loop-next : goal.invariant-loop-next
invariant-loop-next l = (n : ℕ) (d : Row) → 1 ≤ n → n < l.next
    → pair_cmp (pair_at l.place l.key (slice_index_or (rows_of l.rows) (slice_index_or l.order (n - 1) 0) d))
    (pair_at l.place l.key (slice_index_or (rows_of l.rows) (slice_index_or l.order n 0) d)) ≡ Less
