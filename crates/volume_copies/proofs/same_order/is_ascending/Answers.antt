use Rattle.std.proofs.Common.{◌≡◌, ◌-◌, ⊎_elim, arith, subst, ℕ}
use Rattle.std.specs.Prelude.{slice_index_or}
use Rattle.std.specs.declared.cmp.Ordering.TheVariants.{Less}
use Rattle.std.proofs.lemmas.Bool.{cases_lt}
use Rattle.records.specs.Rows.{pair_cmp}
use Rattle.file_bytes.specs.Stored.{rows_of}
use Rattle.volume_copies.specs.Ascents.{pair_at}
use Rattle.volume_copies.proofs.Ascending.{pairs_here}
use Rattle.volume_copies.proofs.same_order.is_ascending.Goals as goal

pub loop-next-preserved : goal.loop-next-preserved
loop-next-preserved c = λ n d low less. ⊎_elim (λ before. c.loop-next.invariant n d low before)
    (λ past.
    let rows = c.args.rows.now in
    let order = c.args.order.now in
    let next = c.loop-next.next in
    let pair = pair_at c.args.place c.args.key in
    let same : next ≡ n = omega (arith, past, less) in
    subst (λ (m : ℕ). pair_cmp (pair (slice_index_or (rows_of rows) (slice_index_or order (m - 1) 0) d))
    (pair (slice_index_or (rows_of rows) (slice_index_or order m 0) d)) ≡ Less) same
    (pairs_here c.args.place c.args.key rows (slice_index_or order (next - 1) 0) (slice_index_or order next 0)
    c.index-rows-one.result c.index-rows-two.result d (omega (arith, c.if-one-rows.false))
    (omega (arith, c.if-two-rows.false)) c.index-rows-one.is c.index-rows-two.is
    (c.is_before.ensures c.if-not-is_before.false))) (cases_lt n c.loop-next.next)
