use Rattle.std.proofs.Common.{◌≡◌, ◌<◌, ◌-◌, ℕ, length}
use Rattle.std.specs.Prelude.{IfSome}
use Rattle.half_store.specs.Seeking.{IsBest}
use Rattle.records.specs.Stores.{spec_of, bound_at}
use Rattle.half_store.proofs.seeking.seek_through.Given as goal

abbrev pub invariant-loop-back : goal.invariant-loop-back
invariant-loop-back l = record {
  placed : IfSome l.best (λ i. i < length l.rows);
  best : (k : ℕ) → k ≡ length l.rows - l.back
      → IsBest (spec_of l.spec) l.key (bound_at l.side l.value l.number) l.rows k l.best;
}
