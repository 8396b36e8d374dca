use Rattle.std.proofs.Common.{◌≡◌, ◌<◌, ◌+◌, ◌*◌, ℕ, length, get_or}
use Rattle.pages.specs.Runs.{unused_below}
use Rattle.pages.proofs.sector_use.count_runs.Given as goal

abbrev pub invariant-loop-run : goal.invariant-loop-run
invariant-loop-run l = record {
  count : length l.counts.items ≡ l.run;
  each : (run : ℕ) → run < l.run
      → unused_below l.used (1024 * run + 1024) ≡ unused_below l.used (1024 * run) + get_or l.counts.items run 0;
}
