use Rattle.std.proofs.Common.{◌≡◌, ℕ, ◌<◌, ◌≤◌, ◌*◌, get_or, length, false, true}
use Rattle.pages.proofs.sector_use.SectorUse.next_unused.Given as goal

abbrev pub invariant-loop-run : goal.invariant-loop-run
invariant-loop-run l = (t : ℕ) → l.from ≤ t → t < 1024 * l.run → t < length l.self → get_or l.self t false ≡ true
