-- Runs of 1,024 sectors, and how many of each aren't marked as used.
use Rattle.std.specs.Prelude.{◌≡◌, ◌<◌, ◌≤◌, ◌+◌, ◌*◌, ◌==◌, not, map, count_by, take, Bool, ℕ, List, length, slice_index}

-- of each byte, whether it marks its sector as used: whether it is other than zero
abbrev pub used_flags : List ℕ → List Bool
used_flags bytes = map (λ byte. not (byte == 0)) bytes

-- how many sectors aren't marked as used
abbrev pub unused_count : List Bool → ℕ
unused_count used = count_by (λ u. not u) used

-- how many of those below a number
abbrev pub unused_below : List Bool → ℕ → ℕ
unused_below used n = unused_count (take n used)

-- a volume has few sectors, each is in a run, and of each run it is known how many of its sectors aren't marked
pub record AreRuns (used : List Bool) (counts : List ℕ) : Type 0 where
  pub few : length used ≤ 921600
  pub all : length used ≤ 1024 * length counts
  pub each : (run : ℕ) → run < length counts → unused_below used (1024 * run + 1024) ≡ unused_below used (1024 * run) + slice_index counts run
