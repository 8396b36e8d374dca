-- Rows in an order that positions give.
use Rattle.std.specs.Prelude.{◌≡◌, ◌<◌, ◌≤◌, ◌-◌, ℕ, List, length, slice_index_or}
use Rattle.std.specs.declared.cmp.Ordering.TheVariants.{Less}
use Rattle.records.specs.declared.file_spec.KeyPlace.{KeyPlace}
use Rattle.records.specs.Rows.{Row, Pair, part, pair_cmp}

-- the place of a row under a key at this place of the record, of this number
abbrev pub pair_at : KeyPlace → ℕ → Row → Pair
pair_at place key row = record { value = part place row.bytes; number = slice_index_or row.arrivals key 0 }

-- each position has a row, and is before the next one in the order of the key
pub record IsAscent (place : KeyPlace) (key : ℕ) (rows : List Row) (order : List ℕ) : Type 0 where
  pub each : (next : ℕ) (d : Row) → 1 ≤ next → next < length order
      → pair_cmp (pair_at place key (slice_index_or rows (slice_index_or order (next - 1) 0) d))
      (pair_at place key (slice_index_or rows (slice_index_or order next 0) d)) ≡ Less

-- each number below a count is in the list, at its place
pub record HasEach (count : ℕ) (order : List ℕ) : Type 0 where
  pub places : List ℕ
  pub at : (number : ℕ) → number < count → slice_index_or places number 0 < length order
  pub is : (number : ℕ) → number < count → slice_index_or order (slice_index_or places number 0) 0 ≡ number
