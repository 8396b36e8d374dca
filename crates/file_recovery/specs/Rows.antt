-- The rows of a file, against the entries of its trees.
use Rattle.std.specs.Prelude.{◌≡◌, ◌<◌, ℕ, Bool, List, [], map, length, slice_index_or, Contains, Option, ⊤}
use Rattle.std.specs.List.{All, AllByRecursion}
use Rattle.std.specs.declared.cmp.Ordering.TheVariants.{Less}
use Rattle.station.specs.Disk.{Sector}
use Rattle.btree.specs.Entries.{Entry}
use Rattle.btree_check.specs.Walks.{CanMark, Marks}
use Rattle.chains.specs.Rows.{RowForm, HasChain, chain_of, chains_of, unrolled_entry}
use Rattle.records.specs.declared.fault.StoreFault.{StoreFault}
use Rattle.records.specs.declared.fault.StoreFault.TheVariants.{Device, Full, Damaged, Memory, Spent, Layout, Old}
use Rattle.records.specs.declared.key.KeyOfReference.TheVariants.{Prime, Alternate}
use Rattle.records.specs.Files.{IsRow}
use Rattle.records.specs.Spec.{Spec}
use Rattle.records.specs.Rows.{Row, bytes_cmp, part, prime_place}
use Rattle.volume_format.specs.Chained.{chained_bytes, form_of}
use Rattle.volume_format.specs.Trees.{entry_under}

-- memory ran out, or what was looked for isn't there
abbrev pub IsOwnFault : StoreFault → Type 0
IsOwnFault Device = ⊥
IsOwnFault Full = ⊥
IsOwnFault Damaged = ⊤
IsOwnFault Memory = ⊤
IsOwnFault Spent = ⊥
IsOwnFault Layout = ⊥
IsOwnFault Old = ⊥

-- where the records of a file are
abbrev pub form_under : Spec → RowForm
form_under spec = form_of (chained_bytes spec)

-- an entry with its record in place is that of a row, and exactly the pages of its chain were marked; and no row of such a file
-- has an entry whose chain can be marked
pub record FindsRow (spec : Spec) (pages : List (Option Sector)) (entry : Entry) (row : Row) (old new : List Bool) : Type 0 where
  pub stands : HasChain (form_under spec) pages entry
  pub is : unrolled_entry (form_under spec) pages entry ≡ entry_under spec Prime row
  pub marks : Marks old (chain_of (form_under spec) pages entry) new

abbrev pub NoRow : Spec → ℕ → List (Option Sector) → Entry → List Bool → Type 0
NoRow spec next pages entry old = (row : Row) → IsRow spec next row → HasChain (form_under spec) pages entry
    → unrolled_entry (form_under spec) pages entry ≡ entry_under spec Prime row → CanMark old (chain_of (form_under spec) pages entry) → ⊥

-- entries with their records in place are those of rows, and exactly the pages of their chains were marked; and they are those
-- of no rows of such a file whose chains can be marked
pub record FindsRows (spec : Spec) (pages : List (Option Sector)) (entries : List Entry) (rows : List Row) (old new : List Bool) : Type 0 where
  pub stand : All (HasChain (form_under spec) pages) entries
  pub are : map (unrolled_entry (form_under spec) pages) entries ≡ map (entry_under spec Prime) rows
  pub marks : Marks old (chains_of (form_under spec) pages entries) new

abbrev pub NoRows : Spec → ℕ → List (Option Sector) → List Entry → List Bool → Type 0
NoRows spec next pages entries old = (rows : List Row) → AllByRecursion (IsRow spec next) rows
    → All (HasChain (form_under spec) pages) entries → map (unrolled_entry (form_under spec) pages) entries ≡ map (entry_under spec Prime) rows
    → CanMark old (chains_of (form_under spec) pages entries) → ⊥

-- each row has as many bytes and arrivals as the spec says
abbrev pub IsSized : Spec → Row → Type 0
IsSized spec row = (length row.bytes ≡ spec.record_length) × (length row.arrivals ≡ length spec.alternates)

-- an entry is the pair of one of the rows
abbrev pub IsPairOf : Spec → ℕ → List Row → Entry → Type 0
IsPairOf spec i rows entry = (row : Row) × Contains rows row × (entry_under spec (Alternate i) row ≡ entry)

-- the prime key of the row at a place, and rows whose prime keys ascend
abbrev pub no_row : Row
no_row = record { number = 0; bytes = []; arrivals = [] }

abbrev pub prime_at : Spec → List Row → ℕ → List ℕ
prime_at spec rows k = part (prime_place spec.organization) (slice_index_or rows k no_row).bytes

abbrev pub PrimesAscend : Spec → List Row → Type 0
PrimesAscend spec rows = (j k : ℕ) → j < k → k < length rows → bytes_cmp (prime_at spec rows j) (prime_at spec rows k) ≡ Less
