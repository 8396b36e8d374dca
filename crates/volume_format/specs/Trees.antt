-- The trees of a file: one of its rows, and one of the pairs of each alternate key.
use Rattle.std.specs.Prelude.{◌≡◌, ◌+◌, ◌*◌, ◌++◌, ℕ, List, length, Contains}
use Rattle.byteorder.specs.Endian.{big_bytes}
use Rattle.btree_pages.specs.declared.row_layout.RowLayout.{RowLayout}
use Rattle.btree.specs.Entries.{Entry}
use Rattle.records.specs.declared.key.KeyOfReference.{KeyOfReference}
use Rattle.records.specs.declared.key.KeyOfReference.TheVariants.{Prime, Alternate}
use Rattle.records.specs.Spec.{Spec}
use Rattle.records.specs.Rows.{Row, part, prime_place, place_of, Pair, pair_under}
use Rattle.volume_format.specs.Chained.{kept_bytes}
use Rattle.file_bytes.specs.Rows.{prime_key_length, prime_key, row_value}

-- the key of a pair under an alternate key
abbrev pub pair_key : Pair → List ℕ
pair_key pair = pair.value ++ big_bytes 8 pair.number

-- the key of a pair in the tree of a key
abbrev pub key_under : Spec → KeyOfReference → Pair → List ℕ
key_under spec Prime pair = prime_key spec.organization pair
key_under spec (Alternate i) pair = pair_key pair

-- the tree of rows has the record of a row, or the first page of its chain, and its arrivals under its key
abbrev pub prime_layout : Spec → RowLayout
prime_layout spec = record { key_length = prime_key_length spec.organization; value_length = kept_bytes spec + 8 * length spec.alternates }

-- an entry of an alternate key's tree: the pair, and the prime key
abbrev pub alternate_layout : Spec → ℕ → RowLayout
alternate_layout spec i = record { key_length = (place_of spec (Alternate i)).length + 8; value_length = (prime_place spec.organization).length }

abbrev pub value_under : Spec → KeyOfReference → Row → List ℕ
value_under spec Prime row = row_value row
value_under spec (Alternate i) row = part (prime_place spec.organization) row.bytes

abbrev pub entry_under : Spec → KeyOfReference → Row → Entry
entry_under spec key row = record { key = key_under spec key (pair_under spec key row); value = value_under spec key row }

abbrev pub layout_under : Spec → KeyOfReference → RowLayout
layout_under spec Prime = prime_layout spec
layout_under spec (Alternate i) = alternate_layout spec i

-- the entries are exactly those of these rows
pub record AreOf (spec : Spec) (key : KeyOfReference) (rows : List Row) (entries : List Entry) : Type 0 where
  pub each : (row : Row) → Contains rows row → Contains entries (entry_under spec key row)
  pub only : (entry : Entry) → Contains entries entry → (row : Row) × Contains rows row × (entry_under spec key row ≡ entry)
