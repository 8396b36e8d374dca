-- What the catalog says of a file, and its bytes (own choice). Numbers are big-endian.
use Rattle.std.specs.Prelude.{◌≡◌, ◌<◌, ◌+◌, ◌*◌, ◌%◌, ◌^◌, ◌++◌, ℕ, zero, suc, true, List, length, take, drop}
use Rattle.std.specs.Prelude.{slice_index_or}
use Rattle.std.specs.List.{All, flat_map}
use Rattle.byteorder.specs.Endian.{big_bytes, big_number}
use Rattle.btree_pages.specs.declared.row_layout.RowLayout.{RowLayout}
use Rattle.btree_pages.specs.Keys.{key_cmp}
use Rattle.records.specs.Spec.{Spec, is_spec, is_name}
use Rattle.records.specs.Rows.{bytes_cmp}
use Rattle.file_bytes.specs.Description.{filled_to, padded_name, spec_bytes}

-- A listing: a file's spec, the pages of its trees' roots, and the arrival that the next WRITE gives
pub record Listing : Type 0 where
  pub spec : Spec
  pub prime : ℕ
  -- in order of the alternate keys
  pub alternates : List ℕ
  pub next_arrival : ℕ

-- 83 bytes
unfoldable pub listing_bytes : Listing → List ℕ
listing_bytes l = spec_bytes l.spec
    ++ (big_bytes 4 l.prime ++ (filled_to 28 (flat_map (big_bytes 4) l.alternates) ++ big_bytes 8 l.next_arrival))

-- what the catalog may say
pub record IsListing (l : Listing) : Type 0 where
  pub spec : is_spec l.spec ≡ true
  pub prime : l.prime < 2 ^ 32
  pub alternates : All (λ page. page < 2 ^ 32) l.alternates
  pub count : length l.alternates ≡ length l.spec.alternates
  pub next_arrival : l.next_arrival < 2 ^ 63

-- A value of the catalog: a listing, and on a volume with the second mark the number of the file's rows.
abbrev pub catalog_value : ℕ → List ℕ → ℕ → List ℕ
catalog_value zero listing rows = listing
catalog_value (suc mark) listing rows = listing ++ big_bytes 8 rows

abbrev pub value_length : ℕ → ℕ
value_length zero = 83
value_length (suc mark) = 91

abbrev pub catalog_layout : ℕ → RowLayout
catalog_layout mark = record { key_length = 30; value_length = value_length mark }

-- A value is as long as the layout says, and its listing and number of rows are read back from their places.
pub record ValueReads (mark : ℕ) (listing : List ℕ) (rows : ℕ) : Type 0 where
  pub long : length (catalog_value mark listing rows) ≡ value_length mark
  pub head : take 83 (catalog_value mark listing rows) ≡ listing
  pub count : 0 < mark → big_number 8 (drop 83 (catalog_value mark listing rows)) ≡ rows % 2 ^ 64

abbrev pub ValueReadsBack : Type 0
ValueReadsBack = (mark : ℕ) (listing : List ℕ) (rows : ℕ) → length listing ≡ 83 → ValueReads mark listing rows

-- the number of rows is spelled by its lowest eight bytes
abbrev pub RowsSpelledLow : Type 0
RowsSpelledLow = (one two : ℕ) → one % 2 ^ 64 ≡ two % 2 ^ 64 → big_bytes 8 one ≡ big_bytes 8 two

-- What was spelled is read back from its places.
pub record ReadsBack (l : Listing) : Type 0 where
  pub long : length (listing_bytes l) ≡ 83
  pub spec : take 43 (listing_bytes l) ≡ spec_bytes l.spec
  pub prime : big_number 4 (drop 43 (listing_bytes l)) ≡ l.prime
  pub alternates : (i : ℕ) → i < length l.alternates
      → big_number 4 (drop (47 + 4 * i) (listing_bytes l)) ≡ slice_index_or l.alternates i 0
  pub next_arrival : big_number 8 (drop 75 (listing_bytes l)) ≡ l.next_arrival

abbrev pub ListingReadsBack : Type 0
ListingReadsBack = (l : Listing) → IsListing l → ReadsBack l

-- padded names have the order of names
abbrev pub NamesInOrder : Type 0
NamesInOrder = (one two : List ℕ) → is_name one ≡ true → is_name two ≡ true
    → key_cmp (padded_name one) (padded_name two) ≡ bytes_cmp one two
