-- What a change of a row does to its file, and to the tree of an alternate key.
use Rattle.std.specs.Prelude.{◌≡◌, ◌<◌, ◌≤◌, ◌+◌, ◌*◌, ◌%◌, ◌^◌, ◌++◌, Bool, true, false, nat_le, ℕ, List, [], ◌∷◌, map, length, take, drop, slice_index_or, Option, None, IsSome, if◌then◌else◌}
use Rattle.std.specs.List.{All}
use Rattle.byteorder.specs.Endian.{big_bytes, big_number}
use Rattle.station.specs.Disk.{Sector}
use Rattle.station.specs.declared.device.Device.{Ghosts as Devices}
use Rattle.pages.specs.Pages.{Agrees}
use Rattle.pages.specs.declared.page_map.PageMap.{PageMap}
use Rattle.btree.specs.Calls.{pages_on}
use Rattle.btree_pages.specs.Keys.{Ascend}
use Rattle.btree.specs.Entries.{Entry, entry_with, with_new_entry, without_entry}
use Rattle.btree.specs.Laws.{keys_listed}
use Rattle.records.specs.declared.file_spec.AlternateKey.{AlternateKey}
use Rattle.records.specs.declared.file_spec.Organization.{Organization}
use Rattle.records.specs.declared.file_spec.Organization.TheVariants.{Sequential, Relative, Indexed}
use Rattle.records.specs.declared.key.KeyOfReference.TheVariants.{Prime, Alternate}
use Rattle.records.specs.Spec.{Spec}
use Rattle.records.specs.Rows.{Row, part, place_of, prime_place, no_key}
use Rattle.records.specs.Changes.{FileChange, insertion, replacement, removal, changes}
use Rattle.records.specs.Files.{File, NamedFile}
use Rattle.records.specs.Stores.{IsNewNumber, key_length, pair_of}
use Rattle.volume_format.specs.Chained.{chained_bytes}
use Rattle.volume_format.specs.Trees.{entry_under, layout_under, AreOf}
use Rattle.volume_format.specs.Forest.{TreeLevels}
use Rattle.alternate_keys.specs.declared.row_verb.RowVerb.{RowVerb}
use Rattle.alternate_keys.specs.declared.row_verb.RowVerb.TheVariants.{Insert, Replace, Remove}
use Rattle.alternate_keys.specs.Placed.{HasIndexes, OnIndexes}

-- the file after it: the bytes are a record, and to remove a row its prime key
abbrev pub changed_by : RowVerb → Organization → ℕ → List ℕ → File → FileChange
changed_by Insert organization number bytes file = insertion number bytes file
changed_by Replace organization number bytes file = replacement number bytes file
changed_by Remove organization number bytes file = removal (pair_of organization bytes number) file

-- The number of rows after a change follows from the number before, modulo 2^64.
abbrev pub IsCountAfter : RowVerb → ℕ → ℕ → Type 0
IsCountAfter Insert rows new = new ≡ (rows + 1) % 2 ^ 64
IsCountAfter Replace rows new = new ≡ rows
IsCountAfter Remove rows new = (new + 1) % 2 ^ 64 ≡ rows

-- a file of that name after a change
abbrev pub named_after : NamedFile → FileChange → NamedFile
named_after named changed = record { name = named.name; file = changed.file }

-- relative numbers are below 2^32
abbrev pub is_out_of_range : Organization → ℕ → Bool
is_out_of_range Sequential number = false
is_out_of_range Relative number = nat_le (256 ^ 4) number
is_out_of_range (Indexed place) number = false

-- what a caller gives
abbrev pub IsAsked : RowVerb → Spec → ℕ → List ℕ → Type 0
IsAsked Insert spec number bytes = IsNewNumber spec.organization number × (length bytes ≡ spec.record_length)
IsAsked Replace spec number bytes = length bytes ≡ spec.record_length
IsAsked Remove spec number bytes = length bytes ≡ key_length spec Prime

-- how long the row's value in the tree of rows was, and its new record is
abbrev pub HasValues : RowVerb → Spec → List ℕ → List ℕ → Type 0
HasValues Insert spec old bytes = length bytes ≡ spec.record_length
HasValues Replace spec old bytes = (length old ≡ spec.record_length + 8 * length spec.alternates) × (length bytes ≡ spec.record_length)
HasValues Remove spec old bytes = length old ≡ spec.record_length + 8 * length spec.alternates

-- its record and arrivals have their lengths, and each arrival fits eight bytes
pub record IsRowOf (spec : Spec) (row : Row) : Type 0 where
  pub long : length row.bytes ≡ spec.record_length
  pub count : length row.arrivals ≡ length spec.alternates
  pub low : All (λ (a : ℕ). a < 256 ^ 8) row.arrivals

-- the pair of a record with an arrival, as an entry of an alternate key's tree
abbrev pub pair_entry : Spec → ℕ → List ℕ → ℕ → Entry
pair_entry spec i bytes arrival = record { key = part (place_of spec (Alternate i)) bytes ++ big_bytes 8 arrival; value = part (prime_place spec.organization) bytes }

-- the key of the pair of a row, by its value in the tree of rows
abbrev pub old_key : Spec → ℕ → List ℕ → List ℕ
old_key spec i value = part (place_of spec (Alternate i)) (take spec.record_length value) ++ big_bytes 8 (big_number 8 (drop (spec.record_length + 8 * i) value))

-- whether a new record has another value of the key
abbrev pub changes_at : Spec → ℕ → List ℕ → List ℕ → Bool
changes_at spec i old bytes = changes (take spec.record_length old) bytes (slice_index_or spec.alternates i no_key)

-- whether the row comes to its value of a key by it
abbrev pub is_new : RowVerb → List ℕ → List ℕ → AlternateKey → Bool
is_new Insert old bytes key = true
is_new Replace old bytes key = changes old bytes key
is_new Remove old bytes key = true

-- the entries of an alternate key's tree after it
abbrev pub entries_after : RowVerb → Spec → ℕ → List ℕ → List ℕ → ℕ → List Entry → List Entry
entries_after Insert spec i old bytes arrival entries = with_new_entry entries (pair_entry spec i bytes arrival)
entries_after Replace spec i old bytes arrival entries =
    if changes_at spec i old bytes then with_new_entry (without_entry entries (old_key spec i old)) (pair_entry spec i bytes arrival) else entries
entries_after Remove spec i old bytes arrival entries = without_entry entries (old_key spec i old)

-- the old pair is there, and the new one isn't
abbrev pub MayMove : RowVerb → Spec → ℕ → List ℕ → List ℕ → ℕ → List Entry → Type 0
MayMove Insert spec i old bytes arrival entries = entry_with entries (pair_entry spec i bytes arrival).key ≡ None
MayMove Replace spec i old bytes arrival entries =
    changes_at spec i old bytes ≡ true → IsSome (entry_with entries (old_key spec i old)) × (entry_with (without_entry entries (old_key spec i old)) (pair_entry spec i bytes arrival).key ≡ None)
MayMove Remove spec i old bytes arrival entries = IsSome (entry_with entries (old_key spec i old))

-- of each alternate key, of the entries of its tree
abbrev pub EachPairs : File → (ℕ → List Entry → Type 0) → Type 0
EachPairs held claim = (i : ℕ) (entries : List Entry) → i < length held.spec.alternates → AreOf held.spec (Alternate i) held.rows entries → Ascend (keys_listed entries) → claim i entries

-- the pairs of a file's rows become those of another's
abbrev pub PairsMove : RowVerb → File → File → List ℕ → List ℕ → ℕ → Type 0
PairsMove verb held after old bytes arrival = EachPairs held (λ i entries. AreOf after.spec (Alternate i) after.rows (entries_after verb after.spec i old bytes arrival entries))

abbrev pub PairsMayMove : RowVerb → File → List ℕ → List ℕ → ℕ → Type 0
PairsMayMove verb held old bytes arrival = EachPairs held (λ i entries. MayMove verb held.spec i old bytes arrival entries)

-- The tree of rows has become that of a file after a change, and the trees of the alternate keys are to follow.
pub record HasChangedRows (verb : RowVerb) (spec : Spec) (held after : NamedFile) (generation : ℕ) (pages : List (Option Sector)) (left right : List TreeLevels) (listing : List ℕ) (root : ℕ) (old bytes : List ℕ) (arrival next : ℕ) : Type 0 where
  pub prime : TreeLevels
  pub trees : List TreeLevels
  pub indexes : HasIndexes held.file pages (left ++ prime ∷ []) right trees listing
  pub layout : prime.tree.layout ≡ layout_under spec Prime
  pub root_is : prime.tree.root ≡ root
  pub form : prime.record_bytes ≡ chained_bytes spec
  pub rows : prime.entries ≡ map (entry_under spec Prime) after.file.rows
  pub spec_is : held.file.spec ≡ spec
  pub spec_then : after.file.spec ≡ spec
  pub pairs : PairsMove verb held.file after.file old bytes arrival
  pub next_is : after.file.next_arrival ≡ next
  pub low : next ≤ generation + 1

module _ {D : Type 0} (d : Devices D) where
  -- where the device is honest and agrees with the map of pages, of each file of this spec of which this is so
  abbrev pub OnMoving : RowVerb → Spec → PageMap → D → List ℕ → ℕ → List ℕ → List ℕ → ℕ → ℕ → (NamedFile → NamedFile → ℕ → List TreeLevels → List TreeLevels → Type 0) → Type 0
  OnMoving verb spec pages now listing root old bytes arrival next claim =
      d.is_honest now → Agrees pages (d.state now).disk → (held after : NamedFile) (generation : ℕ) (left right : List TreeLevels) →
      HasChangedRows verb spec held after generation (pages_on d pages now) left right listing root old bytes arrival next → claim held after generation left right

  -- and of each file that has the trees of its alternate keys there, with each file whose pairs its own may become
  abbrev pub OnPairMoves : RowVerb → Spec → PageMap → D → List ℕ → List ℕ → List ℕ → ℕ → (File → File → List TreeLevels → List TreeLevels → List TreeLevels → Type 0) → Type 0
  OnPairMoves verb spec pages now listing old bytes arrival claim = OnIndexes d spec pages now listing
      (λ held left right trees. (after : File) → after.spec ≡ held.spec → PairsMove verb held after old bytes arrival → claim held after left right trees)
