-- The key from which a tree is looked into for the first row after a place.
use Rattle.std.specs.Prelude.{◌≡◌, ◌<◌, ◌≤◌, ◌+◌, ◌-◌, ◌^◌, ◌++◌, ◌==◌, ℕ, Bool, false, not, nat_lt, List, map, length, replicate, Option, None, if◌then◌else◌}
use Rattle.std.specs.Option.{option_map}
use Rattle.std.specs.List.{All}
use Rattle.std.specs.Ordering.{is_lt, is_gt}
use Rattle.byteorder.specs.Endian.{big_bytes}
use Rattle.btree_pages.specs.Keys.{key_cmp, Ascend}
use Rattle.btree.specs.Entries.{Entry, first_from, first_entry_after}
use Rattle.records.specs.declared.file_spec.Organization.{Organization}
use Rattle.records.specs.declared.file_spec.Organization.TheVariants.{Sequential, Relative, Indexed}
use Rattle.records.specs.declared.key.KeyOfReference.{KeyOfReference}
use Rattle.records.specs.declared.key.KeyOfReference.TheVariants.{Prime, Alternate}
use Rattle.records.specs.declared.key.Side.{Side}
use Rattle.records.specs.declared.key.Side.TheVariants as side
use Rattle.records.specs.Spec.{Spec}
use Rattle.records.specs.Rows.{Row, Pair}
use Rattle.records.specs.Order.{RowBound, is_after, sought_row}
use Rattle.records.specs.Stores.{key_length}
use Rattle.alternate_keys.specs.declared.search_start.SearchStart.{SearchStart}
use Rattle.alternate_keys.specs.declared.search_start.SearchStart.TheVariants as aim
use Rattle.volume_format.specs.Trees.{key_under, entry_under, AreOf}
use Rattle.volume_format.specs.Pairs.{IsPair, IsUnder}

-- after a value, zeros; after all that begins with it, the greatest bytes
abbrev pub fill : Side → ℕ
fill side.From = 0
fill side.After = 0
fill side.Beyond = 255

abbrev pub extended_bytes : ℕ → ℕ → List ℕ → List ℕ
extended_bytes count byte bytes = bytes ++ replicate (count - length bytes) byte

abbrev pub aim_at : Side → SearchStart
aim_at side.From = aim.From
aim_at side.After = aim.After
aim_at side.Beyond = aim.After

-- after a part of a value
abbrev pub aim_short : Side → SearchStart
aim_short side.From = aim.From
aim_short side.After = aim.From
aim_short side.Beyond = aim.After

-- numbers have no beginnings
abbrev pub aim_number : Side → SearchStart
aim_number side.From = aim.From
aim_number side.After = aim.After
aim_number side.Beyond = aim.Nothing

-- a value stands once in the order of the prime key, with number 0
abbrev pub aim_value : Side → ℕ → SearchStart
aim_value side.From number = if number == 0 then aim.From else aim.After
aim_value side.After number = aim.After
aim_value side.Beyond number = aim.After

abbrev pub pair_aim_key : ℕ → Side → Pair → List ℕ
pair_aim_key count side.From pair = pair.value ++ big_bytes 8 pair.number
pair_aim_key count side.After pair = pair.value ++ big_bytes 8 pair.number
pair_aim_key count side.Beyond pair = extended_bytes count 255 pair.value

abbrev pub prime_aim : Organization → RowBound → SearchStart
prime_aim Sequential bound = aim_number bound.side
prime_aim Relative bound = if nat_lt bound.pair.number (256 ^ 4) then aim_number bound.side else aim.Nothing
prime_aim (Indexed place) bound = if nat_lt (length bound.pair.value) place.length then aim_short bound.side else aim_value bound.side bound.pair.number

abbrev pub prime_aim_key : Organization → RowBound → List ℕ
prime_aim_key Sequential bound = big_bytes 8 bound.pair.number
prime_aim_key Relative bound = big_bytes 4 bound.pair.number
prime_aim_key (Indexed place) bound = extended_bytes place.length (fill bound.side) bound.pair.value

abbrev pub aim_of : Spec → KeyOfReference → RowBound → SearchStart
aim_of spec Prime bound = prime_aim spec.organization bound
aim_of spec (Alternate i) bound = if nat_lt (length bound.pair.value) (key_length spec (Alternate i)) then aim_short bound.side else aim_at bound.side

abbrev pub aim_key : Spec → KeyOfReference → RowBound → List ℕ
aim_key spec Prime bound = prime_aim_key spec.organization bound
aim_key spec (Alternate i) bound =
    if nat_lt (length bound.pair.value) (key_length spec (Alternate i)) then extended_bytes (key_length spec (Alternate i) + 8) (fill bound.side) bound.pair.value
    else pair_aim_key (key_length spec (Alternate i) + 8) bound.side bound.pair

-- whether an entry's key is looked for, and the first such entry
abbrev pub accepts : SearchStart → List ℕ → List ℕ → Bool
accepts aim.Nothing at key = false
accepts aim.From at key = not (is_lt (key_cmp key at))
accepts aim.After at key = is_gt (key_cmp key at)

abbrev pub found_entry : SearchStart → List Entry → List ℕ → Option Entry
found_entry aim.Nothing entries at = None
found_entry aim.From entries at = first_from entries at
found_entry aim.After entries at = first_entry_after entries at

-- a bound that a caller may give
pub record IsBound (spec : Spec) (key : KeyOfReference) (bound : RowBound) : Type 0 where
  pub value : length bound.pair.value ≤ key_length spec key
  pub number : bound.pair.number < 256 ^ 8

-- the key that is looked for tells the pairs after a place
abbrev pub AimsRight : Type 0
AimsRight = (spec : Spec) (key : KeyOfReference) (bound : RowBound) (pair : Pair) → IsBound spec key bound → IsPair spec key pair →
    All (λ byte. byte < 256) pair.value →
    is_after bound.side bound.pair pair ≡ accepts (aim_of spec key bound) (aim_key spec key bound) (key_under spec key pair)

-- the entry that is found is that of the row that is sought
abbrev pub FindsSought : Type 0
FindsSought = (spec : Spec) (key : KeyOfReference) (bound : RowBound) (rows : List Row) (entries : List Entry) → IsBound spec key bound →
    Ascend (map (λ (entry : Entry). entry.key) entries) → AreOf spec key rows entries → All (IsUnder spec key) rows →
    found_entry (aim_of spec key bound) entries (aim_key spec key bound) ≡ option_map (entry_under spec key) (sought_row spec key bound rows)
