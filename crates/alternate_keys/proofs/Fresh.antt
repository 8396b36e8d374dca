-- A new row of a file, and whether its keys are there.
use Rattle.std.proofs.Common.{◌≡◌, ◌<◌, ◌≤◌, ◌+◌, ◌^◌, ◌++◌, ◌||◌, Bool, true, false, ℕ, List, [], ◌∷◌, length, refl}
use Rattle.std.proofs.Common.{ap, ◌∙◌, arith}
use Rattle.std.specs.Prelude.{map, slice_index_or, Contains, Option, Some, None, IsSome, is_some, if◌then◌else◌}
use Rattle.std.specs.List.{All, list_any}
use Rattle.std.specs.Ordering.{is_eq}
use Rattle.std.specs.declared.cmp.Ordering.{Ordering}
use Rattle.std.specs.declared.cmp.Ordering.TheVariants.{Less, Equal, Greater}
use Rattle.std.proofs.lemmas.List.{length-append}
use Rattle.std.proofs.lemmas.List.Elements.{All-head, All-tail, All-from_recursion, All-contains}
use Rattle.byteorder.specs.Endian.{big_bytes}
use Rattle.btree_pages.specs.Keys.{key_cmp}
use Rattle.btree_pages.proofs.Order.{same_key}
use Rattle.btree.specs.Entries.{Entry, entry_with}
use Rattle.btree.proofs.Runs.{same_cut, in_head, in_tail}
use Rattle.records.specs.declared.file_spec.Organization.{Organization}
use Rattle.records.specs.declared.file_spec.Organization.TheVariants.{Sequential, Relative, Indexed}
use Rattle.records.specs.declared.key.KeyOfReference.TheVariants.{Prime, Alternate}
use Rattle.records.specs.Spec.{Spec, is_spec}
use Rattle.records.specs.Rows.{Row, pair_under, prime_pair, prime_place, named_pair}
use Rattle.records.specs.Changes.{is_at, new_number}
use Rattle.records.specs.Stores.{IsNewNumber}
use Rattle.records.specs.Files.{File, IsByte, IsRow, IsFile, IsArrival}
use Rattle.volume_format.specs.Trees.{entry_under, AreOf}
use Rattle.volume_format.specs.Pairs.{IsPrimePair, IsUnder}
use Rattle.volume_format.proofs.Keeping.{prime_bytes}
use Rattle.file_bytes.proofs.Several.{same_number}
use Rattle.volume_format.proofs.Order.{keys_in_order}
use Rattle.records.proofs.Places.{place_within}
use Rattle.alternate_keys.specs.NewRow.{row_with}
use Rattle.alternate_keys.proofs.Arrivals.{arrival_at}
use Rattle.alternate_keys.proofs.NewRows.{part_long, bytes_long}

-- its pair can be a key of the tree of rows
pair_is : (o : Organization) (n number arrival : ℕ) (bytes : List ℕ)
    → (prime_place o).offset + (prime_place o).length ≤ n → length bytes ≡ n → arrival < 2 ^ 64 → IsNewNumber o number →
    IsPrimePair o (named_pair o (new_number o number arrival) bytes)
pair_is Sequential n number arrival bytes fits long low is = (refl, omega (arith, low))
pair_is Relative n number arrival bytes fits long low is = (refl, let high = is.1 in omega (arith, high))
pair_is (Indexed place) n number arrival bytes fits long low is = (part_long place n bytes fits long, refl)

pub new_under : (spec : Spec) (number arrival : ℕ) (bytes : List ℕ) → is_spec spec ≡ true
    → length bytes ≡ spec.record_length → All IsByte bytes → arrival < 2 ^ 64 → IsNewNumber spec.organization number →
    IsUnder spec Prime (row_with spec (new_number spec.organization number arrival) arrival bytes)
new_under spec number arrival bytes is long low few numbered = record {
  pair = pair_is spec.organization spec.record_length number arrival bytes (place_within spec Prime is (omega arith))
      long few numbered;
  bytes = prime_bytes spec.organization (row_with spec (new_number spec.organization number arrival) arrival bytes) low;
}

-- its key is in the tree of rows exactly where a row has it
some_by : (b : Bool) (e : Entry) (rest : Option Entry) (others : Bool) → is_some rest ≡ others
    → is_some (if b then Some e else rest) ≡ (b || others)
some_by true e rest others is = refl
some_by false e rest others is = is

pub key_there : (spec : Spec) (rows : List Row) (new : Row) → All (IsUnder spec Prime) rows → IsUnder spec Prime new →
    is_some (entry_with (map (entry_under spec Prime) rows) (entry_under spec Prime new).key)
    ≡ list_any (is_at spec.organization (prime_pair spec.organization new)) rows
key_there spec [] new under own = refl
key_there spec (row ∷ rows) new under own =
    let rest = key_there spec rows new (All-tail (IsUnder spec Prime) row rows under) own in
    let same = keys_in_order spec Prime (pair_under spec Prime row) (pair_under spec Prime new)
    (All-head (IsUnder spec Prime) row rows under).pair own.pair in
    let others : Bool = list_any (is_at spec.organization (prime_pair spec.organization new)) rows in
    some_by (is_eq (key_cmp (entry_under spec Prime row).key (entry_under spec Prime new).key)) (entry_under spec Prime
    row) (entry_with (map (entry_under spec Prime) rows) (entry_under spec Prime new).key) others rest
    ∙ ap (λ (o : Ordering). is_eq o || others) same

pub none_some : (entry : Option Entry) → entry ≡ None → is_some entry ≡ false
none_some entry is = ap (λ (e : Option Entry). is_some e) is

pub some_some : (entry : Option Entry) → IsSome entry → is_some entry ≡ true
some_some entry is = is

-- an entry of a key is in the list
record Has (entries : List Entry) (key : List ℕ) : Type 0 where
  entry : Entry
  has : Contains entries entry
  is : entry.key ≡ key

equal_of : (o : Ordering) → is_eq o ≡ true → o ≡ Equal
equal_of Less is = absurd cc
equal_of Equal is = refl
equal_of Greater is = absurd cc

has_later : (e : Entry) (more : List Entry) (key : List ℕ) → Has more key → Has (e ∷ more) key
has_later e more key has = record { entry = has.entry; has = in_tail e more has.entry has.has; is = has.is }

has_by : (b : Bool) (e : Entry) (more : List Entry) (key : List ℕ) → is_eq (key_cmp e.key key) ≡ b
    → IsSome (if b then Some e else entry_with more key) → (IsSome (entry_with more key) → Has more key)
    → Has (e ∷ more) key
has_by true e more key is some rest =
    record { entry = e; has = in_head e more; is = same_key e.key key (equal_of (key_cmp e.key key) is) }
has_by false e more key is some rest = has_later e more key (rest some)

has_of : (entries : List Entry) (key : List ℕ) → IsSome (entry_with entries key) → Has entries key
has_of [] key some = absurd cc
has_of (e ∷ more) key some = has_by (is_eq (key_cmp e.key key)) e more key refl some (has_of more key)

-- no pair has an arrival that wasn't given
pub not_there : (spec : Spec) (i number arrival : ℕ) (bytes : List ℕ) (rows : List Row) (entries : List Entry)
    → AreOf spec (Alternate i) rows entries → i < length spec.alternates → arrival < 2 ^ 64 →
    ((row : Row) → Contains rows row → slice_index_or row.arrivals i 0 < arrival)
    → IsSome (entry_with entries (entry_under spec (Alternate i) (row_with spec number arrival bytes)).key) → ⊥
not_there spec i number arrival bytes rows entries are within few fresh some =
    let new : Row = row_with spec number arrival bytes in
    let has = has_of entries (entry_under spec (Alternate i) new).key some in
    let of = are.only has.entry has.has in
    let row : Row = of.0 in
    let low = fresh row of.1 in
    let a : ℕ = slice_index_or row.arrivals i 0 in
    let b : ℕ = slice_index_or new.arrivals i 0 in
    let one : List ℕ = (pair_under spec (Alternate i) row).value in
    let two : List ℕ = (pair_under spec (Alternate i) new).value in
    let same : one ++ big_bytes 8 a ≡ two ++ big_bytes 8 b = ap (λ (e : Entry). e.key) of.2 ∙ has.is in
    let all : length (one ++ big_bytes 8 a) ≡ length (two ++ big_bytes 8 b) = ap (λ (l : List ℕ). length l) same in
    let first = length-append one (big_bytes 8 a) in
    let second = length-append two (big_bytes 8 b) in
    let tail = bytes_long 8 a in
    let tail_too = bytes_long 8 b in
    let cut =
    same_cut one (big_bytes 8 a) two (big_bytes 8 b) (omega (arith, all, first, second, tail, tail_too)) same in
    let is : b ≡ arrival = arrival_at spec.alternates i arrival within in
    let equal : a ≡ b = same_number 8 a b (omega (arith, low, few)) (omega (arith, is, few)) cut.1 in
    omega (arith, equal, is, low)

-- the arrivals of a file's rows were given
pub arrivals_before : (file : File) (row : Row) (i : ℕ) → IsFile file → Contains file.rows row
    → i < length file.spec.alternates → slice_index_or row.arrivals i 0 < file.next_arrival
arrivals_before file row i is has within =
    let row_is : IsRow file.spec file.next_arrival row = All-contains (IsRow file.spec file.next_arrival) file.rows row
    (All-from_recursion (IsRow file.spec file.next_arrival) file.rows is.rows) has in
    let count : length row.arrivals ≡ length file.spec.alternates = row_is.arrivals in
    (All-from_recursion (IsArrival file.next_arrival) row.arrivals row_is.given i 0 (omega (arith, count, within))).1
