-- What the entries of rows tell.
use Rattle.std.proofs.Common.{◌≡◌, ◌<◌, ◌+◌, ◌^◌, ⊎_elim, ℕ, zero, suc, Bool, true, false, List, [], ◌∷◌, length, refl}
use Rattle.std.proofs.Common.{sym, ap, subst, ◌∙◌, arith}
use Rattle.std.specs.Prelude.{map, take, drop, nat_lt, Contains, Option, Some, None, if◌then◌else◌}
use Rattle.std.specs.List.{All}
use Rattle.std.specs.Option.{option_map}
use Rattle.std.proofs.lemmas.Bool.{ltb-true}
use Rattle.std.proofs.lemmas.List.{append-nil, length-append, take_at, drop_at}
use Rattle.std.proofs.lemmas.List.Elements.{All-contains}
use Rattle.byteorder.specs.Endian.{big_bytes, big_number}
use Rattle.byteorder.specs.Numbers.{big_number-reads_back}
use Rattle.station.specs.Disk.{Sector}
use Rattle.btree.specs.Laws.{keys_listed}
use Rattle.btree.specs.Rooted.{RootedTree}
use Rattle.btree_pages.specs.Keys.{Ascend}
use Rattle.btree.specs.Entries.{Entry, entries_of, entry_with}
use Rattle.records.specs.declared.file_spec.KeyPlace.{KeyPlace}
use Rattle.records.specs.declared.file_spec.Organization.{Organization}
use Rattle.records.specs.declared.file_spec.Organization.TheVariants.{Sequential, Relative, Indexed}
use Rattle.records.specs.declared.key.KeyOfReference.{KeyOfReference}
use Rattle.records.specs.declared.key.KeyOfReference.TheVariants.{Prime, Alternate}
use Rattle.records.specs.declared.key.Side.TheVariants as side
use Rattle.records.specs.Spec.{Spec}
use Rattle.records.specs.Rows.{Row, pair_under, part, prime_place, named_pair, same_bytes}
use Rattle.records.specs.Order.{RowBound, sought_row, is_after, is_repeated, has_value}
use Rattle.records.specs.Stores.{key_length}
use Rattle.alternate_keys.specs.declared.search_start.SearchStart.{SearchStart}
use Rattle.alternate_keys.specs.declared.search_start.SearchStart.TheVariants as aim
use Rattle.file_bytes.specs.Rows.{prime_key, prime_key_length}
use Rattle.volume_format.specs.Trees.{entry_under}
use Rattle.volume_format.specs.Pairs.{IsUnder, IsPrimePair}
use Rattle.alternate_keys.specs.Aims.{aim_of, aim_short, fill, aim_at, extended_bytes, pair_aim_key, found_entry}
use Rattle.alternate_keys.specs.Seen.{HasPairs, IsPairEntry, IsSought, number_in, begins_with_value}
use Rattle.alternate_keys.specs.Seen.{seen_as, seen_under}
use Rattle.btree.proofs.Runs.{in_head, in_tail, in_none}
use Rattle.btree.proofs.There.{tree_ascends, entry_there}
use Rattle.volume_format.proofs.Comes.{in_cons}
use Rattle.volume_format.proofs.Whole.{same_keys}
use Rattle.row_trees.specs.RowTree.{ChainedTree}
use Rattle.alternate_keys.proofs.Seeing.{found_seen, keys_seen}
use Rattle.alternate_keys.proofs.Least.{IsLeast, is_least}
use Rattle.alternate_keys.proofs.Sought.{finds_sought}

reads_back : (n x : ℕ) → x < 256 ^ n → big_number n (big_bytes n x) ≡ x
reads_back n x low = ap (big_number n) (sym (append-nil (big_bytes n x))) ∙ big_number-reads_back n x [] low

by_organization : (organization : Organization) (row : Row)
    → IsPrimePair organization (named_pair organization row.number row.bytes) →
    number_in organization (prime_key organization (named_pair organization row.number row.bytes))
    ≡ (named_pair organization row.number row.bytes).number
by_organization Sequential row is = reads_back 8 row.number is.1
by_organization Relative row is = reads_back 4 row.number is.1
by_organization (Indexed place) row is = refl

pub prime_number : (spec : Spec) (row : Row) → IsUnder spec Prime row
    → number_in spec.organization (entry_under spec Prime row).key ≡ (pair_under spec Prime row).number
prime_number spec row is = by_organization spec.organization row is.pair

bytes_long : (n x : ℕ) → length (big_bytes n x) ≡ n
bytes_long zero x = refl
bytes_long (suc n) x = let rest = bytes_long n x in omega arith

long_by : (organization : Organization) (row : Row)
    → IsPrimePair organization (named_pair organization row.number row.bytes)
    → length (prime_key organization (named_pair organization row.number row.bytes)) ≡ prime_key_length organization
long_by Sequential row is = bytes_long 8 row.number
long_by Relative row is = bytes_long 4 row.number
long_by (Indexed place) row is = is.0

pub prime_long : (spec : Spec) (row : Row) → IsUnder spec Prime row
    → length (entry_under spec Prime row).key ≡ prime_key_length spec.organization
prime_long spec row is = long_by spec.organization row is.pair

pub alternate_number : (spec : Spec) (i n : ℕ) (row : Row)
    → IsUnder spec (Alternate i) row → n ≡ key_length spec (Alternate i)
    → big_number 8 (drop n (entry_under spec (Alternate i) row).key) ≡ (pair_under spec (Alternate i) row).number
alternate_number spec i n row is long =
    ap (big_number 8) (drop_at (pair_under spec (Alternate i) row).value
    (big_bytes 8 (pair_under spec (Alternate i) row).number) n (is.pair.0 ∙ sym long))
    ∙ reads_back 8 (pair_under spec (Alternate i) row).number is.pair.1

pub alternate_long : (spec : Spec) (i n : ℕ) (row : Row) → IsUnder spec (Alternate i) row
    → n ≡ key_length spec (Alternate i) → length (entry_under spec (Alternate i) row).key ≡ n + 8
alternate_long spec i n row is long =
    length-append (pair_under spec (Alternate i) row).value (big_bytes 8 (pair_under spec (Alternate i) row).number)
    ∙ ap (λ m. m + 8) (is.pair.0 ∙ sym long)

pub in_map : {X Y : Type 0} (f : X → Y) (xs : List X) (x : X) → Contains xs x → Contains (map f xs) (f x)
in_map f [] x has = absurd (in_none x has)
in_map f (a ∷ xs) x has =
    ⊎_elim (λ same. subst (λ y. Contains (f a ∷ map f xs) (f y)) (sym same) (in_head (f a) (map f xs)))
    (λ later. in_tail (f a) (map f xs) (f x) (in_map f xs x later)) (in_cons a xs x has)

by_place : (spec : Spec) (place : KeyPlace) (row : Row) → spec.organization ≡ Indexed place →
    part (prime_place spec.organization) row.bytes ≡ (entry_under spec Prime row).key
by_place spec place row is =
    ap (λ (o : Organization). part (prime_place o) row.bytes) is
    ∙ sym (ap (λ (o : Organization). prime_key o (named_pair o row.number row.bytes)) is)

-- the row of a pair is found under the prime key
pub row_there : (spec : Spec) (i n : ℕ) (pages : List (Option Sector)) (rows : List Row) (prime : ChainedTree)
    (under : RootedTree) (entry : Entry) (row : Row) → (told : IsPairEntry spec i pages rows prime under n entry row) →
    entry_with told.there.planted.entries entry.value ≡ Some (entry_under spec Prime row)
row_there spec i n pages rows prime under entry row told =
    let value : entry.value ≡ (entry_under spec Prime row).key =
    ap (λ (e : Entry). e.value) told.is ∙ by_place spec told.place row told.indexed in
    let planted = told.there.planted in
    let grows = told.there.stands.grows in
    let has : Contains planted.entries (entry_under spec Prime row) =
    subst (λ (es : List Entry). Contains es (entry_under spec Prime row)) (sym told.there.entries)
    (in_map (entry_under spec Prime) rows row told.has) in
    let up : Ascend (keys_listed planted.entries) = subst Ascend (sym (same_keys pages planted grows))
    (tree_ascends planted.tree.layout pages planted.tree.root planted.levels grows.stands) in
    ap (entry_with planted.entries) value ∙ entry_there planted.entries (entry_under spec Prime row) up has

-- whether the next pair has the same value
abbrev pub IsIn : List Row → Option Row → Type 0
IsIn rows None = Unit {0}
IsIn rows (Some row) = Contains rows row

pub least_in : (spec : Spec) (key : KeyOfReference) (test : Row → Bool) (rows : List Row) (found : Option Row)
    → IsLeast spec key test rows found → IsIn rows found
least_in spec key test rows None least = tt
least_in spec key test rows (Some row) least = least.has

pub same_value : (spec : Spec) (i : ℕ) (v : List ℕ) (rows : List Row) (found : Option Row)
    → length v ≡ key_length spec (Alternate i) → All (IsUnder spec (Alternate i)) rows → IsIn rows found →
    begins_with_value v (option_map (entry_under spec (Alternate i)) found) ≡ has_value spec (Alternate i) v found
same_value spec i v rows None long fits is = refl
same_value spec i v rows (Some row) long fits is =
    let under = All-contains (IsUnder spec (Alternate i)) rows row fits is in
    ap (λ x. same_bytes x v) (take_at (pair_under spec (Alternate i) row).value
    (big_bytes 8 (pair_under spec (Alternate i) row).number) (length v) (under.pair.0 ∙ sym long))

pub not_less : (n m : ℕ) (b : Bool) → nat_lt n m ≡ b → n ≡ m → b ≡ false
not_less n m true is same = let low = ltb-true n m is in absurd (omega arith)
not_less n m false is same = refl

after_pair : (spec : Spec) (i : ℕ) (row : Row) → RowBound
after_pair spec i row = record { side = side.After; pair = pair_under spec (Alternate i) row }

pub next_found : (spec : Spec) (i : ℕ) (pages : List (Option Sector)) (rows : List Row) (under : RootedTree) (row : Row)
    → (pairs : HasPairs spec (Alternate i) pages rows under) → Contains rows row →
    found_entry aim.After (entries_of under.layout pairs.levels) (entry_under spec (Alternate i) row).key
    ≡ option_map (entry_under spec (Alternate i))
    (sought_row spec (Alternate i) (record { side = side.After; pair = pair_under spec (Alternate i) row }) rows)
next_found spec i pages rows under row pairs has =
    let is = All-contains (IsUnder spec (Alternate i)) rows row pairs.fits has in
    let pair = pair_under spec (Alternate i) row in
    let n = key_length spec (Alternate i) in
    let entries = entries_of under.layout pairs.levels in
    let full : nat_lt (length pair.value) n ≡ false =
    not_less (length pair.value) n (nat_lt (length pair.value) n) refl is.pair.0 in
    sym (ap (λ b. found_entry (if b then aim_short side.After else aim_at side.After) entries
    (if b then extended_bytes (n + 8) (fill side.After) pair.value else pair_aim_key (n + 8) side.After pair)) full)
    ∙ finds_sought spec (Alternate i) (record { side = side.After; pair = pair }) rows entries
    (record { value = let same = is.pair.0 in omega arith; number = is.pair.1 })
    (tree_ascends under.layout pages under.root pairs.levels pairs.holds) pairs.are pairs.fits

pub repeated_is :
    (spec : Spec) (i n : ℕ) (pages : List (Option Sector)) (rows : List Row) (under : RootedTree) (row : Row)
    → (pairs : HasPairs spec (Alternate i) pages rows under) → Contains rows row → n ≡ key_length spec (Alternate i) →
    begins_with_value (take n (entry_under spec (Alternate i) row).key)
    (found_entry aim.After (entries_of under.layout pairs.levels) (entry_under spec (Alternate i) row).key)
    ≡ is_repeated spec (Alternate i) row rows
repeated_is spec i n pages rows under row pairs has long =
    let is = All-contains (IsUnder spec (Alternate i)) rows row pairs.fits has in
    let pair = pair_under spec (Alternate i) row in
    let entries = entries_of under.layout pairs.levels in
    let place : RowBound = record { side = side.After; pair = pair } in
    let next = sought_row spec (Alternate i) place rows in
    ap (λ v. begins_with_value v (found_entry aim.After entries (entry_under spec (Alternate i) row).key))
    (take_at pair.value (big_bytes 8 pair.number) n (is.pair.0 ∙ sym long))
    ∙ ap (begins_with_value pair.value) (next_found spec i pages rows under row pairs has)
    ∙ same_value spec i pair.value rows next is.pair.0 pairs.fits
    (least_in spec (Alternate i) (λ r. is_after place.side place.pair (pair_under spec (Alternate i) r)) rows next
    (is_least spec (Alternate i) (λ r. is_after place.side place.pair (pair_under spec (Alternate i) r)) rows))

-- the row that an entry was found for
pub record IsFor (spec : Spec) (key : KeyOfReference) (bound : RowBound) (pages : List (Option Sector))
    (rows : List Row) (entry : Entry) : Type 0 where
  pub row : Row
  pub is : sought_row spec key bound rows ≡ Some row
  pub has : Contains rows row
  pub entry_is : seen_as spec key pages entry ≡ entry_under spec key row

for_by : (spec : Spec) (key : KeyOfReference) (bound : RowBound) (pages : List (Option Sector)) (rows : List Row)
    (entry : Entry) (row : Option Row) → sought_row spec key bound rows ≡ row → IsIn rows row
    → Some (seen_as spec key pages entry) ≡ option_map (entry_under spec key) row
    → IsFor spec key bound pages rows entry
for_by spec key bound pages rows entry None is has same =
    let clash : Some (seen_as spec key pages entry) ≡ None = same in cc
for_by spec key bound pages rows entry (Some row) is has same =
    record { row = row; is = is; has = has; entry_is = cc }

-- what is found of the entries as they are seen
looked_is : (spec : Spec) (key : KeyOfReference) (bound : RowBound) (pages : List (Option Sector)) (rows : List Row)
    (prime : ChainedTree) (under : RootedTree) (way : SearchStart) (at : List ℕ) →
    (look : IsSought spec key bound pages rows prime under way at)
    → option_map (seen_as spec key pages) (found_entry way (entries_of under.layout look.pairs.levels) at)
    ≡ option_map (entry_under spec key) (sought_row spec key bound rows)
looked_is spec key bound pages rows prime under way at look =
    let stored = entries_of under.layout look.pairs.levels in
    let seen = seen_under spec key pages stored in
    let up : Ascend (keys_listed seen) = subst Ascend (sym (keys_seen spec key pages stored))
    (tree_ascends under.layout pages under.root look.pairs.levels look.pairs.holds) in
    sym (found_seen spec key pages way stored at) ∙ ap (λ w. found_entry w seen at) look.way_is
    ∙ ap (found_entry (aim_of spec key bound) seen) look.at_is
    ∙ finds_sought spec key bound rows seen look.bounded up look.pairs.are look.pairs.fits

pub found_for : (spec : Spec) (key : KeyOfReference) (bound : RowBound) (pages : List (Option Sector)) (rows : List Row)
    (prime : ChainedTree) (under : RootedTree) (way : SearchStart) (at : List ℕ) (entry : Option Entry) (e : Entry) →
    (look : IsSought spec key bound pages rows prime under way at)
    → entry ≡ found_entry way (entries_of under.layout look.pairs.levels) at → entry ≡ Some e
    → IsFor spec key bound pages rows e
found_for spec key bound pages rows prime under way at entry e look is some =
    let test : Row → Bool = λ row. is_after bound.side bound.pair (pair_under spec key row) in
    for_by spec key bound pages rows e (sought_row spec key bound rows) refl
    (least_in spec key test rows (sought_row spec key bound rows) (is_least spec key test rows))
    (ap (option_map (seen_as spec key pages)) (sym some ∙ is)
    ∙ looked_is spec key bound pages rows prime under way at look)

none_by : (spec : Spec) (key : KeyOfReference) (row : Option Row) → None ≡ option_map (entry_under spec key) row
    → row ≡ None
none_by spec key None same = refl
none_by spec key (Some row) same = cc

pub found_none : (spec : Spec) (key : KeyOfReference) (bound : RowBound) (pages : List (Option Sector))
    (rows : List Row) (prime : ChainedTree) (under : RootedTree) (way : SearchStart) (at : List ℕ)
    (entry : Option Entry) →
    (look : IsSought spec key bound pages rows prime under way at)
    → entry ≡ found_entry way (entries_of under.layout look.pairs.levels) at → entry ≡ None
    → sought_row spec key bound rows ≡ None
found_none spec key bound pages rows prime under way at entry look is none =
    none_by spec key (sought_row spec key bound rows)
    (ap (option_map (seen_as spec key pages)) (sym none ∙ is)
    ∙ looked_is spec key bound pages rows prime under way at look)
