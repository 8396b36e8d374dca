-- A row of a file gets another record.
use Rattle.std.proofs.Common.{◌≡◌, ◌<◌, ◌≤◌, ◌+◌, ◌++◌, ◌&&◌, ◌||◌, ℕ, Bool, true, false, not, List, [], ◌∷◌, length}
use Rattle.std.proofs.Common.{take, refl, sym, ap, subst, ◌∙◌, arith}
use Rattle.std.specs.Prelude.{map, filter, Contains, Option, Some, None, IsSome, slice_index_or, if◌then◌else◌}
use Rattle.std.specs.List.{flat_map, list_any}
use Rattle.station.specs.Disk.{Sector}
use Rattle.byteorder.specs.Endian.{big_bytes}
use Rattle.btree_pages.specs.Keys.{Ascend}
use Rattle.btree.specs.Rooted.{RootedTree}
use Rattle.btree.specs.Laws.{keys_listed}
use Rattle.btree.proofs.Runs.{in_head, in_tail}
use Rattle.btree.specs.Entries.{Entry, entry_with, with_new_entry, with_value, without_entry}
use Rattle.records.specs.declared.answer.Outcome.{Outcome}
use Rattle.records.specs.declared.answer.Outcome.TheVariants.{Missing, Taken}
use Rattle.records.specs.declared.file_spec.AlternateKey.{AlternateKey}
use Rattle.records.specs.declared.file_spec.Organization.{Organization}
use Rattle.records.specs.declared.file_spec.Organization.TheVariants.{Sequential, Relative, Indexed}
use Rattle.records.specs.declared.key.KeyOfReference.TheVariants.{Prime, Alternate}
use Rattle.records.specs.Spec.{Spec, is_spec}
use Rattle.records.specs.Rows.{Row, Pair, part, place_of, prime_place, prime_pair, named_pair, same_bytes, no_key}
use Rattle.records.specs.Changes as rows
use Rattle.records.specs.Changes.{FileChange, is_at, row_at, in_place, changes, changed_row, arrivals_after}
use Rattle.records.specs.Changes.{replacement, replaced_row, without_change, is_taken, is_duplicate, repeats}
use Rattle.records.specs.Changes.{done_outcome}
use Rattle.records.specs.Files.{File, NamedFile}
use Rattle.records.specs.Stores.{is_change}
use Rattle.records.specs.Laws.{RowsAscend}
use Rattle.records.proofs.Changed.{pair_same}
use Rattle.volume_format.specs.Trees.{entry_under, key_under, layout_under, AreOf}
use Rattle.file_bytes.specs.Rows.{row_value}
use Rattle.volume_format.specs.Pairs.{IsPair}
use Rattle.volume_format.specs.Forest.{TreeLevels}
use Rattle.volume_format.specs.Chained.{chained_bytes}
use Rattle.row_trees.specs.RowTree.{ChainedTree, IsRowTreeAmong}
use Rattle.alternate_keys.specs.declared.row_verb.RowVerb.TheVariants.{Replace}
use Rattle.alternate_keys.specs.Moved.{HasChangedRows, PairsMove, PairsMayMove, old_key, pair_entry}
use Rattle.alternate_keys.specs.Moved.{changes_at, is_new}
use Rattle.alternate_keys.specs.NewRow.{row_with}
use Rattle.alternate_keys.specs.Placed.{HasTrees}
use Rattle.alternate_keys.proofs.Arrivals.{arrival_at}
use Rattle.alternate_keys.proofs.FileTrees.{kept_in, arrival_low, arrival_few, rows_under, rows_ascend}
use Rattle.alternate_keys.proofs.FileTrees.{indexes_then}
use Rattle.alternate_keys.proofs.FoundRow.{FoundRow}
use Rattle.alternate_keys.proofs.Fresh.{not_there, arrivals_before}
use Rattle.alternate_keys.proofs.InsertRow.{change_to, told_of, none_by, told_by, told_free, told_taken}
use Rattle.alternate_keys.proofs.PairEdits.{pair_there, pair_leaves, pair_comes_in_place, pair_stays}
use Rattle.alternate_keys.proofs.RemoveRow.{Known, known, key_is, some_by}
use Rattle.alternate_keys.proofs.RowEdits.{row_there, row_changes, left_of, one_at}
use Rattle.alternate_keys.proofs.RowValues.{record_read, arrivals_at, same_part}

-- the prime pair of a record is that of the row that it names
renamed : (o : Organization) (number other : ℕ) (bytes old : List ℕ)
    → named_pair o other old ≡ named_pair o number bytes → named_pair o other bytes ≡ named_pair o number bytes
renamed Sequential number other bytes old is = is
renamed Relative number other bytes old is = is
renamed (Indexed place) number other bytes old is = refl

-- a record has the same prime key as the row that it names
prime_part : (o : Organization) (number other : ℕ) (bytes old : List ℕ)
    → named_pair o other old ≡ named_pair o number bytes → part (prime_place o) bytes ≡ part (prime_place o) old
prime_part Sequential number other bytes old is = refl
prime_part Relative number other bytes old is = refl
prime_part (Indexed place) number other bytes old is = ap (λ (p : Pair). p.value) (sym is)

-- rows but one, of which the test fails
any_left : (o : Organization) (pair : Pair) (f : Row → Bool) (all : List Row)
    → ((row : Row) → Contains all row → is_at o pair row ≡ true → f row ≡ false)
    → list_any f (rows.without_pair o pair all) ≡ list_any f all
any_left o pair f [] fails = refl
any_left o pair f (row ∷ all) fails =
    by (is_at o pair row) refl (any_left o pair f all (λ r has at. fails r (later r has) at))
  where
    later : (r : Row) → Contains all r → Contains (row ∷ all) r
    later r has = in_tail row all r has

    by : (b : Bool) → is_at o pair row ≡ b → list_any f (rows.without_pair o pair all) ≡ list_any f all → list_any f
        (if not b then row ∷ rows.without_pair o pair all else rows.without_pair o pair all) ≡ (f row || list_any f all)
    by true at rest = rest ∙ sym (ap (λ (b : Bool). b || list_any f all) (fails row (in_head row all) at))
    by false at rest = ap (λ (b : Bool). f row || b) rest

-- the same of those that a filter leaves
any_same : (n f g : AlternateKey → Bool) (keys : List AlternateKey)
    → ((key : AlternateKey) → n key ≡ true → f key ≡ g key) → list_any f (filter n keys) ≡ list_any g (filter n keys)
any_same n f g [] same = refl
any_same n f g (key ∷ keys) same = by (n key) refl (any_same n f g keys same)
  where
    by : (b : Bool) → n key ≡ b → list_any f (filter n keys) ≡ list_any g (filter n keys) → list_any f (if b
        then key ∷ filter n keys else filter n keys) ≡ list_any g (if b then key ∷ filter n keys else filter n keys)
    by true is rest =
        ap (λ (b : Bool). b || list_any f (filter n keys)) (same key is) ∙ ap (λ (b : Bool). g key || b) rest
    by false is rest = rest

not_true : (b : Bool) → not b ≡ true → b ≡ false
not_true true is = absurd cc
not_true false is = refl

module _ (o : Organization) (pair : Pair) (all : List Row) (old : Row) (up : RowsAscend o all)
    (there : row_at o pair all ≡ Some old) (bytes : List ℕ) where
  repeats_same : (key : AlternateKey) → changes old.bytes bytes key ≡ true
      → repeats (rows.without_pair o pair all) bytes key ≡ repeats all bytes key
  repeats_same key is =
      any_left o pair (λ (row : Row). same_bytes (part key.place row.bytes) (part key.place bytes)) all
      (λ row has at.
      ap (λ (r : Row). same_bytes (part key.place r.bytes) (part key.place bytes))
      (one_at o pair old row all up there has at)
      ∙ not_true (same_bytes (part key.place old.bytes) (part key.place bytes)) is)

  pub taken_same : (keys : List AlternateKey) → is_taken (filter (changes old.bytes bytes) keys)
      (rows.without_pair o pair all) bytes ≡ is_taken (filter (changes old.bytes bytes) keys) all bytes
  taken_same keys =
      any_same (changes old.bytes bytes)
      (λ (key : AlternateKey). not key.duplicates && repeats (rows.without_pair o pair all) bytes key)
      (λ (key : AlternateKey). not key.duplicates && repeats all bytes key) keys
      (λ key is. ap (λ (b : Bool). not key.duplicates && b) (repeats_same key is))

  pub duplicate_same : (keys : List AlternateKey) → is_duplicate (filter (changes old.bytes bytes) keys)
      (rows.without_pair o pair all) bytes ≡ is_duplicate (filter (changes old.bytes bytes) keys) all bytes
  duplicate_same keys =
      any_same (changes old.bytes bytes) (λ (key : AlternateKey). key.duplicates && repeats
      (rows.without_pair o pair all) bytes key) (λ (key : AlternateKey). key.duplicates && repeats all bytes key) keys
      (λ key is. ap (λ (b : Bool). key.duplicates && b) (repeats_same key is))

-- the file after it
abbrev pub next_of : List ℕ → List ℕ → File → ℕ
next_of old bytes file =
    if list_any (λ key. changes old bytes key) file.spec.alternates then file.next_arrival + 1 else file.next_arrival

abbrev pub file_changed : Pair → List ℕ → Row → File → File
file_changed pair bytes old file = record {
  spec = file.spec;
  rows = in_place file.spec.organization pair (changed_row file bytes old) file.rows;
  next_arrival = next_of old.bytes bytes file;
}

abbrev pub named_changed : Pair → List ℕ → Row → NamedFile → NamedFile
named_changed pair bytes old named = record { name = named.name; file = file_changed pair bytes old named.file }

module _ (number : ℕ) (bytes : List ℕ) (file : File) where
  abbrev pair_here : Pair
  pair_here = named_pair file.spec.organization number bytes

  replaced_missing : row_at file.spec.organization pair_here file.rows ≡ None
      → replacement number bytes file ≡ without_change Missing file
  replaced_missing is = ap (replaced_row pair_here bytes file) is

  pub named_missing : {spec : Spec} {pair : Pair} → file.spec ≡ spec → pair ≡ named_pair spec.organization number bytes
      → row_at file.spec.organization pair file.rows ≡ None
      → replacement number bytes file ≡ without_change Missing file
  named_missing spec_is same none =
      replaced_missing (ap (λ (p : Pair). row_at file.spec.organization p file.rows)
      (ap (λ (s : Spec). named_pair s.organization number bytes) spec_is ∙ sym same) ∙ none)

  abbrev keys_of : Row → List AlternateKey
  keys_of old = filter (changes old.bytes bytes) file.spec.alternates

  abbrev others : List Row
  others = rows.without_pair file.spec.organization pair_here file.rows

  abbrev answer : Row → Bool → FileChange
  answer old taken = if taken then without_change Taken file else record {
    outcome = done_outcome (is_duplicate (keys_of old) others bytes);
    file = file_changed pair_here bytes old file;
  }

  pub replaced_taken : (old : Row) → row_at file.spec.organization pair_here file.rows ≡ Some old
      → is_taken (keys_of old) others bytes ≡ true → replacement number bytes file ≡ without_change Taken file
  replaced_taken old is taken = ap (replaced_row pair_here bytes file) is ∙ ap (answer old) taken

  pub replaced_done : (old : Row) → row_at file.spec.organization pair_here file.rows ≡ Some old
      → is_taken (keys_of old) others bytes ≡ false →
      replacement number bytes file ≡ record {
        outcome = done_outcome (is_duplicate (keys_of old) others bytes);
        file = file_changed pair_here bytes old file;
      }
  replaced_done old is taken = ap (replaced_row pair_here bytes file) is ∙ ap (answer old) taken

-- the file after the record replaced that of a row
abbrev pub Replaces : ℕ → List ℕ → File → Row → Outcome → Type 0
Replaces number bytes file old outcome = replacement number bytes file
    ≡ change_to outcome (file_changed (named_pair file.spec.organization number bytes) bytes old file)

abbrev pub entry_as : List ℕ → List ℕ → Entry
entry_as key value = record { key = key; value = value }

next_low : (b : Bool) (n m : ℕ) → n ≤ m → (if b then n + 1 else n) ≤ m + 1
next_low true n m low = omega (arith, low)
next_low false n m low = omega (arith, low)

module _ (spec : Spec) (named : NamedFile) (generation : ℕ) (pages : List (Option Sector))
    (left right : List TreeLevels) (listing : List ℕ) (has : HasTrees spec named generation pages left right listing)
    (is : is_spec spec ≡ true) (number : ℕ) (bytes : List ℕ) (old : Row) (there : row_at named.file.spec.organization
    (named_pair named.file.spec.organization number bytes) named.file.rows ≡ Some old) where
  abbrev file : File
  file = named.file

  abbrev pair : Pair
  pair = named_pair file.spec.organization number bytes

  abbrev new : Row
  new = changed_row file bytes old

  known_at : (i : ℕ) → i < length file.spec.alternates
      → Known spec named generation pages left right listing has is pair old there i
  known_at i within = known spec named generation pages left right listing has is pair old there i within

  pair_is : prime_pair file.spec.organization old ≡ pair
  pair_is = pair_same (prime_pair file.spec.organization old) pair
      (row_there file.spec.organization pair old file.rows there).1

  pub new_pair : prime_pair file.spec.organization new ≡ pair
  new_pair = renamed file.spec.organization number old.number bytes old.bytes pair_is

  value_same : part (prime_place file.spec.organization) bytes ≡ part (prime_place file.spec.organization) old.bytes
  value_same = prime_part file.spec.organization number old.number bytes old.bytes pair_is

  changes_is : (i : ℕ) → i < length file.spec.alternates → changes_at file.spec i (row_value old) bytes ≡ changes
      old.bytes bytes (slice_index_or file.spec.alternates i no_key)
  changes_is i within =
      let own = (known_at i within).row_is in
      ap (λ (l : List ℕ). changes l bytes (slice_index_or file.spec.alternates i no_key)) (record_read
      file.spec.record_length old.bytes old.arrivals (own.long ∙ sym (ap (λ (s : Spec). s.record_length) has.spec_is)))

  arrival_then : (i : ℕ) → i < length file.spec.alternates → slice_index_or new.arrivals i 0 ≡ (if changes old.bytes
      bytes (slice_index_or file.spec.alternates i no_key) then file.next_arrival else slice_index_or old.arrivals i 0)
  arrival_then i within =
      let own = (known_at i within).row_is in
      arrivals_at old.bytes bytes file.next_arrival file.spec.alternates old.arrivals i within
      (own.count ∙ sym (ap (λ (s : Spec). length s.alternates) has.spec_is))

  -- the entry of the changed row
  abbrev made : ℕ → List ℕ → List ℕ → Entry
  made a value prime = record { key = value ++ big_bytes 8 a; value = prime }

  entry_new : (i : ℕ)
      → i < length file.spec.alternates → changes old.bytes bytes (slice_index_or file.spec.alternates i no_key) ≡ true
      → entry_under file.spec (Alternate i) new ≡ pair_entry file.spec i bytes file.next_arrival
  entry_new i within change =
      ap (λ (a : ℕ).
      made a (part (place_of file.spec (Alternate i)) bytes) (part (prime_place file.spec.organization) bytes))
      (arrival_then i within
      ∙ ap (λ (b : Bool). if b then file.next_arrival else slice_index_or old.arrivals i 0) change)

  entry_old : (i : ℕ)
      → i < length file.spec.alternates → changes old.bytes bytes (slice_index_or file.spec.alternates i no_key) ≡ false
      → entry_under file.spec (Alternate i) new ≡ entry_under file.spec (Alternate i) old
  entry_old i within stay =
      ap (λ (a : ℕ).
      made a (part (place_of file.spec (Alternate i)) bytes) (part (prime_place file.spec.organization) bytes))
      (arrival_then i within ∙ ap (λ (b : Bool). if b then file.next_arrival else slice_index_or old.arrivals i 0) stay)
      ∙ ap (λ (v : List ℕ). made (slice_index_or old.arrivals i 0) v (part (prime_place file.spec.organization) bytes))
      (same_part old.bytes bytes (slice_index_or file.spec.alternates i no_key) stay)
      ∙ ap (made (slice_index_or old.arrivals i 0) (part (place_of file.spec (Alternate i)) old.bytes)) value_same

  abbrev old_keyed : ℕ → List ℕ
  old_keyed i = old_key file.spec i (row_value old)

  abbrev then_by : Bool → ℕ → List Entry → ℕ → List Entry
  then_by b i entries arrival =
      if b then with_new_entry (without_entry entries (old_keyed i)) (pair_entry file.spec i bytes arrival) else entries

  key_of_old : (i : ℕ) → i < length file.spec.alternates → old_keyed i ≡ (entry_under file.spec (Alternate i) old).key
  key_of_old i within = key_is spec named generation pages left right listing has is pair old there i within

  left_are : (i : ℕ) (entries : List Entry) → i < length file.spec.alternates → Ascend (keys_listed entries)
      → AreOf file.spec (Alternate i) file.rows entries →
      AreOf file.spec (Alternate i) (rows.without_pair file.spec.organization pair file.rows)
      (without_entry entries (old_keyed i))
  left_are i entries within up are =
      let k = known_at i within in
      subst (λ (key : List ℕ). AreOf file.spec (Alternate i) (rows.without_pair file.spec.organization pair file.rows)
      (without_entry entries key)) (sym (key_of_old i within))
      (pair_leaves file.spec i k.place k.indexed_is pair file.rows old k.up there entries up are)

  move_by : (b : Bool) (i : ℕ) (entries : List Entry)
      → i < length file.spec.alternates → Ascend (keys_listed entries) → AreOf file.spec (Alternate i) file.rows entries
      → changes old.bytes bytes (slice_index_or file.spec.alternates i no_key) ≡ b →
      AreOf file.spec (Alternate i) (in_place file.spec.organization pair new file.rows)
      (then_by b i entries file.next_arrival)
  move_by true i entries within up are change =
      let k = known_at i within in
      subst (λ (e : Entry). AreOf file.spec (Alternate i) (in_place file.spec.organization pair new file.rows)
      (with_new_entry (without_entry entries (old_keyed i)) e)) (entry_new i within change)
      (pair_comes_in_place file.spec i k.place k.indexed_is pair file.rows old k.up there new
      (without_entry entries (old_keyed i)) (left_are i entries within up are))
  move_by false i entries within up are stay =
      let k = known_at i within in
      pair_stays file.spec i k.place k.indexed_is pair file.rows old k.up there new entries are
      (entry_old i within stay)

  pairs_move : (arrival : ℕ) → arrival ≡ file.next_arrival
      → PairsMove Replace file (named_changed pair bytes old named).file (row_value old) bytes arrival
  pairs_move arrival same i entries within are up =
      let own =
      move_by (changes old.bytes bytes (slice_index_or file.spec.alternates i no_key)) i entries within up are refl in
      subst (λ (es : List Entry). AreOf file.spec (Alternate i) (in_place file.spec.organization pair new file.rows) es)
      (sym (ap (λ (b : Bool). then_by b i entries arrival) (changes_is i within)
      ∙ ap (then_by (changes old.bytes bytes (slice_index_or file.spec.alternates i no_key)) i entries) same)) own

  pub replaced_may : (arrival : ℕ) → arrival ≡ file.next_arrival
      → PairsMayMove Replace file (row_value old) bytes arrival
  replaced_may arrival same i entries within are up = λ change.
      let k = known_at i within in
      let few = arrival_few spec named generation pages left right listing has in (
        some_by (entry_with entries (old_keyed i)) (entry_under file.spec (Alternate i) old)
            (ap (entry_with entries) (key_of_old i within)
            ∙ pair_there file.spec i k.place k.indexed_is pair file.rows old k.up there entries up are),
        none_by (entry_with (without_entry entries (old_keyed i)) (pair_entry file.spec i bytes arrival).key)
            (λ some.
            let key : (entry_under file.spec (Alternate i) (row_with file.spec 0 arrival bytes)).key
            ≡ (pair_entry file.spec i bytes arrival).key =
            ap (λ (a : ℕ). part (place_of file.spec (Alternate i)) bytes ++ big_bytes 8 a)
            (arrival_at file.spec.alternates i arrival within) in
            not_there file.spec i 0 arrival bytes (rows.without_pair file.spec.organization pair file.rows)
            (without_entry entries (old_keyed i)) (left_are i entries within up are) within (omega (arith, few, same))
            (λ r left. let before = arrivals_before file r i has.is_named.file
            (left_of file.spec.organization pair r file.rows left).0 within in omega (arith, before, same))
            (subst (λ (x : List ℕ). IsSome (entry_with (without_entry entries (old_keyed i)) x)) (sym key) some)),
      )

  pub replace_moving : (arrival next : ℕ) → arrival ≡ file.next_arrival → next ≡ next_of old.bytes bytes file
      → IsPair spec Prime pair → (later : List (Option Sector)) (prime : ChainedTree)
      → prime.tree.layout ≡ layout_under spec Prime → prime.record_bytes ≡ chained_bytes spec →
      IsRowTreeAmong later left ((kept_in spec named generation pages left right listing has).alternates ++ right) prime
      (with_value (map (entry_under spec Prime) file.rows) (entry_under spec Prime new)) →
      HasChangedRows Replace spec named (named_changed pair bytes old named) generation later left right listing
      prime.tree.root (row_value old) bytes arrival next
  replace_moving arrival next same next_same pair_good later prime layout form stands = record {
    prime = stands.planted;
    trees = (kept_in spec named generation pages left right listing has).alternates;
    indexes = indexes_then spec named generation pages left right listing has later prime
        (with_value (map (entry_under spec Prime) file.rows) (entry_under spec Prime new)) stands;
    layout = ap (λ (t : RootedTree). t.layout) stands.tree_is ∙ layout;
    root_is = ap (λ (t : RootedTree). t.root) stands.tree_is;
    form = stands.form_is ∙ form;
    rows = stands.listed ∙ row_changes spec pair pair_good new file.rows
        (ap (λ (s : Spec). prime_pair s.organization new) (sym has.spec_is) ∙ new_pair)
        (rows_under spec named generation pages left right listing has)
        (rows_ascend spec named generation pages left right listing has)
        ∙ ap (λ (s : Spec). map (entry_under spec Prime) (in_place s.organization pair new file.rows))
        (sym has.spec_is);
    spec_is = has.spec_is;
    spec_then = has.spec_is;
    pairs = pairs_move arrival same;
    next_is = sym next_same;
    low = let below = next_low (list_any (λ key. changes old.bytes bytes key) file.spec.alternates) file.next_arrival
        generation (arrival_low spec named generation pages left right listing has) in omega (arith, below, next_same);
  }

-- the row that was found, and the values of the record that replaces its own
module _ (spec : Spec) (named : NamedFile) (generation : ℕ) (pages : List (Option Sector))
    (left right : List TreeLevels) (listing : List ℕ) (has : HasTrees spec named generation pages left right listing)
    (number : ℕ) (bytes : List ℕ) (entry : Entry)
    (found : FoundRow spec named (named_pair spec.organization number bytes) entry) (value : List ℕ)
    (value_is : value ≡ entry.value) where
  abbrev of_file : File
  of_file = named.file

  abbrev pair_of_file : Pair
  pair_of_file = named_pair of_file.spec.organization number bytes

  abbrev old : Row
  old = found.old

  pub found_here : row_at of_file.spec.organization pair_of_file of_file.rows ≡ Some old
  found_here = ap (λ (s : Spec). row_at of_file.spec.organization (named_pair s.organization number bytes) of_file.rows)
      has.spec_is ∙ found.there

  pub value_here : value ≡ row_value old
  value_here = value_is ∙ ap (λ (e : Entry). e.value) found.is

  record_here : take spec.record_length value ≡ old.bytes
  record_here = ap (take spec.record_length) value_here
      ∙ record_read spec.record_length old.bytes old.arrivals found.row_is.long

  -- the next arrival, by the row's value in the tree of rows
  pub next_told : (arrival next : ℕ) → arrival ≡ of_file.next_arrival → next
      ≡ (if list_any (changes (take spec.record_length value) bytes) spec.alternates then arrival + 1 else arrival)
      → next ≡ next_of old.bytes bytes of_file
  next_told arrival next same is =
      is ∙ ap (λ (l : List ℕ). if list_any (changes l bytes) spec.alternates then arrival + 1 else arrival) record_here
      ∙ ap (λ (s : Spec). if list_any (changes old.bytes bytes) s.alternates then arrival + 1 else arrival)
      (sym has.spec_is)
      ∙ ap (λ (a : ℕ). if list_any (changes old.bytes bytes) of_file.spec.alternates then a + 1 else a) same

  -- its entry
  pub entry_changed : (arrival : ℕ) → arrival ≡ of_file.next_arrival → (key changed : List ℕ) → key ≡ entry.key
      → changed ≡ bytes ++ flat_map (big_bytes 8) (arrivals_after old.bytes bytes arrival spec.alternates old.arrivals)
      → entry_as key changed ≡ entry_under spec Prime (changed_row of_file bytes old)
  entry_changed arrival same key changed key_same changed_is =
      let there = row_there of_file.spec.organization pair_of_file old of_file.rows found_here in
      let pairs : prime_pair of_file.spec.organization (changed_row of_file bytes old) ≡ pair_of_file =
      renamed of_file.spec.organization number old.number bytes old.bytes
      (pair_same (prime_pair of_file.spec.organization old) pair_of_file there.1) in
      let here : prime_pair spec.organization (changed_row of_file bytes old)
      ≡ named_pair spec.organization number bytes =
      subst (λ (s : Spec). prime_pair s.organization (changed_row of_file bytes old)
      ≡ named_pair s.organization number bytes) has.spec_is pairs in
      ap (λ (k : List ℕ). entry_as k changed) (key_same ∙ found.key ∙ ap (key_under spec Prime) (sym here))
      ∙ ap (entry_as (key_under spec Prime (prime_pair spec.organization (changed_row of_file bytes old))))
      (changed_is ∙ ap (λ (s : Spec). bytes ++ flat_map (big_bytes 8)
      (arrivals_after old.bytes bytes arrival s.alternates old.arrivals)) (sym has.spec_is)
      ∙ ap (λ (a : ℕ).
      bytes ++ flat_map (big_bytes 8) (arrivals_after old.bytes bytes a of_file.spec.alternates old.arrivals)) same)

  -- what the new values come to
  module _ (outcome : Outcome)
      (told : outcome ≡ told_of Replace spec (take spec.record_length value) bytes of_file.rows) where
    abbrev keys_now : List AlternateKey
    keys_now = filter (changes old.bytes bytes) of_file.spec.alternates

    abbrev rows_left : List Row
    rows_left = rows.without_pair of_file.spec.organization pair_of_file of_file.rows

    abbrev taken_now : Bool
    taken_now = is_taken keys_now rows_left bytes

    abbrev duplicate_now : Bool
    duplicate_now = is_duplicate keys_now rows_left bytes

    abbrev answer_by : Bool → Bool → Outcome
    answer_by taken duplicate = if taken then Taken else done_outcome duplicate

    keys_are : filter (is_new Replace (take spec.record_length value) bytes) spec.alternates ≡ keys_now
    keys_are =
        ap (λ (l : List ℕ). filter (changes l bytes) spec.alternates) record_here
        ∙ ap (λ (s : Spec). filter (changes old.bytes bytes) s.alternates) (sym has.spec_is)

    told_now : outcome ≡ answer_by taken_now duplicate_now
    told_now =
        told ∙ ap (λ (ks : List AlternateKey).
        answer_by (is_taken ks of_file.rows bytes) (is_duplicate ks of_file.rows bytes)) keys_are
        ∙ sym (ap (λ (b : Bool). answer_by b duplicate_now) (taken_same of_file.spec.organization
        pair_of_file of_file.rows old has.is_named.file.ascend found_here bytes of_file.spec.alternates)
        ∙ ap (answer_by (is_taken keys_now of_file.rows bytes)) (duplicate_same of_file.spec.organization pair_of_file
        of_file.rows old has.is_named.file.ascend found_here bytes of_file.spec.alternates))

    -- the record is barred, or the file changes
    pub look_bars : is_change outcome ≡ false → outcome ≡ (replacement number bytes of_file).outcome
    look_bars none =
        let taken = told_by taken_now duplicate_now outcome false told_now none in
        told_taken taken_now duplicate_now outcome told_now taken
        ∙ sym (ap (λ (ch : FileChange). ch.outcome) (replaced_taken number bytes of_file old found_here taken))

    pub look_replaces : is_change outcome ≡ true → Replaces number bytes of_file old outcome
    look_replaces change =
        let free = told_by taken_now duplicate_now outcome true told_now change in
        replaced_done number bytes of_file old found_here free
        ∙ ap (λ (o : Outcome). change_to o (file_changed pair_of_file bytes old of_file))
        (sym (told_free taken_now duplicate_now outcome told_now free))
