-- A new row comes to the trees of its file.
use Rattle.std.proofs.Common.{◌≡◌, ◌<◌, ◌+◌, ◌^◌, ◌++◌, ◌||◌, ℕ, Bool, true, false, not, List, [], ◌∷◌, length, refl}
use Rattle.std.proofs.Common.{sym, ap, subst, ◌∙◌, arith}
use Rattle.std.specs.Prelude.{map, filter, Option, Some, None, IsSome, is_some, if◌then◌else◌}
use Rattle.std.specs.List.{All, list_any}
use Rattle.station.specs.Disk.{Sector}
use Rattle.byteorder.specs.Endian.{big_bytes}
use Rattle.btree.specs.Rooted.{RootedTree}
use Rattle.btree.specs.Entries.{Entry, entry_with, with_new_entry}
use Rattle.records.specs.declared.answer.Outcome.{Outcome}
use Rattle.records.specs.declared.answer.Outcome.TheVariants.{Taken}
use Rattle.records.specs.declared.file_spec.AlternateKey.{AlternateKey}
use Rattle.records.specs.declared.key.KeyOfReference.TheVariants.{Prime, Alternate}
use Rattle.records.specs.Spec.{Spec, is_spec}
use Rattle.records.specs.Rows.{Row, part, place_of, prime_pair, prime_place}
use Rattle.records.specs.Changes.{FileChange, is_at, has_prime, new_row, new_number, with_row, insertion}
use Rattle.records.specs.Changes.{without_change, is_taken, is_duplicate, done_outcome}
use Rattle.records.specs.Files.{File, NamedFile, IsByte}
use Rattle.records.specs.Stores.{IsNewNumber, is_change}
use Rattle.volume_format.specs.Trees.{entry_under, layout_under, AreOf}
use Rattle.volume_format.specs.Pairs.{IsUnder}
use Rattle.volume_format.specs.Forest.{TreeLevels}
use Rattle.volume_format.specs.Chained.{chained_bytes}
use Rattle.row_trees.specs.RowTree.{ChainedTree, IsRowTreeAmong}
use Rattle.volume_format.proofs.Comes.{row_comes, pair_comes}
use Rattle.alternate_keys.specs.declared.row_verb.RowVerb.{RowVerb}
use Rattle.alternate_keys.specs.declared.row_verb.RowVerb.TheVariants.{Insert}
use Rattle.alternate_keys.specs.Moved.{HasChangedRows, PairsMove, PairsMayMove, pair_entry, is_new}
use Rattle.alternate_keys.specs.NewRow.{row_with, file_with, named_with}
use Rattle.alternate_keys.specs.Placed.{HasTrees}
use Rattle.alternate_keys.proofs.Arrivals.{arrival_at}
use Rattle.alternate_keys.proofs.FileTrees.{kept_in, arrival_low, arrival_few, rows_under, indexes_then}
use Rattle.alternate_keys.proofs.Fresh.{new_under, key_there, not_there, arrivals_before}

abbrev pub change_to : Outcome → File → FileChange
change_to outcome file = record { outcome = outcome; file = file }

-- what `find_duplicate_key` answers
abbrev pub told_of : RowVerb → Spec → List ℕ → List ℕ → List Row → Outcome
told_of verb spec old bytes all = if is_taken (filter (is_new verb old bytes) spec.alternates) all bytes then Taken
    else done_outcome (is_duplicate (filter (is_new verb old bytes) spec.alternates) all bytes)

-- what is told of the values of a record, and whether it is a change
pub told_by : (taken duplicate : Bool) (outcome : Outcome) (b : Bool)
    → outcome ≡ (if taken then Taken else done_outcome duplicate) → is_change outcome ≡ b → taken ≡ not b
told_by true duplicate outcome b is change = ap not (let one : false ≡ b = sym (ap is_change is) ∙ change in one)
told_by false true outcome b is change = ap not (let one : true ≡ b = sym (ap is_change is) ∙ change in one)
told_by false false outcome b is change = ap not (let one : true ≡ b = sym (ap is_change is) ∙ change in one)

pub told_free : (taken duplicate : Bool) (outcome : Outcome)
    → outcome ≡ (if taken then Taken else done_outcome duplicate) → taken ≡ false → outcome ≡ done_outcome duplicate
told_free taken duplicate outcome is free = is ∙ ap (λ (b : Bool). if b then Taken else done_outcome duplicate) free

pub told_taken : (taken duplicate : Bool) (outcome : Outcome)
    → outcome ≡ (if taken then Taken else done_outcome duplicate) → taken ≡ true → outcome ≡ Taken
told_taken taken duplicate outcome is full = is ∙ ap (λ (b : Bool). if b then Taken else done_outcome duplicate) full

pub none_by : (entry : Option Entry) → (IsSome entry → ⊥) → entry ≡ None
none_by None never = refl
none_by (Some e) never = absurd (never refl)

-- each value of a new row is new
pub all_new : (old bytes : List ℕ) (keys : List AlternateKey) → filter (is_new Insert old bytes) keys ≡ keys
all_new old bytes [] = refl
all_new old bytes (key ∷ keys) = ap (λ (l : List AlternateKey). key ∷ l) (all_new old bytes keys)

-- what became of the file
module _ (number : ℕ) (bytes : List ℕ) (file : File) where
  abbrev answer : Bool → Bool → FileChange
  answer there taken = if there || taken then without_change Taken file else record {
    outcome = done_outcome (is_duplicate file.spec.alternates file.rows bytes);
    file = file_with (new_row file number bytes) file;
  }

  taken_either : (there taken : Bool) → taken ≡ true → (there || taken) ≡ true
  taken_either true taken is = refl
  taken_either false taken is = is

  pub inserted_there : has_prime file (new_row file number bytes) ≡ true
      → insertion number bytes file ≡ without_change Taken file
  inserted_there there = ap (λ (b : Bool). answer b (is_taken file.spec.alternates file.rows bytes)) there

  pub inserted_taken : is_taken file.spec.alternates file.rows bytes ≡ true
      → insertion number bytes file ≡ without_change Taken file
  inserted_taken taken = ap (λ (b : Bool). if b then without_change Taken file else answer false false)
      (taken_either (has_prime file (new_row file number bytes)) (is_taken file.spec.alternates file.rows bytes) taken)

  pub inserted_done : has_prime file (new_row file number bytes) ≡ false
      → is_taken file.spec.alternates file.rows bytes ≡ false →
      insertion number bytes file ≡ record {
        outcome = done_outcome (is_duplicate file.spec.alternates file.rows bytes);
        file = file_with (new_row file number bytes) file;
      }
  inserted_done there taken =
      ap (λ (b : Bool). answer b (is_taken file.spec.alternates file.rows bytes)) there ∙ ap (answer false) taken

module _ (spec : Spec) (named : NamedFile) (generation : ℕ) (pages : List (Option Sector))
    (left right : List TreeLevels) (listing : List ℕ) (has : HasTrees spec named generation pages left right listing)
    (number arrival : ℕ) (bytes : List ℕ) (same : arrival ≡ named.file.next_arrival)
    (is : is_spec spec ≡ true) (long : length bytes ≡ spec.record_length) (low : All IsByte bytes)
    (numbered : IsNewNumber spec.organization number) where
  abbrev row : Row
  row = row_with spec (new_number spec.organization number arrival) arrival bytes

  few : arrival < 2 ^ 63
  few = let all = arrival_few spec named generation pages left right listing has in omega (arith, all, same)

  pub own_row : row ≡ new_row named.file number bytes
  own_row =
      ap (λ (s : Spec). row_with s (new_number s.organization number arrival) arrival bytes) (sym has.spec_is)
      ∙ ap (λ (a : ℕ). row_with named.file.spec (new_number named.file.spec.organization number a) a bytes) same

  own_under : IsUnder spec Prime row
  own_under = new_under spec number arrival bytes is long low (let all = few in omega (arith, all)) numbered

  pub prime_there : is_some (entry_with (map (entry_under spec Prime) named.file.rows) (entry_under spec Prime row).key)
      ≡ has_prime named.file (new_row named.file number bytes)
  prime_there =
      key_there spec named.file.rows row (rows_under spec named generation pages left right listing has) own_under
      ∙ ap (λ (s : Spec). list_any (is_at s.organization (prime_pair s.organization row)) named.file.rows)
      (sym has.spec_is)
      ∙ ap (λ (r : Row). has_prime named.file r) own_row

  entry_is : (i : ℕ) → i < length named.file.spec.alternates
      → entry_under named.file.spec (Alternate i) row ≡ pair_entry named.file.spec i bytes arrival
  entry_is i within =
      let inside : i < length spec.alternates = subst (λ (s : Spec). i < length s.alternates) has.spec_is within in
      ap (λ (a : ℕ). let e : Entry = record {
        key = part (place_of named.file.spec (Alternate i)) bytes ++ big_bytes 8 a;
        value = part (prime_place named.file.spec.organization) bytes;
      } in e) (arrival_at spec.alternates i arrival inside)

  pairs_move : PairsMove Insert named.file (named_with row named).file [] bytes arrival
  pairs_move i entries within are up =
      subst (λ (e : Entry). AreOf named.file.spec (Alternate i)
      (with_row named.file.spec.organization row named.file.rows) (with_new_entry entries e)) (entry_is i within)
      (pair_comes named.file.spec (Alternate i) named.file.rows entries row are)

  pub pairs_may : PairsMayMove Insert named.file [] bytes arrival
  pairs_may i entries within are up =
      none_by (entry_with entries (pair_entry named.file.spec i bytes arrival).key)
      (λ some.
      let key : (entry_under named.file.spec (Alternate i) (row_with named.file.spec 0 arrival bytes)).key
      ≡ (pair_entry named.file.spec i bytes arrival).key =
      ap (λ (a : ℕ). part (place_of named.file.spec (Alternate i)) bytes ++ big_bytes 8 a)
      (arrival_at named.file.spec.alternates i arrival within) in
      not_there named.file.spec i 0 arrival bytes named.file.rows entries are within (let all =
      few in omega (arith, all))
      (λ r there. let before =
      arrivals_before named.file r i has.is_named.file there within in omega (arith, before, same))
      (subst (λ (k : List ℕ). IsSome (entry_with entries k)) (sym key) some))

  pub insert_moving : (later : List (Option Sector)) (prime : ChainedTree) → prime.tree.layout ≡ layout_under spec Prime
      → prime.record_bytes ≡ chained_bytes spec →
      IsRowTreeAmong later left ((kept_in spec named generation pages left right listing has).alternates ++ right) prime
      (with_new_entry (map (entry_under spec Prime) named.file.rows) (entry_under spec Prime row)) →
      HasChangedRows Insert spec named (named_with row named) generation later left right listing prime.tree.root []
      bytes
      arrival (arrival + 1)
  insert_moving later prime layout form stands = record {
    prime = stands.planted;
    trees = (kept_in spec named generation pages left right listing has).alternates;
    indexes = indexes_then spec named generation pages left right listing has later prime
        (with_new_entry (map (entry_under spec Prime) named.file.rows) (entry_under spec Prime row)) stands;
    layout = ap (λ (t : RootedTree). t.layout) stands.tree_is ∙ layout;
    root_is = ap (λ (t : RootedTree). t.root) stands.tree_is;
    form = stands.form_is ∙ form;
    rows = stands.listed
        ∙ row_comes spec named.file.rows row (rows_under spec named generation pages left right listing has) own_under
        ∙ ap (λ (s : Spec). map (entry_under spec Prime) (with_row s.organization row named.file.rows))
        (sym has.spec_is);
    spec_is = has.spec_is;
    spec_then = has.spec_is;
    pairs = pairs_move;
    next_is = ap (λ (n : ℕ). n + 1) (sym same);
    low = let below = arrival_low spec named generation pages left right listing has in omega (arith, below, same);
  }

-- what the values of a new row tell
module _ (spec : Spec) (file : File) (spec_is : file.spec ≡ spec) (old bytes : List ℕ) (outcome : Outcome)
    (told : outcome ≡ told_of Insert spec old bytes file.rows) where
  keys_are : filter (is_new Insert old bytes) spec.alternates ≡ file.spec.alternates
  keys_are = all_new old bytes spec.alternates ∙ ap (λ (s : Spec). s.alternates) (sym spec_is)

  told_here : outcome ≡ (if is_taken file.spec.alternates file.rows bytes then Taken
      else done_outcome (is_duplicate file.spec.alternates file.rows bytes))
  told_here = told ∙ ap (λ (ks : List AlternateKey). if is_taken ks file.rows bytes then Taken
      else done_outcome (is_duplicate ks file.rows bytes)) keys_are

  pub look_free : is_change outcome ≡ true → is_taken file.spec.alternates file.rows bytes ≡ false
  look_free change = told_by (is_taken file.spec.alternates file.rows bytes)
      (is_duplicate file.spec.alternates file.rows bytes) outcome true told_here change

  pub look_done : is_change outcome ≡ true → outcome ≡ done_outcome (is_duplicate file.spec.alternates file.rows bytes)
  look_done change = told_free (is_taken file.spec.alternates file.rows bytes)
      (is_duplicate file.spec.alternates file.rows bytes) outcome told_here (look_free change)

  pub look_full : is_change outcome ≡ false → is_taken file.spec.alternates file.rows bytes ≡ true
  look_full change = told_by (is_taken file.spec.alternates file.rows bytes)
      (is_duplicate file.spec.alternates file.rows bytes) outcome false told_here change

  pub look_taken : is_change outcome ≡ false → outcome ≡ Taken
  look_taken change = told_taken (is_taken file.spec.alternates file.rows bytes)
      (is_duplicate file.spec.alternates file.rows bytes) outcome told_here (look_full change)

pub no_change : (outcome : Outcome) → outcome ≡ Taken → is_change outcome ≡ false
no_change outcome is = ap is_change is

-- a row that a caller may add
pub record IsNew (spec : Spec) (file : File) (number arrival : ℕ) (bytes : List ℕ) : Type 0 where
  pub same : arrival ≡ file.next_arrival
  pub good : is_spec spec ≡ true
  pub long : length bytes ≡ spec.record_length
  pub low : All IsByte bytes
  pub numbered : IsNewNumber spec.organization number

abbrev pub row_new : Spec → ℕ → ℕ → List ℕ → Row
row_new spec number arrival bytes = row_with spec (new_number spec.organization number arrival) arrival bytes

-- what the search for its prime key or number tells
abbrev pub found_new : Spec → ℕ → ℕ → List ℕ → List Row → Option Entry
found_new spec number arrival bytes rows =
    entry_with (map (entry_under spec Prime) rows) (entry_under spec Prime (row_new spec number arrival bytes)).key

-- the file after it came
abbrev pub Inserts : Spec → ℕ → ℕ → List ℕ → File → Outcome → Type 0
Inserts spec number arrival bytes file outcome =
    insertion number bytes file ≡ change_to outcome (file_with (row_new spec number arrival bytes) file)

module _ {spec : Spec} {named : NamedFile} {generation : ℕ} {pages : List (Option Sector)}
    {left right : List TreeLevels} {listing : List ℕ} (has : HasTrees spec named generation pages left right listing)
    {number arrival : ℕ} {bytes : List ℕ} (new : IsNew spec named.file number arrival bytes) where
  there_is : is_some (found_new spec number arrival bytes named.file.rows)
      ≡ has_prime named.file (new_row named.file number bytes)
  there_is = prime_there spec named generation pages left right listing has number arrival bytes new.same new.good
      new.long new.low new.numbered

  pub there_told : {own : ℕ} (there : Bool) → own ≡ new_number spec.organization number arrival →
      there ≡ is_some (entry_with (map (entry_under spec Prime) named.file.rows)
      (entry_under spec Prime (row_with spec own arrival bytes)).key)
      → there ≡ has_prime named.file (new_row named.file number bytes)
  there_told there own_is told =
      told ∙ ap (λ (n : ℕ). is_some (entry_with (map (entry_under spec Prime) named.file.rows)
      (entry_under spec Prime (row_with spec n arrival bytes)).key)) own_is ∙ there_is

  pub taken_numbered : {own : ℕ} → own ≡ new_number spec.organization number arrival →
      IsSome (entry_with (map (entry_under spec Prime) named.file.rows)
      (entry_under spec Prime (row_with spec own arrival bytes)).key)
      → insertion number bytes named.file ≡ without_change Taken named.file
  taken_numbered own_is some =
      inserted_there number bytes named.file (sym there_is ∙ subst (λ (n : ℕ).
      IsSome (entry_with (map (entry_under spec Prime) named.file.rows)
      (entry_under spec Prime (row_with spec n arrival bytes)).key)) own_is some)

  pub inserts_new : (outcome : Outcome) → outcome ≡ told_of Insert spec [] bytes named.file.rows
      → is_change outcome ≡ true → found_new spec number arrival bytes named.file.rows ≡ None →
      Inserts spec number arrival bytes named.file outcome
  inserts_new outcome told change none =
      let free = look_free spec named.file has.spec_is [] bytes outcome told change in
      let own = own_row spec named generation pages left right listing has number arrival bytes new.same new.good
      new.long new.low new.numbered in
      inserted_done number bytes named.file (sym there_is ∙ ap (λ (e : Option Entry). is_some e) none) free
      ∙ ap (λ (o : Outcome). change_to o (file_with (new_row named.file number bytes) named.file))
      (sym (look_done spec named.file has.spec_is [] bytes outcome told change))
      ∙ ap (λ (r : Row). change_to outcome (file_with r named.file)) (sym own)
