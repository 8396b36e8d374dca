-- The files after a change are files.
use Rattle.std.proofs.Common.{◌≡◌, ◌<◌, ◌≤◌, ◌+◌, Bool, true, false, not, ◌||◌, cond, ℕ, suc, List, [], ◌∷◌, length}
use Rattle.std.proofs.Common.{map, refl, sym, ◌∙◌, ap, subst, arith}
use Rattle.std.specs.Prelude.{Option, Some, None, filter, unwrap_or}
use Rattle.std.specs.List.{AllByRecursion, list_any}
use Rattle.std.specs.List.Sorted.{IsStrictlySortedBy}
use Rattle.std.specs.Ordering.{is_lt, is_eq, nat_cmp, ordering_then, ordering_reverse}
use Rattle.std.specs.declared.cmp.Ordering.{Ordering}
use Rattle.std.specs.declared.cmp.Ordering.TheVariants.{Less, Equal, Greater}
use Rattle.std.proofs.lemmas.Bool.{cond_both}
use Rattle.std.proofs.lemmas.Cmp.{nat_list_cmp_total}
use Rattle.std.proofs.lemmas.Map.Keys.{sorted_head, sorted_tail}
use Rattle.records.specs.declared.file_spec.AlternateKey.{AlternateKey}
use Rattle.records.specs.declared.file_spec.Organization.{Organization}
use Rattle.records.specs.declared.file_spec.Organization.TheVariants.{Sequential, Relative, Indexed}
use Rattle.records.specs.declared.answer.Outcome.TheVariants.{Taken}
use Rattle.records.specs.Spec.{Spec, is_spec, is_name}
use Rattle.records.specs.Rows.{Row, Pair, bytes_cmp, same_bytes, pair_cmp, prime_pair, named_pair}
use Rattle.records.specs.Files.{File, Files, NamedFile, IsByte, IsArrival, IsRowNumber, IsRow, IsFile, IsNamed}
use Rattle.records.specs.Files.{AreFiles, names, empty_file, file_at, with_file}
use Rattle.records.specs.Changes.{FileChange, is_at, row_at, with_row, in_place, without_pair, insertion, has_prime}
use Rattle.records.specs.Changes.{new_row, new_number, is_taken, is_duplicate, without_change, done_outcome}
use Rattle.records.specs.Changes.{replacement, replaced_row, removal, removed_row, changes, changed_row, arrivals_after}
use Rattle.records.specs.Stores.{IsNewNumber, is_change, files_after}
use Rattle.records.proofs.Ascending.{all_filter, or_false, all_with_row, ascend_with_row, ascend_filter}
use Rattle.records.proofs.Maps.{bytes_same}

all_map : {A : Type 0} (P Q : A → Type 0) (xs : List A) → ((x : A) → P x → Q x) → AllByRecursion P xs
    → AllByRecursion Q xs
all_map P Q [] f all = tt
all_map P Q (x ∷ xs) f all = (f x all.0, all_map P Q xs f all.1)

-- a later next arrival
later_number : (o : Organization) (n m k : ℕ) → n ≤ m → IsRowNumber o n k → IsRowNumber o m k
later_number Sequential n m k le is = (is.0, omega (arith, le, is.1))
later_number Relative n m k le is = is
later_number (Indexed place) n m k le is = is

later_row : (spec : Spec) (n m : ℕ) → n ≤ m → (row : Row) → IsRow spec n row → IsRow spec m row
later_row spec n m le row is = record {
  long = is.long;
  bytes = is.bytes;
  number = later_number spec.organization n m row.number le is.number;
  arrivals = is.arrivals;
  given = all_map (IsArrival n) (IsArrival m) row.arrivals (λ arrival a. (a.0, omega (arith, le, a.1))) is.given;
}

later_rows : (spec : Spec) (n m : ℕ) (rows : List Row) → n ≤ m → AllByRecursion (IsRow spec n) rows
    → AllByRecursion (IsRow spec m) rows
later_rows spec n m rows le all = all_map (IsRow spec n) (IsRow spec m) rows (later_row spec n m le) all

-- a new row
first_arrivals : (n : ℕ) (keys : List AlternateKey) → 1 ≤ n → AllByRecursion (IsArrival (n + 1)) (map (λ key. n) keys)
first_arrivals n [] le = tt
first_arrivals n (key ∷ keys) le = ((le, omega arith), first_arrivals n keys le)

how_many : (n : ℕ) (keys : List AlternateKey) → length (map (λ key. n) keys) ≡ length keys
how_many n [] = refl
how_many n (key ∷ keys) = ap (λ (k : ℕ). suc k) (how_many n keys)

new_numbered : (o : Organization) (number next : ℕ) → 1 ≤ next → IsNewNumber o number
    → IsRowNumber o (next + 1) (new_number o number next)
new_numbered Sequential number next le is = (le, omega arith)
new_numbered Relative number next le is = is
new_numbered (Indexed place) number next le is = refl

new_is_row : (file : File) (number : ℕ) (bytes : List ℕ) → 1 ≤ file.next_arrival
    → IsNewNumber file.spec.organization number → length bytes ≡ file.spec.record_length → AllByRecursion IsByte bytes
    → IsRow file.spec (file.next_arrival + 1) (new_row file number bytes)
new_is_row file number bytes le is long small = record {
  long = long;
  bytes = small;
  number = new_numbered file.spec.organization number file.next_arrival le is;
  arrivals = how_many file.next_arrival file.spec.alternates;
  given = first_arrivals file.next_arrival file.spec.alternates le;
}

pub inserted_is_file : (file : File) (number : ℕ) (bytes : List ℕ) → IsFile file
    → IsNewNumber file.spec.organization number → length bytes ≡ file.spec.record_length → AllByRecursion IsByte bytes
    → IsFile (insertion number bytes file).file
inserted_is_file file number bytes is numbered long small = cond_both (has_prime file (new_row file number bytes)
    || is_taken file.spec.alternates file.rows bytes) (without_change Taken file)
    (record {
      outcome = done_outcome (is_duplicate file.spec.alternates file.rows bytes);
      file = record file {
        rows = with_row file.spec.organization (new_row file number bytes) file.rows;
        next_arrival = file.next_arrival + 1;
      };
    }) (λ (c : FileChange). IsFile c.file) (λ _. is)
    (λ free. record {
      spec = is.spec;
      next = omega (arith, is.next);
      ascend = ascend_with_row file.spec.organization (new_row file number bytes) file.rows is.ascend (or_false
          (has_prime file (new_row file number bytes)) (is_taken file.spec.alternates file.rows bytes) free).0;
      rows = all_with_row file.spec.organization (IsRow file.spec (file.next_arrival + 1)) (new_row file number bytes)
          file.rows (new_is_row file number bytes is.next numbered long small)
          (later_rows file.spec file.next_arrival (file.next_arrival + 1) file.rows (omega arith) is.rows);
    })

-- another record for a row
eq_then : (a b : Ordering) → is_eq (ordering_then a b) ≡ true → (is_eq a ≡ true) × (is_eq b ≡ true)
eq_then Less b is = absurd cc
eq_then Equal b is = (refl, is)
eq_then Greater b is = absurd cc

nat_same : (m n : ℕ) → is_eq (nat_cmp m n) ≡ true → m ≡ n
nat_same m n is = grind arith

pub pair_same : (one two : Pair) → is_eq (pair_cmp one two) ≡ true → one ≡ two
pair_same one two is =
    let e = eq_then (bytes_cmp one.value two.value) (nat_cmp one.number two.number) is in
    ap (λ (v : List ℕ). let p : Pair =
    record { value = v; number = one.number } in p) (bytes_same one.value two.value e.0)
    ∙ ap (λ (n : ℕ). let p : Pair = record { value = two.value; number = n } in p) (nat_same one.number two.number e.1)

-- the row at a pair
at_pair : (o : Organization) (P : Row → Type 0) (pair : Pair) (rows : List Row) (row : Row) → AllByRecursion P rows
    → row_at o pair rows ≡ Some row → P row × (is_at o pair row ≡ true)
at_pair o P pair [] row all is = absurd cc
at_pair o P pair (one ∷ rows) row all is = cond_both (is_at o pair one) (Some one) (row_at o pair rows)
    (λ found. found ≡ Some row → P row × (is_at o pair row ≡ true))
    (λ here same. let e : one ≡ row = ap (λ (o : Option Row). unwrap_or o one) same in
    (subst P e all.0, ap (is_at o pair) (sym e) ∙ here)) (λ _ there. at_pair o P pair rows row all.1 there) is

same_pairs : (o : Organization) (pair : Pair) (new : Row) (rows : List Row) → prime_pair o new ≡ pair
    → map (prime_pair o) (in_place o pair new rows) ≡ map (prime_pair o) rows
same_pairs o pair new [] is = refl
same_pairs o pair new (row ∷ rows) is = ap (λ (p : Pair). p ∷ map (prime_pair o) (in_place o pair new rows)) here
    ∙ ap (λ (l : List Pair). prime_pair o row ∷ l) (same_pairs o pair new rows is)
  where
    here : prime_pair o (cond (is_at o pair row) new row) ≡ prime_pair o row
    here = cond_both (is_at o pair row) new row (λ r. prime_pair o r ≡ prime_pair o row)
        (λ at. is ∙ sym (pair_same (prime_pair o row) pair at)) (λ _. refl)

all_in_place : (o : Organization) (P : Row → Type 0) (pair : Pair) (new : Row) (rows : List Row) → P new
    → AllByRecursion P rows → AllByRecursion P (in_place o pair new rows)
all_in_place o P pair new [] here all = tt
all_in_place o P pair new (row ∷ rows) here all =
    (cond_both (is_at o pair row) new row P (λ _. here) (λ _. all.0), all_in_place o P pair new rows here all.1)

renamed : (o : Organization) (number other : ℕ) (bytes old : List ℕ)
    → named_pair o other old ≡ named_pair o number bytes → named_pair o other bytes ≡ named_pair o number bytes
renamed Sequential number other bytes old is = is
renamed Relative number other bytes old is = is
renamed (Indexed place) number other bytes old is = refl

any_of : (b c : Bool) → b ≡ true → (b || c) ≡ true
any_of true c is = refl
any_of false c is = absurd cc

any_rest : (b c : Bool) → c ≡ true → (b || c) ≡ true
any_rest true c is = refl
any_rest false c is = is

module _ (old bytes : List ℕ) (n m : ℕ) (first : 1 ≤ n) (le : n ≤ m) where
  pub arrivals_given : (keys : List AlternateKey) (arrivals : List ℕ)
      → (list_any (λ key. changes old bytes key) keys ≡ true → n < m) → AllByRecursion (IsArrival n) arrivals
      → AllByRecursion (IsArrival m) (arrivals_after old bytes n keys arrivals)
  arrivals_given [] [] raised all = tt
  arrivals_given [] (arrival ∷ arrivals) raised all = tt
  arrivals_given (key ∷ keys) [] raised all = tt
  arrivals_given (key ∷ keys) (arrival ∷ arrivals) raised all = (
    cond_both (changes old bytes key) n arrival (IsArrival m)
        (λ is. (first, raised (any_of (changes old bytes key) (list_any (λ key. changes old bytes key) keys) is)))
        (λ _. (all.0.0, omega (arith, le, all.0.1))),
    arrivals_given keys arrivals
        (λ is. raised (any_rest (changes old bytes key) (list_any (λ key. changes old bytes key) keys) is)) all.1,
  )

  pub arrivals_long : (keys : List AlternateKey) (arrivals : List ℕ) → length arrivals ≡ length keys
      → length (arrivals_after old bytes n keys arrivals) ≡ length keys
  arrivals_long [] [] is = refl
  arrivals_long [] (arrival ∷ arrivals) is = refl
  arrivals_long (key ∷ keys) [] is = absurd (omega (arith, is))
  arrivals_long (key ∷ keys) (arrival ∷ arrivals) is =
      ap (λ (k : ℕ). suc k) (arrivals_long keys arrivals (omega (arith, is)))

next_after : Bool → ℕ → ℕ
next_after b n = cond b (n + 1) n

not_before : (b : Bool) (n : ℕ) → n ≤ next_after b n
unfolding next_after
not_before true n = omega arith
not_before false n = omega arith

raised_by : (b : Bool) (n : ℕ) → b ≡ true → n < next_after b n
unfolding next_after
raised_by true n is = omega arith
raised_by false n is = absurd cc

changed_is_row : (file : File) (row : Row) (bytes : List ℕ) (m : ℕ) → 1 ≤ file.next_arrival → file.next_arrival ≤ m
    → (list_any (λ key. changes row.bytes bytes key) file.spec.alternates ≡ true → file.next_arrival < m)
    → IsRow file.spec file.next_arrival row → length bytes ≡ file.spec.record_length → AllByRecursion IsByte bytes
    → IsRow file.spec m (changed_row file bytes row)
changed_is_row file row bytes m first le raised is long small = record {
  long = long;
  bytes = small;
  number = later_number file.spec.organization file.next_arrival m row.number le is.number;
  arrivals = arrivals_long row.bytes bytes file.next_arrival m first le file.spec.alternates row.arrivals is.arrivals;
  given = arrivals_given row.bytes bytes file.next_arrival m first le file.spec.alternates row.arrivals raised is.given;
}

module _ (file : File) (number : ℕ) (bytes : List ℕ) (is : IsFile file) (long : length bytes ≡ file.spec.record_length)
    (small : AllByRecursion IsByte bytes) where
  abbrev pair : Pair
  pair = named_pair file.spec.organization number bytes

  abbrev next : Row → ℕ
  next row = cond (list_any (λ key. changes row.bytes bytes key) file.spec.alternates) (file.next_arrival + 1)
      file.next_arrival

  abbrev keys : Row → List AlternateKey
  keys row = filter (changes row.bytes bytes) file.spec.alternates

  abbrev others : List Row
  others = without_pair file.spec.organization pair file.rows

  after_row : (found : Option Row) → row_at file.spec.organization pair file.rows ≡ found
      → IsFile (replaced_row pair bytes file found).file
  unfolding next_after
  after_row None at = is
  after_row (Some row) at = cond_both (is_taken (keys row) others bytes) (without_change Taken file)
      (record {
        outcome = done_outcome (is_duplicate (keys row) others bytes);
        file = record file {
          rows = in_place file.spec.organization pair (changed_row file bytes row) file.rows;
          next_arrival = next row;
        };
      }) (λ (c : FileChange). IsFile c.file) (λ _. is)
      (λ _.
      let here = at_pair file.spec.organization (IsRow file.spec file.next_arrival) pair file.rows row is.rows at in
      let le = not_before (list_any (λ key. changes row.bytes bytes key) file.spec.alternates) file.next_arrival in
      let same : prime_pair file.spec.organization (changed_row file bytes row) ≡ pair = renamed file.spec.organization
      number row.number bytes row.bytes (pair_same (prime_pair file.spec.organization row) pair here.1) in
      record {
        spec = is.spec;
        next = omega (arith, is.next, le);
        ascend = subst (IsStrictlySortedBy pair_cmp)
            (sym (same_pairs file.spec.organization pair (changed_row file bytes row) file.rows same)) is.ascend;
        rows =
            all_in_place file.spec.organization (IsRow file.spec (next row)) pair (changed_row file bytes row) file.rows
            (changed_is_row file row bytes (next row) is.next le (raised_by (list_any
            (λ key. changes row.bytes bytes key) file.spec.alternates) file.next_arrival) here.0 long small)
            (later_rows file.spec file.next_arrival (next row) file.rows le is.rows);
      })

  pub replaced_is_file : IsFile (replacement number bytes file).file
  replaced_is_file = after_row (row_at file.spec.organization pair file.rows) refl

pub removed_is_file : (file : File) (pair : Pair) → IsFile file → IsFile (removal pair file).file
removed_is_file file pair is = by (row_at file.spec.organization pair file.rows)
  where
    by : (found : Option Row) → IsFile (removed_row pair file found).file
    by None = is
    by (Some row) = record {
      spec = is.spec;
      next = is.next;
      ascend =
          ascend_filter file.spec.organization (λ row. not (is_at file.spec.organization pair row)) file.rows is.ascend;
      rows = all_filter (IsRow file.spec file.next_arrival) (λ row. not (is_at file.spec.organization pair row))
          file.rows is.rows;
    }

-- files by name
abbrev named : List ℕ → File → NamedFile
named name file = record { name = name; file = file }

abbrev put : Bool → Bool → List ℕ → File → NamedFile → Files → Files
put same less name file one more =
    cond same (named name file ∷ more) (cond less (one ∷ with_file name file more) (named name file ∷ one ∷ more))

all_put : (P : NamedFile → Type 0) (name : List ℕ) (file : File) (files : Files) → P (named name file)
    → AllByRecursion P files → AllByRecursion P (with_file name file files)
all_put P name file [] here all = (here, tt)
all_put P name file (one ∷ more) here all =
    cond_both (same_bytes one.name name) (named name file ∷ more) (cond (is_lt (bytes_cmp one.name name))
    (one ∷ with_file name file more) (named name file ∷ one ∷ more)) (AllByRecursion P)
    (λ _. (here, all.1)) (λ _. cond_both (is_lt (bytes_cmp one.name name)) (one ∷ with_file name file more) (named name
    file ∷ one ∷ more) (AllByRecursion P) (λ _. (all.0, all_put P name file more here all.1)) (λ _. (here, all)))

abbrev NamesAscend : Files → Type 0
NamesAscend files = IsStrictlySortedBy bytes_cmp (names files)

abbrev Before : List ℕ → NamedFile → Type 0
Before name other = bytes_cmp name other.name ≡ Less

names_from : (name : List ℕ) (files : Files) → AllByRecursion (Before name) files
    → AllByRecursion (λ other. bytes_cmp name other ≡ Less) (names files)
names_from name [] all = tt
names_from name (one ∷ more) all = (all.0, names_from name more all.1)

names_to : (name : List ℕ) (files : Files) → AllByRecursion (λ other. bytes_cmp name other ≡ Less) (names files)
    → AllByRecursion (Before name) files
names_to name [] all = tt
names_to name (one ∷ more) all = (all.0, names_to name more all.1)

first_name : (one : NamedFile) (more : Files) → NamesAscend (one ∷ more) → AllByRecursion (Before one.name) more
first_name one more ascend = names_to one.name more (sorted_head bytes_cmp one.name (names more) ascend)

more_names : (one : NamedFile) (more : Files) → NamesAscend (one ∷ more) → NamesAscend more
more_names one more ascend = sorted_tail bytes_cmp one.name (names more) ascend

both_names : (one : NamedFile) (more : Files) → AllByRecursion (Before one.name) more → NamesAscend more
    → NamesAscend (one ∷ more)
unfolding IsStrictlySortedBy
both_names one more first rest = (names_from one.name more first, rest)

no_names : NamesAscend []
unfolding IsStrictlySortedBy
no_names = tt

lower_name : (name : List ℕ) (one : NamedFile) (files : Files) → bytes_cmp name one.name ≡ Less
    → AllByRecursion (Before one.name) files → AllByRecursion (Before name) files
lower_name name one [] less all = tt
lower_name name one (other ∷ more) less all =
    (nat_list_cmp_total.trans name one.name other.name less all.0, lower_name name one more less all.1)

abbrev put_by : Ordering → List ℕ → File → NamedFile → Files → Files
put_by r name file one more = put (is_eq r) (is_lt r) name file one more

put_names : (r : Ordering) (name : List ℕ) (file : File) (one : NamedFile) (more : Files) → bytes_cmp one.name name ≡ r
    → NamesAscend (one ∷ more) → NamesAscend (with_file name file more) → NamesAscend (put_by r name file one more)
put_names Less name file one more is ascend rest = both_names one (with_file name file more)
    (all_put (Before one.name) name file more is (first_name one more ascend)) rest
put_names Equal name file one more is ascend rest =
    both_names (named name file) more (subst (λ (n : List ℕ). AllByRecursion (Before n) more)
    (bytes_same one.name name (ap is_eq is)) (first_name one more ascend)) (more_names one more ascend)
put_names Greater name file one more is ascend rest =
    let less : bytes_cmp name one.name ≡ Less = nat_list_cmp_total.antisymm name one.name ∙ ap ordering_reverse is in
    both_names (named name file) (one ∷ more) (less, lower_name name one more less (first_name one more ascend)) ascend

pub names_ascend : (name : List ℕ) (file : File) (files : Files) → NamesAscend files
    → NamesAscend (with_file name file files)
names_ascend name file [] ascend = both_names (named name file) [] tt no_names
names_ascend name file (one ∷ more) ascend = put_names (bytes_cmp one.name name) name file one more refl ascend
    (names_ascend name file more (more_names one more ascend))

-- the file under a name
pub there_is_named : (name : List ℕ) (file : File) (files : Files) → AllByRecursion IsNamed files
    → file_at name files ≡ Some file → (is_name name ≡ true) × IsFile file
there_is_named name file [] all is = absurd cc
there_is_named name file (one ∷ more) all is = cond_both (same_bytes one.name name) (Some one.file) (file_at name more)
    (λ found. found ≡ Some file → (is_name name ≡ true) × IsFile file)
    (λ same here. (
      subst (λ (n : List ℕ). is_name n ≡ true) (bytes_same one.name name same) all.0.name,
      subst IsFile (ap (λ (o : Option File). unwrap_or o one.file) here) all.0.file,
    ))
    (λ _ there. there_is_named name file more all.1 there) is

-- no more files than before, where the name is there
none_above : (name : List ℕ) (old : File) (files : Files) → AllByRecursion (Before name) files
    → file_at name files ≡ Some old → ⊥
none_above name old [] all is = absurd cc
none_above name old (one ∷ more) all is =
    let greater : bytes_cmp one.name name ≡ Greater =
    nat_list_cmp_total.antisymm one.name name ∙ ap ordering_reverse all.0 in
    none_above name old more all.1
    (sym (ap (λ (r : Ordering). cond (is_eq r) (Some one.file) (file_at name more)) greater) ∙ is)

by_count : (r : Ordering) (name : List ℕ) (file old : File) (one : NamedFile) (more : Files) → bytes_cmp one.name
    name ≡ r → NamesAscend (one ∷ more) → cond (is_eq r) (Some one.file) (file_at name more) ≡ Some old
    → (file_at name more ≡ Some old → length (with_file name file more) ≤ length more)
    → length (put_by r name file one more) ≤ suc (length more)
by_count Less name file old one more r ascend there rest = let fewer = rest there in omega (arith, fewer)
by_count Equal name file old one more r ascend there rest = omega arith
by_count Greater name file old one more r ascend there rest = absurd (none_above name old more (lower_name name one more
    (nat_list_cmp_total.antisymm name one.name ∙ ap ordering_reverse r) (first_name one more ascend)) there)

same_count : (name : List ℕ) (file old : File) (files : Files) → NamesAscend files → file_at name files ≡ Some old
    → length (with_file name file files) ≤ length files
same_count name file old [] ascend is = absurd cc
same_count name file old (one ∷ more) ascend is = by_count (bytes_cmp one.name name) name file old one more refl ascend
    is (same_count name file old more (more_names one more ascend))

pub with_file_are_files : (name : List ℕ) (file : File) (files : Files) → AreFiles files → is_name name ≡ true
    → IsFile file → length (with_file name file files) ≤ 255 → AreFiles (with_file name file files)
with_file_are_files name file files are named is count = record {
  ascend = names_ascend name file files are.ascend;
  each = all_put IsNamed name file files (record { name = named; file = is }) are.each;
  count = count;
}

empty_is_file : (spec : Spec) → is_spec spec ≡ true → IsFile (empty_file spec)
unfolding IsStrictlySortedBy
empty_is_file spec is = record { spec = is; next = omega arith; ascend = tt; rows = tt }

pub created_are_files : (name : List ℕ) (spec : Spec) (files : Files)
    → AreFiles files → is_name name ≡ true → is_spec spec ≡ true → length (with_file name (empty_file spec) files) ≤ 255
    → AreFiles (with_file name (empty_file spec) files)
created_are_files name spec files are named sound count =
    with_file_are_files name (empty_file spec) files are named (empty_is_file spec sound) count

after_are_files : (name : List ℕ) (file old : File) (files : Files) (b : Bool) → AreFiles files
    → file_at name files ≡ Some old → IsFile file → AreFiles (cond b (with_file name file files) files)
after_are_files name file old files true are there is =
    let named = there_is_named name old files are.each there in
    let fewer = same_count name file old files are.ascend there in
    with_file_are_files name file files are named.0 is (let few = are.count in omega (arith, fewer, few))
after_are_files name file old files false are there is = are

pub inserted_are_files : (name : List ℕ) (file : File) (files : Files) (number : ℕ) (bytes : List ℕ)
    → AreFiles files → file_at name files ≡ Some file → IsNewNumber file.spec.organization number
    → length bytes ≡ file.spec.record_length → AllByRecursion IsByte bytes
    → AreFiles (files_after name files (insertion number bytes file))
inserted_are_files name file files number bytes are there numbered long small =
    after_are_files name (insertion number bytes file).file file files (is_change (insertion number bytes file).outcome)
    are there
    (inserted_is_file file number bytes (there_is_named name file files are.each there).1 numbered long small)

pub replaced_are_files : (name : List ℕ) (file : File) (files : Files) (number : ℕ) (bytes : List ℕ) → AreFiles files
    → file_at name files ≡ Some file → length bytes ≡ file.spec.record_length → AllByRecursion IsByte bytes
    → AreFiles (files_after name files (replacement number bytes file))
replaced_are_files name file files number bytes are there long small =
    after_are_files name (replacement number bytes file).file file files
    (is_change (replacement number bytes file).outcome) are there
    (replaced_is_file file number bytes (there_is_named name file files are.each there).1 long small)

pub removed_are_files : (name : List ℕ) (file : File) (files : Files) (pair : Pair) → AreFiles files
    → file_at name files ≡ Some file → AreFiles (files_after name files (removal pair file))
removed_are_files name file files pair are there =
    after_are_files name (removal pair file).file file files (is_change (removal pair file).outcome) are there
    (removed_is_file file pair (there_is_named name file files are.each there).1)

pub there_is_file : (name : List ℕ) (file : File) (files : Files) → AreFiles files → file_at name files ≡ Some file
    → IsFile file
there_is_file name file files are there = (there_is_named name file files are.each there).1
