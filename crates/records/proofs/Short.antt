-- Files with short records alone.
use Rattle.std.proofs.Common.{◌≡◌, ℕ, Bool, true, false, List, [], ◌∷◌, Option, Some, None, refl, sym, ◌∙◌, ap}
use Rattle.std.proofs.Common.{if◌then◌else◌}
use Rattle.std.specs.Ordering.{is_lt}
use Rattle.records.specs.declared.answer.Outcome.{Outcome}
use Rattle.records.specs.Spec.{Spec, is_long}
use Rattle.records.specs.Rows.{Row, Pair, same_bytes, bytes_cmp, named_pair}
use Rattle.records.specs.Files.{File, Files, NamedFile, AreShort, empty_file, file_at, with_file}
use Rattle.records.specs.Changes.{FileChange, without_change, has_prime, new_row, is_taken, row_at, replaced_row}
use Rattle.records.specs.Changes.{removed_row, insertion, replacement, removal, changes, without_pair}
use Rattle.std.specs.Prelude.{◌||◌, filter}
use Rattle.records.specs.Stores.{MakesLong, is_change, files_after}
use Rattle.records.proofs.Maps.{found_again}

short_under : (test lower : Bool) (one : NamedFile) (name : List ℕ) (file : File) (more : Files)
    → is_long one.file.spec ≡ false → AreShort more → is_long file.spec ≡ false → AreShort (with_file name file more)
    → AreShort (if test then record { name = name; file = file } ∷ more else
    if lower then one ∷ with_file name file more else record { name = name; file = file } ∷ one ∷ more)
short_under true lower one name file more own rest short deeper = (short, rest)
short_under false true one name file more own rest short deeper = (own, deeper)
short_under false false one name file more own rest short deeper = (short, (own, rest))

pub with_short_file : (name : List ℕ) (file : File) (files : Files) → AreShort files → is_long file.spec ≡ false
    → AreShort (with_file name file files)
with_short_file name file [] are short = (short, tt)
with_short_file name file (one ∷ more) are short =
    short_under (same_bytes one.name name) (is_lt (bytes_cmp one.name name)) one name file more are.0 are.1 short
    (with_short_file name file more are.1 short)

short_at : (test : Bool) (one : NamedFile) (rest : Option File) (file : File) → is_long one.file.spec ≡ false
    → (rest ≡ Some file → is_long file.spec ≡ false) → (if test then Some one.file else rest) ≡ Some file
    → is_long file.spec ≡ false
short_at true one rest file own deeper is =
    let same : one.file ≡ file = cc is in
    ap (λ (f : File). is_long f.spec) (sym same) ∙ own
short_at false one rest file own deeper is = deeper is

pub there_is_short : (name : List ℕ) (file : File) (files : Files) → AreShort files → file_at name files ≡ Some file
    → is_long file.spec ≡ false
there_is_short name file [] are is = absurd cc
there_is_short name file (one ∷ more) are is =
    short_at (same_bytes one.name name) one (file_at name more) file are.0 (there_is_short name file more are.1) is

-- a change keeps the spec
inserted_spec : (taken : Bool) (file after : File) (outcome outcome' : Outcome) → after.spec ≡ file.spec
    → (if taken then without_change outcome file else record { outcome = outcome'; file = after }).file.spec
    ≡ file.spec
inserted_spec true file after outcome outcome' is = refl
inserted_spec false file after outcome outcome' is = is

insertion_spec : (number : ℕ) (bytes : List ℕ) (file : File) → (insertion number bytes file).file.spec ≡ file.spec
insertion_spec number bytes file = inserted_spec
    (has_prime file (new_row file number bytes) || is_taken file.spec.alternates file.rows bytes) file _ _ _ refl

replaced_spec : (pair : Pair) (bytes : List ℕ) (file : File) (row : Option Row)
    → (replaced_row pair bytes file row).file.spec ≡ file.spec
replaced_spec pair bytes file None = refl
replaced_spec pair bytes file (Some row) = inserted_spec (is_taken (filter (changes row.bytes bytes)
    file.spec.alternates) (without_pair file.spec.organization pair file.rows) bytes) file _ _ _ refl

replacement_spec : (number : ℕ) (bytes : List ℕ) (file : File) → (replacement number bytes file).file.spec ≡ file.spec
replacement_spec number bytes file = replaced_spec (named_pair file.spec.organization number bytes) bytes file
    (row_at file.spec.organization (named_pair file.spec.organization number bytes) file.rows)

removed_spec : (pair : Pair) (file : File) (row : Option Row) → (removed_row pair file row).file.spec ≡ file.spec
removed_spec pair file None = refl
removed_spec pair file (Some row) = refl

short_if : (changed : Bool) (files after : Files) → AreShort files → AreShort after
    → AreShort (if changed then after else files)
short_if true files after are short = short
short_if false files after are short = are

changed_short : (name : List ℕ) (file : File) (files : Files) (change : FileChange) → change.file.spec ≡ file.spec
    → AreShort files → file_at name files ≡ Some file → AreShort (files_after name files change)
changed_short name file files change same are there =
    short_if (is_change change.outcome) files (with_file name change.file files) are
    (with_short_file name change.file files are (ap is_long same ∙ there_is_short name file files are there))

pub created_short : (name : List ℕ) (spec : Spec) (files : Files) → AreShort files → is_long spec ≡ false
    → AreShort (with_file name (empty_file spec) files)
created_short name spec files are short = with_short_file name (empty_file spec) files are short

pub inserted_short : (name : List ℕ) (file : File) (files : Files) (number : ℕ) (bytes : List ℕ) → AreShort files
    → file_at name files ≡ Some file → AreShort (files_after name files (insertion number bytes file))
inserted_short name file files number bytes =
    changed_short name file files (insertion number bytes file) (insertion_spec number bytes file)

pub replaced_short : (name : List ℕ) (file : File) (files : Files) (number : ℕ) (bytes : List ℕ) → AreShort files
    → file_at name files ≡ Some file → AreShort (files_after name files (replacement number bytes file))
replaced_short name file files number bytes =
    changed_short name file files (replacement number bytes file) (replacement_spec number bytes file)

pub removed_short : (name : List ℕ) (file : File) (files : Files) (pair : Pair) → AreShort files
    → file_at name files ≡ Some file → AreShort (files_after name files (removal pair file))
removed_short name file files pair = changed_short name file files (removal pair file)
    (removed_spec pair file (row_at file.spec.organization pair file.rows))

pub none_long : (is_new : Bool) (name : List ℕ) (files : Files) → AreShort files → MakesLong is_new name files → ⊥
none_long is_new name files are makes =
    let short = there_is_short name makes.file files are makes.there in
    let long = makes.long in
    cc (short, long)

pub long_is_made : (name : List ℕ) (spec : Spec) (files : Files) → is_long spec ≡ true
    → MakesLong true name (with_file name (empty_file spec) files)
long_is_made name spec files long = record {
  made = refl;
  file = empty_file spec;
  there = found_again name (empty_file spec) files;
  long = long;
}

pub made_is_long : (is_new : Bool) (name : List ℕ) (spec : Spec) (files : Files)
    → MakesLong is_new name (with_file name (empty_file spec) files) → is_long spec ≡ true
made_is_long is_new name spec files makes =
    let found = found_again name (empty_file spec) files in
    let some : Some makes.file ≡ Some (empty_file spec) = sym makes.there ∙ found in
    let same : makes.file ≡ empty_file spec = cc some in
    ap (λ (f : File). is_long f.spec) (sym same) ∙ makes.long
