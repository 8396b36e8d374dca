-- The files that are still to be read.
use Rattle.std.proofs.Common.{◌≡◌, ◌≤◌, ◌<◌, ◌+◌, ◌*◌, ◌^◌, ℕ, List, [], ◌∷◌, ◌++◌, length, map, drop, append_assoc}
use Rattle.std.proofs.Common.{refl, sym, ◌∙◌, ap, subst, arith}
use Rattle.std.specs.Prelude.{Option, Some, None, Ok, IfSome}
use Rattle.std.specs.List.{AllByRecursion}
use Rattle.std.proofs.Math.Nat.{mul-le-mul_left}
use Rattle.std.proofs.lemmas.List.{drop-drop, length-drop, append-nil, map-append}
use Rattle.byteorder.specs.Endian.{big_number}
use Rattle.records.specs.declared.file_spec.FileSpec.{FileSpec}
use Rattle.records.specs.Files.{Files, NamedFile, IsNamed}
use Rattle.records.specs.Rows.{Row}
use Rattle.records.specs.Spec.{Spec}
use Rattle.records.specs.Stores.{spec_of}
use Rattle.half_store.specs.Half.{AreEarly}
use Rattle.file_bytes.specs.Read.{IfRead}
use Rattle.file_bytes.proofs.Several.{one_more}
use Rattle.half_store.specs.Read.{row_size, first_row, rows_in}
use Rattle.half_store.specs.Readable.{IsReadable}
use Rattle.half_store.specs.Spelled.{file_bytes, files_bytes}
use Rattle.file_bytes.specs.Stored.{row_of}
use Rattle.file_bytes.specs.declared.stored.StoredRow.{StoredRow}
use Rattle.half_store.proofs.ReadFile.{next_is, long, count_is, rows_are, rest_is}

pub stepped : (at size k place : ℕ) → place ≡ at + size * k → place + size ≡ at + size * (k + 1)
stepped at size k place is = omega (arith, is)

pub passed : (at size k count place : ℕ) → place ≡ at + size * k → k < count → place + size ≤ at + size * count
passed at size k count place is lt = let e : size * (k + 1) ≤ size * count =
    mul-le-mul_left size (let le : k + 1 ≤ count = omega (arith, lt) in le) in omega (arith, is, e)

-- nothing was read
pub from_none : {A : Type 0} (found : Option A) (so : A → Type 0) → ((x : A) → found ≡ Some x → ⊥)
    → IfRead (Ok found) so → ⊥
from_none None so never read = read
from_none (Some x) so never read = never x refl

pub is_none : {A : Type 0} (found : Option A) → ((x : A) → found ≡ Some x → ⊥) → found ≡ None
is_none None never = refl
is_none (Some x) never = absurd (never x refl)

-- this was read
pub read_some : {A : Type 0} (found : Option A) (x : A) (so : A → Type 0) → found ≡ Some x → IfRead (Ok found) so → so x
read_some found x so is read = subst (λ o. IfRead (Ok o) so) is read

pub if_some : {A : Type 0} (found : Option A) (x : A) (so : A → Type 0) → found ≡ Some x → IfSome found so → so x
if_some found x so is told = subst (λ o. IfSome o so) is told

-- one more row was read
pub row_more : (spec : Spec) (bytes : List ℕ) (at k place : ℕ) (old new : List StoredRow) (row : StoredRow)
    → place ≡ at + row_size spec * k → map row_of old ≡ rows_in spec k (drop at bytes)
    → row_of row ≡ first_row spec (drop place bytes) → new ≡ old ++ row ∷ []
    → map row_of new ≡ rows_in spec (k + 1) (drop at bytes)
row_more spec bytes at k place old new row is so_far row_is added =
    one_more (row_size spec) (first_row spec) k (drop at bytes) (map row_of old) (map row_of new) (row_of row) so_far
    (row_is ∙ ap (λ (n : ℕ). first_row spec (drop n bytes)) is
    ∙ ap (first_row spec) (sym (drop-drop (row_size spec * k) at bytes)))
    (ap (map row_of) added ∙ map-append row_of old (row ∷ []))

-- a file of the bytes from a place on
module _ (bytes : List ℕ) (at : ℕ) (one : NamedFile) (more : List ℕ) (good : IsReadable one)
    (is : drop at bytes ≡ file_bytes one ++ more) (few : length bytes < 2 ^ 64)
    (spec : FileSpec) (told : (spec.name.items ≡ one.name) × (spec_of spec ≡ one.file.spec)) (count : ℕ)
    (counted : count ≡ big_number 8 (drop (at + 113) bytes)) where
  short : length (drop at bytes) < 2 ^ 64
  short = omega (arith, few, length-drop at bytes)

  count_rows : count ≡ length one.file.rows
  count_rows =
      counted ∙ ap (big_number 8) (sym (drop-drop 113 at bytes)) ∙ count_is one more (drop at bytes) good is short

  sized : row_size (spec_of spec) * count ≡ row_size one.file.spec * length one.file.rows
  sized = ap (λ (s : Spec). row_size s * count) told.1 ∙ ap (λ (n : ℕ). row_size one.file.spec * n) count_rows

  pub rows_there : length bytes < at + 121 + row_size (spec_of spec) * count → ⊥
  rows_there lt = let e : 121 + row_size one.file.spec * length one.file.rows ≤ length (drop at bytes) =
      long one more (drop at bytes) good is in
      ended (row_size (spec_of spec) * count) (row_size one.file.spec * length one.file.rows) sized lt e
    where
      ended : (m n : ℕ) → m ≡ n → length bytes < at + 121 + m → 121 + n ≤ length (drop at bytes) → ⊥
      ended m n same lt le = omega (arith, same, lt, le, length-drop at bytes)

  pub file_is : (rows : List StoredRow) (next : ℕ) → map row_of rows ≡ rows_in (spec_of spec) count
      (drop (at + 121) bytes) → next ≡ big_number 8 (drop (at + 105) bytes)
      → (let n : NamedFile = record {
        name = spec.name.items;
        file = record { spec = spec_of spec; rows = map row_of rows; next_arrival = next };
      } in n) ≡ one
  file_is rows next read arrival =
      ap (λ (l : List ℕ). let n : NamedFile =
      record { name = l; file = record { spec = spec_of spec; rows = map row_of rows; next_arrival = next } } in n)
      told.0
      ∙ ap (λ (l : List Row). let n : NamedFile =
      record { name = one.name; file = record { spec = spec_of spec; rows = l; next_arrival = next } } in n)
      (read ∙ ap (rows_in (spec_of spec) count) (sym (drop-drop 121 at bytes))
      ∙ ap (λ (s : Spec). rows_in s count (drop 121 (drop at bytes))) told.1
      ∙ ap (λ (k : ℕ). rows_in one.file.spec k (drop 121 (drop at bytes))) count_rows
      ∙ rows_are one more (drop at bytes) good is)
      ∙ ap (λ (s : Spec). let n : NamedFile =
      record { name = one.name; file = record { spec = s; rows = one.file.rows; next_arrival = next } } in n) told.1
      ∙ ap (λ (k : ℕ). let n : NamedFile =
      record { name = one.name; file = record { spec = one.file.spec; rows = one.file.rows; next_arrival = k } } in n)
      (arrival ∙ ap (big_number 8) (sym (drop-drop 105 at bytes)) ∙ next_is one more (drop at bytes) good is)

  pub end_is : (end : ℕ) → end ≡ at + 121 + row_size (spec_of spec) * count → drop end bytes ≡ more
  end_is end same = ap (λ (n : ℕ). drop n bytes) (same ∙ ap (λ (n : ℕ). at + 121 + n) sized ∙ (let e : at + 121
      + row_size one.file.spec * length one.file.rows ≡ at + (121 + row_size one.file.spec * length one.file.rows) =
      grouped (row_size one.file.spec * length one.file.rows) in e))
      ∙ sym (drop-drop (121 + row_size one.file.spec * length one.file.rows) at bytes)
      ∙ rest_is one more (drop at bytes) good is
    where
      grouped : (n : ℕ) → at + 121 + n ≡ at + (121 + n)
      grouped n = omega arith

-- these files were read, and the bytes spell the others
pub record IsRest (files done : Files) (bytes : List ℕ) : Type 0 where
  pub rest : Files
  pub all : files ≡ done ++ rest
  pub spells : bytes ≡ files_bytes rest
  pub each : AllByRecursion IsReadable rest

pub record IsNext (files done : Files) (bytes : List ℕ) : Type 0 where
  pub one : NamedFile
  pub more : Files
  pub all : files ≡ done ++ one ∷ more
  pub spells : bytes ≡ file_bytes one ++ files_bytes more
  pub good : IsReadable one
  pub each : AllByRecursion IsReadable more

pub next_of : (files done : Files) (bytes : List ℕ) → 0 < length bytes → IsRest files done bytes
    → IsNext files done bytes
next_of files done bytes lt rest = by rest.rest rest.all rest.spells rest.each
  where
    by : (others : Files) → files ≡ done ++ others → bytes ≡ files_bytes others → AllByRecursion IsReadable others
        → IsNext files done bytes
    by [] all spells each = absurd (omega (arith, lt, ap length spells))
    by (one ∷ more) all spells each =
        record { one = one; more = more; all = all; spells = spells; good = each.0; each = each.1 }

pub rest_of : (files done : Files) (bytes after : List ℕ) (next : IsNext files done bytes) (new : Files)
    → new ≡ done ++ next.one ∷ [] → after ≡ files_bytes next.more → IsRest files new after
rest_of files done bytes after next new is spells = record {
  rest = next.more;
  all = next.all ∙ sym (append_assoc done (next.one ∷ []) next.more) ∙ ap (λ (l : Files). l ++ next.more) (sym is);
  spells = spells;
  each = next.each;
}

pub all_read : (files done : Files) (bytes : List ℕ) → length bytes ≤ 0 → IsRest files done bytes → done ≡ files
all_read files done bytes none rest = by rest.rest rest.all rest.spells rest.each
  where
    by : (others : Files) → files ≡ done ++ others → bytes ≡ files_bytes others → AllByRecursion IsReadable others
        → done ≡ files
    by [] all spells each = sym (all ∙ append-nil done)
    by (one ∷ more) all spells each =
        absurd (let e = long one (files_bytes more) bytes each.0 spells in omega (arith, e, none))

-- files whose arrivals are early can be read
pub readable : (g : ℕ) (files : Files) → g < 2 ^ 63 → AllByRecursion IsNamed files → AreEarly g files
    → AllByRecursion IsReadable files
readable g [] lt each early = tt
readable g (one ∷ more) lt each early =
    (record { named = each.0; early = omega (arith, early.0, lt) }, readable g more lt each.1 early.1)
