-- A file of a map before and after a change of a row.
use Rattle.std.proofs.Common.{◌≡◌, ◌<◌, ◌≤◌, ◌+◌, ◌%◌, ◌^◌, ◌++◌, Bool, true, ℕ, List, [], length, sym, ap, subst}
use Rattle.std.proofs.Common.{◌∙◌, arith}
use Rattle.std.specs.Prelude.{map, take, drop, Option, Some, None, IsSome, is_some, if◌then◌else◌}
use Rattle.std.specs.List.{AllByRecursion, flat_map}
use Rattle.byteorder.specs.Endian.{big_number}
use Rattle.station.specs.Disk.{Sector}
use Rattle.pages.specs.Image.{Map}
use Rattle.pages.specs.Pages.{map_now, catalog_of, next_generation, SameCommitted}
use Rattle.pages.specs.declared.page_map.PageMap.{PageMap}
use Rattle.btree.specs.Entries.{Entry, entry_with, with_value}
use Rattle.records.specs.declared.file_spec.FileSpec.{FileSpec}
use Rattle.records.specs.Spec.{Spec, is_name}
use Rattle.records.specs.Changes.{FileChange}
use Rattle.records.specs.Files.{File, Files, NamedFile, AreFiles, AreShort, IsByte, file_at, with_file}
use Rattle.records.specs.Stores.{Has, spec_of, is_change, files_after, pair_of}
use Rattle.records.proofs.Changed.{inserted_are_files, replaced_are_files, removed_are_files}
use Rattle.records.proofs.Short.{inserted_short, replaced_short, removed_short}
use Rattle.file_bytes.specs.Description.{padded_name}
use Rattle.volume_format.specs.Catalog.{catalog_value}
use Rattle.volume_format.specs.Forest.{TreeLevels}
use Rattle.volume_format.specs.Grows.{IsTreeAmong}
use Rattle.volume_format.specs.Volume.{MapHolds, trees_of, catalog_entry}
use Rattle.alternate_keys.specs.declared.row_verb.RowVerb.{RowVerb}
use Rattle.alternate_keys.specs.declared.row_verb.RowVerb.TheVariants.{Insert, Replace, Remove}
use Rattle.alternate_keys.specs.Listed.{catalog_at}
use Rattle.alternate_keys.specs.Moved.{IsAsked, changed_by, named_after}
use Rattle.alternate_keys.specs.Placed.{HasFileTrees, HasTrees}
use Rattle.alternate_keys.proofs.Placing.{found_in, left_of, right_of, entry_of_name, trees_in, catalog_among}
use Rattle.alternate_keys.proofs.Placing.{listing_read, rows_read, holds_then}
use Rattle.alternate_keys.proofs.Splits.{Found}

-- the files after a change are files
are_files : (verb : RowVerb) (name : List ℕ) (file : File) (files : Files) (number : ℕ) (bytes : List ℕ)
    → AreFiles files → file_at name files ≡ Some file → IsAsked verb file.spec number bytes
    → AllByRecursion IsByte bytes →
    AreFiles (files_after name files (changed_by verb file.spec.organization number bytes file))
are_files Insert name file files number bytes are there asked low =
    inserted_are_files name file files number bytes are there asked.0 asked.1 low
are_files Replace name file files number bytes are there asked low =
    replaced_are_files name file files number bytes are there asked low
are_files Remove name file files number bytes are there asked low =
    removed_are_files name file files (pair_of file.spec.organization bytes number) are there

-- of a file that a caller means
pub are_then : (verb : RowVerb) (file : FileSpec) (files : Files) (held : File) → AreFiles files → Has files file held
    → (number : ℕ) (bytes : List ℕ) → IsAsked verb (spec_of file) number bytes → AllByRecursion IsByte bytes
    → AreFiles (files_after file.name.items files (changed_by verb file.organization number bytes held))
are_then verb file files held are has number bytes asked low =
    subst
    (λ (s : Spec). AreFiles (files_after file.name.items files (changed_by verb s.organization number bytes held)))
    has.spec
    (are_files verb file.name.items held files number bytes are has.there
    (subst (λ (s : Spec). IsAsked verb s number bytes) (sym has.spec) asked) low)

-- and with short records alone, if they were
are_short : (verb : RowVerb) (name : List ℕ) (file : File) (files : Files) (number : ℕ) (bytes : List ℕ)
    → AreShort files → file_at name files ≡ Some file
    → AreShort (files_after name files (changed_by verb file.spec.organization number bytes file))
are_short Insert name file files number bytes short there = inserted_short name file files number bytes short there
are_short Replace name file files number bytes short there = replaced_short name file files number bytes short there
are_short Remove name file files number bytes short there =
    removed_short name file files (pair_of file.spec.organization bytes number) short there

pub short_then : (verb : RowVerb) (file : FileSpec) (files : Files) (held : File) → Has files file held
    → (number : ℕ) (bytes : List ℕ) → AreShort files
    → AreShort (files_after file.name.items files (changed_by verb file.organization number bytes held))
short_then verb file files held has number bytes short =
    subst
    (λ (s : Spec). AreShort (files_after file.name.items files (changed_by verb s.organization number bytes held)))
    has.spec (are_short verb file.name.items held files number bytes short has.there)

some_clash : (x : Option Entry) (e : Entry) → x ≡ Some e → x ≡ None → ⊥
some_clash x e some none = cc

-- the map after it, in the next generation
abbrev pub map_with : ℕ → ℕ → ℕ → List (Option Sector) → Map
map_with mark generation catalog pages =
    record { mark = mark; generation = generation; catalog = catalog; pages = pages }

next_map : (p q : PageMap) (image : List Sector) → SameCommitted p q → catalog_of q ≡ catalog_of p
    → map_with (map_now p image).mark ((map_now p image).generation + 1) (map_now p image).catalog
    (map_now q image).pages ≡ next_generation (map_now q image)
next_map p q image same catalog =
    ap (λ v. map_with (map_now p image).mark (v.generation + 1) (map_now p image).catalog (map_now q image).pages)
    (sym same.volume)
    ∙ ap (λ (n : ℕ). map_with n ((map_now q image).generation + 1) (map_now p image).catalog (map_now q image).pages)
    (sym same.mark)
    ∙ ap (λ (n : ℕ). map_with (map_now q image).mark ((map_now q image).generation + 1) n (map_now q image).pages)
    (sym catalog)

module _ (m : Map) (files : Files) (holds : MapHolds m files) (name : List ℕ) (held : File)
    (named : is_name name ≡ true) (there : file_at name files ≡ Some held) where
  abbrev pub own : Found name holds.kept held
  own = found_in m files holds name held there

  abbrev pub named_here : NamedFile
  named_here = record { name = name; file = held }

  module _ (answer : Option Entry)
      (told : answer ≡ entry_with (map (catalog_entry m.mark) holds.kept) (padded_name name)) where
    entry_is : answer ≡ Some (catalog_entry m.mark own.one)
    entry_is = told ∙ entry_of_name m files holds name held own named

    -- it is listed
    pub never_none : answer ≡ None → ⊥
    never_none none = some_clash answer (catalog_entry m.mark own.one) entry_is none

    own_entry : (entry : Entry) → answer ≡ Some entry → entry ≡ catalog_entry m.mark own.one
    own_entry entry some = let joined : Some entry ≡ Some (catalog_entry m.mark own.one) = sym some ∙ entry_is in cc

    pub trees_at : (spec : Spec) (listing : List ℕ) (entry : Entry) → held.spec ≡ spec → m.generation < 2 ^ 63
        → length m.pages ≤ 921600 → answer ≡ Some entry → listing ≡ take 83 entry.value →
        HasTrees spec named_here m.generation m.pages (left_of m files holds name held own)
        (right_of m files holds name held own) listing
    trees_at spec listing entry spec_is few small some value =
        trees_in m files holds name held spec listing own spec_is few (omega (arith, small))
        (value ∙ ap (λ (e : Entry). take 83 e.value) (own_entry entry some) ∙ listing_read m files holds name held own)

    -- on a volume with the second mark it has the number of rows
    pub rows_at : (entry : Entry) → answer ≡ Some entry → 0 < m.mark
        → big_number 8 (drop 83 entry.value) ≡ length held.rows % 2 ^ 64
    rows_at entry some second = ap (λ (e : Entry). big_number 8 (drop 83 e.value)) (own_entry entry some)
        ∙ rows_read m files holds name held own second

  pub some_entry : IsSome (entry_with (map (catalog_entry m.mark) holds.kept) (padded_name name))
  some_entry = ap (λ (o : Option Entry). is_some o) (entry_of_name m files holds name held own named)

  module _ (changed : FileChange) (between : List (Option Sector)) (listing : List ℕ)
      (placed : HasFileTrees (named_after named_here changed) (m.generation + 1) between
      (left_of m files holds name held own) (right_of m files holds name held own) listing) where
    abbrev pub around : List TreeLevels
    around = flat_map trees_of own.split.before ++ (trees_of placed.kept ++ flat_map trees_of own.split.after)

    pub catalog_stands : (catalog : ℕ) → catalog ≡ m.catalog
        → IsTreeAmong between [] around (catalog_at m.mark catalog) (map (catalog_entry m.mark) holds.kept)
    catalog_stands catalog same =
        subst (λ (n : ℕ). IsTreeAmong between [] around (catalog_at m.mark n) (map (catalog_entry m.mark) holds.kept))
        (sym same)
        (catalog_among m files holds name held own (named_after named_here changed) (m.generation + 1) between listing
        placed)

    pub holds_after : (pages : List (Option Sector)) (catalog : ℕ) (value : List ℕ)
        → value ≡ catalog_value m.mark listing (length changed.file.rows)
        → IsTreeAmong pages [] around (catalog_at m.mark catalog)
        (with_value (map (catalog_entry m.mark) holds.kept) (record { key = padded_name name; value = value })) →
        is_change changed.outcome ≡ true → AreFiles (files_after name files changed)
        → (m.mark ≡ 0 → AreShort (files_after name files changed))
        → MapHolds (map_with m.mark (m.generation + 1) catalog pages) (files_after name files changed)
    holds_after pages catalog value valued stands change are short =
        let after : files_after name files changed ≡ with_file name changed.file files =
        ap (λ (b : Bool). if b then with_file name changed.file files else files) change in
        subst (λ (l : Files). MapHolds (map_with m.mark (m.generation + 1) catalog pages) l) (sym after)
        (holds_then m files holds name held own changed.file between pages catalog listing value placed stands valued
        named
        (subst AreFiles after are) (λ first. subst AreShort after (short first)))

  pub will_hold : (p q : PageMap) (image : List Sector) (changed : FileChange)
      → map_now p image ≡ m → SameCommitted p q → catalog_of q ≡ catalog_of p
      → MapHolds (map_with m.mark (m.generation + 1) m.catalog (map_now q image).pages) (files_after name files changed)
      →
      MapHolds (next_generation (map_now q image)) (files_after name files changed)
  will_hold p q image changed is same catalog holds_now =
      subst (λ (n : Map). MapHolds n (files_after name files changed)) (next_map p q image same catalog)
      (subst (λ (n : Map). MapHolds (map_with n.mark (n.generation + 1) n.catalog (map_now q image).pages)
      (files_after name files changed)) (sym is) holds_now)
