-- A file among those of a map: its trees between those of others, and the map after a change of it.
use Rattle.std.proofs.Common.{◌≡◌, ◌<◌, ◌≤◌, ◌+◌, ◌%◌, ◌^◌, ◌++◌, Bool, true, ℕ, List, [], ◌∷◌, length, sym, ap}
use Rattle.std.proofs.Common.{subst, ◌∙◌, arith}
use Rattle.std.specs.Prelude.{map, take, drop, Option, Some, if◌then◌else◌}
use Rattle.std.specs.List.{All, AllByRecursion, flat_map}
use Rattle.std.specs.List.Sorted.{IsStrictlySortedBy}
use Rattle.std.specs.Ordering.{is_eq}
use Rattle.std.specs.declared.cmp.Ordering.{Ordering}
use Rattle.std.specs.declared.cmp.Ordering.TheVariants.{Less}
use Rattle.std.proofs.lemmas.List.Elements.{All-append, All-cons, All-tail, All-weaker}
use Rattle.std.proofs.lemmas.Grind.{flat_map-append}
use Rattle.std.proofs.lemmas.List.{length-map}
use Rattle.byteorder.specs.Endian.{big_number}
use Rattle.station.specs.Disk.{Sector}
use Rattle.pages.specs.Image.{Map}
use Rattle.btree_pages.specs.Keys.{key_cmp}
use Rattle.btree.specs.Entries.{Entry, entry_with, with_value}
use Rattle.records.specs.Spec.{Spec, is_name}
use Rattle.records.specs.Rows.{bytes_cmp}
use Rattle.records.specs.Files.{File, Files, NamedFile, IsNamed, AreFiles, AreShort, names, file_at, with_file}
use Rattle.records.proofs.Maps.{same_itself}
use Rattle.file_bytes.specs.Description.{padded_name}
use Rattle.volume_format.specs.Catalog.{ValueReads, listing_bytes, catalog_value}
use Rattle.volume_format.specs.Forest.{TreeLevels, IsForest}
use Rattle.volume_format.specs.Grows.{IsTreeAmong}
use Rattle.volume_format.specs.Volume.{FileTrees, IsKept, MapHolds, trees_of, catalog_entry, catalog_tree, listing_of}
use Rattle.volume_format.proofs.Forests.{all_left, all_right}
use Rattle.volume_format.proofs.Listings.{long}
use Rattle.volume_format.proofs.Names.{names_in_order}
use Rattle.volume_format.proofs.Values.{reads_back}
use Rattle.alternate_keys.specs.Listed.{catalog_at}
use Rattle.alternate_keys.specs.Placed.{HasFileTrees, HasTrees}
use Rattle.alternate_keys.proofs.Splits.{Found, named_of, found_of, put_at, value_at}

-- its entry of the catalog
entry_in : (mark : ℕ) (name : List ℕ) (before : List FileTrees) (one : FileTrees) (after : List FileTrees)
    → is_name name ≡ true
    → one.named.name ≡ name → AllByRecursion (λ (k : FileTrees). bytes_cmp k.named.name name ≡ Less) before →
    AllByRecursion (λ (k : FileTrees). is_name k.named.name ≡ true) before
    → entry_with (map (catalog_entry mark) (before ++ one ∷ after)) (padded_name name) ≡ Some (catalog_entry mark one)
entry_in mark name [] one after named same lower all =
    let equal : is_eq (key_cmp (padded_name one.named.name) (padded_name name)) ≡ true =
    ap (λ (n : List ℕ). is_eq (key_cmp (padded_name n) (padded_name name))) same ∙ same_itself (padded_name name) in
    ap (λ (b : Bool). if b then Some (catalog_entry mark one)
    else entry_with (map (catalog_entry mark) after) (padded_name name))
    equal
entry_in mark name (k ∷ before) one after named same lower all =
    let rest : Option Entry = entry_with (map (catalog_entry mark) (before ++ one ∷ after)) (padded_name name) in
    let less : key_cmp (padded_name k.named.name) (padded_name name) ≡ Less =
    names_in_order k.named.name name all.0 named ∙ lower.0 in
    ap (λ (o : Ordering). if is_eq o then Some (catalog_entry mark k) else rest) less
    ∙ entry_in mark name before one after named same lower.1 all.1

names_of : (kept : List FileTrees) → AllByRecursion IsNamed (named_of kept)
    → AllByRecursion (λ (k : FileTrees). is_name k.named.name ≡ true) kept
names_of [] all = tt
names_of (k ∷ kept) all = (all.0.name, names_of kept all.1)

first_names : (before after : List FileTrees) → AllByRecursion IsNamed (named_of (before ++ after))
    → AllByRecursion IsNamed (named_of before)
first_names [] after all = tt
first_names (k ∷ before) after all = (all.0, first_names before after all.1)

pub own_named : (before : List FileTrees) (one : FileTrees) (after : List FileTrees)
    → AllByRecursion IsNamed (named_of (before ++ one ∷ after)) → IsNamed one.named
own_named [] one after all = all.0
own_named (k ∷ before) one after all = own_named before one after all.1

-- where a file stands among those that a map holds
pub found_in : (m : Map) (files : Files) (holds : MapHolds m files) (name : List ℕ) (held : File)
    → file_at name files ≡ Some held → Found name holds.kept held
found_in m files holds name held there =
    found_of name holds.kept held (subst (λ (l : Files). IsStrictlySortedBy bytes_cmp (names l)) (sym holds.named)
    holds.are.ascend) (subst (λ (l : Files). file_at name l ≡ Some held) (sym holds.named) there)

abbrev pub left_of : (m : Map) (files : Files) (holds : MapHolds m files) (name : List ℕ) (held : File)
    → Found name holds.kept held → List TreeLevels
left_of m files holds name held found = catalog_tree m holds.keeps.catalog ∷ flat_map trees_of found.split.before

abbrev pub right_of : (m : Map) (files : Files) (holds : MapHolds m files) (name : List ℕ) (held : File)
    → Found name holds.kept held → List TreeLevels
right_of m files holds name held found = flat_map trees_of found.split.after

all_named : (m : Map) (files : Files) (holds : MapHolds m files) (name : List ℕ) (held : File)
    → (found : Found name holds.kept held)
    → AllByRecursion IsNamed (named_of (found.split.before ++ found.one ∷ found.split.after))
all_named m files holds name held found =
    subst (λ (l : List FileTrees). AllByRecursion IsNamed (named_of l)) found.split.is
    (subst (λ (l : Files). AllByRecursion IsNamed l) (sym holds.named) holds.are.each)

pub entry_of_name : (m : Map) (files : Files) (holds : MapHolds m files) (name : List ℕ) (held : File)
    → (found : Found name holds.kept held) → is_name name ≡ true
    → entry_with (map (catalog_entry m.mark) holds.kept) (padded_name name) ≡ Some (catalog_entry m.mark found.one)
entry_of_name m files holds name held found named =
    let split = found.split in
    ap (λ (l : List FileTrees). entry_with (map (catalog_entry m.mark) l) (padded_name name)) split.is
    ∙ entry_in m.mark name split.before found.one split.after named split.same split.lower (names_of split.before
    (first_names split.before (found.one ∷ split.after) (all_named m files holds name held found)))

-- what its value says
value_of : (m : Map) (files : Files) (holds : MapHolds m files) (name : List ℕ) (held : File)
    → (found : Found name holds.kept held)
    → ValueReads m.mark (listing_bytes (listing_of found.one)) (length found.one.named.file.rows)
value_of m files holds name held found =
    let split = found.split in
    let each : All (IsKept m.generation) (split.before ++ found.one ∷ split.after) =
    subst (λ (l : List FileTrees). All (IsKept m.generation) l) split.is holds.keeps.each in
    let is = all_right (IsKept m.generation) split.before (found.one ∷ split.after) each 0 found.one (omega arith) in
    let sound = own_named split.before found.one split.after (all_named m files holds name held found) in
    reads_back m.mark (listing_bytes (listing_of found.one)) (length found.one.named.file.rows)
    (long (listing_of found.one) sound.file.spec (length-map found.one.alternates
    (λ (tree : TreeLevels). tree.tree.root) ∙ is.count))

-- the listing in it
pub listing_read : (m : Map) (files : Files) (holds : MapHolds m files) (name : List ℕ) (held : File)
    → (found : Found name holds.kept held)
    → take 83 (catalog_entry m.mark found.one).value ≡ listing_bytes (listing_of found.one)
listing_read m files holds name held found = (value_of m files holds name held found).head

-- and the number of rows
pub rows_read : (m : Map) (files : Files) (holds : MapHolds m files) (name : List ℕ) (held : File)
    → (found : Found name holds.kept held) → 0 < m.mark
    → big_number 8 (drop 83 (catalog_entry m.mark found.one).value) ≡ length held.rows % 2 ^ 64
rows_read m files holds name held found second = (value_of m files holds name held found).count second
    ∙ ap (λ (f : File). length f.rows % 2 ^ 64) found.file_is

abbrev named_as : List ℕ → File → NamedFile
named_as name file = record { name = name; file = file }

named_is : (name : List ℕ) (held : File) (one : NamedFile) → one.name ≡ name → one.file ≡ held
    → one ≡ named_as name held
named_is name held one first second = ap (λ (n : List ℕ). named_as n one.file) first ∙ ap (named_as name) second

pub trees_in :
    (m : Map) (files : Files) (holds : MapHolds m files) (name : List ℕ) (held : File) (spec : Spec) (listing : List ℕ)
    → (found : Found name holds.kept held) → held.spec ≡ spec → m.generation < 2 ^ 63 → length m.pages ≤ 2 ^ 20 →
    listing ≡ listing_bytes (listing_of found.one) → HasTrees spec (record { name = name; file = held }) m.generation
    m.pages (left_of m files holds name held found) (right_of m files holds name held found) listing
trees_in m files holds name held spec listing found spec_is few small says =
    let split = found.split in
    let here : found.one.named ≡ named_as name held = named_is name held found.one.named split.same found.file_is in
    let parted : flat_map
    trees_of holds.kept ≡ flat_map trees_of split.before ++ (trees_of found.one ++ flat_map trees_of split.after) =
    ap (flat_map trees_of) split.is ∙ flat_map-append trees_of split.before (found.one ∷ split.after) in
    let each : All (IsKept m.generation) (split.before ++ found.one ∷ split.after) =
    subst (λ (l : List FileTrees). All (IsKept m.generation) l) split.is holds.keeps.each in
    let own = all_right (IsKept m.generation) split.before (found.one ∷ split.after) each in
    record {
      placed = record {
        kept = found.one;
        named_is = here;
        forest = subst (λ (ts : List TreeLevels). IsForest m.pages (catalog_tree m holds.keeps.catalog ∷ ts)) parted
            holds.keeps.forest;
        is = own 0 found.one (omega arith);
        says = says;
      };
      is_named =
          subst IsNamed here (own_named split.before found.one split.after (all_named m files holds name held found));
      spec_is = spec_is;
      few = few;
      small = small;
    }

-- the catalog beside all other trees
pub catalog_among : (m : Map) (files : Files) (holds : MapHolds m files) (name : List ℕ) (held : File)
    → (found : Found name holds.kept held)
    → (named : NamedFile) (generation : ℕ) (pages : List (Option Sector)) (listing : List ℕ) →
    (placed : HasFileTrees named generation pages (left_of m files holds name held found)
    (right_of m files holds name held found) listing) →
    IsTreeAmong pages [] (flat_map trees_of found.split.before ++ (trees_of placed.kept
    ++ flat_map trees_of found.split.after)) (catalog_at m.mark m.catalog) (map (catalog_entry m.mark) holds.kept)
catalog_among m files holds name held found named generation pages listing placed =
    record { levels = holds.keeps.catalog; forest = placed.forest; listed = holds.keeps.listed }

-- a file is kept in the next generation
pub next_kept : (generation : ℕ) (k : FileTrees) → IsKept generation k → IsKept (generation + 1) k
next_kept generation k is = record {
  layout = is.layout;
  form = is.form;
  rows = is.rows;
  count = is.count;
  indexes = is.indexes;
  arrivals = let low = is.arrivals in omega (arith, low);
}

-- The map of the next generation, after the file became another and the catalog says so.
pub holds_then : (m : Map) (files : Files) (holds : MapHolds m files) (name : List ℕ) (held : File)
    → (found : Found name holds.kept held)
    → (after : File) (between pages : List (Option Sector)) (catalog : ℕ) (listing value : List ℕ) →
    (placed : HasFileTrees (record { name = name; file = after }) (m.generation + 1) between
    (left_of m files holds name held found) (right_of m files holds name held found) listing) →
    IsTreeAmong pages [] (flat_map trees_of found.split.before
    ++ (trees_of placed.kept ++ flat_map trees_of found.split.after)) (catalog_at m.mark catalog)
    (with_value (map (catalog_entry m.mark) holds.kept) (record { key = padded_name name; value = value })) →
    value ≡ catalog_value m.mark listing (length after.rows)
    → is_name name ≡ true → AreFiles (with_file name after files) → (m.mark ≡ 0 → AreShort (with_file name after files))
    → MapHolds
    (record { mark = m.mark; generation = m.generation + 1; catalog = catalog; pages = pages })
    (with_file name after files)
holds_then m files holds name held found after between pages catalog listing value placed stands valued named are
    short =
    let split = found.split in
    let new : FileTrees = placed.kept in
    let next : Map = record { mark = m.mark; generation = m.generation + 1; catalog = catalog; pages = pages } in
    let own : new.named.name ≡ name = ap (λ (n : NamedFile). n.name) placed.named_is in
    let file_is : new.named.file ≡ after = ap (λ (n : NamedFile). n.file) placed.named_is in
    let all : AllByRecursion (λ (k : FileTrees). is_name k.named.name ≡ true) split.before = names_of split.before
    (first_names split.before (found.one ∷ split.after) (all_named m files holds name held found)) in
    let P : FileTrees → Type 0 = IsKept m.generation in
    let Q : FileTrees → Type 0 = IsKept (m.generation + 1) in
    let each : All P (split.before ++ found.one ∷ split.after) =
    subst (λ (l : List FileTrees). All P l) split.is holds.keeps.each in
    let older : All Q (split.before ++ found.one ∷ split.after) =
    All-weaker P Q (next_kept m.generation) (split.before ++ found.one ∷ split.after) each in
    let lefts : All Q split.before = all_left Q split.before (found.one ∷ split.after) older in
    let rights : All Q split.after =
    All-tail Q found.one split.after (all_right Q split.before (found.one ∷ split.after) older) in
    let spelled : List ℕ → File → List ℕ = λ l file. catalog_value m.mark l (length file.rows) in
    let entry : catalog_entry m.mark new ≡ entry_as (padded_name name) value =
    ap (λ (n : List ℕ). entry_as (padded_name n) (spelled (listing_bytes (listing_of new)) new.named.file)) own
    ∙ ap (λ (l : List ℕ). entry_as (padded_name name) (spelled l new.named.file)) (sym placed.says)
    ∙ ap (λ (f : File). entry_as (padded_name name) (spelled listing f)) file_is
    ∙ ap (entry_as (padded_name name)) (sym valued) in
    record {
      kept = split.before ++ new ∷ split.after;
      keeps = record {
        catalog = stands.levels;
        forest = subst (λ (ts : List TreeLevels). IsForest pages (catalog_tree next stands.levels ∷ ts))
            (sym (flat_map-append trees_of split.before (new ∷ split.after))) stands.forest;
        listed = stands.listed ∙ ap (λ (e : Entry). with_value (map (catalog_entry m.mark) holds.kept) e) (sym entry)
            ∙ value_at m.mark name holds.kept found.one new split named own all;
        each = All-append Q split.before (new ∷ split.after) lefts (All-cons Q new split.after placed.is rights);
      };
      named = sym (put_at name holds.kept found.one new split own) ∙ ap (λ (l : Files). with_file name new.named.file l)
          holds.named ∙ ap (λ (f : File). with_file name f files) file_is;
      are = are;
      short = short;
    }
  where
    entry_as : List ℕ → List ℕ → Entry
    entry_as key value = record { key = key; value = value }
