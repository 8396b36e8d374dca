-- A new name among those that are kept.
use Rattle.std.proofs.Common.{◌≡◌, ◌+◌, ◌++◌, true, ℕ, List, [], ◌∷◌, length, refl, sym, ap, subst, ◌∙◌, arith}
use Rattle.std.specs.Prelude.{map, replicate, Option, Some, None, if◌then◌else◌}
use Rattle.std.specs.List.{All, AllByRecursion, flat_map}
use Rattle.std.specs.Ordering.{is_eq, is_lt}
use Rattle.std.specs.declared.cmp.Ordering.{Ordering}
use Rattle.std.specs.declared.cmp.Ordering.TheVariants.{Less, Equal, Greater}
use Rattle.std.proofs.lemmas.Grind.{flat_map-append}
use Rattle.std.proofs.lemmas.List.Elements.{All-append, All-cons, All-weaker}
use Rattle.station.specs.Disk.{Sector}
use Rattle.pages.specs.Image.{Map}
use Rattle.btree_pages.specs.Keys.{key_cmp}
use Rattle.btree.specs.Entries.{Entry, with_new_entry}
use Rattle.records.specs.Spec.{Spec, is_name}
use Rattle.records.specs.Rows.{bytes_cmp}
use Rattle.records.specs.Files.{File, Files, NamedFile, IsNamed, AreFiles, AreShort, empty_file, file_at, with_file}
use Rattle.file_bytes.specs.Description.{padded_name}
use Rattle.volume_format.specs.Catalog.{listing_bytes, catalog_value}
use Rattle.volume_format.specs.Forest.{TreeLevels, IsForest, tree_levels}
use Rattle.volume_format.specs.Grows.{IsTreeAmong}
use Rattle.volume_format.specs.Volume.{FileTrees, IsKept, MapHolds, trees_of, catalog_entry}
use Rattle.volume_format.proofs.Forests.{all_left, all_right}
use Rattle.volume_format.proofs.Names.{names_in_order}
use Rattle.alternate_keys.specs.Created.{empty_file_trees}
use Rattle.alternate_keys.specs.Listed.{catalog_at}
use Rattle.alternate_keys.proofs.Empties.{forest_with, empty_grow, empty_pages, empty_is, empty_says}
use Rattle.alternate_keys.proofs.Placing.{next_kept}
use Rattle.alternate_keys.proofs.Preparing.{map_with}
use Rattle.alternate_keys.proofs.Splits.{named_of}

-- the first of these has a greater name
abbrev pub Above : List ℕ → List FileTrees → Type 0
Above name [] = Unit {0}
Above name (k ∷ more) = bytes_cmp k.named.name name ≡ Greater

pub record Gap (name : List ℕ) (kept : List FileTrees) : Type 0 where
  pub before : List FileTrees
  pub after : List FileTrees
  pub is : kept ≡ before ++ after
  pub lower : AllByRecursion (λ (k : FileTrees). bytes_cmp k.named.name name ≡ Less) before
  pub above : Above name after

gap_by : (o : Ordering) (k : FileTrees) (more : List FileTrees) (name : List ℕ)
    → bytes_cmp k.named.name name ≡ o → (if is_eq o then Some k.named.file else file_at name (named_of more)) ≡ None
    → (file_at name (named_of more) ≡ None → Gap name more) → Gap name (k ∷ more)
gap_by Less k more name at none rest =
    let gap = rest none in
    record {
      before = k ∷ gap.before;
      after = gap.after;
      is = ap (λ (l : List FileTrees). k ∷ l) gap.is;
      lower = (at, gap.lower);
      above = gap.above;
    }
gap_by Equal k more name at none rest = cc
gap_by Greater k more name at none rest = record { before = []; after = k ∷ more; is = refl; lower = tt; above = at }

pub gap_of : (name : List ℕ) (kept : List FileTrees) → file_at name (named_of kept) ≡ None → Gap name kept
gap_of name [] none = record { before = []; after = []; is = refl; lower = tt; above = tt }
gap_of name (k ∷ more) none = gap_by (bytes_cmp k.named.name name) k more name refl none (gap_of name more)

-- another name comes there
named_as : List ℕ → File → NamedFile
named_as name file = record { name = name; file = file }

added_first : (name : List ℕ) (new : FileTrees) (after : List FileTrees) → new.named.name ≡ name → Above name after
    → with_file name new.named.file (named_of after) ≡ new.named ∷ named_of after
unfolding named_as
added_first name new [] is above = ap (λ (n : List ℕ). named_as n new.named.file ∷ []) (sym is)
added_first name new (k ∷ more) is above =
    ap (λ (o : Ordering). if is_eq o then named_as name new.named.file ∷ named_of more else if is_lt o then k.named
    ∷ with_file name new.named.file (named_of more) else named_as name new.named.file ∷ k.named ∷ named_of more) above
    ∙ ap (λ (n : List ℕ). named_as n new.named.file ∷ k.named ∷ named_of more) (sym is)

added_in : (name : List ℕ) (before : List FileTrees) (new : FileTrees) (after : List FileTrees) → new.named.name ≡ name
    → AllByRecursion (λ (k : FileTrees). bytes_cmp k.named.name name ≡ Less) before → Above name after →
    with_file name new.named.file (named_of (before ++ after)) ≡ named_of (before ++ new ∷ after)
unfolding named_as
added_in name [] new after is lower above = added_first name new after is above
added_in name (k ∷ before) new after is lower above =
    let more : Files = named_of (before ++ after) in
    ap (λ (o : Ordering). if is_eq o then named_as name new.named.file ∷ more else if is_lt o
    then k.named ∷ with_file name new.named.file more else named_as name new.named.file ∷ k.named ∷ more) lower.0
    ∙ ap (λ (l : Files). k.named ∷ l) (added_in name before new after is lower.1 above)

-- and in the catalog
order_at : (k new : FileTrees) (name : List ℕ) (o : Ordering) → is_name name ≡ true → new.named.name ≡ name
    → is_name k.named.name ≡ true → bytes_cmp k.named.name name ≡ o
    → key_cmp (padded_name k.named.name) (padded_name new.named.name) ≡ o
order_at k new name o named is own at = ap (λ (n : List ℕ). key_cmp (padded_name k.named.name) (padded_name n)) is
    ∙ names_in_order k.named.name name own named ∙ at

entry_first : (mark : ℕ) (name : List ℕ) (new : FileTrees) (after : List FileTrees) → is_name name ≡ true
    → new.named.name ≡ name
    → AllByRecursion (λ (k : FileTrees). is_name k.named.name ≡ true) after → Above name after →
    with_new_entry (map (catalog_entry mark) after) (catalog_entry mark new)
    ≡ catalog_entry mark new ∷ map (catalog_entry mark) after
entry_first mark name new [] named is all above = refl
entry_first mark name new (k ∷ more) named is all above =
    ap (λ (o : Ordering). if is_lt o
    then catalog_entry mark k ∷ with_new_entry (map (catalog_entry mark) more) (catalog_entry mark new)
    else catalog_entry mark new ∷ catalog_entry mark k ∷ map (catalog_entry mark) more)
    (order_at k new name Greater named is all.0 above)

entry_in : (mark : ℕ) (name : List ℕ) (before : List FileTrees) (new : FileTrees) (after : List FileTrees)
    → is_name name ≡ true
    → new.named.name ≡ name → AllByRecursion (λ (k : FileTrees). is_name k.named.name ≡ true) (before ++ after)
    → AllByRecursion (λ (k : FileTrees). bytes_cmp k.named.name name ≡ Less) before → Above name after →
    with_new_entry (map (catalog_entry mark) (before ++ after)) (catalog_entry mark new)
    ≡ map (catalog_entry mark) (before ++ new ∷ after)
entry_in mark name [] new after named is all lower above = entry_first mark name new after named is all above
entry_in mark name (k ∷ before) new after named is all lower above =
    let more : List Entry = map (catalog_entry mark) (before ++ after) in
    ap (λ (o : Ordering). if is_lt o then catalog_entry mark k ∷ with_new_entry more (catalog_entry mark new)
    else catalog_entry mark new ∷ catalog_entry mark k ∷ more) (order_at k new name Less named is all.0 lower.0)
    ∙ ap (λ (es : List Entry). catalog_entry mark k ∷ es)
    (entry_in mark name before new after named is all.1 lower.1 above)

all_names : (kept : List FileTrees) → AllByRecursion IsNamed (named_of kept)
    → AllByRecursion (λ (k : FileTrees). is_name k.named.name ≡ true) kept
all_names [] all = tt
all_names (k ∷ kept) all = (all.0.name, all_names kept all.1)

abbrev pub entry_as : List ℕ → List ℕ → Entry
entry_as key value = record { key = key; value = value }

-- how many files there are then
pub added_count : (name : List ℕ) (file : File) (files : Files) → file_at name files ≡ None
    → length (with_file name file files) ≡ length files + 1
added_count name file [] none = refl
added_count name file (one ∷ more) none = by (bytes_cmp one.name name) none (added_count name file more)
  where
    by : (o : Ordering) → (if is_eq o then Some one.file else file_at name more) ≡ None
        → (file_at name more ≡ None → length (with_file name file more) ≡ length more + 1) →
        length (if is_eq o then record { name = name; file = file } ∷ more else if is_lt o then one
        ∷ with_file name file more else record { name = name; file = file } ∷ one ∷ more) ≡ length (one ∷ more) + 1
    by Less at rest = let more_is = rest at in omega (arith, more_is)
    by Equal at rest = cc
    by Greater at rest = omega arith

-- The map of the next generation, after the catalog says so.
module _ (m : Map) (files : Files) (holds : MapHolds m files) (name : List ℕ) (spec : Spec)
    (named : is_name name ≡ true) (none : file_at name files ≡ None) where
  gap : Gap name holds.kept
  gap = gap_of name holds.kept (subst (λ (l : Files). file_at name l ≡ None) (sym holds.named) none)

  abbrev new : FileTrees
  new = empty_file_trees name spec

  pub holds_added : (pages : List (Option Sector)) (catalog : ℕ) (listing : List ℕ)
      → IsTreeAmong pages [] (flat_map trees_of holds.kept) (catalog_at m.mark catalog)
      (with_new_entry (map (catalog_entry m.mark) holds.kept)
      (entry_as (padded_name name) (catalog_value m.mark listing 0))) →
      listing ≡ listing_bytes
      (record { spec = spec; prime = 0; alternates = replicate (length spec.alternates) 0; next_arrival = 1 })
      → AreFiles (with_file name (empty_file spec) files)
      → (m.mark ≡ 0 → AreShort (with_file name (empty_file spec) files))
      → MapHolds (map_with m.mark (m.generation + 1) catalog pages) (with_file name (empty_file spec) files)
  holds_added pages catalog listing stands says are short =
      let here = gap in
      let root : TreeLevels = tree_levels (catalog_at m.mark catalog) stands.levels in
      let P : FileTrees → Type 0 = IsKept m.generation in
      let Q : FileTrees → Type 0 = IsKept (m.generation + 1) in
      let older : All Q (here.before ++ here.after) = All-weaker P Q (next_kept m.generation) (here.before ++
      here.after)
      (subst (λ (l : List FileTrees). All P l) here.is holds.keeps.each) in
      let parted : flat_map trees_of holds.kept ≡ flat_map trees_of here.before ++ flat_map trees_of here.after =
      ap (flat_map trees_of) here.is ∙ flat_map-append trees_of here.before here.after in
      let standing : IsForest pages ((root ∷ flat_map trees_of here.before) ++ flat_map trees_of here.after) =
      subst (λ (ts : List TreeLevels). IsForest pages (root ∷ ts)) parted stands.forest in
      let grown = forest_with pages (root ∷ flat_map trees_of here.before) (trees_of new) (flat_map trees_of here.after)
      standing (empty_grow spec pages name) (empty_pages spec name) in
      let joined : root ∷ (flat_map trees_of here.before ++ (trees_of new ++ flat_map trees_of here.after))
      ≡ root ∷ flat_map trees_of (here.before ++ new ∷ here.after) =
      ap (λ (ts : List TreeLevels). root ∷ ts) (sym (flat_map-append trees_of here.before (new ∷ here.after))) in
      let names =
      all_names (here.before ++ here.after) (subst (λ (l : List FileTrees). AllByRecursion IsNamed (named_of l)) here.is
      (subst (λ (l : Files). AllByRecursion IsNamed l) (sym holds.named) holds.are.each)) in
      let entry : entry_as (padded_name name) (catalog_value m.mark listing 0) ≡ catalog_entry m.mark new =
      ap (λ (l : List ℕ). entry_as (padded_name name) (catalog_value m.mark l 0)) (empty_says spec name listing says) in
      record {
        kept = here.before ++ new ∷ here.after;
        keeps = record {
          catalog = stands.levels;
          forest = subst (λ (ts : List TreeLevels). IsForest pages ts) joined grown;
          listed = stands.listed ∙ ap (λ (e : Entry). with_new_entry (map (catalog_entry m.mark) holds.kept) e) entry
              ∙ ap (λ (l : List FileTrees). with_new_entry (map (catalog_entry m.mark) l) (catalog_entry m.mark new))
              here.is
              ∙ entry_in m.mark name here.before new here.after named refl names here.lower here.above;
          each = All-append Q here.before (new ∷ here.after) (all_left Q here.before here.after older)
              (All-cons Q new here.after (empty_is spec m.generation name) (all_right Q here.before here.after older));
        };
        named = sym (ap (λ (l : Files). with_file name (empty_file spec) l) (sym holds.named)
            ∙ ap (λ (l : List FileTrees). with_file name (empty_file spec) (named_of l)) here.is
            ∙ added_in name here.before new here.after refl here.lower here.above);
        are = are;
        short = short;
      }
