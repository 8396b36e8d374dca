-- The leaves of the catalog of a volume that gets the second mark.
use Rattle.std.proofs.Common.{◌≡◌, ◌<◌, ◌≤◌, ◌+◌, ◌^◌, ◌++◌, ℕ, List, [], ◌∷◌, length, refl, ap, sym}
use Rattle.std.proofs.Common.{subst, ◌∙◌, append_assoc, arith}
use Rattle.std.specs.Prelude.{map, take, drop, Option, Some, None, IfSome}
use Rattle.std.specs.List.{All, flat_map, insert}
use Rattle.std.proofs.Math.Seq.{take-append-add}
use Rattle.std.proofs.lemmas.List.{drop_at, length-append, length-map, map-append, take_all, take_at}
use Rattle.std.proofs.lemmas.List.Elements.{All-head, All-nil}
use Rattle.station.specs.Disk.{Sector}
use Rattle.station.specs.declared.device.Device.{Ghosts as Devices}
use Rattle.pages.specs.Image.{Map}
use Rattle.pages.specs.Pages.{map_now}
use Rattle.pages.specs.declared.page_map.PageMap.{PageMap}
use Rattle.btree_pages.specs.declared.row_layout.Kind.TheVariants.{Leaf}
use Rattle.btree_pages.specs.declared.row_layout.RowLayout.{RowLayout}
use Rattle.btree_pages.specs.Edits.{empty_node, node_with_row}
use Rattle.btree_pages.specs.Keys.{Ascend, key_of, keys_of}
use Rattle.btree_pages.specs.Node.{Node}
use Rattle.btree_pages.specs.RowLayouts.{capacity, rest_length}
use Rattle.btree.specs.Builds.{IsLeafOf, rows_of_nodes}
use Rattle.btree.specs.Calls.{pages_on}
use Rattle.btree.specs.Entries.{Entry, HasLengths, entries_of_rows, entry_of}
use Rattle.btree.specs.Laws.{keys_listed}
use Rattle.btree.specs.Tree.{IsTreeOrEmpty}
use Rattle.btree.proofs.Ascending.{entry_at, none_at}
use Rattle.btree.proofs.Frames.{same_pages}
use Rattle.btree.proofs.There.{tree_ascends}
use Rattle.records.specs.Files.{Files}
use Rattle.volume_format.specs.Calls.{LooksAt}
use Rattle.volume_format.specs.Catalog.{catalog_layout, catalog_value}
use Rattle.volume_format.specs.Forest.{IsTreeIn}
use Rattle.volume_format.specs.Volume.{FileTrees, MapHolds, catalog_entry, catalog_tree, trees_of}
use Rattle.alternate_keys.specs.Migrated.{AreFilled}
use Rattle.alternate_keys.specs.Placed.{HasTrees}
use Rattle.alternate_keys.proofs.Migrating.{IsFileAt, counted_entry, entry_with, same_keys, trees_between}

-- the keys of the new leaves ascend
row_keys : (layout : RowLayout) (rows : List (List ℕ)) → keys_listed (entries_of_rows layout rows) ≡ keys_of layout rows
row_keys layout [] = refl
row_keys layout (row ∷ rows) = ap (λ (ks : List (List ℕ)). key_of layout row ∷ ks) (row_keys layout rows)

pub keys_ascend : (m : Map) (files : Files) (holds : MapHolds m files) (layout : RowLayout) (rows : List (List ℕ))
    → layout ≡ catalog_layout 1 → entries_of_rows (catalog_layout 1) rows ≡ map (catalog_entry 1) holds.kept
    → Ascend (keys_of layout rows)
keys_ascend m files holds layout rows is listed =
    let there : IsTreeOrEmpty (catalog_layout m.mark) m.pages m.catalog holds.keeps.catalog =
    (All-head (IsTreeIn m.pages) _ _ holds.keeps.forest.grow).stands in
    subst (λ (l : RowLayout). Ascend (keys_of l rows)) (sym is) (subst Ascend
    (ap keys_listed holds.keeps.listed ∙ same_keys m.mark 1 holds.kept ∙ ap keys_listed (sym listed)
    ∙ row_keys (catalog_layout 1) rows)
    (tree_ascends (catalog_layout m.mark) m.pages m.catalog holds.keeps.catalog there))

-- the first entries of the old catalog, each with the number of its file's rows
abbrev pub AreListed : ℕ → List FileTrees → List (List ℕ) → Type 0
AreListed n kept rows = entries_of_rows (catalog_layout 1) rows ≡ map (catalog_entry 1) (take n kept)

entry_added : (key value : List ℕ) (entry : Entry) → length key ≡ 30 → entry_with key value ≡ entry
    → entry_of (catalog_layout 1) (key ++ value) ≡ entry
entry_added key value entry long is =
    ap (λ (k : List ℕ). entry_with k (drop 30 (key ++ value))) (take_at key value 30 long)
    ∙ ap (entry_with key) (drop_at key value 30 long) ∙ is

taken_more : (kept : List FileTrees) (n : ℕ) (entry : Entry) (at : IsFileAt 0 n entry kept)
    → take (n + 1) kept ≡ take n kept ++ at.one ∷ []
taken_more kept n entry at =
    let until : take n kept ≡ at.before =
    ap (take n) at.is ∙ take_at at.before (at.one ∷ at.after) n at.count in
    ap (take (n + 1)) at.is
    ∙ ap (λ (k : ℕ). take (k + 1) (at.before ++ at.one ∷ at.after)) (sym at.count)
    ∙ take-append-add at.before (at.one ∷ at.after) 1
    ∙ ap (λ (l : List FileTrees). l ++ at.one ∷ []) (sym until)

listed_more : (kept : List FileTrees) (n : ℕ) (rows : List (List ℕ)) (entry : Entry) (value : List ℕ)
    (at : IsFileAt 0 n entry kept) → AreListed n kept rows → length entry.key ≡ 30
    → entry_with entry.key value ≡ catalog_entry 1 at.one → AreListed (n + 1) kept (rows ++ (entry.key ++ value) ∷ [])
listed_more kept n rows entry value at listed long is =
    let row : List ℕ = entry.key ++ value in
    let f = entry_of (catalog_layout 1) in
    map-append f rows (row ∷ []) ∙ ap (λ (es : List Entry). es ++ f row ∷ []) listed
    ∙ ap (λ (e : Entry). map (catalog_entry 1) (take n kept) ++ e ∷ []) (entry_added entry.key value _ long is)
    ∙ sym (map-append (catalog_entry 1) (take n kept) (at.one ∷ []))
    ∙ ap (map (catalog_entry 1)) (sym (taken_more kept n entry at))

pub row_listed : (kept : List FileTrees) (n : ℕ) (before rows : List (List ℕ)) (entry : Entry) (value : List ℕ)
    (at : IsFileAt 0 n entry kept) → HasLengths (catalog_layout 0) entry → rows ≡ before → AreListed n kept before
    → value ≡ catalog_value 1 entry.value (length at.one.named.file.rows)
    → AreListed (n + 1) kept (rows ++ (entry.key ++ value) ∷ [])
row_listed kept n before rows entry value at long same listed is =
    listed_more kept n rows entry value at (subst (AreListed n kept) (sym same) listed) long.0
    (counted_entry at.one entry value (length at.one.named.file.rows) at.of is refl)

pub listed_all : (kept : List FileTrees) (n : ℕ) (rows : List (List ℕ)) → AreListed n kept rows
    → entry_at n (map (catalog_entry 0) kept) ≡ None
    → entries_of_rows (catalog_layout 1) rows ≡ map (catalog_entry 1) kept
listed_all kept n rows listed none =
    let few = none_at (map (catalog_entry 0) kept) n none in
    listed ∙ ap (map (catalog_entry 1)) (take_all n kept (omega (arith, few, length-map kept (catalog_entry 0))))

take_zero : (kept : List FileTrees) → take 0 kept ≡ []
take_zero [] = refl
take_zero (k ∷ kept) = refl

-- no row is there yet
pub none_filled : (leaves : List Node) (leaf : Node) (layout : RowLayout) → leaves ≡ [] → leaf ≡ empty_node layout Leaf
    → layout ≡ catalog_layout 1 → AreFilled 0 leaves leaf
none_filled leaves leaf layout first empty is =
    let none : length leaf.rows ≡ 0 = ap (λ (n : Node). length n.rows) empty in
    let few : length leaves ≡ 0 = ap (λ (l : List Node). length l) first in
    record {
      each = subst (λ (l : List Node). All (IsLeafOf (catalog_layout 1)) l) (sym first)
          (All-nil (IsLeafOf (catalog_layout 1)));
      like = ap (λ (n : Node). n.layout) empty ∙ is;
      kind = ap (λ (n : Node). n.kind) empty;
      fits = omega (arith, none);
      count = omega (arith, none, few);
    }

pub none_listed : (kept : List FileTrees) (leaves : List Node) (leaf : Node) (layout : RowLayout) → leaves ≡ []
    → leaf ≡ empty_node layout Leaf → AreListed 0 kept (rows_of_nodes leaves ++ leaf.rows)
none_listed kept leaves leaf layout first empty =
    ap (λ (l : List Node). entries_of_rows (catalog_layout 1) (rows_of_nodes l ++ leaf.rows)) first
    ∙ ap (λ (n : Node). entries_of_rows (catalog_layout 1) n.rows) empty
    ∙ ap (map (catalog_entry 1)) (sym (take_zero kept))

-- a leaf has 33 rows at most, each with a value of 91 bytes
pub leaf_capacity : (leaf : Node) → leaf.layout ≡ catalog_layout 1 → leaf.kind ≡ Leaf
    → capacity leaf.layout leaf.kind ≡ 33
leaf_capacity leaf like kind =
    ap (λ (l : RowLayout). capacity l leaf.kind) like ∙ ap (capacity (catalog_layout 1)) kind

pub leaf_value : (leaf : Node) → leaf.layout ≡ catalog_layout 1 → leaf.kind ≡ Leaf
    → rest_length leaf.layout leaf.kind ≡ 91
leaf_value leaf like kind =
    ap (λ (l : RowLayout). rest_length l leaf.kind) like ∙ ap (rest_length (catalog_layout 1)) kind

pub own_lengths : (next : Option Entry) (entry : Entry) → next ≡ Some entry
    → IfSome next (HasLengths (catalog_layout 0)) → HasLengths (catalog_layout 0) entry
own_lengths next entry is lengths = subst (λ (o : Option Entry). IfSome o (HasLengths (catalog_layout 0))) is lengths

-- a row comes to the last one
insert_last : (rows : List (List ℕ)) (row : List ℕ) → insert rows (length rows) row ≡ rows ++ row ∷ []
insert_last [] row = refl
insert_last (r ∷ rows) row = ap (λ (l : List (List ℕ)). r ∷ l) (insert_last rows row)

filled_row : (n : ℕ) (leaves : List Node) (leaf : Node) (row : List ℕ) → AreFilled n leaves leaf
    → length leaf.rows < 33 → AreFilled (n + 1) leaves (node_with_row leaf (length leaf.rows) row)
filled_row n leaves leaf row is room =
    let more = ap (λ (l : List (List ℕ)). length l) (insert_last leaf.rows row) in
    let long = length-append leaf.rows (row ∷ []) in
    record {
      each = is.each;
      like = is.like;
      kind = is.kind;
      fits = omega (arith, room, more, long);
      count = omega (arith, is.count, more, long);
    }

rows_added : (leaves : List Node) (leaf : Node) (row : List ℕ)
    → rows_of_nodes leaves ++ (node_with_row leaf (length leaf.rows) row).rows
    ≡ (rows_of_nodes leaves ++ leaf.rows) ++ row ∷ []
rows_added leaves leaf row =
    ap (λ (l : List (List ℕ)). rows_of_nodes leaves ++ l) (insert_last leaf.rows row)
    ∙ sym (append_assoc (rows_of_nodes leaves) leaf.rows (row ∷ []))

pub row_inserted : (n : ℕ) (leaves : List Node) (leaf new : Node) (place : ℕ) (key rest : List ℕ) (entry : Entry)
    (value : List ℕ) → AreFilled n leaves leaf → length leaf.rows < 33
    → new ≡ node_with_row leaf place (key ++ rest) → place ≡ length leaf.rows → key ≡ entry.key → rest ≡ value
    → AreFilled (n + 1) leaves new × (rows_of_nodes leaves ++ new.rows
    ≡ (rows_of_nodes leaves ++ leaf.rows) ++ (entry.key ++ value) ∷ [])
row_inserted n leaves leaf new place key rest entry value is room made at key_is rest_is =
    let row : List ℕ = entry.key ++ value in
    let same : new ≡ node_with_row leaf (length leaf.rows) row =
    made ∙ ap (λ (p : ℕ). node_with_row leaf p (key ++ rest)) at
    ∙ ap (λ (k : List ℕ). node_with_row leaf (length leaf.rows) (k ++ rest)) key_is
    ∙ ap (λ (v : List ℕ). node_with_row leaf (length leaf.rows) (entry.key ++ v)) rest_is in (
      subst (λ (node : Node). AreFilled (n + 1) leaves node) (sym same) (filled_row n leaves leaf row is room),
      ap (λ (node : Node). rows_of_nodes leaves ++ node.rows) same ∙ rows_added leaves leaf row,
    )

-- the file of an entry, with its trees, after calls that only read
pub trees_now : {D : Type 0} (d : Devices D) (p q : PageMap) (a b : D) (files : Files)
    (holds : MapHolds (map_now p (d.state a).disk.present) files) (n : ℕ) (entry : Entry)
    (at : IsFileAt 0 n entry holds.kept) → d.is_honest a → LooksAt d ⊥ p a q b
    → (map_now p (d.state a).disk.present).generation < 2 ^ 63
    → length (map_now p (d.state a).disk.present).pages ≤ 921600
    → HasTrees at.one.named.file.spec at.one.named (map_now p (d.state a).disk.present).generation (pages_on d q b)
    (catalog_tree (map_now p (d.state a).disk.present) holds.keeps.catalog ∷ flat_map trees_of at.before)
    (flat_map trees_of at.after) entry.value
trees_now d p q a b files holds n entry at honest looks few small =
    let m : Map = map_now p (d.state a).disk.present in
    let same = same_pages p q (d.state a) (d.state b) looks.unchanged (looks.only.state honest) in
    let own = trees_between m files holds at.before at.one at.after at.is few (omega (arith, small)) in
    subst (λ (ps : List (Option Sector)). HasTrees at.one.named.file.spec at.one.named m.generation ps
    (catalog_tree m holds.keeps.catalog ∷ flat_map trees_of at.before) (flat_map trees_of at.after) entry.value)
    (sym same) (subst (λ (l : List ℕ). HasTrees at.one.named.file.spec at.one.named m.generation m.pages
    (catalog_tree m holds.keeps.catalog ∷ flat_map trees_of at.before) (flat_map trees_of at.after) l)
    (ap (λ (e : Entry). e.value) at.of) own)
