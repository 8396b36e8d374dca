-- The trees of a file that was found have its rows and pairs.
use Rattle.std.proofs.Common.{◌≡◌, ⊎_elim, ◌<◌, ◌≤◌, ◌^◌, ℕ, zero, suc, List, [], ◌∷◌, length, refl, sym, ap, subst}
use Rattle.std.proofs.Common.{◌∙◌, arith}
use Rattle.std.specs.Prelude.{map, take, slice_index_or, Contains, Option}
use Rattle.std.specs.List.{All}
use Rattle.std.proofs.lemmas.List.{length-map}
use Rattle.std.proofs.lemmas.List.Elements.{All-head, All-tail, All-cons, All-nil, All-from_recursion}
use Rattle.pages.specs.Image.{Map}
use Rattle.btree_pages.specs.declared.row_layout.RowLayout.{RowLayout}
use Rattle.btree.specs.Rooted.{RootedTree}
use Rattle.btree.specs.Entries.{Entry}
use Rattle.records.specs.declared.key.KeyOfReference.{KeyOfReference}
use Rattle.records.specs.declared.key.KeyOfReference.TheVariants.{Prime, Alternate}
use Rattle.records.specs.Spec.{Spec}
use Rattle.records.specs.Stores.{IsKey}
use Rattle.records.specs.Files.{File, IsRow}
use Rattle.volume_format.specs.Catalog.{listing_bytes}
use Rattle.volume_format.specs.Trees.{entry_under, layout_under, AreOf}
use Rattle.chains.specs.Rows.{HasChain, unrolled_entry}
use Rattle.volume_format.specs.Chained.{form_of}
use Rattle.volume_format.specs.Forest.{TreeLevels, IsTreeIn, stored_entries}
use Rattle.volume_format.specs.Volume.{FileTrees, catalog_entry, listing_of, no_tree}
use Rattle.volume_format.proofs.Comes.{in_cons}
use Rattle.volume_format.proofs.Keeping.{rows_fit}
use Rattle.volume_format.proofs.Listings.{prime_read, root_read, long}
use Rattle.volume_format.proofs.Roots.{root_small}
use Rattle.volume_format.proofs.Values.{reads_back}
use Rattle.volume_format.proofs.Whole.{whole_entries}
use Rattle.btree.proofs.Runs.{in_head, in_tail, in_none}
use Rattle.alternate_keys.specs.Listed.{IsFoundFile, root_in}
use Rattle.alternate_keys.specs.Seen.{HasRows, HasPairs, row_tree_of, seen_under}
use Rattle.alternate_keys.proofs.Tells.{in_map}

of_map : {X Y : Type 0} (f : X → Y) (xs : List X) (y : Y) → Contains (map f xs) y → (x : X) × Contains xs x × (f x ≡ y)
of_map f [] y has = absurd (in_none y has)
of_map f (x ∷ xs) y has =
    ⊎_elim (λ same. (x, in_head x xs, sym same)) (λ later. let rest =
    of_map f xs y later in (rest.0, in_tail x xs rest.0 rest.1, rest.2)) (in_cons (f x) (map f xs) y has)

pub rows_seen : (m : Map) (found : Option File) (kept : FileTrees) → IsFoundFile m found kept → m.generation < 2 ^ 63
    → HasRows kept.named.file.spec m.pages kept.named.file.rows (row_tree_of kept.named.file.spec kept.prime.tree)
rows_seen m found kept is few =
    let file : File = kept.named.file in
    let low = is.is.arrivals in
    let grows = All-head (IsTreeIn m.pages) kept.prime kept.alternates is.grow in
    record {
      planted = kept.prime;
      stands = record { tree_is = refl; form_is = is.is.form; grows = grows };
      form = refl;
      entries = is.is.rows;
      fits = (rows_fit file is.named.file (omega arith)).0;
      records = λ k d within.
          (All-from_recursion (IsRow file.spec file.next_arrival) file.rows is.named.file.rows k d within).long;
    }

prime_seen : (m : Map) (found : Option File) (kept : FileTrees) → IsFoundFile m found kept → m.generation < 2 ^ 63
    → HasPairs kept.named.file.spec Prime m.pages kept.named.file.rows kept.prime.tree
prime_seen m found kept is few =
    let rows = rows_seen m found kept is few in
    let f = entry_under kept.named.file.spec Prime in
    let grows = All-head (IsTreeIn m.pages) kept.prime kept.alternates is.grow in
    let stored = stored_entries kept.prime in
    let seen : seen_under kept.named.file.spec Prime m.pages stored ≡ map f kept.named.file.rows =
    ap (λ (n : ℕ). map (unrolled_entry (form_of n) m.pages) stored) (sym is.is.form) ∙ sym grows.entries_are
    ∙ is.is.rows in
    record {
      levels = kept.prime.levels;
      holds = grows.stands;
      layout = is.is.layout;
      stand = subst (λ (n : ℕ). All (HasChain (form_of n) m.pages) stored) is.is.form grows.chained.stand;
      are = record {
        each = λ row has.
            subst (λ (es : List Entry). Contains es (f row)) (sym seen) (in_map f kept.named.file.rows row has);
        only = λ entry has.
            of_map f kept.named.file.rows entry (subst (λ (es : List Entry). Contains es entry) seen has);
      };
      fits = rows.fits;
    }

-- the tree of a key
abbrev pub tree_under : KeyOfReference → FileTrees → TreeLevels
tree_under Prime kept = kept.prime
tree_under (Alternate i) kept = slice_index_or kept.alternates i no_tree

grows_at : (m : Map) (trees : List TreeLevels) (i : ℕ) → All (IsTreeIn m.pages) trees → i < length trees
    → IsTreeIn m.pages (slice_index_or trees i no_tree)
grows_at m trees i grow within = grow i no_tree within

pub pairs_seen : (m : Map) (found : Option File) (kept : FileTrees) (key : KeyOfReference)
    → IsFoundFile m found kept → m.generation < 2 ^ 63 → IsKey kept.named.file.spec key
    → HasPairs kept.named.file.spec key m.pages kept.named.file.rows (tree_under key kept).tree
pairs_seen m found kept Prime is few within = prime_seen m found kept is few
pairs_seen m found kept (Alternate i) is few within =
    let file : File = kept.named.file in
    let low = is.is.arrivals in
    let count = is.is.count in
    let index = is.is.indexes i within in
    let tree : TreeLevels = slice_index_or kept.alternates i no_tree in
    let grows = grows_at m kept.alternates i (All-tail (IsTreeIn m.pages) kept.prime kept.alternates is.grow)
    (omega (arith, count, within)) in
    record {
      levels = tree.levels;
      holds = grows.stands;
      layout = index.layout;
      stand = tt;
      are = subst (λ (es : List Entry). AreOf file.spec (Alternate i) file.rows es)
          (whole_entries m.pages tree grows index.whole) index.pairs;
      fits = (rows_fit file is.named.file (omega arith)).1 i within;
    }

-- the tree that the catalog names is that tree
rooted : RowLayout → ℕ → RootedTree
rooted layout root = record { layout = layout; root = root }

pub same_tree : (one two : RootedTree) → one.layout ≡ two.layout → one.root ≡ two.root → one ≡ two
unfolding rooted
same_tree one two layout root = ap (λ l. rooted l one.root) layout ∙ ap (rooted two.layout) root

mapped_at : (trees : List TreeLevels) (i : ℕ) → slice_index_or (map (λ (tree : TreeLevels). tree.tree.root) trees) i
    0 ≡ (slice_index_or trees i no_tree).tree.root
mapped_at [] i = refl
mapped_at (tree ∷ trees) zero = refl
mapped_at (tree ∷ trees) (suc i) = mapped_at trees i

roots_low : (m : Map) (trees : List TreeLevels) → length m.pages ≤ 2 ^ 20 → All (IsTreeIn m.pages) trees
    → All (λ page. page < 2 ^ 32) (map (λ (tree : TreeLevels). tree.tree.root) trees)
roots_low m [] small grow = All-nil (λ page. page < 2 ^ 32)
roots_low m (tree ∷ trees) small grow =
    All-cons (λ page. page < 2 ^ 32) tree.tree.root (map (λ (t : TreeLevels). t.tree.root) trees)
    (root_small m.pages tree small (All-head (IsTreeIn m.pages) tree trees grow))
    (roots_low m trees small (All-tail (IsTreeIn m.pages) tree trees grow))

pub root_is : (m : Map) (found : Option File) (kept : FileTrees) (key : KeyOfReference)
    → IsFoundFile m found kept → length m.pages ≤ 2 ^ 20 → IsKey kept.named.file.spec key
    → root_in key (listing_bytes (listing_of kept)) ≡ (tree_under key kept).tree.root
root_is m found kept Prime is small within = prime_read (listing_of kept) is.named.file.spec
    (root_small m.pages kept.prime small (All-head (IsTreeIn m.pages) kept.prime kept.alternates is.grow))
root_is m found kept (Alternate i) is small within =
    let count = is.is.count in
    let long = length-map kept.alternates (λ (tree : TreeLevels). tree.tree.root) in
    root_read (listing_of kept) i is.named.file.spec (roots_low m kept.alternates small
    (All-tail (IsTreeIn m.pages) kept.prime kept.alternates is.grow)) (omega (arith, count, long, within))
    ∙ mapped_at kept.alternates i

layout_is : (m : Map) (found : Option File) (kept : FileTrees) (key : KeyOfReference) → IsFoundFile m found kept
    → IsKey kept.named.file.spec key → (tree_under key kept).tree.layout ≡ layout_under kept.named.file.spec key
layout_is m found kept Prime is within = is.is.layout
layout_is m found kept (Alternate i) is within = (is.is.indexes i within).layout

-- the listing in its entry
pub listing_kept : (m : Map) (found : Option File) (kept : FileTrees) → IsFoundFile m found kept
    → take 83 (catalog_entry m.mark kept).value ≡ listing_bytes (listing_of kept)
listing_kept m found kept is = (reads_back m.mark (listing_bytes (listing_of kept)) (length kept.named.file.rows)
    (long (listing_of kept) is.named.file.spec (length-map kept.alternates (λ (tree : TreeLevels). tree.tree.root)
    ∙ is.is.count))).head

pub tree_is : (m : Map) (found : Option File) (kept : FileTrees) (spec : Spec) (key : KeyOfReference)
    (listing : List ℕ) (tree : RootedTree) → IsFoundFile m found kept → length m.pages ≤ 2 ^ 20
    → kept.named.file.spec ≡ spec
    → IsKey spec key →
    listing ≡ listing_bytes (listing_of kept) → tree.layout ≡ layout_under spec key
    → tree.root ≡ root_in key listing → tree ≡ (tree_under key kept).tree
tree_is m found kept spec key listing tree is small same within value layout root =
    let own : IsKey kept.named.file.spec key = subst (λ (s : Spec). IsKey s key) (sym same) within in
    same_tree tree (tree_under key kept).tree (layout ∙ ap (λ (s : Spec). layout_under s key) (sym same)
    ∙ sym (layout_is m found kept key is own)) (root ∙ ap (root_in key) value ∙ root_is m found kept key is small own)
