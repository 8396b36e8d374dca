-- The trees of a file that stand among others.
use Rattle.std.proofs.Common.{◌≡◌, ◌<◌, ◌≤◌, ◌^◌, ◌++◌, ℕ, true, List, [], ◌∷◌, length, refl, sym, ap, subst, ◌∙◌}
use Rattle.std.proofs.Common.{append_assoc, arith}
use Rattle.std.specs.Prelude.{map, drop, slice_index_or, Contains, Option, Some}
use Rattle.std.specs.List.{All}
use Rattle.std.proofs.lemmas.List.{length-map}
use Rattle.std.proofs.lemmas.List.Elements.{All-from_recursion, All-contains}
use Rattle.station.specs.Disk.{Sector}
use Rattle.byteorder.specs.Endian.{big_number}
use Rattle.pages.specs.Image.{Map}
use Rattle.btree.specs.Rooted.{RootedTree}
use Rattle.btree.specs.Entries.{Entry}
use Rattle.records.specs.declared.key.KeyOfReference.{KeyOfReference}
use Rattle.records.specs.declared.key.KeyOfReference.TheVariants.{Prime, Alternate}
use Rattle.records.specs.Spec.{Spec, is_spec}
use Rattle.records.specs.Stores.{IsKey}
use Rattle.records.specs.Rows.{Row}
use Rattle.records.specs.Files.{File, NamedFile, IsNamed, IsRow, IsArrival}
use Rattle.records.specs.Laws.{RowsAscend}
use Rattle.volume_format.specs.Trees.{entry_under, layout_under}
use Rattle.volume_format.specs.Pairs.{IsUnder}
use Rattle.volume_format.specs.Forest.{TreeLevels, IsTreeIn, IsForest}
use Rattle.volume_format.specs.Chained.{chained_bytes}
use Rattle.volume_format.specs.Volume.{FileTrees, IsIndex, trees_of, listing_of, no_tree}
use Rattle.volume_format.proofs.Forests.{all_left, all_right}
use Rattle.volume_format.proofs.Keeping.{rows_fit}
use Rattle.volume_format.proofs.Listings.{next_read}
use Rattle.row_trees.specs.RowTree.{ChainedTree, IsRowTreeAmong}
use Rattle.alternate_keys.specs.Created.{HasStored}
use Rattle.alternate_keys.specs.Listed.{IsFoundFile, root_in}
use Rattle.alternate_keys.specs.Moved.{IsRowOf}
use Rattle.alternate_keys.specs.Placed.{HasTrees, HasIndexes, HasAllPairs, listed_tree}
use Rattle.alternate_keys.specs.Seen.{HasRows, HasPairs, row_tree_of}
use Rattle.alternate_keys.proofs.Keeping.{tree_is, root_is, rows_seen, pairs_seen, tree_under}
use Rattle.alternate_keys.proofs.RowForms.{same_rows}

module _ (spec : Spec) (named : NamedFile) (generation : ℕ) (pages : List (Option Sector)) (left right :
    List TreeLevels) (listing : List ℕ) (has : HasTrees spec named generation pages left right listing) where
  abbrev pub kept_in : FileTrees
  kept_in = has.placed.kept

  abbrev file_is : kept_in.named.file ≡ named.file
  file_is = ap (λ (n : NamedFile). n.file) has.placed.named_is

  abbrev spec_here : kept_in.named.file.spec ≡ spec
  spec_here = ap (λ (f : File). f.spec) file_is ∙ has.spec_is

  abbrev the_map : Map
  the_map = record { mark = 0; generation = generation; catalog = 0; pages = pages }

  grown : All (IsTreeIn pages) (trees_of kept_in)
  grown = all_left (IsTreeIn pages) (trees_of kept_in) right
      (all_right (IsTreeIn pages) left (trees_of kept_in ++ right) has.placed.forest.grow)

  found : IsFoundFile the_map (Some kept_in.named.file) kept_in
  found = record {
    there = refl;
    is = has.placed.is;
    named = subst (λ (n : NamedFile). IsNamed n) (sym has.placed.named_is) has.is_named;
    grow = grown;
  }

  pub good_spec : is_spec kept_in.named.file.spec ≡ true
  good_spec = found.named.file.spec

  pub good_here : is_spec spec ≡ true
  good_here = subst (λ (s : Spec). is_spec s ≡ true) spec_here good_spec

  pub arrival_low : named.file.next_arrival ≤ generation
  arrival_low =
      let low = has.placed.is.arrivals in
      let same = ap (λ (f : File). f.next_arrival) file_is in
      omega (arith, low, same)

  pub arrival_few : named.file.next_arrival < 2 ^ 63
  arrival_few = let low = arrival_low in let few = has.few in omega (arith, low, few)

  pub arrival_is : big_number 8 (drop 75 listing) ≡ named.file.next_arrival
  arrival_is =
      let few = arrival_few in
      let same = ap (λ (f : File). f.next_arrival) file_is in
      ap (λ (l : List ℕ). big_number 8 (drop 75 l)) has.placed.says
      ∙ next_read (listing_of kept_in) found.named.file.spec (length-map kept_in.alternates
      (λ (tree : TreeLevels). tree.tree.root) ∙ has.placed.is.count) (omega (arith, few, same))
      ∙ same

  prime_same : (prime : RootedTree) → prime.layout ≡ layout_under spec Prime → prime.root ≡ root_in Prime listing
      → prime ≡ kept_in.prime.tree
  prime_same prime layout root = tree_is the_map (Some kept_in.named.file) kept_in spec Prime
      listing prime found has.small spec_here (omega arith) has.placed.says layout root

  pub prime_stands : (prime : ChainedTree) → prime.tree.layout ≡ layout_under spec Prime
      → prime.tree.root ≡ root_in Prime listing → prime.record_bytes ≡ chained_bytes spec
      → IsRowTreeAmong pages left (kept_in.alternates ++ right) prime (map (entry_under spec Prime) named.file.rows)
  prime_stands prime layout root form = record {
    planted = kept_in.prime;
    tree_is = sym (prime_same prime.tree layout root);
    form_is = has.placed.is.form ∙ ap chained_bytes spec_here ∙ sym form;
    forest = has.placed.forest;
    listed = has.placed.is.rows ∙ ap (λ (s : Spec). map (entry_under s Prime) kept_in.named.file.rows) spec_here
        ∙ ap (λ (f : File). map (entry_under spec Prime) f.rows) file_is;
  }

  pub prime_rows : (prime : ChainedTree) → prime.tree.layout ≡ layout_under spec Prime
      → prime.tree.root ≡ root_in Prime listing → prime.record_bytes ≡ chained_bytes spec
      → HasRows spec pages named.file.rows prime
  prime_rows prime layout root form =
      let own = rows_seen the_map (Some kept_in.named.file) kept_in found has.few in
      let tree : ChainedTree = row_tree_of spec kept_in.prime.tree in
      let here : HasRows spec pages kept_in.named.file.rows tree =
      subst (λ (s : Spec). HasRows s pages kept_in.named.file.rows (row_tree_of s kept_in.prime.tree)) spec_here own in
      subst (λ (t : ChainedTree). HasRows spec pages named.file.rows t)
      (sym (same_rows prime tree (prime_same prime.tree layout root) form))
      (subst (λ (f : File). HasRows spec pages f.rows tree) file_is here)

  pub all_pairs : HasAllPairs spec pages named.file.rows listing
  all_pairs i low =
      let inside : i < length kept_in.named.file.spec.alternates =
      subst (λ (s : Spec). i < length s.alternates) (sym spec_here) low in
      let own =
      pairs_seen the_map (Some kept_in.named.file) kept_in (Alternate i) found has.few (omega (arith, inside)) in
      let here : HasPairs spec (Alternate i) pages kept_in.named.file.rows (tree_under (Alternate i) kept_in).tree =
      subst (λ (s : Spec).
      HasPairs s (Alternate i) pages kept_in.named.file.rows (tree_under (Alternate i) kept_in).tree) spec_here own in
      let same =
      tree_is the_map (Some kept_in.named.file) kept_in spec (Alternate i) listing
      (listed_tree spec i listing) found has.small spec_here (omega (arith, low)) has.placed.says refl refl in
      subst (λ (t : RootedTree). HasPairs spec (Alternate i) pages named.file.rows t) (sym same) (subst
      (λ (f : File). HasPairs spec (Alternate i) pages f.rows (tree_under (Alternate i) kept_in).tree) file_is here)

  pub rows_under : All (IsUnder spec Prime) named.file.rows
  rows_under = subst (λ (s : Spec). All (IsUnder s Prime) named.file.rows) has.spec_is
      (rows_fit named.file has.is_named.file arrival_few).0

  pub rows_ascend : RowsAscend spec.organization named.file.rows
  rows_ascend = subst (λ (s : Spec). RowsAscend s.organization named.file.rows) has.spec_is has.is_named.file.ascend

  pub is_row_of : (row : Row) → Contains named.file.rows row → IsRowOf spec row
  is_row_of row there =
      let file : File = named.file in
      let is : IsRow file.spec file.next_arrival row = All-contains (IsRow file.spec file.next_arrival) file.rows row
      (All-from_recursion (IsRow file.spec file.next_arrival) file.rows has.is_named.file.rows) there in
      let few = arrival_few in
      record {
        long = is.long ∙ ap (λ (s : Spec). s.record_length) has.spec_is;
        count = is.arrivals ∙ ap (λ (s : Spec). length s.alternates) has.spec_is;
        low = λ k d within. let given =
            (All-from_recursion (IsArrival file.next_arrival) row.arrivals is.given k d within).1 in
            omega (arith, given, few);
      }

  pub indexes_then : (after : List (Option Sector)) (prime : ChainedTree) (entries : List Entry)
      → (stands : IsRowTreeAmong after left (kept_in.alternates ++ right) prime entries) →
      HasIndexes named.file after (left ++ stands.planted ∷ []) right kept_in.alternates listing
  indexes_then after prime entries stands =
      let x : TreeLevels = stands.planted in
      let fits : (i : ℕ) → i < length named.file.spec.alternates → i < length kept_in.named.file.spec.alternates =
      λ i low. subst (λ (f : File). i < length f.spec.alternates) (sym file_is) low in
      record {
        forest = subst (λ (ts : List TreeLevels). IsForest after ts)
            (sym (append_assoc left (x ∷ []) (kept_in.alternates ++ right))) stands.forest;
        count = has.placed.is.count ∙ ap (λ (f : File). length f.spec.alternates) file_is;
        indexes = λ i low. subst (λ (f : File). IsIndex f i (slice_index_or kept_in.alternates i no_tree)) file_is
            (has.placed.is.indexes i (fits i low));
        roots = λ i low. let inside = fits i low in sym
            (root_is the_map (Some kept_in.named.file) kept_in (Alternate i) found has.small (omega (arith, inside)))
            ∙ ap (root_in (Alternate i)) (sym has.placed.says);
      }

  -- its trees, as the catalog says them
  told_tree : (key : KeyOfReference) → IsKey kept_in.named.file.spec key → (tree_under key kept_in).tree
      ≡ record { layout = layout_under kept_in.named.file.spec key; root = root_in key listing }
  told_tree key within =
      let own : RootedTree = record { layout = layout_under kept_in.named.file.spec key; root = root_in key listing } in
      sym (tree_is the_map (Some kept_in.named.file) kept_in kept_in.named.file.spec key
      listing own found has.small refl within has.placed.says refl refl)

  pub prime_told : kept_in.prime.tree
      ≡ record { layout = layout_under kept_in.named.file.spec Prime; root = root_in Prime listing }
  prime_told = told_tree Prime (omega arith)

  pub all_stored : HasStored listing kept_in
  all_stored = record {
    good = good_spec;
    says = has.placed.says;
    count = has.placed.is.count;
    whole = λ i within. (has.placed.is.indexes i within).whole;
    trees = λ i within. told_tree (Alternate i) (omega (arith, within));
  }
