-- The trees of alternate keys, one after the other.
use Rattle.std.proofs.Common.{◌≡◌, ◌≤◌, ◌<◌, ◌+◌, ◌^◌, ◌++◌, ⊎_elim, ℕ, Bool, List, [], ◌∷◌, length, drop}
use Rattle.std.proofs.Common.{length-append, append-nil, refl, sym, ap, subst, ◌∙◌, arith}
use Rattle.std.specs.Prelude.{Option, slice_index_or}
use Rattle.std.proofs.lemmas.Bool.{cases_lt}
use Rattle.std.proofs.lemmas.List.{drop_more, get_or_append_left, get_or_push}
use Rattle.std.proofs.lemmas.List.Concat.{flat_map-append}
use Rattle.std.proofs.lemmas.List.Elements.{All-nil, All-append}
use Rattle.station.specs.Disk.{Sector}
use Rattle.station.specs.declared.device.Device.{Ghosts as Devices}
use Rattle.pages.specs.declared.page_map.PageMap.{PageMap}
use Rattle.btree_pages.specs.declared.row_layout.RowLayout.{RowLayout}
use Rattle.btree.specs.Calls.{OnPages, pages_on}
use Rattle.btree.specs.Entries.{entries_of}
use Rattle.btree.specs.Rooted.{RootedTree}
use Rattle.btree.specs.Tree.{IsTreeOrEmpty}
use Rattle.btree_check.specs.Walks.{CanMark, Marks, FindsTree}
use Rattle.records.specs.declared.key.KeyOfReference.TheVariants.{Alternate}
use Rattle.records.specs.Spec.{Spec}
use Rattle.records.specs.Rows.{Row}
use Rattle.volume_format.specs.Calls.{LooksAt}
use Rattle.volume_format.specs.Forest.{TreeLevels, IsTreeIn, tree_levels, pages_under, pages_within}
use Rattle.volume_format.specs.Trees.{AreOf, layout_under}
use Rattle.volume_format.specs.Volume.{no_tree}
use Rattle.file_recovery.specs.Found.{root_at, HasIndex, AreIndexes, FindsIndexes, FindsIndex, NoIndex}
use Rattle.btree_check.proofs.Marking.{marks_none, marks_append, can_left, can_after}
use Rattle.volume_format.proofs.OneTree.{one_planted}
use Rattle.volume_format.proofs.Whole.{whole_grows, whole_entries}
use Rattle.file_recovery.proofs.Calling.{on_pages_before}

module _ (pages : List (Option Sector)) (spec : Spec) (rows : List Row) (value : List ℕ) where
  pub no_indexes : (seen : List Bool) → FindsIndexes pages spec rows value 0 seen seen
  no_indexes seen = record {
    trees = [];
    are = record {
      many = refl;
      each = λ i low. absurd (omega (arith, low));
      rooted = λ i low. absurd (omega (arith, low));
      grow = All-nil (IsTreeIn pages);
    };
    marks = marks_none seen;
  }

  within_more : (trees : List TreeLevels) (tree : TreeLevels)
      → pages_within (trees ++ tree ∷ []) ≡ pages_within trees ++ pages_under tree
  within_more trees tree = flat_map-append pages_under trees (tree ∷ [])
      ∙ ap (λ (l : List ℕ). pages_within trees ++ l) (append-nil (pages_under tree))

  pub one_more_index : (k : ℕ) (old mid new : List Bool) → FindsIndexes pages spec rows value k old mid
      → FindsIndex pages spec rows value k mid new → FindsIndexes pages spec rows value (k + 1) old new
  one_more_index k old mid new before found =
      let trees : List TreeLevels = before.trees in
      let all : List TreeLevels = trees ++ found.tree ∷ [] in
      let many = before.are.many in
      let more = length-append trees (found.tree ∷ []) in
      let last : slice_index_or all k no_tree ≡ found.tree = get_or_push trees found.tree no_tree k many in
      let Q : (ℕ → TreeLevels → Type 0) → Type 0 = λ P. (i : ℕ) → i < k + 1 → P i (slice_index_or all i no_tree) in
      let each : (P : ℕ → TreeLevels → Type 0) → ((i : ℕ) → i < k → P i (slice_index_or trees i no_tree))
      → P k found.tree → (i : ℕ) → i < k + 1 → P i (slice_index_or all i no_tree) =
      λ P below here i low. ⊎_elim
      (λ (less : i < k). subst (P i)
      (sym (get_or_append_left trees (found.tree ∷ []) no_tree i (omega (arith, less, many)))) (below i less))
      (λ (least : k ≤ i). let same : k ≡ i = omega (arith, least, low) in
      subst (λ (n : ℕ). P n (slice_index_or all n no_tree)) same (subst (P k) (sym last) here))
      (cases_lt i k) in
      record {
        trees = all;
        are = record {
          many = omega (arith, many, more);
          each = each (λ i t. HasIndex spec rows i t) before.are.each found.is;
          rooted = each (λ i t. t.tree.root ≡ root_at value i) before.are.rooted found.rooted;
          grow = All-append (IsTreeIn pages) trees (found.tree ∷ []) before.are.grow (λ i d low. let none : i ≡ 0 =
              omega (arith, low) in
              subst (λ n. IsTreeIn pages (slice_index_or (found.tree ∷ []) n d)) (sym none) found.grows);
        };
        marks = subst (λ (l : List ℕ). Marks old l new) (sym (within_more trees found.tree))
            (marks_append old mid new (pages_within trees) (pages_under found.tree) before.marks found.marks);
      }

  -- what a list of such trees has after a place can still be marked
  abbrev pub CanGoOn : ℕ → List Bool → ℕ → List Bool → Type 0
  CanGoOn count old k seen = (trees : List TreeLevels) → AreIndexes pages spec rows value count trees
      → CanMark old (pages_within trees) → CanMark seen (pages_within (drop k trees))

  pub at_first : (count : ℕ) (seen : List Bool) → CanGoOn count seen 0 seen
  at_first count seen = λ trees are can. can

  module _ (count k : ℕ) (low : k < count) (trees : List TreeLevels)
      (are : AreIndexes pages spec rows value count trees) where
    tree : TreeLevels
    tree = slice_index_or trees k no_tree

    unfolded : tree ≡ slice_index_or trees k no_tree
    unfolding tree
    unfolded = refl

    split : drop k trees ≡ slice_index_or trees k no_tree ∷ drop (k + 1) trees
    split = drop_more trees k no_tree (let many = are.many in omega (arith, many, low))

    pub can_here : (seen : List Bool) → CanMark seen (pages_within (drop k trees))
        → CanMark seen (pages_under (slice_index_or trees k no_tree) ++ pages_within (drop (k + 1) trees))
    can_here seen can = subst (λ (l : List TreeLevels). CanMark seen (pages_within l)) split can

    pub grows_here : IsTreeIn pages (slice_index_or trees k no_tree)
    grows_here = are.grow k no_tree (let many = are.many in omega (arith, many, low))

  pub goes_on : (count k : ℕ) (old mid new : List Bool) → length pages ≤ 2 ^ 20 → k < count → CanGoOn count old k mid
      → FindsIndex pages spec rows value k mid new → CanGoOn count old (k + 1) new
  goes_on count k old mid new small low before found = λ trees are can.
      let own : TreeLevels = slice_index_or trees k no_tree in
      let here = can_here count k low trees are mid (before trees are can) in
      let is = are.each k low in
      let same : found.tree ≡ own = one_planted pages found.tree own small found.grows
      (grows_here count k low trees are) (found.is.layout ∙ sym is.layout) (found.rooted ∙ sym (are.rooted k low))
      (found.is.whole ∙ sym is.whole) in
      can_after mid new (pages_under own) (pages_within (drop (k + 1) trees))
      (subst (λ (t : TreeLevels). Marks mid (pages_under t) new) same found.marks) here

  pub none_here : (count k : ℕ) (old mid : List Bool) → k < count → CanGoOn count old k mid
      → NoIndex pages spec rows value k mid → (trees : List TreeLevels) → AreIndexes pages spec rows value count trees
      → CanMark old (pages_within trees) → ⊥
  none_here count k old mid low before never trees are can =
      let own : TreeLevels = slice_index_or trees k no_tree in
      let here = can_here count k low trees are mid (before trees are can) in
      never own (are.each k low) (are.rooted k low) (grows_here count k low trees are)
      (can_left mid (pages_under own) (pages_within (drop (k + 1) trees)) here)

  -- what is under the root of an alternate key is its tree
  pub index_is : {tree : RootedTree} {k : ℕ} {old new : List Bool} → tree.layout ≡ layout_under spec (Alternate k)
      → tree.root ≡ root_at value k → (found : FindsTree tree.layout pages tree.root old new)
      → AreOf spec (Alternate k) rows (entries_of tree.layout found.levels) → FindsIndex pages spec rows value k old new
  index_is {tree} layout root found pairs = record {
    tree = tree_levels tree found.levels;
    is = record { layout = layout; whole = refl; pairs = pairs };
    rooted = root;
    grows = whole_grows pages tree found.levels found.holds;
    marks = found.marks;
  }

  -- and such a tree is under that root
  module _ (tree : RootedTree) {k : ℕ} (layout : tree.layout ≡ layout_under spec (Alternate k)) (own : TreeLevels)
      (is : HasIndex spec rows k own) (grows : IsTreeIn pages own) where
    pub index_there : tree.root ≡ root_at value k → own.tree.root ≡ root_at value k
        → IsTreeOrEmpty tree.layout pages tree.root own.levels
    index_there root rooted = subst (λ (l : RowLayout). IsTreeOrEmpty l pages tree.root own.levels)
        (is.layout ∙ sym layout) (subst (λ r. IsTreeOrEmpty own.tree.layout pages r own.levels) (rooted ∙ sym root)
        grows.stands)

    pub index_entries : AreOf spec (Alternate k) rows (entries_of tree.layout own.levels)
    index_entries = subst (AreOf spec (Alternate k) rows) (whole_entries pages own grows is.whole
        ∙ ap (λ (l : RowLayout). entries_of l own.levels) (is.layout ∙ sym layout)) is.pairs

-- The tree of an alternate key was found by a call, after others.
module _ {D : Type 0} (d : Devices D) {p q : PageMap} {a b : D} {spec : Spec} {rows : List Row} {value : List ℕ} {k : ℕ}
    {old mid new : List Bool} (looks : LooksAt d ⊥ p a q b)
    (index : OnPages d q b (λ pages. FindsIndex pages spec rows value k mid new)) where
  pub index_more : OnPages d p a (λ pages. FindsIndexes pages spec rows value k old mid)
      → OnPages d p a (λ pages. FindsIndexes pages spec rows value (k + 1) old new)
  index_more before = λ honest agrees.
      one_more_index (pages_on d p a) spec rows value k old mid new (before honest agrees)
      (on_pages_before d (λ pages. FindsIndex pages spec rows value k mid new) looks index honest agrees)

  pub indexes_go_on : {count : ℕ} → OnPages d p a (λ pages. length pages ≤ 2 ^ 20) → k < count
      → OnPages d p a (λ pages. CanGoOn pages spec rows value count old k mid)
      → OnPages d p a (λ pages. CanGoOn pages spec rows value count old (k + 1) new)
  indexes_go_on {count} small low before = λ honest agrees.
      goes_on (pages_on d p a) spec rows value count k old mid new (small honest agrees) low (before honest agrees)
      (on_pages_before d (λ pages. FindsIndex pages spec rows value k mid new) looks index honest agrees)
