-- A tree of rows among others, and what it is after a change of its pages and of its chains.
use Rattle.std.proofs.Common.{◌≡◌, ◌∷◌, ◌++◌, ℕ, List, map, refl, sym, ap, subst, ◌∙◌}
use Rattle.std.specs.Prelude.{Option}
use Rattle.std.proofs.lemmas.List.Elements.{All-head}
use Rattle.station.specs.Disk.{Sector}
use Rattle.btree_pages.specs.declared.row_layout.RowLayout.{RowLayout}
use Rattle.btree.specs.Tree.{TreeNode, IsTreeOrEmpty, pages_of}
use Rattle.btree.specs.Entries.{Entry, entries_of}
use Rattle.btree.specs.Rooted.{RootedTree}
use Rattle.chains.specs.Rows.{HasRows, RowsMove, chains_of, unrolled_entry}
use Rattle.volume_format.specs.Chained.{form_of}
use Rattle.volume_format.specs.Forest.{TreeLevels, IsTreeIn, IsForest, pages_under}
use Rattle.volume_format.proofs.Forests.{all_right, forest_moves, moves_swapped}
use Rattle.row_trees.specs.RowTree.{ChainedTree, IsRowTree, IsRowTreeAmong}

-- the entries on the pages of a tree, as they are and as they are seen, and the pages of their chains
abbrev pub stored_in : ChainedTree → List (List TreeNode) → List Entry
stored_in rows levels = entries_of rows.tree.layout levels

abbrev pub seen_in : List (Option Sector) → ChainedTree → List (List TreeNode) → List Entry
seen_in pages rows levels = map (unrolled_entry (form_of rows.record_bytes) pages) (stored_in rows levels)

abbrev pub chains_in : List (Option Sector) → ChainedTree → List (List TreeNode) → List ℕ
chains_in pages rows levels = chains_of (form_of rows.record_bytes) pages (stored_in rows levels)

tree_with : RootedTree → List (List TreeNode) → ℕ → List ℕ → List Entry → TreeLevels
tree_with tree levels record_bytes chains entries = record {
  tree = tree;
  levels = levels;
  record_bytes = record_bytes;
  chains = chains;
  entries = entries;
}

-- the tree of these levels
pub planted_as : List (Option Sector) → ChainedTree → List (List TreeNode) → TreeLevels
planted_as pages rows levels =
    tree_with rows.tree levels rows.record_bytes (chains_in pages rows levels) (seen_in pages rows levels)

pub pages_planted : (pages : List (Option Sector)) (rows : ChainedTree) (levels : List (List TreeNode))
    → pages_under (planted_as pages rows levels) ≡ chains_in pages rows levels ++ pages_of levels
unfolding tree_with planted_as
pages_planted pages rows levels = refl

-- What stands of a tree on its pages.
pub record Stands (pages : List (Option Sector)) (rows : ChainedTree) (levels : List (List TreeNode)) : Type 0 where
  pub tree : IsTreeOrEmpty rows.tree.layout pages rows.tree.root levels
  pub has : HasRows (form_of rows.record_bytes) pages (pages_of levels) (stored_in rows levels)

pub stands_alone : (pages : List (Option Sector)) (rows : ChainedTree) (planted : TreeLevels)
    → IsRowTree pages rows planted → Stands pages rows planted.levels
stands_alone pages rows planted is = record {
  tree = subst (λ (t : RootedTree). IsTreeOrEmpty t.layout pages t.root planted.levels) is.tree_is is.grows.stands;
  has = subst
      (λ (n : ℕ). HasRows (form_of n) pages (pages_of planted.levels) (stored_in rows planted.levels)) is.form_is
      (subst (λ (t : RootedTree). HasRows (form_of planted.record_bytes) pages (pages_of planted.levels)
      (entries_of t.layout planted.levels)) is.tree_is is.grows.chained);
}

pub seen_alone : (pages : List (Option Sector)) (rows : ChainedTree) (planted : TreeLevels)
    → IsRowTree pages rows planted → planted.entries ≡ seen_in pages rows planted.levels
seen_alone pages rows planted is =
    is.grows.entries_are
    ∙ ap (λ (t : RootedTree). map (unrolled_entry (form_of planted.record_bytes) pages)
    (entries_of t.layout planted.levels)) is.tree_is
    ∙ ap (λ (n : ℕ). map (unrolled_entry (form_of n) pages) (stored_in rows planted.levels)) is.form_is

pub chains_alone : (pages : List (Option Sector)) (rows : ChainedTree) (planted : TreeLevels)
    → IsRowTree pages rows planted → planted.chains ≡ chains_in pages rows planted.levels
chains_alone pages rows planted is =
    is.grows.chains_are
    ∙ ap (λ (t : RootedTree). chains_of (form_of planted.record_bytes) pages (entries_of t.layout planted.levels))
    is.tree_is
    ∙ ap (λ (n : ℕ). chains_of (form_of n) pages (stored_in rows planted.levels)) is.form_is

planted_is : (pages : List (Option Sector)) (rows : ChainedTree) (planted : TreeLevels) → IsRowTree pages rows planted
    → planted ≡ planted_as pages rows planted.levels
unfolding tree_with planted_as
planted_is pages rows planted is =
    ap (λ (t : RootedTree). tree_with t planted.levels planted.record_bytes planted.chains planted.entries) is.tree_is
    ∙ ap (λ (n : ℕ). tree_with rows.tree planted.levels n planted.chains planted.entries) is.form_is
    ∙ ap (λ (l : List ℕ). tree_with rows.tree planted.levels rows.record_bytes l planted.entries)
    (chains_alone pages rows planted is)
    ∙ ap (tree_with rows.tree planted.levels rows.record_bytes (chains_in pages rows planted.levels))
    (seen_alone pages rows planted is)

-- The same of a tree among others.
pub alone : (pages : List (Option Sector)) (left right : List TreeLevels) (rows : ChainedTree) (entries : List Entry)
    → (is : IsRowTreeAmong pages left right rows entries) → IsRowTree pages rows is.planted
alone pages left right rows entries is = record {
  tree_is = is.tree_is;
  form_is = is.form_is;
  grows = All-head (IsTreeIn pages) is.planted right
      (all_right (IsTreeIn pages) left (is.planted ∷ right) is.forest.grow);
}

pub stands_among : (pages : List (Option Sector)) (left right : List TreeLevels) (rows : ChainedTree)
    (entries : List Entry) → (is : IsRowTreeAmong pages left right rows entries) → Stands pages rows is.planted.levels
stands_among pages left right rows entries is =
    stands_alone pages rows is.planted (alone pages left right rows entries is)

pub seen_among : (pages : List (Option Sector)) (left right : List TreeLevels) (rows : ChainedTree)
    (entries : List Entry) → (is : IsRowTreeAmong pages left right rows entries)
    → entries ≡ seen_in pages rows is.planted.levels
seen_among pages left right rows entries is =
    sym is.listed ∙ seen_alone pages rows is.planted (alone pages left right rows entries is)

pub forest_among : (pages : List (Option Sector)) (left right : List TreeLevels) (rows : ChainedTree)
    (entries : List Entry) → (is : IsRowTreeAmong pages left right rows entries)
    → IsForest pages (left ++ planted_as pages rows is.planted.levels ∷ right)
forest_among pages left right rows entries is =
    subst (λ (t : TreeLevels). IsForest pages (left ++ t ∷ right))
    (planted_is pages rows is.planted (alone pages left right rows entries is)) is.forest

-- A tree with another root.
rooted : RowLayout → ℕ → ℕ → ChainedTree
rooted layout record_bytes root =
    record { tree = record { layout = layout; root = root }; record_bytes = record_bytes }

rooted_is : (old new : ChainedTree) → new.tree.layout ≡ old.tree.layout → new.record_bytes ≡ old.record_bytes
    → rooted old.tree.layout old.record_bytes new.tree.root ≡ new
unfolding rooted
rooted_is old new layout form = ap (λ (l : RowLayout). rooted l old.record_bytes new.tree.root) (sym layout)
    ∙ ap (λ (n : ℕ). rooted new.tree.layout n new.tree.root) (sym form)

-- After a change the tree stands among the others, with the entries that it is seen to have.
became : (before after : List (Option Sector)) (left right : List TreeLevels) (old : ChainedTree) (root : ℕ)
    (old_levels levels : List (List TreeNode)) (seen : List Entry)
    → IsForest before (left ++ planted_as before old old_levels ∷ right)
    → IsTreeOrEmpty old.tree.layout after root levels
    → RowsMove (form_of old.record_bytes) before (pages_of old_levels) (stored_in old old_levels) after
    (pages_of levels) (stored_in old levels) seen
    → IsRowTreeAmong after left right (rooted old.tree.layout old.record_bytes root) seen
unfolding rooted tree_with planted_as
became before after left right old root old_levels levels seen forest tree moved =
    let form = form_of old.record_bytes in
    let planted : TreeLevels = record {
      tree = record { layout = old.tree.layout; root = root };
      levels = levels;
      record_bytes = old.record_bytes;
      chains = chains_in after old levels;
      entries = seen;
    } in
    record {
      planted = planted;
      tree_is = refl;
      form_is = refl;
      forest = forest_moves before after left right (planted_as before old old_levels) planted forest
          (moves_swapped before after (pages_of old_levels) (chains_in before old old_levels) (pages_of levels)
          (chains_in after old levels) moved.moves)
          (record { stands = tree; chained = moved.rows; chains_are = refl; entries_are = sym moved.seen_as });
      listed = refl;
    }

pub changed_among : (before after : List (Option Sector)) (left right : List TreeLevels) (old new : ChainedTree)
    (entries : List Entry) (is : IsRowTreeAmong before left right old entries) (levels : List (List TreeNode))
    (later shown seen : List Entry) → new.tree.layout ≡ old.tree.layout → new.record_bytes ≡ old.record_bytes
    → stored_in old levels ≡ later → shown ≡ seen → IsTreeOrEmpty old.tree.layout after new.tree.root levels
    → RowsMove (form_of old.record_bytes) before (pages_of is.planted.levels) (stored_in old is.planted.levels) after
    (pages_of levels) later shown
    → IsRowTreeAmong after left right new seen
changed_among before after left right old new entries is levels later shown seen layout form listed tells tree moved =
    let pages = pages_of is.planted.levels in
    let M : List Entry → List Entry → Type 0 =
    λ stored visible. RowsMove (form_of old.record_bytes) before pages (stored_in old is.planted.levels) after
    (pages_of levels) stored visible in
    subst (λ (t : ChainedTree). IsRowTreeAmong after left right t seen) (rooted_is old new layout form)
    (became before after left right old new.tree.root is.planted.levels levels seen
    (forest_among before left right old entries is) tree
    (subst (λ (l : List Entry). M l seen) (sym listed) (subst (M later) tells moved)))

-- A tree as its user sees it.
abbrev pub chained : RootedTree → ℕ → ChainedTree
chained tree record_bytes = record { tree = tree; record_bytes = record_bytes }

pub viewed : (pages : List (Option Sector)) (left right : List TreeLevels) (view self : ChainedTree)
    (entries : List Entry) → view ≡ self → IsRowTreeAmong pages left right self entries
    → IsRowTreeAmong pages left right view entries
viewed pages left right view self entries same is =
    subst (λ (t : ChainedTree). IsRowTreeAmong pages left right t entries) (sym same) is

pub same_chained : (one two : RootedTree) (n : ℕ) (self : ChainedTree) → one ≡ two → chained two n ≡ self
    → chained one n ≡ self
same_chained one two n self same is = ap (λ (t : RootedTree). chained t n) same ∙ is
