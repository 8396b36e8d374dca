-- Trees of one layout and one root, whose records are in chains of one length, are one tree.
use Rattle.std.proofs.Common.{◌≡◌, ◌≤◌, ◌^◌, ℕ, List, length, map, sym, ap, subst, ◌∙◌}
use Rattle.std.specs.Prelude.{Option}
use Rattle.station.specs.Disk.{Sector}
use Rattle.btree_pages.specs.declared.row_layout.RowLayout.{RowLayout}
use Rattle.btree.specs.Tree.{TreeNode, IsTreeOrEmpty}
use Rattle.btree.specs.Entries.{Entry, entries_of}
use Rattle.btree.specs.Rooted.{RootedTree}
use Rattle.btree.proofs.One.{one_tree}
use Rattle.chains.specs.Rows.{chains_of, unrolled_entry}
use Rattle.volume_format.specs.Chained.{form_of}
use Rattle.volume_format.specs.Forest.{TreeLevels, IsTreeIn, stored_entries}

rooted_with : RowLayout → ℕ → RootedTree
rooted_with layout root = record { layout = layout; root = root }

tree_with : RootedTree → List (List TreeNode) → ℕ → List ℕ → List Entry → TreeLevels
tree_with tree levels record_bytes chains entries = record {
  tree = tree;
  levels = levels;
  record_bytes = record_bytes;
  chains = chains;
  entries = entries;
}

-- trees with the same fields
pub same_fields : (one two : TreeLevels) → one.tree ≡ two.tree → one.levels ≡ two.levels
    → one.record_bytes ≡ two.record_bytes → one.chains ≡ two.chains → one.entries ≡ two.entries → one ≡ two
unfolding tree_with
same_fields one two tree levels form chains entries =
    ap (λ (t : RootedTree). tree_with t one.levels one.record_bytes one.chains one.entries) tree
    ∙ ap (λ (l : List (List TreeNode)). tree_with two.tree l one.record_bytes one.chains one.entries) levels
    ∙ ap (λ (n : ℕ). tree_with two.tree two.levels n one.chains one.entries) form
    ∙ ap (λ (l : List ℕ). tree_with two.tree two.levels two.record_bytes l one.entries) chains
    ∙ ap (tree_with two.tree two.levels two.record_bytes two.chains) entries

same_rooted : (one two : RootedTree) → one.layout ≡ two.layout → one.root ≡ two.root → one ≡ two
unfolding rooted_with
same_rooted one two layout root =
    ap (λ (l : RowLayout). rooted_with l one.root) layout ∙ ap (rooted_with two.layout) root

pub one_planted : (pages : List (Option Sector)) (one two : TreeLevels) → length pages ≤ 2 ^ 20 → IsTreeIn pages one
    → IsTreeIn pages two → one.tree.layout ≡ two.tree.layout → one.tree.root ≡ two.tree.root
    → one.record_bytes ≡ two.record_bytes → one ≡ two
one_planted pages one two small grows grows_too layout root form =
    let there : IsTreeOrEmpty one.tree.layout pages one.tree.root two.levels =
    subst (λ (l : RowLayout). IsTreeOrEmpty l pages one.tree.root two.levels) (sym layout)
    (subst (λ (r : ℕ). IsTreeOrEmpty two.tree.layout pages r two.levels) (sym root) grows_too.stands) in
    let levels : one.levels ≡ two.levels =
    one_tree one.tree.layout pages one.tree.root one.levels two.levels small grows.stands there in
    let stored : stored_entries one ≡ stored_entries two =
    ap (entries_of one.tree.layout) levels ∙ ap (λ (l : RowLayout). entries_of l two.levels) layout in
    same_fields one two (same_rooted one.tree two.tree layout root) levels form
    (grows.chains_are ∙ ap (λ (n : ℕ). chains_of (form_of n) pages (stored_entries one)) form
    ∙ ap (chains_of (form_of two.record_bytes) pages) stored ∙ sym grows_too.chains_are)
    (grows.entries_are ∙ ap (λ (n : ℕ). map (unrolled_entry (form_of n) pages) (stored_entries one)) form
    ∙ ap (map (unrolled_entry (form_of two.record_bytes) pages)) stored ∙ sym grows_too.entries_are)
