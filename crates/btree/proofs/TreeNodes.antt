-- What is read of one page of a tree.
use Rattle.std.proofs.Common.{◌≡◌, ◌≤◌, ◌<◌, ◌+◌, ◌-◌, ◌^◌, ℕ, List, [], ◌∷◌, length, take, drop, refl, sym, ap, subst}
use Rattle.std.proofs.Common.{◌∙◌, arith, inl, inr}
use Rattle.std.specs.Prelude.{slice_index_or, Option, Some, None}
use Rattle.std.proofs.lemmas.List.{get_or-take, length-take-le}
use Rattle.std.specs.List.{All}
use Rattle.std.proofs.lemmas.List.Elements.{All-head, All-drop}
use Rattle.station.specs.Disk.{Sector}
use Rattle.btree_pages.specs.declared.row_layout.RowLayout.{RowLayout}
use Rattle.btree_pages.specs.declared.row_layout.Kind.{Kind}
use Rattle.btree_pages.specs.declared.row_layout.Kind.TheVariants.{Leaf, Inner}
use Rattle.btree_pages.specs.Node.{Node, node_in}
use Rattle.btree_pages.specs.Keys.{key_of, Precedes, AllAbove, AllBelow}
use Rattle.btree.specs.Tree.{TreeNode, IsTree, IsOnPage, node_at, node_on, node_of, fewest}
use Rattle.btree.specs.Reading.{SpellsNoNode}
use Rattle.btree.specs.Path.{IsChosen}
use Rattle.btree.proofs.Order.{not_itself, not_both}
use Rattle.btree.proofs.Descents.{rows_read, kind_read}

-- A page that is none of a tree.
pub read_none : (layout : RowLayout) (pages : List (Option Sector)) (page : ℕ) (bytes : Option Sector) (kind : Kind)
    (node : TreeNode) → bytes ≡ slice_index_or pages page None → node_on layout bytes ≡ None → node.page ≡ page
    → IsOnPage layout pages kind node → ⊥
read_none layout pages page bytes kind node is none same stands =
    let clash : None ≡ Some (node_of layout kind node.rows) =
    sym none ∙ ap (node_on layout) is ∙ ap (node_at layout pages) (sym same) ∙ stands.node in
    cc

pub read_few : (layout : RowLayout) (pages : List (Option Sector)) (page : ℕ) (node : Node)
    (kind : Kind) (tree_node : TreeNode) → node_at layout pages page ≡ Some node → length node.rows < fewest node.kind
    → tree_node.page ≡ page → IsOnPage layout pages kind tree_node → ⊥
read_few layout pages page node kind tree_node read few same stands =
    let rows : length tree_node.rows ≡ length node.rows =
    ap length (rows_read layout pages kind tree_node page node same stands read) in
    let least : fewest kind ≡ fewest node.kind =
    ap fewest (kind_read layout pages kind tree_node page node same stands read) in
    let enough = stands.enough in
    omega arith

-- What bytes spell, their page is.
pub node_seen : (layout : RowLayout) (pages : List (Option Sector)) (page : ℕ) (bytes : Sector)
    → slice_index_or pages page None ≡ Some bytes → node_at layout pages page ≡ node_in layout bytes
node_seen layout pages page bytes is = ap (node_on layout) is

pub spells_none : (layout : RowLayout) (pages : List (Option Sector)) (page : ℕ) (bytes : Sector)
    → slice_index_or pages page None ≡ Some bytes → SpellsNoNode layout bytes → (kind : Kind) (node : TreeNode)
    → node.page ≡ page → IsOnPage layout pages kind node → ⊥
spells_none layout pages page bytes is none kind node same stands =
    none kind node.rows (sym (node_seen layout pages page bytes is) ∙ ap (node_at layout pages) (sym same)
    ∙ stands.node) stands.enough

-- The child for a key.
pub chosen_at : (layout : RowLayout) (key : List ℕ) (rows : List (List ℕ)) (place : ℕ) → place < length rows
    → key_of layout (slice_index_or rows place []) ≡ key → AllAbove layout key (drop (place + 1) rows)
    → IsChosen layout key rows place
chosen_at layout key rows place low is above = record {
  low = low;
  after = above;
  here = inr (λ high. not_itself key (subst (Precedes key) is high));
}

pub chosen_first : (layout : RowLayout) (key : List ℕ) (rows : List (List ℕ)) → 0 < length rows
    → AllAbove layout key rows → IsChosen layout key rows 0
chosen_first layout key rows some above = record {
  low = some;
  after = All-drop (λ row. Precedes key (key_of layout row)) 1 rows above;
  here = inl refl;
}

pub chosen_before : (layout : RowLayout) (key : List ℕ) (rows : List (List ℕ)) (place : ℕ)
    → 0 < place → place ≤ length rows → AllBelow layout key (take place rows) → AllAbove layout key (drop place rows)
    → IsChosen layout key rows (place - 1)
chosen_before layout key rows place some low below above =
    let next : place - 1 + 1 ≡ place = omega arith in
    let count : length (take place rows) ≡ place = length-take-le place rows low in
    let here : Precedes (key_of layout (slice_index_or rows (place - 1) [])) key =
    subst (λ row. Precedes (key_of layout row) key) (get_or-take place rows (place - 1) [] (omega arith))
    (below (place - 1) [] (omega arith)) in
    record {
      low = omega arith;
      after = subst (λ (n : ℕ). AllAbove layout key (drop n rows)) (sym next) above;
      here = inr (λ high. not_both key (key_of layout (slice_index_or rows (place - 1) [])) high here);
    }

-- A volume has few page numbers.
pub few_pages : (pages : List (Option Sector)) (count number : ℕ) → length pages ≡ count → number ≡ count
    → number ≤ 921600 → length pages ≤ 2 ^ 20
few_pages pages count number is same few = omega arith

-- The node of a tree's root.
pub record RootNode (layout : RowLayout) (pages : List (Option Sector)) (root : ℕ) : Type 0 where
  pub kind : Kind
  pub node : TreeNode
  pub page : node.page ≡ root
  pub stands : IsOnPage layout pages kind node

pub root_node : (layout : RowLayout) (pages : List (Option Sector)) (root : ℕ) (levels : List (List TreeNode))
    → IsTree layout pages root levels → RootNode layout pages root
root_node layout pages root [] tree = absurd tree.top
root_node layout pages root (leaves ∷ []) tree = record {
  kind = Leaf;
  node = tree.top.0;
  page = tree.top.2;
  stands = All-head (IsOnPage layout pages Leaf) tree.top.0 []
      (subst (All (IsOnPage layout pages Leaf)) tree.top.1 tree.joined);
}
root_node layout pages root (upper ∷ lower ∷ more) tree = record {
  kind = Inner;
  node = tree.top.0;
  page = tree.top.2;
  stands = All-head (IsOnPage layout pages Inner) tree.top.0 []
      (subst (All (IsOnPage layout pages Inner)) tree.top.1 tree.joined.0);
}
