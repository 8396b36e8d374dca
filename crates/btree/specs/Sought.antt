-- Which entry a search is for, and what a leaf answers it.
use Rattle.std.specs.Prelude.{◌≡◌, Bool, true, false, ℕ, List, [], slice_index_or, Option, Some, None}
use Rattle.station.specs.Disk.{Sector}
use Rattle.btree_pages.specs.declared.row_layout.RowLayout.{RowLayout}
use Rattle.btree_pages.specs.declared.row_layout.Kind.TheVariants.{Leaf, Inner}
use Rattle.btree_pages.specs.Keys.{keys_of, child_of, Ascend}
use Rattle.btree_pages.specs.Node.{Node, node_in}
use Rattle.btree.specs.declared.sought.Sought.{Sought}
use Rattle.btree.specs.declared.sought.Sought.TheVariants.{With, From, After}
use Rattle.btree.specs.declared.sought.Look.{Look}
use Rattle.btree.specs.declared.sought.Look.TheVariants.{Here, Missing, Below}
use Rattle.btree.specs.Tree.{node_at}
use Rattle.btree.specs.Path.{IsChosen}
use Rattle.btree.specs.Entries.{Entry, entry_with, first_from, first_entry_after, entries_of_rows}

abbrev pub sought_in : Sought → List Entry → List ℕ → Option Entry
sought_in With entries key = entry_with entries key
sought_in From entries key = first_from entries key
sought_in After entries key = first_entry_after entries key

-- the leaf that these bytes spell answers that entry, and the leaf of that number
pub record AnswersIn (layout : RowLayout) (bytes : Sector) (key : List ℕ) (sought : Sought) (entry : Option Entry) : Type 0 where
  pub node : Node
  pub read : node_in layout bytes ≡ Some node
  pub layout_is : node.layout ≡ layout
  pub leaf : node.kind ≡ Leaf
  pub entry_is : Ascend (keys_of node.layout node.rows) → entry ≡ sought_in sought (entries_of_rows node.layout node.rows) key

pub record AnswersAt (layout : RowLayout) (pages : List (Option Sector)) (page : ℕ) (key : List ℕ) (sought : Sought) (entry : Option Entry) : Type 0 where
  pub node : Node
  pub read : node_at layout pages page ≡ Some node
  pub layout_is : node.layout ≡ layout
  pub leaf : node.kind ≡ Leaf
  pub entry_is : Ascend (keys_of node.layout node.rows) → entry ≡ sought_in sought (entries_of_rows node.layout node.rows) key

-- the inner page that these bytes spell has a row for the key, which names the child of that page number, and the one of that number
pub record DescendsIn (layout : RowLayout) (bytes : Sector) (key : List ℕ) (child : ℕ) : Type 0 where
  pub node : Node
  pub read : node_in layout bytes ≡ Some node
  pub layout_is : node.layout ≡ layout
  pub inner : node.kind ≡ Inner
  pub place : ℕ
  pub chosen : Ascend (keys_of node.layout node.rows) → IsChosen node.layout key node.rows place
  pub child_is : child ≡ child_of node.layout (slice_index_or node.rows place [])

pub record DescendsAt (layout : RowLayout) (pages : List (Option Sector)) (page : ℕ) (key : List ℕ) (child : ℕ) : Type 0 where
  pub node : Node
  pub read : node_at layout pages page ≡ Some node
  pub layout_is : node.layout ≡ layout
  pub inner : node.kind ≡ Inner
  pub place : ℕ
  pub chosen : Ascend (keys_of node.layout node.rows) → IsChosen node.layout key node.rows place
  pub child_is : child ≡ child_of node.layout (slice_index_or node.rows place [])

-- what the page that these bytes spell answers, with this entry, and the page of that number
abbrev pub LooksIn : RowLayout → Sector → List ℕ → Sought → Entry → Look → Type 0
LooksIn layout bytes key sought entry Here = AnswersIn layout bytes key sought (Some entry)
LooksIn layout bytes key sought entry Missing = AnswersIn layout bytes key sought None
LooksIn layout bytes key sought entry (Below child) = DescendsIn layout bytes key child

abbrev pub LooksAt : RowLayout → List (Option Sector) → ℕ → List ℕ → Sought → Entry → Look → Type 0
LooksAt layout pages page key sought entry Here = AnswersAt layout pages page key sought (Some entry)
LooksAt layout pages page key sought entry Missing = AnswersAt layout pages page key sought None
LooksAt layout pages page key sought entry (Below child) = DescendsAt layout pages page key child

-- An entry that is found in the leaf where a key belongs is the one that is sought. Where the leaf has none, the key has no entry; the
-- first one from a key on, or after it, may stand in a leaf to the right.
abbrev pub FindsEntry : List Entry → List ℕ → Sought → Entry → Bool → Type 0
FindsEntry entries key sought entry true = Some entry ≡ sought_in sought entries key
FindsEntry entries key sought entry false = sought ≡ With → None ≡ entry_with entries key
