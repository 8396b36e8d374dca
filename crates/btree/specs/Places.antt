-- The leaf of a tree where a search ended.
use Rattle.std.specs.Prelude.{◌≡◌, ◌≢◌, ◌≤◌, ℕ, List, [], ◌∷◌, length, map, Contains, Option, Some, None, Bool, true, false, Result, IfOk, if◌then◌else◌}
use Rattle.std.specs.Ordering.{is_gt}
use Rattle.station.specs.Disk.{Sector}
use Rattle.station.specs.declared.device.Device.{Ghosts as Devices}
use Rattle.pages.specs.declared.page_map.PageMap.{PageMap}
use Rattle.pages.specs.declared.error.PagesError.{PagesError}
use Rattle.btree_pages.specs.declared.row_layout.RowLayout.{RowLayout}
use Rattle.btree_pages.specs.declared.row_layout.Kind.TheVariants.{Leaf}
use Rattle.btree_pages.specs.Keys.{key_cmp, keys_of, Ascend}
use Rattle.btree_pages.specs.Node.{node_in}
use Rattle.btree.specs.declared.place.LeafPlace.{LeafPlace}
use Rattle.btree.specs.Entries.{Entry, entries_of, entries_of_rows, first_entry_after}
use Rattle.btree.specs.Tree.{TreeNode, IsTree, leaves_of, node_of}
use Rattle.btree.specs.Rooted.{RootedTree}
use Rattle.btree.specs.Results.{ReturnsDamaged}
use Rattle.btree.specs.Calls.{OnTree, OnNoTree, OnPages, pages_on}

-- one of the tree's leaves has that page
abbrev pub HasLeaf : List (List TreeNode) → ℕ → Type 0
HasLeaf levels page = Contains (map (λ node. node.page) (leaves_of levels)) page

-- The place is none, or its page is a leaf of each tree of its layout under its root.
abbrev pub IsLeafPlace : LeafPlace → List (Option Sector) → Type 0
IsLeafPlace place pages =
    place.leaf ≢ 0 → (levels : List (List TreeNode)) → IsTree place.layout pages place.root levels
    → HasLeaf levels place.leaf

-- the entry, if it was found
abbrev pub if_found : Bool → Entry → Option Entry
if_found true entry = Some entry
if_found false entry = None

-- the first entry after a key, if the first entry of the list isn't after it
abbrev pub next_within : List Entry → List ℕ → Option Entry
next_within [] key = None
next_within (entry ∷ more) key = if is_gt (key_cmp entry.key key) then None else first_entry_after more key

-- these bytes spell a leaf
abbrev pub SpellsLeaf : RowLayout → Sector → Type 0
SpellsLeaf layout bytes = (rows : List (List ℕ)) × (node_in layout bytes ≡ Some (node_of layout Leaf rows))

-- the leaf that these bytes spell has that next entry within it, or none
abbrev pub IsNextIn : RowLayout → Sector → List ℕ → Entry → Bool → Type 0
IsNextIn layout bytes key entry found =
    (rows : List (List ℕ)) → node_in layout bytes ≡ Some (node_of layout Leaf rows) → 1 ≤ length rows
    → Ascend (keys_of layout rows) → if_found found entry ≡ next_within (entries_of_rows layout rows) key

-- it is the first entry after the key in each tree under that root
abbrev pub IsNextOf : RowLayout → List (Option Sector) → ℕ → List ℕ → Entry → Type 0
IsNextOf layout pages root key entry =
    (levels : List (List TreeNode)) → IsTree layout pages root levels
    → Some entry ≡ first_entry_after (entries_of layout levels) key

module _ {D : Type 0} (device : Devices D) where
  -- From a leaf place of its own tree, a search returns whether this is the first entry after the key in a tree.
  abbrev pub AnswersNear : RootedTree → PageMap → D → LeafPlace → List ℕ → Entry → Result Bool PagesError → Type 0
  AnswersNear tree pages now place key entry result = OnTree device tree.layout tree.root pages now
      (λ levels. IsLeafPlace place (pages_on device pages now) → IfOk result
      (λ found. if_found found entry ≡ first_entry_after (entries_of tree.layout levels) key))

  -- from there, `Damaged` is returned only if the pages under the root are no tree
  abbrev pub DamagedOnlyIfNoTreeNear : {T : Type 0} → RootedTree → PageMap → D → LeafPlace → Result T PagesError → Type 0
  DamagedOnlyIfNoTreeNear tree pages now place result = OnNoTree device tree.layout tree.root pages now
      (ReturnsDamaged result × IsLeafPlace place (pages_on device pages now))

  -- A search that puts an entry in place returns whether it is the one of this key.
  abbrev pub FindsKey : RootedTree → PageMap → D → (List Entry → List ℕ → Option Entry) → List ℕ → Entry → Result Bool PagesError → Type 0
  FindsKey tree pages now find key entry result = OnTree device tree.layout tree.root pages now
      (λ levels. IfOk result (λ found. if_found found entry ≡ find (entries_of tree.layout levels) key))

  -- and the place after the call is one too
  abbrev pub KeepsLeafPlace : PageMap → D → LeafPlace → LeafPlace → Type 0
  KeepsLeafPlace pages now place place' =
      OnPages device pages now (λ before. IsLeafPlace place before → IsLeafPlace place' before)
