-- Several trees in one map of pages, with the chains of pages that records are in.
use Rattle.std.specs.Prelude.{◌≡◌, ◌≢◌, ◌++◌, ℕ, List, [], map, Option, None, slice_index_or, Contains}
use Rattle.std.specs.List.{All, flat_map}
use Rattle.station.specs.Disk.{Sector}
use Rattle.btree.specs.Tree.{TreeNode, IsTreeOrEmpty, pages_of}
use Rattle.btree.specs.Moves.{Once}
use Rattle.btree.specs.Entries.{Entry, entries_of}
use Rattle.btree.specs.Rooted.{RootedTree}
use Rattle.chains.specs.Rows.{HasRows, chains_of, unrolled_entry}
use Rattle.volume_format.specs.Chained.{form_of}

-- A tree, with its levels, the pages of the chains of its entries, and its entries with their records in place.
pub record TreeLevels : Type 0 where
  pub tree : RootedTree
  pub levels : List (List TreeNode)
  -- the bytes of each record that is in a chain; 0 if the entries have their records themselves
  pub record_bytes : ℕ
  pub chains : List ℕ
  pub entries : List Entry

-- the entries on the pages of a tree
abbrev pub stored_entries : TreeLevels → List Entry
stored_entries planted = entries_of planted.tree.layout planted.levels

-- The pages are that tree, with its chains.
pub record IsTreeIn (pages : List (Option Sector)) (planted : TreeLevels) : Type 0 where
  pub stands : IsTreeOrEmpty planted.tree.layout pages planted.tree.root planted.levels
  pub chained : HasRows (form_of planted.record_bytes) pages (pages_of planted.levels) (stored_entries planted)
  pub chains_are : planted.chains ≡ chains_of (form_of planted.record_bytes) pages (stored_entries planted)
  pub entries_are : planted.entries
      ≡ map (unrolled_entry (form_of planted.record_bytes) pages) (stored_entries planted)

-- a tree without chains
abbrev pub tree_levels : RootedTree → List (List TreeNode) → TreeLevels
tree_levels tree levels = record {
  tree = tree;
  levels = levels;
  record_bytes = 0;
  chains = [];
  entries = entries_of tree.layout levels;
}

abbrev pub pages_under : TreeLevels → List ℕ
pages_under planted = planted.chains ++ pages_of planted.levels

abbrev pub pages_within : List TreeLevels → List ℕ
pages_within trees = flat_map pages_under trees

-- The pages are these trees: no page is in two of them, or twice in one, and each page of the map is in one.
pub record IsForest (pages : List (Option Sector)) (trees : List TreeLevels) : Type 0 where
  pub grow : All (IsTreeIn pages) trees
  pub once : Once (pages_within trees)
  pub covered : (page : ℕ) → slice_index_or pages page None ≢ None → Contains (pages_within trees) page
