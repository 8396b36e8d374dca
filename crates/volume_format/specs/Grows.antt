-- A tree among others, after a change.
use Rattle.std.specs.Prelude.{◌≡◌, ◌++◌, List, ◌∷◌, Option}
use Rattle.station.specs.Disk.{Sector}
use Rattle.btree.specs.Tree.{TreeNode}
use Rattle.btree.specs.Rooted.{RootedTree}
use Rattle.btree.specs.Entries.{Entry, entries_of}
use Rattle.volume_format.specs.Forest.{TreeLevels, tree_levels, IsForest}

-- the tree, which has no chains, has these entries, and stands among the others
pub record IsTreeAmong (pages : List (Option Sector)) (left right : List TreeLevels) (tree : RootedTree) (entries : List Entry) : Type 0 where
  pub levels : List (List TreeNode)
  pub forest : IsForest pages (left ++ tree_levels tree levels ∷ right)
  pub listed : entries_of tree.layout levels ≡ entries
