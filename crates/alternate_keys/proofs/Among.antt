-- A tree among others.
use Rattle.std.proofs.Common.{List, ◌∷◌}
use Rattle.std.specs.Prelude.{Option}
use Rattle.std.proofs.lemmas.List.Elements.{All-head}
use Rattle.station.specs.Disk.{Sector}
use Rattle.btree.specs.Tree.{IsTreeOrEmpty}
use Rattle.btree.specs.Rooted.{RootedTree}
use Rattle.btree.specs.Entries.{Entry}
use Rattle.volume_format.specs.Forest.{TreeLevels, IsTreeIn, tree_levels}
use Rattle.volume_format.specs.Grows.{IsTreeAmong}
use Rattle.volume_format.proofs.Forests.{all_right}

pub grows : (pages : List (Option Sector)) (left right : List TreeLevels) (tree : RootedTree) (entries : List Entry)
    → (stands : IsTreeAmong pages left right tree entries) → IsTreeOrEmpty tree.layout pages tree.root stands.levels
grows pages left right tree entries stands =
    let one : TreeLevels = tree_levels tree stands.levels in
    (All-head (IsTreeIn pages) one right (all_right (IsTreeIn pages) left (one ∷ right) stands.forest.grow)).stands
