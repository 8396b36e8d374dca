-- Trees without chains, among those of a file, and trees without entries.
use Rattle.std.proofs.Common.{◌≡◌, ◌++◌, ℕ, inl, List, [], ◌∷◌, refl, sym, ap, subst}
use Rattle.std.proofs.Common.{◌∙◌}
use Rattle.std.specs.Prelude.{Option}
use Rattle.std.proofs.lemmas.List.Elements.{All-head, All-nil}
use Rattle.station.specs.Disk.{Sector}
use Rattle.btree_pages.specs.declared.row_layout.RowLayout.{RowLayout}
use Rattle.btree.specs.Rooted.{RootedTree}
use Rattle.btree.proofs.Runs.{in_none}
use Rattle.chains.specs.Rows.{HasChain}
use Rattle.volume_format.specs.Chained.{form_of}
use Rattle.volume_format.specs.Forest.{TreeLevels, IsForest, IsTreeIn, tree_levels}
use Rattle.volume_format.specs.Grows.{IsTreeAmong}
use Rattle.volume_format.proofs.Forests.{all_right}
use Rattle.volume_format.proofs.Whole.{whole_is}

-- a tree among others, and what it is if it has no chains
pub grows_among : (pages : List (Option Sector)) (left right : List TreeLevels) (planted : TreeLevels)
    → IsForest pages (left ++ planted ∷ right) → IsTreeIn pages planted
grows_among pages left right planted forest =
    All-head (IsTreeIn pages) planted right (all_right (IsTreeIn pages) left (planted ∷ right) forest.grow)

whole_as : (pages : List (Option Sector)) (planted : TreeLevels) (tree : RootedTree) → IsTreeIn pages planted
    → planted.record_bytes ≡ 0 → planted.tree ≡ tree → planted ≡ tree_levels tree planted.levels
whole_as pages planted tree grows whole same =
    whole_is pages planted grows whole ∙ ap (λ (t : RootedTree). tree_levels t planted.levels) same

pub whole_forest : (pages : List (Option Sector)) (left right : List TreeLevels) (planted : TreeLevels)
    (tree : RootedTree) → planted.record_bytes ≡ 0 → planted.tree ≡ tree → IsForest pages (left ++ planted ∷ right)
    → IsForest pages (left ++ tree_levels tree planted.levels ∷ right)
whole_forest pages left right planted tree whole same forest =
    subst (λ (p : TreeLevels). IsForest pages (left ++ p ∷ right))
    (whole_as pages planted tree (grows_among pages left right planted forest) whole same) forest

pub whole_stands : (pages : List (Option Sector)) (left right : List TreeLevels) (planted : TreeLevels)
    (tree : RootedTree) → planted.record_bytes ≡ 0 → planted.tree ≡ tree → IsForest pages (left ++ planted ∷ right)
    → IsTreeAmong pages left right tree planted.entries
whole_stands pages left right planted tree whole same forest = record {
  levels = planted.levels;
  forest = whole_forest pages left right planted tree whole same forest;
  listed = sym (ap (λ (p : TreeLevels). p.entries)
      (whole_as pages planted tree (grows_among pages left right planted forest) whole same));
}

-- a tree without entries, wherever the records of its entries would be
pub empty_grows : (pages : List (Option Sector)) (layout : RowLayout) (bytes : ℕ) → IsTreeIn pages (record {
  tree = record { layout = layout; root = 0 };
  levels = [];
  record_bytes = bytes;
  chains = [];
  entries = [];
})
empty_grows pages layout bytes = record {
  stands = inl (refl, refl);
  chained = record {
    stand = All-nil (HasChain (form_of bytes) pages);
    once = tt;
    there = λ page has. absurd (in_none page has);
  };
  chains_are = refl;
  entries_are = refl;
}
