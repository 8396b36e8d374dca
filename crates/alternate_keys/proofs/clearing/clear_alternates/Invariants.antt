use Rattle.std.proofs.Common.{◌≤◌, ◌++◌, drop, List}
use Rattle.pages.specs.Pages.{filled_of, Agrees}
use Rattle.btree.specs.Calls.{pages_on}
use Rattle.volume_format.specs.Forest.{TreeLevels, IsForest}
use Rattle.volume_format.specs.Volume.{FileTrees}
use Rattle.row_trees.specs.Calls.{EditsPages}
use Rattle.alternate_keys.specs.Created.{HasStored}
use Rattle.alternate_keys.proofs.clearing.clear_alternates.Given as goal

abbrev pub invariant-loop-key : goal.invariant-loop-key
invariant-loop-key g l = record {
  edits : EditsPages g.D.Device ⊥ l.fn.pages l.fn.device l.pages l.device;
  cleared : g.D.Device.is_honest l.fn.device → Agrees l.fn.pages (g.D.Device.state l.fn.device).disk
      → (kept : FileTrees) (left right : List TreeLevels) → HasStored l.value kept →
      IsForest (pages_on g.D.Device l.fn.pages l.fn.device) (left ++ (kept.alternates ++ right))
      → IsForest (pages_on g.D.Device l.pages l.fn.device) (left ++ (drop l.key kept.alternates ++ right));
  filled : filled_of l.pages ≤ filled_of l.fn.pages;
}
