use Rattle.std.proofs.Common.{◌≡◌, length}
use Rattle.std.specs.Prelude.{slice_get}
use Rattle.source_tree.specs.Levels.{forest_of}
use Rattle.source_tree.specs.Clauses.{nothing_around}
use Rattle.initial_storage.specs.Fits.{Fits}
use Rattle.initial_storage.specs.Formed.{AreFormed}
use Rattle.initial_storage.specs.Patterns.{outlines}
use Rattle.initial_storage.proofs.outlines.item_at.Given as goal

abbrev pub invariant-items : goal.invariant-items
invariant-items l = record {
  fits : Fits l.around (forest_of l.rest);
  formed : AreFormed l.around (forest_of l.rest);
  same : slice_get (outlines l.around (forest_of l.rest)) l.left
      ≡ slice_get (outlines nothing_around (forest_of l.entries)) l.number;
}

abbrev pub decreases-items : goal.decreases-items
decreases-items l = length l.rest
