use Rattle.std.proofs.Common.{◌≡◌, ◌≤◌, length, ◌+◌, ◌*◌, ◌++◌}
use Rattle.source_tree.specs.Levels.{forest_of}
use Rattle.source_tree.specs.Initializing.{entries_pattern}
use Rattle.initial_storage.specs.Fits.{Fits}
use Rattle.initial_storage.specs.Formed.{AreFormed}
use Rattle.initial_storage.proofs.patterns.+patterns.Given as goal

abbrev pub decreases-put_one : goal.decreases-put_one
decreases-put_one l = 4 * length l.one.inner.now + 1

abbrev pub decreases-put_all : goal.decreases-put_all
decreases-put_all l = 4 * length l.one.inner.now + 2

abbrev pub decreases-put_unless_redefining : goal.decreases-put_unless_redefining
decreases-put_unless_redefining l = 4 * length l.one.inner.now + 3

abbrev pub decreases-put_within : goal.decreases-put_within
decreases-put_within l = 4 * length l.entries.now

abbrev pub invariant-put_within-items : goal.invariant-put_within-items
invariant-put_within-items l = record {
  fits : Fits l.around (forest_of l.rest);
  formed : AreFormed l.around (forest_of l.rest);
  shorter : length l.rest ≤ length l.entries;
  bytes : l.out.items ++ entries_pattern l.around (forest_of l.rest)
      ≡ l.initial.out.items ++ entries_pattern l.around (forest_of l.entries);
}

abbrev pub decreases-put_within-items : goal.decreases-put_within-items
decreases-put_within-items l = length l.rest
