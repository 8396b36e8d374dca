use Rattle.std.proofs.Common.{◌≡◌, ◌*◌, length}
use Rattle.btree.specs.Calls.{pages_on}
use Rattle.btree.specs.Results.{FewChanged}
use Rattle.records.specs.Stores.{spec_of}
use Rattle.row_trees.specs.Calls.{EditsPages}
use Rattle.alternate_keys.specs.Moved.{OnPairMoves}
use Rattle.alternate_keys.specs.Placed.{HaveBecome}
use Rattle.alternate_keys.proofs.move_pairs.move_pairs.Given as goal

abbrev pub invariant-loop-key : goal.invariant-loop-key
invariant-loop-key g l = record {
  edits : EditsPages g.D.Device ⊥ l.fn.pages l.fn.device l.pages l.device;
  came : OnPairMoves g.D.Device l.row_move.verb (spec_of l.file) l.fn.pages l.fn.device l.listing
      l.row_move.old_value.now l.row_move.bytes.now l.row_move.arrival
      (λ held after left right trees.
      HaveBecome after (pages_on g.D.Device l.pages l.fn.device) left right trees l.key l.roots.items);
  few : OnPairMoves g.D.Device l.row_move.verb (spec_of l.file) l.fn.pages l.fn.device l.listing
      l.row_move.old_value.now l.row_move.bytes.now l.row_move.arrival
      (λ held after left right trees. FewChanged (84 * l.key) l.fn.pages l.pages);
  count : length l.roots.items ≡ l.key;
}
