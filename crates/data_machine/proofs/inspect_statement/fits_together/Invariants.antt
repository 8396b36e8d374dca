use Rattle.std.proofs.Common.{◌≡◌, ◌≤◌, ◌*◌, ◌^◌}
use Rattle.std.specs.Prelude.{slice_index}
use Rattle.source_tree.specs.InspectLayout as layout
use Rattle.data_machine.proofs.inspect_statement.fits_together.Given as goal

abbrev pub invariant-loop-number : goal.invariant-loop-number
invariant-loop-number l = record {
  value : l.fits ≡ layout.fits_together (slice_index l.fn.counts) l.fn.from l.number;
  small : layout.fits_together (slice_index l.fn.counts) l.fn.from l.number ≤ l.number * 2 ^ 64;
}
