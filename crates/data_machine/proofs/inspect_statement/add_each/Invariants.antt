use Rattle.std.proofs.Common.{◌≡◌, ◌+◌, length, map, drop}
use Rattle.std.specs.Prelude.{slice_index}
use Rattle.source_tree.specs.Inspecting as meaning
use Rattle.source_tree.specs.InspectLayout as layout
use Rattle.data_instructions.specs.Tables.{total_length}
use Rattle.data_machine.specs.Inspecting.{there, StandEach}
use Rattle.data_machine.proofs.inspect_statement.add_each.Given as goal

abbrev pub invariant-loop-number : goal.invariant-loop-number
invariant-loop-number l = record {
  entries : l.from + total_length (drop l.number l.fn.counters) ≡ total_length l.fn.counters;
  stand : StandEach l.fn.tables l.areas (drop l.number l.fn.places);
  lengths : map length l.areas ≡ map length l.fn.areas;
  adds :
      meaning.add_each (map (there l.fn.tables) (drop l.number l.fn.places))
      (layout.counted_fits (slice_index l.fn.counts) l.from (drop l.number l.fn.counters)) l.areas
      ≡ meaning.add_each (map (there l.fn.tables) l.fn.places)
      (layout.counted_fits (slice_index l.fn.counts) 0 l.fn.counters) l.fn.areas;
}
