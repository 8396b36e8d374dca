use Rattle.std.proofs.Common.{◌≡◌, ◌<◌, ◌*◌, ℕ, length, get_or}
use Rattle.station.specs.Calls.{OnlyReads}
use Rattle.pages.specs.Image.{map_at, map_part}
use Rattle.pages.proofs.reading.read_table.Given as goal

abbrev pub invariant-loop-map : goal.invariant-loop-map
invariant-loop-map g l = record {
  only : OnlyReads g.D.Device ⊥ l.initial.device l.device;
  count : length l.table.items ≡ 1024 * l.map-index;
  entries : g.D.Device.is_honest l.initial.device → (i : ℕ) → i < l.map-index
      → map_at (g.D.Device.state l.initial.device).disk.present (get_or l.maps i 0) ≡ map_part l.table.items i;
}
