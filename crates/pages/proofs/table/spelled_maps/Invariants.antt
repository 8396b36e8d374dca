use Rattle.std.proofs.Common.{◌≡◌, ◌<◌, ℕ, [], length, get_or}
use Rattle.pages.specs.Layout.{number_bytes}
use Rattle.pages.specs.Image.{map_part}
use Rattle.pages.proofs.table.spelled_maps.Given as goal

abbrev pub invariant-loop-map : goal.invariant-loop-map
invariant-loop-map l = record {
  count : length l.maps.items ≡ l.map;
  bytes : (i : ℕ) → i < l.map → get_or l.maps.items i [] ≡ number_bytes (map_part l.sectors i);
}
