use Rattle.std.proofs.Common.{◌≡◌, ◌*◌, length}
use Rattle.station.specs.Calls.{OnlyReads}
use Rattle.half_store.specs.Half.{bytes_of_sectors}
use Rattle.half_store.proofs.opening.read_sectors.Given as goal

abbrev pub invariant-loop-sector : goal.invariant-loop-sector
invariant-loop-sector g l = record {
  only : OnlyReads g.D.Device ⊥ l.initial.device l.device;
  long : length l.bytes.items ≡ 4096 * l.sector;
  bytes : g.D.Device.is_honest l.initial.device
      → l.bytes.items ≡ bytes_of_sectors (g.D.Device.state l.initial.device).disk.present l.from l.sector;
}
