use Rattle.std.proofs.Common.{◌≡◌, take}
use Rattle.station.specs.Disk.{IsSettled}
use Rattle.station.specs.Calls.{OnlyWrites}
use Rattle.station.specs.History.{Through}
use Rattle.station.specs.Blocks.{IsWriting, wrote_all}
use Rattle.station.proofs.blocks.write_blocks.Given as goal

abbrev pub invariant-loop-block : goal.invariant-loop-block
invariant-loop-block g l =
    let start = g.D.Device.state l.initial.device in
    let now = g.D.Device.state l.device in
    record {
      only : OnlyWrites g.D.Device ⊥ l.initial.device l.device;
      wrote : g.D.Device.is_honest l.initial.device → now ≡ wrote_all start (take l.block-index l.blocks);
      moments : g.D.Device.is_honest l.initial.device → IsSettled start.disk →
          Through (g.D.Device.history l.initial.device) (g.D.Device.history l.device) now
          (IsWriting start.events start.disk.present l.blocks);
    }
