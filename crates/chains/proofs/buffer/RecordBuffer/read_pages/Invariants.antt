use Rattle.std.proofs.Common.{◌≡◌, ◌<◌, false, length}
use Rattle.station.specs.Calls.{OnlyReads}
use Rattle.pages.specs.Pages.{is_spent, Agrees}
use Rattle.btree.specs.Changes.{pages_of_map}
use Rattle.chains.proofs.Buffers.{HasRead}
use Rattle.chains.proofs.buffer.RecordBuffer.read_pages.Given as goal

abbrev pub invariant-loop-place : goal.invariant-loop-place
invariant-loop-place g l = record {
  only : OnlyReads g.D.Device ⊥ l.fn.device l.device;
  has : g.D.Device.is_honest l.fn.device → Agrees l.fn.pages (g.D.Device.state l.fn.device).disk
      → HasRead (pages_of_map l.fn.pages (g.D.Device.state l.fn.device).disk.present) l.self.pages.items l.place
      l.fn.first l.page;
  room : length l.self.pages.items ≡ length l.fn.self.pages.items;
  unspent : 0 < l.place → is_spent l.fn.pages ≡ false;
}
