use Rattle.std.proofs.Common.{◌≡◌, ◌<◌, ◌≤◌, ◌*◌, false, length, take}
use Rattle.station.specs.Calls.{OnlyReads}
use Rattle.pages.specs.Pages.{is_spent, Agrees}
use Rattle.btree.specs.Changes.{pages_of_map}
use Rattle.chains.specs.Chain.{chain_bytes, pages_for}
use Rattle.chains.proofs.Parts.{Follows}
use Rattle.chains.proofs.reading.read_record.Given as goal

abbrev pub invariant-loop-place : goal.invariant-loop-place
invariant-loop-place g l = record {
  only : OnlyReads g.D.Device ⊥ l.fn.device l.device;
  follows : g.D.Device.is_honest l.fn.device → Agrees l.fn.pages (g.D.Device.state l.fn.device).disk
      → Follows (pages_of_map l.fn.pages (g.D.Device.state l.fn.device).disk.present) l.place l.fn.first l.page;
  bytes : g.D.Device.is_honest l.fn.device → Agrees l.fn.pages (g.D.Device.state l.fn.device).disk
      → l.bytes.items ≡ take l.fn.size
      (chain_bytes (pages_of_map l.fn.pages (g.D.Device.state l.fn.device).disk.present) l.place l.fn.first);
  some : l.place < pages_for l.fn.size → length l.bytes.items ≡ l.place * 4080;
  unspent : 0 < l.place → is_spent l.fn.pages ≡ false;
  whole : pages_for l.fn.size ≤ l.place → length l.bytes.items ≡ l.fn.size;
}
