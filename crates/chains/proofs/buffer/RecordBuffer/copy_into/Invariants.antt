use Rattle.std.proofs.Common.{◌≡◌, ◌*◌, length}
use Rattle.chains.specs.Buffers.{parts_on}
use Rattle.chains.proofs.Buffers.{IsWritten}
use Rattle.chains.proofs.buffer.RecordBuffer.copy_into.Given as goal

abbrev pub invariant-loop-place : goal.invariant-loop-place
invariant-loop-place l = record {
  long : length (parts_on l.place l.self.pages.items) ≡ l.place * 4080;
  written : IsWritten l.into (l.place * 4080) (parts_on l.place l.self.pages.items);
}
