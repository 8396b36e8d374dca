use Rattle.std.proofs.Common.{◌≡◌, ◌-◌}
use Rattle.data_image.specs.Reading.{entries_at}
use Rattle.data_image.proofs.Entries.{with_front}
use Rattle.data_image.proofs.table.read_entries.Given as goal

abbrev pub invariant-loop : goal.invariant-loop
invariant-loop g l = with_front l.entries (entries_at g.T.TableEntry.read_from (l.count - l.counter) l.rest)
    ≡ entries_at g.T.TableEntry.read_from l.count l.bytes
