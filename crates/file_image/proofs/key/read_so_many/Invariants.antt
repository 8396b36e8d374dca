use Rattle.std.proofs.Common.{◌≡◌, ◌-◌}
use Rattle.data_image.specs.Reading.{entries_at}
use Rattle.data_image.proofs.Entries.{with_front}
use Rattle.file_image.specs.Spelling.{alternate_at}
use Rattle.file_image.proofs.key.read_so_many.Given as goal

abbrev pub invariant-loop : goal.invariant-loop
invariant-loop l =
    with_front l.keys (entries_at alternate_at (l.count - l.counter) l.rest) ≡ entries_at alternate_at l.count l.bytes
