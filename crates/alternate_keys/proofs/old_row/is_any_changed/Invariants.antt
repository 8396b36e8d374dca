use Rattle.std.proofs.Common.{◌≡◌, false, take}
use Rattle.std.specs.List.{list_any}
use Rattle.records.specs.Changes.{changes}
use Rattle.alternate_keys.proofs.old_row.is_any_changed.Given as goal

abbrev pub invariant-loop-key : goal.invariant-loop-key
invariant-loop-key l =
    list_any (changes (take l.file.record_length l.old) l.bytes) (take l.key l.file.alternates.items) ≡ false
