use Rattle.std.proofs.Common.{◌≡◌, ◌++◌, take}
use Rattle.std.specs.List.{flat_map}
use Rattle.source_commands.specs.Layout.{alternate_text}
use Rattle.source_commands.proofs.file_line.push_alternates.Given as goal

abbrev pub invariant-loop-one : goal.invariant-loop-one
invariant-loop-one l = l.out.items ≡ l.initial.out.items ++ flat_map alternate_text (take l.one-index l.alternates)
