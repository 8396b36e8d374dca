use Rattle.std.proofs.Common.{◌≡◌, ◌++◌, take}
use Rattle.std.specs.List.{flat_map}
use Rattle.source_commands.specs.Layout.{dimension_text}
use Rattle.source_commands.proofs.item_line.push_dimensions.Given as goal

abbrev pub invariant-loop-one : goal.invariant-loop-one
invariant-loop-one l = l.out.items ≡ l.initial.out.items ++ flat_map dimension_text (take l.one-index l.dimensions)
