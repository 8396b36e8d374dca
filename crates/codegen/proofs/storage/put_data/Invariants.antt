use Rattle.std.proofs.Common.{◌≡◌, take}
use Rattle.std.specs.Prelude.{map}
use Rattle.data_instructions.specs.Codes.{data_item}
use Rattle.declarations.specs.Named.{items_in}
use Rattle.codegen.proofs.storage.put_data.Given as goal

abbrev pub invariant-loop-one : goal.invariant-loop-one
invariant-loop-one l = l.items ≡ map data_item (take l.one-index (items_in l.declarations))
