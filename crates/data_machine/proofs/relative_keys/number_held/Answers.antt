use Rattle.std.proofs.Common.{ap, ◌∙◌, arith}
use Rattle.source_tree.specs.References.{whole_part}
use Rattle.items.specs.Items.{number_in}
use Rattle.data_instructions.specs.Table.{natural_in}
use Rattle.data_machine.proofs.HeldIntegers.{natural_below, natural_held}
use Rattle.data_machine.proofs.relative_keys.number_held.Goals as goal

pub overflow_cast-result : goal.overflow_cast-result
overflow_cast-result c =
    let below = natural_below c.args.kind c.args.bytes.now c.number_in.result c.requires c.number_in.ensures in
    omega (arith, below, c.natural_in.ensures)

pub returns : goal.returns
returns c =
    c.natural_in.ensures ∙ ap natural_in c.number_in.ensures
    ∙ natural_held (whole_part (number_in c.args.kind c.args.bytes.now))
