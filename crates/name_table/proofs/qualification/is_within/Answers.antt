use Rattle.name_table.proofs.Within.{within_end}
use Rattle.name_table.proofs.qualification.is_within.Goals as goal

pub returns : goal.returns
returns c = within_end c.args.qualifiers.now c.loop-name.rest.now c.args.around.now c.loop-name.name-index
    c.is_empty.result c.loop-name.invariant c.loop-name-test.false c.is_empty.ensures
