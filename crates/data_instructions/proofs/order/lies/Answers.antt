use Rattle.data_instructions.proofs.Entries.{lies_there}
use Rattle.data_instructions.proofs.order.lies.Goals as goal

pub returns : goal.returns
returns c =
    let found = c.in-Some.ensures.lookup in
    lies_there c.args.areas.now c.args.one.now c.in-Some.area.now c.len.result found.0 found.1 c.len.ensures
