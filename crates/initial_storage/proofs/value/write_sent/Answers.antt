use Rattle.initial_storage.proofs.Values.{short}
use Rattle.initial_storage.proofs.value.write_sent.Goals as goal

pub move_into-requires-clause-short : goal.move_into-requires-clause-short
move_into-requires-clause-short c =
    short c.args.item c.args.sender.now.taken c.in-Numeric.field-0 c.in-Numeric.is c.requires.suits
