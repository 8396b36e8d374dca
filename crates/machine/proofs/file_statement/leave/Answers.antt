use Rattle.machine.proofs.Stored.{status_as_long}
use Rattle.machine.proofs.file_statement.leave.Goals as goal

pub put_status-requires : goal.put_status-requires
put_status-requires c =
    status_as_long c.args.tables.now c.args.areas.now c.put_relative_number.new.areas c.args.one.now.status
    c.put_relative_number.ensures.lengths
    c.requires.status
