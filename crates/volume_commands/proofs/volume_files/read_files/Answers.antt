use Rattle.std.proofs.Common.{sym, subst}
use Rattle.volume_commands.proofs.Reading.{reads_of_fault}
use Rattle.volume_commands.specs.Faults.{IsReadError}
use Rattle.volume_commands.proofs.States.{read_error}
use Rattle.volume_commands.proofs.volume_files.read_files.Goals as goal

pub returns-in-Err-clause-reads : goal.returns-in-Err-clause-reads
returns-in-Err-clause-reads g c =
    let so = c.in-Err.ensures in
    reads_of_fault g.D.Device _ _ c.in-Err.fault c.of.result _ _ c.of.ensures
    so.only so.moments so.unwritten so.refused so.opens

pub returns-in-Err-clause-cause : goal.returns-in-Err-clause-cause
returns-in-Err-clause-cause g c = subst IsReadError (sym c.of.ensures) (read_error c.in-Err.fault)
