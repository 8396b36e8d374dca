use Rattle.std.proofs.Common.{◌∙◌, List, sym, subst}
use Rattle.station.specs.Disk.{Sector}
use Rattle.file_recovery.specs.Recovered.{HoldsFiles}
use Rattle.file_recovery.proofs.Reopened.{same_present}
use Rattle.file_bytes.specs.Stored.{files_of}
use Rattle.volume_commands.specs.State.{IsStateOf}
use Rattle.volume_commands.proofs.Reading.{same_error, same_refusal}
use Rattle.volume_commands.proofs.States.{state_reads}
use Rattle.volume_commands.proofs.stat_command.read_stat.Goals as goal

pub returns-in-Ok-read_state-clause-reads : goal.returns-in-Ok-read_state-clause-reads
returns-in-Ok-read_state-clause-reads g c =
    let so = c.in-Ok-read_state.ensures in
    state_reads g.D.Device _ _ c.in-Ok.files _ c.read_state.result c.args.device.now c.read_files.new.device
    c.read_state.new.device
    c.in-Ok.ensures.reads (λ e. cc) c.read_state.ensures.only so.moments so.unwritten (λ h. tt)

pub returns-in-Ok-read_state-clause-stat : goal.returns-in-Ok-read_state-clause-stat
returns-in-Ok-read_state-clause-stat g c = λ honest.
    let d = g.D.Device in
    let files = files_of c.in-Ok.files.items in
    let same = same_present (d.state c.args.device.now) (d.state c.read_files.new.device)
    (c.in-Ok.ensures.reads.unwritten honest) in
    let holds = c.in-Ok.ensures.files honest in
    record {
      holds = holds;
      is = subst (λ (l : List Sector). IsStateOf l c.in-Ok-read_state.state) same
          (c.in-Ok-read_state.ensures.state (c.in-Ok.ensures.reads.only.honest.0 honest) files
          (subst (λ (l : List Sector). HoldsFiles l files) (sym same) holds));
    }

pub returns-in-Err-read_state-clause-reads : goal.returns-in-Err-read_state-clause-reads
returns-in-Err-read_state-clause-reads g c =
    let d = g.D.Device in
    let so = c.in-Err-read_state.ensures in
    let files = files_of c.in-Ok.files.items in
    state_reads d _ _ c.in-Ok.files _ c.read_state.result c.args.device.now c.read_files.new.device
    c.read_state.new.device
    c.in-Ok.ensures.reads (λ e. c.in-Err-read_state.is ∙ same_error _ _ _ _ e) c.read_state.ensures.only so.moments
    so.unwritten
    (λ honest.
    let same = same_present (d.state c.args.device.now) (d.state c.read_files.new.device)
    (c.in-Ok.ensures.reads.unwritten honest) in
    so.opens (c.in-Ok.ensures.reads.only.honest.0 honest) files
    (subst (λ (l : List Sector). HoldsFiles l files) (sym same) (c.in-Ok.ensures.files honest)))

pub returns-in-Err-clause-reads : goal.returns-in-Err-clause-reads
returns-in-Err-clause-reads g c = same_refusal g.D.Device _ _ c.in-Err.error _ _ c.in-Err.ensures.reads
