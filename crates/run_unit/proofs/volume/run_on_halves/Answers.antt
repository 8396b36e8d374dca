use Rattle.std.proofs.Common.{◌∙◌, sym, subst, ap}
use Rattle.records.specs.Files.{Files}
use Rattle.half_store.specs.Half.{Holds}
use Rattle.half_store.specs.Stands.{Represents}
use Rattle.file_bytes.specs.Stored.{files_of}
use Rattle.source_tree.specs.Given.{RunInput}
use Rattle.file_image.specs.Files.{entries_of}
use Rattle.code_image.specs.Table.{Runs}
use Rattle.machine.specs.Ends.{LacksForChange}
use Rattle.run_unit.specs.declared.ended.Ended.TheVariants.{Refused}
use Rattle.run_unit.specs.Runs.{call_on}
use Rattle.run_unit.specs.Volume.{Unopened, NotOpened, HeldFiles, lacks_half}
use Rattle.run_unit.proofs.Opening.{read_cause, left_closed, given_after, ran_on, ran_opened}
use Rattle.run_unit.proofs.volume.run_on_halves.Goals as goal

pub returns-in-Ok-clause-volume : goal.returns-in-Ok-clause-volume
returns-in-Ok-clause-volume g c = λ honest files held run runs.
    let s = g.S.Device.state c.args.station.now in
    let mid = g.S.Device.state c.open.new.device in
    let own = c.one_list_of_files.ensures s.disk.present (files_of c.in-Ok.store.files.items) files
    (c.in-Ok.ensures.holds honest) held in
    ran_opened Holds (LacksForChange lacks_half (entries_of c.args.code.tables c.args.code.files)) c.args.code files run
    (call_on g.S.Device c.run_over.result c.args.day c.args.budget c.args.station.now c.run_over.new.station)
    (g.S.Device.history c.open.new.device) mid (c.open.ensures.moments honest) (c.in-Ok.ensures.state honest) runs
    (c.run_over.ensures.runs files (record {
      honest = c.open.ensures.only.honest.0 honest;
      there = subst (λ (l : Files). Represents c.in-Ok.store mid.disk l) own (c.in-Ok.ensures.stands honest);
    }) run)

pub returns-in-Ok-clause-halves : goal.returns-in-Ok-clause-halves
returns-in-Ok-clause-halves g c = λ honest run runs.
    let s = g.S.Device.state c.args.station.now in
    let mid = g.S.Device.state c.open.new.device in
    let files = files_of c.in-Ok.store.files.items in
    let same = given_after files s mid c.args.day c.args.budget (c.in-Ok.ensures.state honest) in
    HeldFiles files (c.in-Ok.ensures.holds honest)
    (ran_on Holds (LacksForChange lacks_half (entries_of c.args.code.tables c.args.code.files)) (run files)
    (g.S.Device.history c.args.station.now) (g.S.Device.history c.open.new.device)
    (g.S.Device.history c.run_over.new.station)
    s mid (g.S.Device.state c.run_over.new.station) c.run_over.result
    (c.open.ensures.moments honest) (c.in-Ok.ensures.state honest)
    (c.run_over.ensures.runs files
    (record { honest = c.open.ensures.only.honest.0 honest; there = c.in-Ok.ensures.stands honest }) (run files)
    (subst (λ (given : RunInput). Runs c.args.code given (run files)) same (runs files))))

pub returns-in-Ok-clause-sound : goal.returns-in-Ok-clause-sound
returns-in-Ok-clause-sound g c = λ honest files held.
    c.run_over.ensures.sound (files_of c.in-Ok.store.files.items)
    (record { honest = c.open.ensures.only.honest.0 honest; there = c.in-Ok.ensures.stands honest })

pub returns-in-Err-clause-sound : goal.returns-in-Err-clause-sound
returns-in-Err-clause-sound g c = λ honest files held is.
    read_cause c.in-Err.fault (c.in-Err.ensures.opens honest files held) (ap Refused (sym c.of_opening.ensures) ∙ is)

pub returns-in-Err-clause-volume : goal.returns-in-Err-clause-volume
returns-in-Err-clause-volume g c = λ honest files held run runs.
    Unopened (left_closed c.in-Err.fault c.of_opening.result _ _ _ _ c.of_opening.ensures
    (c.open.ensures.moments honest) (c.in-Err.ensures.unwritten honest))

pub returns-in-Err-clause-halves : goal.returns-in-Err-clause-halves
returns-in-Err-clause-halves g c = λ honest run runs.
    NotOpened (left_closed c.in-Err.fault c.of_opening.result _ _ _ _ c.of_opening.ensures
    (c.open.ensures.moments honest) (c.in-Err.ensures.unwritten honest))

pub returns-in-Ok-clause-unwritten : goal.returns-in-Ok-clause-unwritten
returns-in-Ok-clause-unwritten g c = λ honest is.
    absurd (c.run_over.ensures.sound (files_of c.in-Ok.store.files.items)
    (record { honest = c.open.ensures.only.honest.0 honest; there = c.in-Ok.ensures.stands honest }) is)

pub returns-in-Err-clause-unwritten : goal.returns-in-Err-clause-unwritten
returns-in-Err-clause-unwritten g c = λ honest is. c.in-Err.ensures.unwritten honest
