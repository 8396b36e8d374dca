use Rattle.std.proofs.Common.{◌∙◌, ⊎_elim, List, sym, subst, ap, inl, inr}
use Rattle.station.specs.Disk.{Sector}
use Rattle.half_store.specs.Half.{Holds as HoldsHalf}
use Rattle.volume_format.specs.Volume.{Holds as HoldsTrees}
use Rattle.file_recovery.proofs.Foreign.{half_foreign, half_is_foreign}
use Rattle.file_recovery.proofs.TwoStores.{either_cause}
use Rattle.half_store.specs.Opened.{IsReadCause}
use Rattle.source_tree.specs.Given.{RunInput}
use Rattle.file_image.specs.Files.{entries_of}
use Rattle.code_image.specs.Table.{Runs}
use Rattle.machine.specs.Ends.{LacksForChange}
use Rattle.run_unit.specs.declared.ended.Ended.TheVariants.{Refused}
use Rattle.run_unit.specs.Runs.{call_on}
use Rattle.run_unit.specs.Volume.{Unopened, NotOpened}
use Rattle.run_unit.proofs.Opening.{read_cause, left_closed, no_layout}
use Rattle.run_unit.proofs.Opening.{given_later, present_after, unwritten_then, lacks_trees, ran_opened, trees_too}
use Rattle.run_unit.proofs.Opening.{halves_looked_at, on_halves_then}
use Rattle.run_unit.proofs.volume.run_on_volume.Goals as goal

pub returns-in-Ok-clause-volume : goal.returns-in-Ok-clause-volume
returns-in-Ok-clause-volume g c = λ honest files held run runs.
    let s = g.S.Device.state c.args.station.now in
    let call = call_on g.S.Device c.run_over.result c.args.day c.args.budget
    c.args.station.now c.run_over.new.station in
    let entries = entries_of c.args.code.tables c.args.code.files in
    ⊎_elim
    (λ trees. trees_too entries run call
    (ran_opened HoldsTrees (LacksForChange lacks_trees entries) c.args.code files run call
    (g.S.Device.history c.open.new.device) (g.S.Device.state c.open.new.device) (c.open.ensures.moments honest)
    (c.in-Ok.ensures.state honest) runs
    (c.run_over.ensures.runs files
    (record { honest = c.open.ensures.honest.0 honest; there = c.in-Ok.ensures.stands honest files trees }) run)))
    (λ half. absurd (c.in-Ok.ensures.foreign honest (half_is_foreign s.disk.present files half)))
    held

pub returns-in-Ok-clause-halves : goal.returns-in-Ok-clause-halves
returns-in-Ok-clause-halves g c = λ honest halves run runs.
    absurd
    (c.in-Ok.ensures.foreign honest (half_foreign (g.S.Device.state c.args.station.now).disk.present halves.0 halves.1))

pub returns-in-Ok-clause-sound : goal.returns-in-Ok-clause-sound
returns-in-Ok-clause-sound g c = λ honest files held.
    let s = g.S.Device.state c.args.station.now in
    ⊎_elim
    (λ trees. c.run_over.ensures.sound files
    (record { honest = c.open.ensures.honest.0 honest; there = c.in-Ok.ensures.stands honest files trees }))
    (λ half. absurd (c.in-Ok.ensures.foreign honest (half_is_foreign s.disk.present files half)))
    held

-- ---- a volume of halves

pub returns-in-Layout-clause-volume : goal.returns-in-Layout-clause-volume
returns-in-Layout-clause-volume g c = λ honest files held run runs.
    let call = call_on g.S.Device c.run_on_halves.result c.args.day c.args.budget
    c.args.station.now c.run_on_halves.new.station in
    ⊎_elim
    (λ trees. absurd (no_layout (subst IsReadCause c.in-Layout.is (c.in-Err.ensures.opens honest files trees))))
    (λ half. halves_looked_at c.args.code call (g.S.Device.history c.open.new.device)
    (g.S.Device.state c.open.new.device) (c.open.ensures.moments honest) (c.in-Err.ensures.unwritten honest)
    (c.run_on_halves.ensures.volume (c.open.ensures.honest.0 honest)) files half run runs)
    held

pub returns-in-Layout-clause-halves : goal.returns-in-Layout-clause-halves
returns-in-Layout-clause-halves g c = λ honest halves run runs.
    let s = g.S.Device.state c.args.station.now in
    let mid = g.S.Device.state c.open.new.device in
    let as_was = c.in-Err.ensures.unwritten honest in
    on_halves_then (entries_of c.args.code.tables c.args.code.files) run (g.S.Device.history c.args.station.now)
    (g.S.Device.history c.open.new.device) (g.S.Device.history c.run_on_halves.new.station)
    s mid (g.S.Device.state c.run_on_halves.new.station) c.run_on_halves.result (c.open.ensures.moments honest) as_was
    (c.run_on_halves.ensures.halves (c.open.ensures.honest.0 honest) run
    (λ files. subst (λ (given : RunInput). Runs c.args.code given (run files))
    (given_later files s mid c.args.day c.args.budget as_was) (runs files)))

pub returns-in-Layout-clause-sound : goal.returns-in-Layout-clause-sound
returns-in-Layout-clause-sound g c = λ honest files held.
    let s = g.S.Device.state c.args.station.now in
    let mid = g.S.Device.state c.open.new.device in
    ⊎_elim
    (λ trees. absurd (no_layout (subst IsReadCause c.in-Layout.is (c.in-Err.ensures.opens honest files trees))))
    (λ half.
    c.run_on_halves.ensures.sound (c.open.ensures.honest.0 honest) files
    (subst (λ (image : List Sector). HoldsHalf image files)
    (sym (present_after s mid (c.in-Err.ensures.unwritten honest))) half))
    held

-- ---- a volume that isn't opened

pub returns-in_default-clause-sound : goal.returns-in_default-clause-sound
returns-in_default-clause-sound g c = λ honest files held is.
    let image = (g.S.Device.state c.args.station.now).disk.present in
    read_cause c.in-Err.fault
    (either_cause image c.in-Err.fault files c.in_default.not-Layout (c.in-Err.ensures.opens honest files)
    (c.in-Err.ensures.foreign honest) held)
    (ap Refused (sym c.of_opening.ensures) ∙ is)

pub returns-in_default-clause-volume : goal.returns-in_default-clause-volume
returns-in_default-clause-volume g c = λ honest files held run runs.
    Unopened (left_closed c.in-Err.fault c.of_opening.result _ _ _ _ c.of_opening.ensures
    (c.open.ensures.moments honest) (c.in-Err.ensures.unwritten honest))

pub returns-in_default-clause-halves : goal.returns-in_default-clause-halves
returns-in_default-clause-halves g c = λ honest halves run runs.
    NotOpened (left_closed c.in-Err.fault c.of_opening.result _ _ _ _ c.of_opening.ensures
    (c.open.ensures.moments honest) (c.in-Err.ensures.unwritten honest))

-- ---- damage

pub returns-in-Ok-clause-unwritten : goal.returns-in-Ok-clause-unwritten
returns-in-Ok-clause-unwritten g c = λ honest is. inr (c.in-Ok.ensures.map honest)

pub returns-in-Layout-clause-unwritten : goal.returns-in-Layout-clause-unwritten
returns-in-Layout-clause-unwritten g c = λ honest is.
    inl (unwritten_then (g.S.Device.state c.args.station.now) (g.S.Device.state c.open.new.device)
    (g.S.Device.state c.run_on_halves.new.station)
    (c.in-Err.ensures.unwritten honest) (c.run_on_halves.ensures.unwritten (c.open.ensures.honest.0 honest) is))

pub returns-in_default-clause-unwritten : goal.returns-in_default-clause-unwritten
returns-in_default-clause-unwritten g c = λ honest is. inl (c.in-Err.ensures.unwritten honest)
