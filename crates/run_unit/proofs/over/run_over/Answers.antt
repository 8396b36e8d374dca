use Rattle.std.proofs.Common.{sym, subst, ap}
use Rattle.source_tree.specs.Given.{given_over}
use Rattle.file_image.specs.Files.{entries_of}
use Rattle.code_image.specs.declared.code.Code.{Code}
use Rattle.machine.specs.Ends.{LacksForChange}
use Rattle.run_unit.specs.Volume.{RunsOver}
use Rattle.run_unit.specs.declared.ended.Ended.TheVariants.{Refused}
use Rattle.run_unit.specs.declared.ended.Refusal.{Refusal}
use Rattle.run_unit.proofs.Moments.{at_first, runs_as, ran_over_as, never_ran, no_damage_over}
use Rattle.run_unit.proofs.over.run_over.Goals as goal

pub returns-in-Err-clause-runs : goal.returns-in-Err-clause-runs
returns-in-Err-clause-runs g c = λ files stands run runs.
    let s = g.S.Device.state c.args.station.now in
    let past = g.S.Device.history c.args.station.now in
    let first = at_first g.T.Keeps.holds c.args.code files run c.args.day c.args.budget s runs
    (λ image crash. g.met.T.Store.held c.args.store s.disk image files stands.there crash) in
    subst (λ (refusal : Refusal). RunsOver g.T.Keeps.holds (LacksForChange g.T.Keeps.lacks (entries_of
    c.args.code.tables c.args.code.files)) run past s (Refused refusal) past s) (sym c.in-Err.ensures.memory)
    (never_ran g.T.Keeps.holds
    (LacksForChange g.T.Keeps.lacks (entries_of c.args.code.tables c.args.code.files)) run past s first)

pub returns-in_default-clause-runs : goal.returns-in_default-clause-runs
returns-in_default-clause-runs g c = λ files stands run runs.
    let s = g.S.Device.state c.args.station.now in
    never_ran g.T.Keeps.holds (LacksForChange g.T.Keeps.lacks
    (entries_of c.args.code.tables c.args.code.files)) run (g.S.Device.history c.args.station.now) s
    (at_first g.T.Keeps.holds c.args.code files run c.args.day c.args.budget s runs
    (λ image crash. g.met.T.Store.held c.args.store s.disk image files stands.there crash))

pub returns-clause-runs : goal.returns-clause-runs
returns-clause-runs g c = λ files stands run runs.
    let s = g.S.Device.state c.args.station.now in
    let first = at_first g.T.Keeps.holds c.args.code files run c.args.day c.args.budget s runs
    (λ image crash. g.met.T.Store.held c.args.store s.disk image files stands.there crash) in
    let has = runs_as c.in-Ok-new.machine c.args.code c.args.day files s c.args.budget run c.in-Ok-new.ensures.code
    c.in-Ok-new.ensures.day runs in
    let there = c.in-Ok.ensures.stands s.disk files stands.there in
    ran_over_as _ g.T.Keeps.holds c.connect.ensures.holds run s _ g.T.Keeps.lacks c.connect.ensures.lacks _
    (entries_of c.args.code.tables c.args.code.files)
    (ap (λ (code : Code). entries_of code.tables code.files) c.in-Ok-new.ensures.code)
    (g.S.Device.history c.args.station.now) (g.S.Device.history c.run.new.station)
    (g.S.Device.state c.run.new.station) c.run.result c.of-ended.result c.of-ended.ensures first
    (c.run.ensures.moments files (record { honest = stands.honest; there = there }) run has)
    (c.run.ensures.ends files (record { honest = stands.honest; there = there }) run has)

pub returns-clause-sound : goal.returns-clause-sound
returns-clause-sound g c = λ files stands.
    let s = g.S.Device.state c.args.station.now in
    let ran =
    c.run_law.ensures.ends c.args.code (given_over files s c.args.day c.args.budget) c.code.ensures.verified in
    no_damage_over g.T.Keeps.holds
    (LacksForChange g.T.Keeps.lacks (entries_of c.args.code.tables c.args.code.files)) ran.0 s c.of-ended.result
    (g.S.Device.state c.run.new.station) (returns-clause-runs g c files stands ran.0 ran.1).ends
