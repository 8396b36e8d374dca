use Rattle.std.proofs.Common.{◌∙◌, [], refl, sym, subst, ap}
use Rattle.source_tree.specs.Given.{given_on}
use Rattle.code_image.specs.declared.code.Code.{Code}
use Rattle.run_unit.specs.Alone.{RunsAlone}
use Rattle.run_unit.specs.declared.ended.Ended.{Ended}
use Rattle.run_unit.proofs.Moments.{runs_alone_as, ran_alone}
use Rattle.run_unit.proofs.volume.run_alone.Goals as goal

pub returns-clause-alone : goal.returns-clause-alone
returns-clause-alone g c = λ honest run runs.
    let s = g.S.Device.state c.args.station.now in
    let past = g.S.Device.history c.args.station.now in
    let later = g.S.Device.history c.run.new.station in
    let new = g.S.Device.state c.run.new.station in
    let none = c.run_law.ensures.quiet c.args.code (given_on s c.args.day c.args.budget) run c.requires.files runs in
    let own = c.run.ensures.fileless (ap (λ (code : Code). code.files) c.in-Ok-new.ensures.code ∙ c.requires.files) in
    let has = runs_alone_as c.in-Ok-new.machine c.args.code c.args.day s c.args.budget run c.in-Ok-new.ensures.code
    c.in-Ok-new.ensures.day runs in
    let there = c.in-Ok.ensures.stands s.disk [] refl in
    subst (λ (ended : Ended). RunsAlone run past s ended later new) (sym c.of-ended.ensures)
    (ran_alone _ _ _ run s none past later new c.run.result own
    (c.run.ensures.moments [] (record { honest = honest; there = there }) run has)
    (c.run.ensures.ends [] (record { honest = honest; there = there }) run has))
