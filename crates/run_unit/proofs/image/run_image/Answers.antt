use Rattle.std.proofs.Common.{◌≡◌, [], rules}
use Rattle.run_unit.specs.Runs.{call_on}
use Rattle.run_unit.proofs.Images.{no_damage}
use Rattle.run_unit.proofs.Runs.{runs_alone, runs_files}
use Rattle.run_unit.proofs.image.run_image.Goals as goal

pub returns-then-is_empty-clause-runs : goal.returns-then-is_empty-clause-runs
returns-then-is_empty-clause-runs g c = λ honest code is means runs.
    let call = call_on g.S.Device c.run_alone.result c.args.day c.args.budget
    c.args.station.now c.run_alone.new.station in
    let none : c.in-Ok.code.files ≡ [] = search rules in
    runs_alone code c.in-Ok.code (c.in-Ok.ensures.only code is) means runs call
    none (c.run_alone.ensures.alone honest) c.run_alone.ensures.sound

pub returns-else-is_empty-clause-runs : goal.returns-else-is_empty-clause-runs
returns-else-is_empty-clause-runs g c = λ honest code is means runs.
    let call = call_on g.S.Device c.run_on_volume.result c.args.day c.args.budget
    c.args.station.now c.run_on_volume.new.station in
    let some : c.in-Ok.code.files ≡ [] → ⊥ = search rules in
    runs_files code c.in-Ok.code (c.in-Ok.ensures.only code is) means runs call
    some (c.run_on_volume.ensures.volume honest) (c.run_on_volume.ensures.halves honest)
    (c.run_on_volume.ensures.sound honest)

pub returns-then-is_empty-clause-unwritten : goal.returns-then-is_empty-clause-unwritten
returns-then-is_empty-clause-unwritten g c = λ honest is. absurd (c.run_alone.ensures.sound is)

pub returns-in-Err-clause-unwritten : goal.returns-in-Err-clause-unwritten
returns-in-Err-clause-unwritten g c =
    λ honest is. absurd (no_damage c.in-Err.refusal c.args.image.now c.in-Err.ensures.cause is)
