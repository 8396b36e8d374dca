use Rattle.std.proofs.Common.{subst}
use Rattle.std.specs.Prelude.{IfOk, IfErr}
use Rattle.station.proofs.Opens.{opens}
use Rattle.station.proofs.Spans.{unseen}
use Rattle.station.specs.State.{State}
use Rattle.pages.specs.Errors.{RefusesImage}
use Rattle.pages.specs.Image.{Reads}
use Rattle.pages.specs.Volumes.{volume_of}
use Rattle.pages.proofs.Refused.{map_opens, foreign_told, damage_told}
use Rattle.pages.proofs.open.open_volume.Goals as goal

pub returns-in_err-sync-clause-moments : goal.returns-in_err-sync-clause-moments
returns-in_err-sync-clause-moments g c = λ honest.
    opens _ _ (g.D.Device.state c.args.device.now) (g.D.Device.state c.sync.new.self) c.sync.result
    (g.met.D.Device.possible c.args.device.now honest) (c.sync.ensures.moves honest) (c.sync.ensures.synced honest)
    (c.sync.ensures.unsynced honest)

pub returns-clause-moments : goal.returns-clause-moments
returns-clause-moments g c = λ honest.
    let honest' = c.sync.ensures.honest.0 honest in
    unseen _ (g.D.Device.history c.sync.new.self) _ (g.D.Device.state c.sync.new.self)
    (g.D.Device.state c.read_volume.new.device) _
    (opens _ _ (g.D.Device.state c.args.device.now) (g.D.Device.state c.sync.new.self) c.sync.result
    (g.met.D.Device.possible c.args.device.now honest) (c.sync.ensures.moves honest) (c.sync.ensures.synced honest)
    (c.sync.ensures.unsynced honest))
    (c.read_volume.ensures.only.history honest') (c.read_volume.ensures.only.state honest')

pub returns-clause-refused : goal.returns-clause-refused
returns-clause-refused g c = λ honest.
    subst (λ (s : State). IfErr c.read_volume.result (λ error. RefusesImage s.disk.present error))
    (c.in_ok-sync.ensures.synced honest) (c.read_volume.ensures.refused (c.in_ok-sync.ensures.honest.0 honest))

pub returns-clause-opens : goal.returns-clause-opens
returns-clause-opens g c = λ honest m holds. map_opens (g.D.Device.state c.args.device.now).disk.present m
    c.read_volume.result (returns-clause-refused g c honest) holds

pub returns-clause-foreign : goal.returns-clause-foreign
returns-clause-foreign g c = λ honest foreign.
    foreign_told (g.D.Device.state c.args.device.now).disk.present c.read_volume.result
    (subst (λ (s : State). IfOk c.read_volume.result (λ volume. Reads s.disk.present (volume_of volume)))
    (c.in_ok-sync.ensures.synced honest) (c.read_volume.ensures.reads (c.in_ok-sync.ensures.honest.0 honest)))
    (returns-clause-refused g c honest) foreign

pub returns-clause-damaged : goal.returns-clause-damaged
returns-clause-damaged g c = λ honest damage.
    damage_told (g.D.Device.state c.args.device.now).disk.present c.read_volume.result
    (subst (λ (s : State). IfOk c.read_volume.result (λ volume. Reads s.disk.present (volume_of volume)))
    (c.in_ok-sync.ensures.synced honest) (c.read_volume.ensures.reads (c.in_ok-sync.ensures.honest.0 honest)))
    (returns-clause-refused g c honest) damage
