use Rattle.std.proofs.Common.{inl, inr, refl, sym, subst}
use Rattle.std.specs.Prelude.{IfErr}
use Rattle.station.proofs.Opens.{opens}
use Rattle.station.proofs.Spans.{unseen}
use Rattle.station.specs.State.{State}
use Rattle.records.specs.declared.fault.StoreFault.TheVariants.{Device, Layout}
use Rattle.half_store.specs.Half.{IsForeign}
use Rattle.half_store.specs.Opened.{IsOpenRefusal, IsReadCause, FailsWith}
use Rattle.half_store.proofs.Opened.{opened_cause, opened_stands, opened_holds}
use Rattle.half_store.proofs.Passed.{passed, if_refused}
use Rattle.half_store.proofs.store.HalfStore.open.Goals as goal

pub returns-clause-moments : goal.returns-clause-moments
returns-clause-moments g c = λ honest.
    let honest' = c.sync.ensures.honest.0 honest in
    unseen _ (g.D.Device.history c.sync.new.self) _ (g.D.Device.state c.sync.new.self)
    (g.D.Device.state c.read_volume.new.device) _
    (opens _ _ (g.D.Device.state c.args.device.now) (g.D.Device.state c.sync.new.self) c.sync.result
    (g.met.D.Device.possible c.args.device.now honest) (c.sync.ensures.moves honest) (c.sync.ensures.synced honest)
    (c.sync.ensures.unsynced honest))
    (c.read_volume.ensures.only.history honest') (c.read_volume.ensures.only.state honest')

pub returns-clause-opens : goal.returns-clause-opens
returns-clause-opens g c = λ honest files holds.
    opened_cause (g.D.Device.state c.args.device.now).disk.present c.read_volume.result files
    (subst (λ (s : State). IfErr c.read_volume.result (λ fault. IsOpenRefusal s.disk.present fault))
    (c.in_ok-sync.ensures.synced honest) (c.read_volume.ensures.refused (c.in_ok-sync.ensures.honest.0 honest)))
    holds

pub returns-in_err-sync-clause-stands : goal.returns-in_err-sync-clause-stands
returns-in_err-sync-clause-stands g c =
    λ honest. if_refused c.from_residual.result Device c.from_residual.ensures.1 _

pub returns-in_err-sync-clause-holds : goal.returns-in_err-sync-clause-holds
returns-in_err-sync-clause-holds g c =
    λ honest. if_refused c.from_residual.result Device c.from_residual.ensures.1 _

pub returns-in_err-sync-clause-there : goal.returns-in_err-sync-clause-there
returns-in_err-sync-clause-there g c =
    if_refused c.from_residual.result Device c.from_residual.ensures.1 _

pub returns-in_err-sync-clause-refused : goal.returns-in_err-sync-clause-refused
returns-in_err-sync-clause-refused g c =
    λ honest. passed c.from_residual.result Device c.from_residual.ensures.1
    (λ r. IfErr r (λ fault. IsOpenRefusal (g.D.Device.state c.args.device.now).disk.present fault)) tt

pub returns-in_err-sync-clause-opens : goal.returns-in_err-sync-clause-opens
returns-in_err-sync-clause-opens g c =
    λ honest files holds. passed c.from_residual.result Device c.from_residual.ensures.1
    (λ r. IfErr r IsReadCause) (inl refl)

pub returns-in_err-sync-clause-foreign : goal.returns-in_err-sync-clause-foreign
returns-in_err-sync-clause-foreign g c =
    λ honest foreign. passed c.from_residual.result Device c.from_residual.ensures.1
    (λ r. FailsWith Layout r) (inr (inl refl))

pub returns-clause-stands : goal.returns-clause-stands
returns-clause-stands g c =
    λ honest.
    let honest' = c.sync.ensures.honest.0 honest in
    opened_stands c.read_volume.result (g.D.Device.state c.args.device.now) (g.D.Device.state c.sync.new.self)
    (c.in_ok-sync.ensures.synced honest) (c.read_volume.ensures.holds honest')
    (g.D.Device.state c.read_volume.new.device) (c.read_volume.ensures.only.state honest')

pub returns-clause-holds : goal.returns-clause-holds
returns-clause-holds g c =
    λ honest.
    let honest' = c.sync.ensures.honest.0 honest in
    opened_holds c.read_volume.result (g.D.Device.state c.args.device.now) (g.D.Device.state c.sync.new.self)
    (c.in_ok-sync.ensures.synced honest) (c.read_volume.ensures.holds honest')

pub returns-clause-refused : goal.returns-clause-refused
returns-clause-refused g c =
    λ honest.
    let honest' = c.sync.ensures.honest.0 honest in
    subst (λ (s : State). IfErr c.read_volume.result (λ fault. IsOpenRefusal s.disk.present fault))
    (c.in_ok-sync.ensures.synced honest) (c.read_volume.ensures.refused honest')

pub returns-clause-foreign : goal.returns-clause-foreign
returns-clause-foreign g c =
    λ honest foreign.
    let honest' = c.sync.ensures.honest.0 honest in
    c.read_volume.ensures.foreign honest'
    (subst (λ (s : State). IsForeign s.disk.present) (sym (c.in_ok-sync.ensures.synced honest)) foreign)
