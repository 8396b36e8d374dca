use Rattle.std.proofs.Common.{◌≡◌, List, sym, ap, subst}
use Rattle.station.specs.Disk.{Sector}
use Rattle.station.specs.State.{State}
use Rattle.records.specs.declared.fault.StoreFault.{StoreFault}
use Rattle.volume_format.specs.Volume.{Holds}
use Rattle.alternate_keys.specs.Opened.{HasMap, IsOpenRefusal, IsReadCause}
use Rattle.alternate_keys.proofs.OpenedStore.{stands_for, map_there, refused_of, cause_of}
use Rattle.alternate_keys.proofs.store.PagedStore.open.Goals as goal

pub returns-in-Ok-clause-stands : goal.returns-in-Ok-clause-stands
returns-in-Ok-clause-stands g c = λ honest files holds.
    let old : State = g.D.Device.state c.args.device.now in
    let new : State = g.D.Device.state c.open.new.device in
    let same : new.disk.present ≡ old.disk.present =
    ap (λ (s : State). s.disk.present) (c.in-Ok.ensures.state honest) in
    record {
      represents = stands_for c.in-Ok.pages new.disk files (c.in-Ok.ensures.agrees honest) c.in-Ok.ensures.map
          c.in-Ok.ensures.ready.2 (subst (λ (l : List Sector). Holds l files) (sym same) holds);
      notes = c.new.ensures _;
    }

pub returns-in-Err-clause-refused : goal.returns-in-Err-clause-refused
returns-in-Err-clause-refused g c = λ honest.
    let present : List Sector = (g.D.Device.state c.args.device.now).disk.present in
    subst (λ (f : StoreFault). IsOpenRefusal present f) (sym c.to_fault.ensures)
    (refused_of present c.in-Err.error (c.in-Err.ensures.refused honest))

pub returns-in-Err-clause-opens : goal.returns-in-Err-clause-opens
returns-in-Err-clause-opens g c = λ honest files holds.
    subst (λ (f : StoreFault). IsReadCause f) (sym c.to_fault.ensures)
    (cause_of c.in-Err.error (c.in-Err.ensures.opens honest holds.0 holds.1))

pub returns-in-Ok-clause-map : goal.returns-in-Ok-clause-map
returns-in-Ok-clause-map g c = λ honest.
    let same : (g.D.Device.state c.open.new.device).disk.present ≡ (g.D.Device.state c.args.device.now).disk.present =
    ap (λ (s : State). s.disk.present) (c.in-Ok.ensures.state honest) in
    subst HasMap same
    (map_there c.in-Ok.pages (g.D.Device.state c.open.new.device).disk (c.in-Ok.ensures.agrees honest))
