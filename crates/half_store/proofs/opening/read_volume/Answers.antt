use Rattle.std.proofs.Common.{◌≡◌, ◌∙◌, inr, sym, ap, subst}
use Rattle.std.specs.Prelude.{Option, Ok, Err, Vec, IfErr, IfSome}
use Rattle.std.specs.declared.alloc.Global.{Global}
use Rattle.station.specs.State.{State}
use Rattle.station.specs.Calls.{OnlyReads}
use Rattle.station.proofs.Calls.{reads_then}
use Rattle.records.specs.declared.fault.StoreFault.{StoreFault}
use Rattle.records.specs.declared.fault.StoreFault.TheVariants.{Device}
use Rattle.half_store.specs.Half.{named_bytes, AreHalfFiles}
use Rattle.half_store.specs.Spelled.{files_bytes}
use Rattle.half_store.specs.Opened.{IsOpenRefusal, RefusesForImage, FailsIfForeign}
use Rattle.file_bytes.specs.Stored.{files_of}
use Rattle.file_bytes.specs.declared.stored.StoredFile.{StoredFile}
use Rattle.half_store.proofs.Rested.{is_none}
use Rattle.half_store.proofs.Opened.{each_least, no_half_roots, no_spelled, holds_now, not_foreign}
use Rattle.half_store.proofs.Passed.{passed, if_refused, never_ok, still_error, memory_only, damaged_not_device}
use Rattle.half_store.proofs.Passed.{reads_where}
use Rattle.half_store.proofs.opening.read_volume.Goals as goal

pub are_half_roots-requires : goal.are_half_roots-requires
are_half_roots-requires g c =
    each_least (g.D.Device.sectors c.args.device.now) c.in_ok-roots.roots c.in_ok-roots.ensures.within

pub read_half-requires-clause-fits : goal.read_half-requires-clause-fits
read_half-requires-clause-fits g c = (c.are_half_roots.ensures.yes c.if-not-are_half_roots.false).newest.fits

pub returns-then-not-are_half_roots-clause-refused : goal.returns-then-not-are_half_roots-clause-refused
returns-then-not-are_half_roots-clause-refused g c = λ honest.
    no_half_roots (g.D.Device.state c.args.device.now).disk.present c.in_ok-roots.roots
    (c.in_ok-roots.ensures.roots honest) (c.are_half_roots.ensures.no c.if-not-are_half_roots.true)

pub returns-in_default-clause-refused : goal.returns-in_default-clause-refused
returns-in_default-clause-refused g c = λ honest.
    let roots = c.in_ok-roots.roots in
    let honest' = c.in_ok-roots.ensures.only.honest.0 honest in
    let named = c.in_ok-bytes.ensures.bytes honest'
    ∙ ap (λ (s : State). named_bytes s.disk.present roots.newest) (c.in_ok-roots.ensures.only.state honest) in
    no_spelled (g.D.Device.state c.args.device.now).disk.present roots c.in_ok-bytes.bytes.items
    (c.in_ok-roots.ensures.roots honest) named
    (λ files is are. c.in_ok-files.ensures.none (ap (λ o. Ok o)
    (is_none c.in_ok-files.field-0 c.in_default.not-Some)) files (c.deref.ensures.value ∙ is) are)

pub returns-clause-holds : goal.returns-clause-holds
returns-clause-holds g c = λ honest.
    let roots = c.in_ok-roots.roots in
    let honest' = c.in_ok-roots.ensures.only.honest.0 honest in
    let bytes = c.in_ok-bytes.bytes.items in
    let named = c.in_ok-bytes.ensures.bytes honest'
    ∙ ap (λ (s : State). named_bytes s.disk.present roots.newest) (c.in_ok-roots.ensures.only.state honest) in
    let some = subst (λ (o : Option (Vec StoredFile Global)).
    IfSome o (λ files. (c.deref.result.now ≡ files_bytes (files_of files.items))
    × AreHalfFiles roots.newest.generation (files_of files.items))) c.in-Some.is c.in_ok-files.ensures.some in
    holds_now (g.D.Device.state c.args.device.now).disk.present roots bytes (files_of c.in-Some.files.items)
    (c.in_ok-roots.ensures.roots honest)
    (c.are_half_roots.ensures.yes c.if-not-are_half_roots.false) named c.in_ok-bytes.ensures.long
    (sym c.deref.ensures.value ∙ some.0, some.1)

pub returns-in_err-roots-clause-only : goal.returns-in_err-roots-clause-only
returns-in_err-roots-clause-only g c =
    passed c.from_residual.result c.in_err-roots.field-0.0 c.from_residual.ensures.1
    (λ r. OnlyReads g.D.Device (r ≡ Err Device) c.args.device.now c.own_roots.new.device)
    (reads_where g.D.Device _ _ _ _ (λ is. still_error is) c.in_err-roots.ensures.only)

pub returns-then-not-are_half_roots-clause-only : goal.returns-then-not-are_half_roots-clause-only
returns-then-not-are_half_roots-clause-only g c =
    reads_where g.D.Device _ _ _ _ (λ is. damaged_not_device is) c.in_ok-roots.ensures.only

pub returns-in_err-bytes-clause-only : goal.returns-in_err-bytes-clause-only
returns-in_err-bytes-clause-only g c =
    passed c.from_residual-in_err-bytes.result c.in_err-bytes.field-0.0 c.from_residual-in_err-bytes.ensures.1
    (λ r. OnlyReads g.D.Device (r ≡ Err Device) c.args.device.now c.read_half.new.device)
    (reads_then g.D.Device _ _ _ c.args.device.now c.own_roots.new.device c.read_half.new.device
    (λ is. inr (still_error is)) c.in_ok-roots.ensures.only c.in_err-bytes.ensures.only)

pub returns-in_err-files-clause-only : goal.returns-in_err-files-clause-only
returns-in_err-files-clause-only g c =
    passed c.from_residual-in_err-files.result c.in_err-files.field-0.0 c.from_residual-in_err-files.ensures.1
    (λ r. OnlyReads g.D.Device (r ≡ Err Device) c.args.device.now c.read_half.new.device)
    (reads_then g.D.Device _ _ _ c.args.device.now c.own_roots.new.device c.read_half.new.device
    (λ is. memory_only _ c.in_err-files.ensures.memory is) c.in_ok-roots.ensures.only c.in_ok-bytes.ensures.only)

pub returns-in_default-clause-only : goal.returns-in_default-clause-only
returns-in_default-clause-only g c =
    reads_then g.D.Device _ _ _ c.args.device.now c.own_roots.new.device c.read_half.new.device
    (λ is. damaged_not_device is) c.in_ok-roots.ensures.only c.in_ok-bytes.ensures.only

pub returns-clause-only : goal.returns-clause-only
returns-clause-only g c =
    reads_then g.D.Device _ _ _ c.args.device.now c.own_roots.new.device c.read_half.new.device
    (λ is. never_ok is) c.in_ok-roots.ensures.only c.in_ok-bytes.ensures.only

pub returns-in_err-roots-clause-refused : goal.returns-in_err-roots-clause-refused
returns-in_err-roots-clause-refused g c =
    passed c.from_residual.result c.in_err-roots.field-0.0 c.from_residual.ensures.1
    (λ r. RefusesForImage g.D.Device r c.args.device.now)
    (c.in_err-roots.ensures.refused)

pub returns-in_err-roots-clause-foreign : goal.returns-in_err-roots-clause-foreign
returns-in_err-roots-clause-foreign g c =
    passed c.from_residual.result c.in_err-roots.field-0.0 c.from_residual.ensures.1
    (λ r. FailsIfForeign g.D.Device r c.args.device.now)
    (c.in_err-roots.ensures.foreign)

pub returns-then-not-are_half_roots-clause-foreign : goal.returns-then-not-are_half_roots-clause-foreign
returns-then-not-are_half_roots-clause-foreign g c =
    λ honest foreign. absurd
    (not_foreign (g.D.Device.state c.args.device.now).disk.present c.in_ok-roots.roots
    (c.in_ok-roots.ensures.roots honest) foreign)

pub returns-in_err-bytes-clause-foreign : goal.returns-in_err-bytes-clause-foreign
returns-in_err-bytes-clause-foreign g c =
    λ honest foreign. absurd
    (not_foreign (g.D.Device.state c.args.device.now).disk.present c.in_ok-roots.roots
    (c.in_ok-roots.ensures.roots honest) foreign)

pub returns-in_err-files-clause-foreign : goal.returns-in_err-files-clause-foreign
returns-in_err-files-clause-foreign g c =
    λ honest foreign. absurd
    (not_foreign (g.D.Device.state c.args.device.now).disk.present c.in_ok-roots.roots
    (c.in_ok-roots.ensures.roots honest) foreign)

pub returns-in_default-clause-foreign : goal.returns-in_default-clause-foreign
returns-in_default-clause-foreign g c =
    λ honest foreign. absurd
    (not_foreign (g.D.Device.state c.args.device.now).disk.present c.in_ok-roots.roots
    (c.in_ok-roots.ensures.roots honest) foreign)

pub returns-clause-foreign : goal.returns-clause-foreign
returns-clause-foreign g c =
    λ honest foreign. absurd
    (not_foreign (g.D.Device.state c.args.device.now).disk.present c.in_ok-roots.roots
    (c.in_ok-roots.ensures.roots honest) foreign)

pub returns-in_err-bytes-clause-refused : goal.returns-in_err-bytes-clause-refused
returns-in_err-bytes-clause-refused g c =
    λ honest. passed c.from_residual-in_err-bytes.result c.in_err-bytes.field-0.0 c.from_residual-in_err-bytes.ensures.1
    (λ r. IfErr r (λ fault. IsOpenRefusal (g.D.Device.state c.args.device.now).disk.present fault))
    (subst (λ (s : State). IsOpenRefusal s.disk.present c.in_err-bytes.field-0.0)
    (c.in_ok-roots.ensures.only.state honest) c.in_err-bytes.ensures.refused)

pub returns-in_err-files-clause-refused : goal.returns-in_err-files-clause-refused
returns-in_err-files-clause-refused g c =
    λ honest. passed c.from_residual-in_err-files.result c.in_err-files.field-0.0 c.from_residual-in_err-files.ensures.1
    (λ r. IfErr r (λ fault. IsOpenRefusal (g.D.Device.state c.args.device.now).disk.present fault))
    (subst (λ (f : StoreFault). IsOpenRefusal (g.D.Device.state c.args.device.now).disk.present f)
    (sym c.in_err-files.ensures.memory) tt)

pub returns-in_err-roots-clause-holds : goal.returns-in_err-roots-clause-holds
returns-in_err-roots-clause-holds g c =
    λ honest. if_refused c.from_residual.result c.in_err-roots.field-0.0
    c.from_residual.ensures.1 _

pub returns-in_err-roots-clause-there : goal.returns-in_err-roots-clause-there
returns-in_err-roots-clause-there g c =
    if_refused c.from_residual.result c.in_err-roots.field-0.0 c.from_residual.ensures.1 _

pub returns-in_err-bytes-clause-holds : goal.returns-in_err-bytes-clause-holds
returns-in_err-bytes-clause-holds g c =
    λ honest. if_refused c.from_residual-in_err-bytes.result c.in_err-bytes.field-0.0
    c.from_residual-in_err-bytes.ensures.1 _

pub returns-in_err-bytes-clause-there : goal.returns-in_err-bytes-clause-there
returns-in_err-bytes-clause-there g c =
    if_refused c.from_residual-in_err-bytes.result c.in_err-bytes.field-0.0 c.from_residual-in_err-bytes.ensures.1 _

pub returns-in_err-files-clause-holds : goal.returns-in_err-files-clause-holds
returns-in_err-files-clause-holds g c =
    λ honest. if_refused c.from_residual-in_err-files.result c.in_err-files.field-0.0
    c.from_residual-in_err-files.ensures.1 _

pub returns-in_err-files-clause-there : goal.returns-in_err-files-clause-there
returns-in_err-files-clause-there g c =
    if_refused c.from_residual-in_err-files.result c.in_err-files.field-0.0 c.from_residual-in_err-files.ensures.1 _
