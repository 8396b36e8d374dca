use Rattle.std.proofs.Common.{◌≡◌, ◌⊎◌, inl, inr, ℕ, refl, ap, ◌∙◌}
use Rattle.std.specs.Prelude.{Result, Err, IfOk}
use Rattle.std.proofs.lemmas.Result.{err_from_is_err_and}
use Rattle.station.specs.Disk.{Sector}
use Rattle.lru.specs.LruCache.{LruCache}
use Rattle.pages.specs.Commits.{IsAsCommitted}
use Rattle.pages.specs.Devices.{BlamesDevice}
use Rattle.pages.specs.Errors.{IsReadError, IsOpenError, FailsWithError}
use Rattle.pages.specs.Opens.{IsJustOpened, HasFilled, HasCapacity, Syncs, SyncsAtMost, HoldsCommitted, RefusesDisk}
use Rattle.pages.specs.Opens.{IfHoldsForeign, IfDamaged}
use Rattle.pages.specs.declared.error.PagesError.{PagesError}
use Rattle.pages.specs.declared.error.PagesError.TheVariants.{Device, Damaged, Memory, ForeignMark}
use Rattle.pages.proofs.Passing.{passed, still_error, never_ok, memory_not_device, blames_where}
use Rattle.pages.proofs.Resting.{agrees_opened, map_opened, just_opened, none_filled}
use Rattle.pages.proofs.page_map.PageMap.open.Goals as goal

pub returns-clause-failures : goal.returns-clause-failures
returns-clause-failures g c = blames_where _ _ _ _ never_ok c.in_ok-volume.ensures.failures

pub returns-clause-agrees : goal.returns-clause-agrees
returns-clause-agrees g c = λ honest. agrees_opened c.in_ok-volume.volume c.args.capacity c.in_ok-pages.pages
    c.in_ok-pages.ensures (g.D.Device.state c.open_volume.new.device).disk (c.in_ok-volume.ensures.committed honest)

pub returns-clause-map : goal.returns-clause-map
returns-clause-map g c =
    map_opened c.in_ok-volume.volume c.args.capacity c.in_ok-pages.pages c.in_ok-pages.ensures

pub returns-clause-ready : goal.returns-clause-ready
returns-clause-ready g c = just_opened c.in_ok-volume.volume c.args.capacity c.in_ok-pages.pages c.in_ok-pages.ensures
    (g.D.Device.sectors c.args.device.now) c.in_ok-volume.ensures.there

pub returns-clause-filled : goal.returns-clause-filled
returns-clause-filled g c =
    none_filled c.in_ok-volume.volume c.args.capacity c.in_ok-pages.pages c.in_ok-pages.ensures

pub returns-clause-cache : goal.returns-clause-cache
returns-clause-cache g c = ap (λ (l : LruCache ℕ Sector). l.cap) c.in_ok-pages.ensures.cache

pub returns-in_err-volume-clause-failures : goal.returns-in_err-volume-clause-failures
returns-in_err-volume-clause-failures g c =
    passed c.from_residual.result c.in_err-volume.field-0.0 c.from_residual.ensures.1
    (λ r. BlamesDevice g.D.Device r c.args.device.now c.open_volume.new.device)
    (blames_where _ _ _ _ still_error c.in_err-volume.ensures.failures)

pub returns-in_err-volume-clause-state : goal.returns-in_err-volume-clause-state
returns-in_err-volume-clause-state g c =
    passed c.from_residual.result c.in_err-volume.field-0.0 c.from_residual.ensures.1
    (λ r. Syncs g.D.Device r c.args.device.now c.open_volume.new.device)
    (λ _. tt)

pub returns-in_err-volume-clause-unwritten : goal.returns-in_err-volume-clause-unwritten
returns-in_err-volume-clause-unwritten g c =
    passed c.from_residual.result c.in_err-volume.field-0.0 c.from_residual.ensures.1
    (λ r. SyncsAtMost g.D.Device r c.args.device.now c.open_volume.new.device)
    c.in_err-volume.ensures.unwritten

pub returns-in_err-volume-clause-agrees : goal.returns-in_err-volume-clause-agrees
returns-in_err-volume-clause-agrees g c =
    passed c.from_residual.result c.in_err-volume.field-0.0 c.from_residual.ensures.1
    (λ r. HoldsCommitted g.D.Device r c.args.device.now c.open_volume.new.device)
    (λ _. tt)

pub returns-in_err-volume-clause-map : goal.returns-in_err-volume-clause-map
returns-in_err-volume-clause-map g c =
    passed c.from_residual.result c.in_err-volume.field-0.0 c.from_residual.ensures.1
    (λ r. IfOk r IsAsCommitted)
    tt

pub returns-in_err-volume-clause-ready : goal.returns-in_err-volume-clause-ready
returns-in_err-volume-clause-ready g c =
    passed c.from_residual.result c.in_err-volume.field-0.0 c.from_residual.ensures.1
    (λ r. IfOk r (IsJustOpened (g.D.Device.sectors c.args.device.now)))
    tt

pub returns-in_err-volume-clause-filled : goal.returns-in_err-volume-clause-filled
returns-in_err-volume-clause-filled g c =
    passed c.from_residual.result c.in_err-volume.field-0.0 c.from_residual.ensures.1
    (λ r. IfOk r (HasFilled 0))
    tt

pub returns-in_err-volume-clause-cache : goal.returns-in_err-volume-clause-cache
returns-in_err-volume-clause-cache g c =
    passed c.from_residual.result c.in_err-volume.field-0.0 c.from_residual.ensures.1
    (λ r. IfOk r (HasCapacity c.args.capacity))
    tt

pub returns-in_err-volume-clause-refused : goal.returns-in_err-volume-clause-refused
returns-in_err-volume-clause-refused g c =
    passed c.from_residual.result c.in_err-volume.field-0.0 c.from_residual.ensures.1
    (λ r. RefusesDisk g.D.Device r c.args.device.now)
    c.in_err-volume.ensures.refused

pub returns-in_err-volume-clause-foreign : goal.returns-in_err-volume-clause-foreign
returns-in_err-volume-clause-foreign g c =
    passed c.from_residual.result c.in_err-volume.field-0.0 c.from_residual.ensures.1
    (λ r. IfHoldsForeign g.D.Device c.args.device.now (FailsWithError ForeignMark r))
    c.in_err-volume.ensures.foreign

pub returns-in_err-volume-clause-damaged : goal.returns-in_err-volume-clause-damaged
returns-in_err-volume-clause-damaged g c =
    passed c.from_residual.result c.in_err-volume.field-0.0 c.from_residual.ensures.1
    (λ r. IfDamaged g.D.Device c.args.device.now (FailsWithError Damaged r))
    c.in_err-volume.ensures.damaged

pub returns-in_err-volume-clause-cause : goal.returns-in_err-volume-clause-cause
returns-in_err-volume-clause-cause g c =
    passed c.from_residual.result c.in_err-volume.field-0.0 c.from_residual.ensures.1
    (λ r. IsOpenError r)
    c.in_err-volume.ensures.cause

pub returns-in_err-pages-clause-failures : goal.returns-in_err-pages-clause-failures
returns-in_err-pages-clause-failures g c =
    passed c.from_residual-in_err-pages.result Memory c.from_residual-in_err-pages.ensures.1
    (λ r. BlamesDevice g.D.Device r c.args.device.now c.open_volume.new.device)
    (blames_where _ _ _ _ memory_not_device c.in_ok-volume.ensures.failures)

pub returns-in_err-pages-clause-state : goal.returns-in_err-pages-clause-state
returns-in_err-pages-clause-state g c =
    passed c.from_residual-in_err-pages.result Memory c.from_residual-in_err-pages.ensures.1
    (λ r. Syncs g.D.Device r c.args.device.now c.open_volume.new.device)
    (λ _. tt)

pub returns-in_err-pages-clause-unwritten : goal.returns-in_err-pages-clause-unwritten
returns-in_err-pages-clause-unwritten g c =
    passed c.from_residual-in_err-pages.result Memory c.from_residual-in_err-pages.ensures.1
    (λ r. SyncsAtMost g.D.Device r c.args.device.now c.open_volume.new.device)
    (λ honest. inr (c.in_ok-volume.ensures.state honest))

pub returns-in_err-pages-clause-agrees : goal.returns-in_err-pages-clause-agrees
returns-in_err-pages-clause-agrees g c =
    passed c.from_residual-in_err-pages.result Memory c.from_residual-in_err-pages.ensures.1
    (λ r. HoldsCommitted g.D.Device r c.args.device.now c.open_volume.new.device)
    (λ _. tt)

pub returns-in_err-pages-clause-map : goal.returns-in_err-pages-clause-map
returns-in_err-pages-clause-map g c =
    passed c.from_residual-in_err-pages.result Memory c.from_residual-in_err-pages.ensures.1
    (λ r. IfOk r IsAsCommitted)
    tt

pub returns-in_err-pages-clause-ready : goal.returns-in_err-pages-clause-ready
returns-in_err-pages-clause-ready g c =
    passed c.from_residual-in_err-pages.result Memory c.from_residual-in_err-pages.ensures.1
    (λ r. IfOk r (IsJustOpened (g.D.Device.sectors c.args.device.now)))
    tt

pub returns-in_err-pages-clause-filled : goal.returns-in_err-pages-clause-filled
returns-in_err-pages-clause-filled g c =
    passed c.from_residual-in_err-pages.result Memory c.from_residual-in_err-pages.ensures.1
    (λ r. IfOk r (HasFilled 0))
    tt

pub returns-in_err-pages-clause-cache : goal.returns-in_err-pages-clause-cache
returns-in_err-pages-clause-cache g c =
    passed c.from_residual-in_err-pages.result Memory c.from_residual-in_err-pages.ensures.1
    (λ r. IfOk r (HasCapacity c.args.capacity))
    tt

pub returns-in_err-pages-clause-refused : goal.returns-in_err-pages-clause-refused
returns-in_err-pages-clause-refused g c =
    passed c.from_residual-in_err-pages.result Memory c.from_residual-in_err-pages.ensures.1
    (λ r. RefusesDisk g.D.Device r c.args.device.now)
    (λ _. tt)

pub returns-in_err-pages-clause-foreign : goal.returns-in_err-pages-clause-foreign
returns-in_err-pages-clause-foreign g c =
    passed c.from_residual-in_err-pages.result Memory c.from_residual-in_err-pages.ensures.1
    (λ r. IfHoldsForeign g.D.Device c.args.device.now (FailsWithError ForeignMark r))
    (λ _ _. inr (inr refl))

pub returns-in_err-pages-clause-damaged : goal.returns-in_err-pages-clause-damaged
returns-in_err-pages-clause-damaged g c =
    passed c.from_residual-in_err-pages.result Memory c.from_residual-in_err-pages.ensures.1
    (λ r. IfDamaged g.D.Device c.args.device.now (FailsWithError Damaged r))
    (λ _ _. inr (inr refl))

pub returns-in_err-pages-clause-cause : goal.returns-in_err-pages-clause-cause
returns-in_err-pages-clause-cause g c =
    passed c.from_residual-in_err-pages.result Memory c.from_residual-in_err-pages.ensures.1
    (λ r. IsOpenError r)
    (inr (inr (inl refl)))

-- what is refused with that error is refused as a read is
refused_so : {T : Type 0} (e : PagesError) (r : Result T PagesError) → (e ≡ Device) ⊎ (e ≡ Memory) → r ≡ Err e
    → IsReadError r
refused_so e r told is = rw is told

pub returns-in_err-volume-clause-opens : goal.returns-in_err-volume-clause-opens
returns-in_err-volume-clause-opens g c = λ honest m holds.
    let told = err_from_is_err_and c.from_residual.result c.from_residual.ensures.1 in
    refused_so c.in_err-volume.field-0.0 c.from_residual.result (c.in_err-volume.ensures.opens honest m holds)
    (told.1 ∙ ap Err told.2)

pub returns-in_err-pages-clause-opens : goal.returns-in_err-pages-clause-opens
returns-in_err-pages-clause-opens g c = λ honest m holds.
    let told =
    err_from_is_err_and c.from_residual-in_err-pages.result c.from_residual-in_err-pages.ensures.1 in
    refused_so Memory c.from_residual-in_err-pages.result (inr refl) (told.1 ∙ ap Err told.2)
