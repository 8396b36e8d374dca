use Rattle.std.proofs.Common.{◌≡◌, inl, inr, refl}
use Rattle.std.specs.Prelude.{Err, IfErr}
use Rattle.station.specs.Calls.{OnlyReads}
use Rattle.pages.specs.Errors.{of_roots, RefusesImage, IsOpenError}
use Rattle.pages.specs.declared.error.PagesError.TheVariants.{Device, Memory}
use Rattle.pages.proofs.Passing.{passed, never_ok, if_refused, memory_not_device, damaged_not_device, roots_device}
use Rattle.pages.proofs.Passing.{reads_where}
use Rattle.pages.proofs.root.read_root.Goals as goal

pub returns-in_err-roots-clause-only : goal.returns-in_err-roots-clause-only
returns-in_err-roots-clause-only g c =
    passed c.from_residual.result (of_roots c.in_err-roots.field-0.0) c.from_residual.ensures.1
    (λ r. OnlyReads g.D.Device (r ≡ Err Device) c.args.device.now c.read_roots.new.device)
    (reads_where g.D.Device _ _ _ _ (λ is. roots_device c.in_err-roots.field-0.0 is) c.in_err-roots.ensures.only)

pub returns-in_err-roots-clause-root : goal.returns-in_err-roots-clause-root
returns-in_err-roots-clause-root g c = λ honest.
    if_refused c.from_residual.result (of_roots c.in_err-roots.field-0.0) c.from_residual.ensures.1 _

pub returns-in_err-roots-clause-within : goal.returns-in_err-roots-clause-within
returns-in_err-roots-clause-within g c =
    if_refused c.from_residual.result (of_roots c.in_err-roots.field-0.0) c.from_residual.ensures.1 _

pub returns-in_err-is_sound_beside-clause-only : goal.returns-in_err-is_sound_beside-clause-only
returns-in_err-is_sound_beside-clause-only g c =
    passed c.from_residual-in_err-is_sound_beside.result Memory c.from_residual-in_err-is_sound_beside.ensures.1
    (λ r. OnlyReads g.D.Device (r ≡ Err Device) c.args.device.now c.read_roots.new.device)
    (reads_where g.D.Device _ _ _ _ (λ is. memory_not_device is) c.in_ok-roots.ensures.only)

pub returns-in_err-is_sound_beside-clause-root : goal.returns-in_err-is_sound_beside-clause-root
returns-in_err-is_sound_beside-clause-root g c = λ honest.
    if_refused c.from_residual-in_err-is_sound_beside.result Memory c.from_residual-in_err-is_sound_beside.ensures.1 _

pub returns-in_err-is_sound_beside-clause-within : goal.returns-in_err-is_sound_beside-clause-within
returns-in_err-is_sound_beside-clause-within g c =
    if_refused c.from_residual-in_err-is_sound_beside.result Memory c.from_residual-in_err-is_sound_beside.ensures.1 _

pub returns-in_err-is_sound_beside-clause-refused : goal.returns-in_err-is_sound_beside-clause-refused
returns-in_err-is_sound_beside-clause-refused g c = λ honest.
    passed c.from_residual-in_err-is_sound_beside.result Memory c.from_residual-in_err-is_sound_beside.ensures.1
    (λ r. IfErr r (RefusesImage (g.D.Device.state c.args.device.now).disk.present)) tt

pub returns-in_err-is_sound_beside-clause-cause : goal.returns-in_err-is_sound_beside-clause-cause
returns-in_err-is_sound_beside-clause-cause g c =
    passed c.from_residual-in_err-is_sound_beside.result Memory c.from_residual-in_err-is_sound_beside.ensures.1
    (λ r. IsOpenError r)
    (inr (inr (inl refl)))

pub returns-in_err-root-clause-only : goal.returns-in_err-root-clause-only
returns-in_err-root-clause-only g c =
    passed c.from_residual-in_err-root.result Memory c.from_residual-in_err-root.ensures.1
    (λ r. OnlyReads g.D.Device (r ≡ Err Device) c.args.device.now c.read_roots.new.device)
    (reads_where g.D.Device _ _ _ _ (λ is. memory_not_device is) c.in_ok-roots.ensures.only)

pub returns-in_err-root-clause-root : goal.returns-in_err-root-clause-root
returns-in_err-root-clause-root g c = λ honest.
    if_refused c.from_residual-in_err-root.result Memory c.from_residual-in_err-root.ensures.1 _

pub returns-in_err-root-clause-within : goal.returns-in_err-root-clause-within
returns-in_err-root-clause-within g c =
    if_refused c.from_residual-in_err-root.result Memory c.from_residual-in_err-root.ensures.1 _

pub returns-in_err-root-clause-refused : goal.returns-in_err-root-clause-refused
returns-in_err-root-clause-refused g c = λ honest.
    passed c.from_residual-in_err-root.result Memory c.from_residual-in_err-root.ensures.1
    (λ r. IfErr r (RefusesImage (g.D.Device.state c.args.device.now).disk.present)) tt

pub returns-in_err-root-clause-cause : goal.returns-in_err-root-clause-cause
returns-in_err-root-clause-cause g c =
    passed c.from_residual-in_err-root.result Memory c.from_residual-in_err-root.ensures.1 (λ r. IsOpenError r)
    (inr (inr (inl refl)))

pub returns-then-not-branch-clause-only : goal.returns-then-not-branch-clause-only
returns-then-not-branch-clause-only g c =
    reads_where g.D.Device _ _ _ _ (λ is. damaged_not_device is) c.in_ok-roots.ensures.only

pub returns-in-None-clause-only : goal.returns-in-None-clause-only
returns-in-None-clause-only g c =
    reads_where g.D.Device _ _ _ _ (λ is. damaged_not_device is) c.in_ok-roots.ensures.only

pub returns-in-Some-clause-only : goal.returns-in-Some-clause-only
returns-in-Some-clause-only g c =
    reads_where g.D.Device _ _ _ _ (λ is. never_ok is) c.in_ok-roots.ensures.only

pub returns-then-not-branch-clause-cause : goal.returns-then-not-branch-clause-cause
returns-then-not-branch-clause-cause g c = inr (inl refl)

pub returns-in-None-clause-cause : goal.returns-in-None-clause-cause
returns-in-None-clause-cause g c = inr (inl refl)
