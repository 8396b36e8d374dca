use Rattle.std.proofs.Common.{true, ◌≡◌, ℕ, map, refl, sym, ◌∙◌, ap, subst}
use Rattle.std.specs.Prelude.{Err, IfErr}
use Rattle.station.specs.Calls.{OnlyReads}
use Rattle.roots.specs.declared.root.RootSector.{RootSector}
use Rattle.roots.specs.declared.error.RootsError.TheVariants.{Device}
use Rattle.roots.specs.Root.{root_in, IsWithinVolume, IfValid}
use Rattle.roots.specs.Laws.{IsKnown}
use Rattle.roots.proofs.Within.{sector_within, sector_known}
use Rattle.roots.proofs.RootReads.{refused, no_value, ok_not_err, only_read}
use Rattle.roots.proofs.reading.root_of.Goals as goal

pub returns-in_err-read-clause-only : goal.returns-in_err-read-clause-only
returns-in_err-read-clause-only g c =
    let here = c.read.ensures in
    refused c.from_residual.result Device c.from_residual.ensures.1
    (λ r. OnlyReads g.D.Device (r ≡ Err Device) c.args.device.now c.read.new.self)
    (only_read g.D.Device _ _ _ _ here.honest here.sectors c.in_err-read.ensures.failures (λ _. refl {a = true})
    here.state
    here.history)

pub returns-in_err-read-clause-root : goal.returns-in_err-read-clause-root
returns-in_err-read-clause-root g c = λ honest.
    no_value c.from_residual.result Device c.from_residual.ensures.1 _

pub returns-in_err-read-clause-within : goal.returns-in_err-read-clause-within
returns-in_err-read-clause-within g c = no_value c.from_residual.result Device c.from_residual.ensures.1 _

pub returns-in_err-read-clause-marks : goal.returns-in_err-read-clause-marks
returns-in_err-read-clause-marks g c = no_value c.from_residual.result Device c.from_residual.ensures.1 _

pub returns-in_err-read-clause-cause : goal.returns-in_err-read-clause-cause
returns-in_err-read-clause-cause g c = refused c.from_residual.result Device c.from_residual.ensures.1
    (λ r. IfErr r (λ error. error ≡ Device)) refl

pub returns-clause-only : goal.returns-clause-only
returns-clause-only g c =
    let here = c.read.ensures in
    only_read g.D.Device _ _ _ _ here.honest here.sectors c.in_ok-read.ensures.failures (λ is. ok_not_err is) here.state
    here.history

pub returns-clause-root : goal.returns-clause-root
returns-clause-root g c = λ honest.
    let known = map (λ family. family.now) c.args.known.now in
    c.read_root.ensures
    ∙ ap (λ (n : ℕ). root_in known n c.args.number c.read.new.bytes)
    (c.count.ensures ∙ c.in_ok-read.ensures.sectors)
    ∙ ap (root_in known (g.D.Device.sectors c.args.device.now) c.args.number) (c.in_ok-read.ensures.bytes honest)

pub returns-clause-within : goal.returns-clause-within
returns-clause-within g c =
    let known = map (λ family. family.now) c.args.known.now in
    subst (λ (n : ℕ). IfValid c.read_root.result (IsWithinVolume n))
    (c.count.ensures ∙ c.in_ok-read.ensures.sectors)
    (subst (λ (root : RootSector). IfValid root (IsWithinVolume c.count.result)) (sym c.read_root.ensures)
    (sector_within known c.count.result c.args.number c.read.new.bytes))

pub returns-clause-marks : goal.returns-clause-marks
returns-clause-marks g c =
    let known = map (λ family. family.now) c.args.known.now in
    subst (λ (sector : RootSector). IfValid sector (λ root. IsKnown known root.mark)) (sym c.read_root.ensures)
    (sector_known known c.count.result c.args.number c.read.new.bytes)
