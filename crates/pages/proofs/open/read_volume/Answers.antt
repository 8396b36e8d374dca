use Rattle.std.proofs.Common.{◌≡◌, ◌≤◌, ℕ, sym, subst, ap}
use Rattle.std.specs.Prelude.{Some, IfErr}
use Rattle.station.specs.State.{State}
use Rattle.pages.specs.Layout.{VolumeRoot, newest}
use Rattle.pages.specs.Errors.{RefusesImage}
use Rattle.pages.specs.Found.{found_root, IsFoundWithin}
use Rattle.pages.proofs.Passing.{passed}
use Rattle.pages.proofs.ReadTables.{reads_found, found_alone}
use Rattle.pages.proofs.open.read_volume.Goals as goal

pub read_named-requires : goal.read_named-requires
read_named-requires g c =
    let root = c.in_ok-root.ensures in
    subst (λ (n : ℕ). IsFoundWithin n c.in_ok-root.root) (sym root.only.sectors) root.within

pub named_volume-requires-clause-within : goal.named_volume-requires-clause-within
named_volume-requires-clause-within g c = found_alone _ c.in_ok-root.root c.in_ok-root.ensures.within

pub named_volume-requires-clause-table : goal.named_volume-requires-clause-table
named_volume-requires-clause-table g c = c.in_ok-named.ensures.table

pub returns-in_err-named-clause-refused : goal.returns-in_err-named-clause-refused
returns-in_err-named-clause-refused g c = λ honest.
    let root = c.in_ok-root.ensures in
    let same = root.only.state honest in
    let is = subst (λ (s : State). newest s.disk.present ≡ Some (found_root c.in_ok-root.root)) (sym same)
    (root.root honest) in
    let passes = c.from_residual-in_err-named in
    passed passes.result c.in_err-named.field-0.0 passes.ensures.1
    (λ r. IfErr r (λ error. RefusesImage (g.D.Device.state c.args.device.now).disk.present error))
    (subst (λ (s : State). RefusesImage s.disk.present c.in_err-named.field-0.0) same
    (c.in_err-named.ensures.refused (root.only.honest.0 honest) is))

pub returns-clause-reads : goal.returns-clause-reads
returns-clause-reads g c = λ honest.
    let root = c.in_ok-root.ensures in
    reads_found _ _ c.in_ok-root.root c.in_ok-volume.volume _ _ (root.only.state honest) (root.root honest)
    c.in_ok-named.ensures.table (c.in_ok-named.ensures.entries (root.only.honest.0 honest)) c.in_ok-volume.ensures.root
    c.in_ok-volume.ensures.table

pub returns-clause-there : goal.returns-clause-there
returns-clause-there g c = subst (λ (n : ℕ). n ≤ g.D.Device.sectors c.args.device.now)
    (sym (ap (λ (q : VolumeRoot). q.sectors) c.in_ok-volume.ensures.root)) c.in_ok-root.ensures.within.there
