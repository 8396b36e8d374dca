use Rattle.std.proofs.Common.{◌≡◌, ◌∙◌, inr, ap, ℕ, map, sym, subst, arith}
use Rattle.std.specs.Prelude.{Err}
use Rattle.station.specs.Calls.{OnlyReads}
use Rattle.station.specs.Disk.{sector_at}
use Rattle.station.specs.State.{State}
use Rattle.station.proofs.Calls.{reads_then}
use Rattle.roots.specs.declared.error.RootsError.TheVariants.{Device}
use Rattle.roots.specs.Root.{root_in, IsWithinVolume, IfValid}
use Rattle.roots.specs.Pair.{newest_root}
use Rattle.roots.specs.Reading.{roots_in}
use Rattle.roots.specs.Laws.{IsKnown}
use Rattle.roots.proofs.Next.{too_few, newest_is, that}
use Rattle.roots.proofs.Within.{both_each}
use Rattle.roots.proofs.RootReads.{refused, no_value, ok_not_err, another_call, fault_not_device, device_gives}
use Rattle.roots.proofs.RootReads.{roots_read}
use Rattle.roots.proofs.RootReads.{only_where, only_none}
use Rattle.roots.proofs.reading.read_roots.Given.{Over}
use Rattle.roots.proofs.reading.read_roots.Goals as goal
use Rattle.roots.proofs.reading.read_roots.Goals.{In_ok-second}

pub returns-then-count-lt2-clause-only : goal.returns-then-count-lt2-clause-only
returns-then-count-lt2-clause-only g c = only_none g.D.Device _ c.args.device.now (λ is. fault_not_device is)

pub returns-then-count-lt2-clause-roots : goal.returns-then-count-lt2-clause-roots
returns-then-count-lt2-clause-roots g c = λ honest.
    too_few (map (λ family. family.now) c.args.known.now) (g.D.Device.state c.args.device.now).disk.present
    (omega (arith, g.met.D.Device.all_present c.args.device.now honest, c.count.ensures, c.if-count-lt2.true))

pub returns-in_err-first-clause-only : goal.returns-in_err-first-clause-only
returns-in_err-first-clause-only g c = refused c.from_residual.result c.in_err-first.field-0.0 c.from_residual.ensures.1
    (λ r. OnlyReads g.D.Device (r ≡ Err Device) c.args.device.now c.root_of.new.device)
    (only_where g.D.Device _ _ _ _ (λ is. another_call is) c.in_err-first.ensures.only)

pub returns-in_err-first-clause-roots : goal.returns-in_err-first-clause-roots
returns-in_err-first-clause-roots g c = λ honest.
    device_gives c.from_residual.result c.in_err-first.field-0.0 _ c.from_residual.ensures.1
    c.in_err-first.ensures.cause

pub returns-in_err-first-clause-within : goal.returns-in_err-first-clause-within
returns-in_err-first-clause-within g c =
    no_value c.from_residual.result c.in_err-first.field-0.0 c.from_residual.ensures.1 _

pub returns-in_err-first-clause-marks : goal.returns-in_err-first-clause-marks
returns-in_err-first-clause-marks g c =
    no_value c.from_residual.result c.in_err-first.field-0.0 c.from_residual.ensures.1 _

pub returns-in_err-first-clause-own : goal.returns-in_err-first-clause-own
returns-in_err-first-clause-own g c =
    no_value c.from_residual.result c.in_err-first.field-0.0 c.from_residual.ensures.1 _

pub returns-in_err-second-clause-only : goal.returns-in_err-second-clause-only
returns-in_err-second-clause-only g c =
    refused c.from_residual-in_err-second.result c.in_err-second.field-0.0 c.from_residual-in_err-second.ensures.1
    (λ r. OnlyReads g.D.Device (r ≡ Err Device) c.args.device.now c.root_of-2.new.device)
    (reads_then g.D.Device _ _ _ _ _ _ (λ is. inr (another_call is)) c.in_ok-first.ensures.only
    c.in_err-second.ensures.only)

pub returns-in_err-second-clause-roots : goal.returns-in_err-second-clause-roots
returns-in_err-second-clause-roots g c = λ honest.
    device_gives c.from_residual-in_err-second.result c.in_err-second.field-0.0 _
    c.from_residual-in_err-second.ensures.1 c.in_err-second.ensures.cause

pub returns-in_err-second-clause-within : goal.returns-in_err-second-clause-within
returns-in_err-second-clause-within g c =
    no_value c.from_residual-in_err-second.result c.in_err-second.field-0.0 c.from_residual-in_err-second.ensures.1 _

pub returns-in_err-second-clause-marks : goal.returns-in_err-second-clause-marks
returns-in_err-second-clause-marks g c =
    no_value c.from_residual-in_err-second.result c.in_err-second.field-0.0 c.from_residual-in_err-second.ensures.1 _

pub returns-in_err-second-clause-own : goal.returns-in_err-second-clause-own
returns-in_err-second-clause-own g c =
    no_value c.from_residual-in_err-second.result c.in_err-second.field-0.0 c.from_residual-in_err-second.ensures.1 _

-- the roots that were read are those of the image
read_so : (g : Over) (c : In_ok-second g) → g.D.Device.is_honest c.args.device.now
    → newest_root c.in_ok-first.first c.in_ok-second.second
    ≡ roots_in (map (λ family. family.now) c.args.known.now) (g.D.Device.state c.args.device.now).disk.present
read_so g c honest =
    let known = map (λ family. family.now) c.args.known.now in
    let only = c.in_ok-first.ensures.only in
    let present = (g.D.Device.state c.root_of.new.device).disk.present in
    roots_read known (g.D.Device.state c.args.device.now).disk.present (g.D.Device.sectors c.args.device.now) _ _
    (g.met.D.Device.all_present c.args.device.now honest) (c.in_ok-first.ensures.root honest)
    (c.in_ok-second.ensures.root (only.honest.0 honest)
    ∙ ap (λ (n : ℕ). root_in known n 1 (sector_at present 1)) only.sectors
    ∙ ap (λ (s : State). root_in known (g.D.Device.sectors c.args.device.now) 1 (sector_at s.disk.present 1))
    (only.state honest))

pub returns-in-Ok-clause-only : goal.returns-in-Ok-clause-only
returns-in-Ok-clause-only g c = reads_then g.D.Device _ _ _ _ _ _ (λ is. ok_not_err is) c.in_ok-first.ensures.only
    c.in_ok-second.ensures.only

pub returns-in-Ok-clause-roots : goal.returns-in-Ok-clause-roots
returns-in-Ok-clause-roots g c = λ honest.
    sym (read_so g (goal.at.returns-in-Ok-clause-roots g c).In_ok-second honest) ∙ sym c.in-Ok.ensures

pub returns-in-Ok-clause-within : goal.returns-in-Ok-clause-within
returns-in-Ok-clause-within g c =
    let second = subst (λ (n : ℕ). IfValid c.in_ok-second.second (IsWithinVolume n)) c.in_ok-first.ensures.only.sectors
    c.in_ok-second.ensures.within in
    both_each (IsWithinVolume (g.D.Device.sectors c.args.device.now)) c.in_ok-first.first
    c.in_ok-second.second c.in-Ok.roots c.in_ok-first.ensures.within second (sym c.in-Ok.ensures)

pub returns-in-Ok-clause-marks : goal.returns-in-Ok-clause-marks
returns-in-Ok-clause-marks g c =
    both_each (λ root. IsKnown (map (λ family. family.now) c.args.known.now) root.mark) c.in_ok-first.first
    c.in_ok-second.second c.in-Ok.roots c.in_ok-first.ensures.marks c.in_ok-second.ensures.marks (sym c.in-Ok.ensures)

pub returns-in-Ok-clause-own : goal.returns-in-Ok-clause-own
returns-in-Ok-clause-own g c = (newest_is c.in_ok-first.first c.in_ok-second.second c.in-Ok.roots
    (that (newest_root c.in_ok-first.first c.in_ok-second.second) c.in-Ok.roots (sym c.in-Ok.ensures))).own_family

pub returns-in-Err-clause-only : goal.returns-in-Err-clause-only
returns-in-Err-clause-only g c = reads_then g.D.Device _ _ _ _ _ _ (λ is. fault_not_device is)
    c.in_ok-first.ensures.only c.in_ok-second.ensures.only

pub returns-in-Err-clause-roots : goal.returns-in-Err-clause-roots
returns-in-Err-clause-roots g c = λ honest.
    sym (read_so g (goal.at.returns-in-Err-clause-roots g c).In_ok-second honest) ∙ sym c.in-Err.ensures
