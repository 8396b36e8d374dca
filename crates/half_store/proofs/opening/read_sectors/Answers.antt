use Rattle.std.proofs.Common.{◌≡◌, ◌+◌, ◌∙◌, false, true, inr, length, refl, ap, arith, length-append}
use Rattle.std.specs.Prelude.{Err}
use Rattle.station.specs.Disk.{sector_at}
use Rattle.station.specs.State.{State}
use Rattle.station.specs.Calls.{OnlyReads}
use Rattle.station.proofs.Calls.{reads_then}
use Rattle.records.specs.declared.fault.StoreFault.TheVariants.{Device, Memory}
use Rattle.half_store.proofs.Passed.{passed, if_refused, never_ok, memory_not_device, reads_where}
use Rattle.half_store.proofs.Staged.{sector_more}
use Rattle.half_store.proofs.opening.read_sectors.Goals as goal

pub overflow_add-from : goal.overflow_add-from
overflow_add-from g c = omega (arith, c.requires.bound, c.loop-sector-test.true)

pub loop-sector-preserved : goal.loop-sector-preserved
loop-sector-preserved g c =
    let before = c.loop-sector.invariant in
    record {
      only = reads_then g.D.Device ⊥ (false ≡ true) ⊥ c.args.device.now c.loop-sector.device c.read_sector.new.device
          (λ e. absurd e) before.only c.in_ok-part.ensures.only;
      long = ap length c.in_ok-extend_from_slice.ensures.items ∙ omega
          (arith, before.long, c.in_ok-part.ensures.long, length-append c.loop-sector.bytes.items c.in_ok-part.part);
      bytes = λ honest. sector_more (g.D.Device.state c.args.device.now).disk.present c.args.from c.loop-sector.sector
          c.loop-sector.bytes.items c.in_ok-part.part _ c.in_ok-extend_from_slice.ensures.items (before.bytes honest)
          (c.in_ok-part.ensures.bytes (before.only.honest.0 honest)
          ∙ ap (λ (s : State). sector_at s.disk.present (c.args.from + c.loop-sector.sector))
          {y = g.D.Device.state c.args.device.now} (before.only.state honest));
    }

pub read_sector-requires : goal.read_sector-requires
read_sector-requires g c =
    omega (arith, c.requires.there, c.loop-sector-test.true, c.loop-sector.invariant.only.sectors)

pub returns-in_err-part-clause-only : goal.returns-in_err-part-clause-only
returns-in_err-part-clause-only g c = reads_then g.D.Device ⊥ (true ≡ true) (c.from_residual.result ≡ Err Device)
    c.args.device.now c.loop-sector.device c.read_sector.new.device (λ is. inr refl) c.loop-sector.invariant.only
    c.in_err-part.ensures.only

pub returns-in_err-extend_from_slice-clause-only : goal.returns-in_err-extend_from_slice-clause-only
returns-in_err-extend_from_slice-clause-only g c =
    passed c.from_residual-in_err-extend_from_slice.result Memory c.from_residual-in_err-extend_from_slice.ensures.1
    (λ r. OnlyReads g.D.Device (r ≡ Err Device) c.args.device.now c.read_sector.new.device)
    (reads_then g.D.Device ⊥ (false ≡ true) _ c.args.device.now c.loop-sector.device c.read_sector.new.device
    (λ is. memory_not_device is) c.loop-sector.invariant.only c.in_ok-part.ensures.only)

pub returns-clause-only : goal.returns-clause-only
returns-clause-only g c = reads_where g.D.Device _ _ _ _ (λ is. never_ok is) c.loop-sector.invariant.only

pub returns-in_err-part-clause-bytes : goal.returns-in_err-part-clause-bytes
returns-in_err-part-clause-bytes g c = λ honest. if_refused c.from_residual.result Device c.from_residual.ensures.1 _

pub returns-in_err-extend_from_slice-clause-bytes : goal.returns-in_err-extend_from_slice-clause-bytes
returns-in_err-extend_from_slice-clause-bytes g c = λ honest.
    if_refused c.from_residual-in_err-extend_from_slice.result Memory
    c.from_residual-in_err-extend_from_slice.ensures.1 _
