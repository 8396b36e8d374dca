use Rattle.std.proofs.Common.{◌≡◌, ◌<◌, ◌∙◌, length, ap, arith, length-append}
use Rattle.std.proofs.Common.{inr}
use Rattle.std.specs.Prelude.{Err, Ok}
use Rattle.station.specs.Calls.{OnlyReads}
use Rattle.station.proofs.Calls.{reads_nothing, reads_then}
use Rattle.pages.specs.Errors.{IsReadError}
use Rattle.pages.specs.declared.error.PagesError.TheVariants.{Device, Memory}
use Rattle.pages.proofs.Passing.{passed, still_error, never_ok, memory_not_device}
use Rattle.pages.proofs.Tables.{table_read}
use Rattle.pages.proofs.reading.read_table.Goals as goal

pub loop-map-preserved : goal.loop-map-preserved
loop-map-preserved g c =
    let before = c.loop-map.invariant in
    let here = c.in_ok-entries.ensures in
    let lt : c.loop-map.map-index < length c.args.maps.now = omega (arith, c.loop-map-test.true) in
    record {
      only = reads_then g.D.Device ⊥ (Ok c.in_ok-entries.entries ≡ Err Device) ⊥ c.args.device.now c.loop-map.device
          c.read_map.new.device (λ e. absurd e) before.only here.only;
      count = ap length c.in_ok-extend_from_slice.ensures.items
          ∙ omega (arith, before.count, here.count, length-append c.loop-map.table.items c.in_ok-entries.entries);
      entries = λ h. table_read (g.D.Device.state c.args.device.now) (g.D.Device.state c.loop-map.device)
          c.args.maps.now c.loop-map.table.items c.in_ok-entries.entries c.extend_from_slice.new.self.items
          c.loop-map.map-index (before.only.state h) before.count here.count lt (before.entries h)
          (here.entries (before.only.honest.0 h)) c.in_ok-extend_from_slice.ensures.items;
    }

pub returns-in_err-entries-clause-only : goal.returns-in_err-entries-clause-only
returns-in_err-entries-clause-only g c =
    passed c.from_residual.result c.in_err-entries.field-0.0 c.from_residual.ensures.1
    (λ r. OnlyReads g.D.Device (r ≡ Err Device) c.args.device.now c.read_map.new.device)
    (reads_then g.D.Device _ _ _ _ _ _ (λ is. inr (still_error is)) c.loop-map.invariant.only
    c.in_err-entries.ensures.only)

pub returns-in_err-entries-clause-cause : goal.returns-in_err-entries-clause-cause
returns-in_err-entries-clause-cause g c =
    passed c.from_residual.result c.in_err-entries.field-0.0 c.from_residual.ensures.1 (λ r. IsReadError r)
    c.in_err-entries.ensures.cause

pub returns-in_err-extend_from_slice-clause-only : goal.returns-in_err-extend_from_slice-clause-only
returns-in_err-extend_from_slice-clause-only g c =
    let passes = c.from_residual-in_err-extend_from_slice in
    passed passes.result Memory passes.ensures.1
    (λ r. OnlyReads g.D.Device (r ≡ Err Device) c.args.device.now c.read_map.new.device)
    (reads_then g.D.Device _ _ _ _ _ _ (λ is. memory_not_device is) c.loop-map.invariant.only
    c.in_ok-entries.ensures.only)

pub returns-clause-only : goal.returns-clause-only
returns-clause-only g c = reads_then g.D.Device _ _ _ _ _ _ (λ is. never_ok is) c.loop-map.invariant.only
    (reads_nothing g.D.Device c.loop-map.device)
