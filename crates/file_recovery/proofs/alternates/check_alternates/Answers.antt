use Rattle.std.proofs.Common.{◌≡◌, ◌<◌, inr, ℕ, List, Err, length, subst, arith}
use Rattle.std.specs.Prelude.{Option}
use Rattle.station.specs.Disk.{Sector}
use Rattle.pages.specs.Pages.{map_now}
use Rattle.btree.specs.Calls.{pages_on}
use Rattle.records.specs.declared.fault.StoreFault.TheVariants.{Device, Damaged}
use Rattle.records.specs.Stores.{spec_of}
use Rattle.volume_format.proofs.Small.{few_alternates}
use Rattle.file_recovery.specs.Found.{FindsIndexes, NoIndex}
use Rattle.file_bytes.specs.Stored.{rows_of}
use Rattle.volume_format.proofs.Looks.{looks_nowhere, looks_then}
use Rattle.btree.proofs.Passing.{was_error}
use Rattle.file_recovery.proofs.Calling.{on_pages_before, looks_on}
use Rattle.file_recovery.proofs.Indexes.{no_indexes, index_more, indexes_go_on, at_first, none_here}
use Rattle.file_recovery.proofs.alternates.check_alternates.Given.{Over}
use Rattle.file_recovery.proofs.alternates.check_alternates.Goals as goal
use Rattle.file_recovery.proofs.alternates.check_alternates.Goals.{After-check_alternate}

pub loop-key-init : goal.loop-key-init
loop-key-init g c = record {
  looks = looks_nowhere g.D.Device c.args.pages.now c.args.device.now;
  found =
      λ up honest agrees. no_indexes (map_now c.args.pages.now (g.D.Device.state c.args.device.now).disk.present).pages
      (spec_of c.args.file.now) (rows_of c.args.rows.now) c.args.value.now c.args.seen.now;
  rest = λ up honest agrees. at_first (map_now c.args.pages.now (g.D.Device.state c.args.device.now).disk.present).pages
      (spec_of c.args.file.now) (rows_of c.args.rows.now) c.args.value.now (length c.args.file.now.alternates.items)
      c.args.seen.now;
}

-- the key is one of the file
key_low : (g : Over) (c : After-check_alternate g) → c.loop-key.key < length c.args.file.now.alternates.items
key_low g c =
    let test = c.loop-key-test.true in
    let short = few_alternates (spec_of c.args.file.now) c.args.file.now.sound in
    let len = c.len-count.ensures in
    omega (arith, test, short, len)

pub loop-key-preserved : goal.loop-key-preserved
loop-key-preserved g c =
    let looks = c.loop-key.invariant.looks in
    let few = (c.map_bounds.ensures.open c.args.pages.now (g.D.Device.state c.args.device.now).disk.present
    c.requires.unspent).1 in
    record {
      looks = looks_on g.D.Device looks c.check_alternate.ensures.looks;
      found = λ up. index_more g.D.Device looks (c.in_ok-check_alternate.ensures.index up)
          (c.loop-key.invariant.found up);
      rest = λ up. indexes_go_on g.D.Device looks (c.in_ok-check_alternate.ensures.index up)
          (λ honest agrees. omega (arith, few)) (key_low g (goal.at.loop-key-preserved g c).After-check_alternate)
          (c.loop-key.invariant.rest up);
    }

pub returns-in_err-check_alternate-clause-looks : goal.returns-in_err-check_alternate-clause-looks
returns-in_err-check_alternate-clause-looks g c =
    let loop = c.loop-key in
    looks_then g.D.Device ⊥ (c.check_alternate.result ≡ Err Device) _ c.args.pages.now loop.pages
    c.check_alternate.new.pages c.args.device.now loop.device c.check_alternate.new.device
    (λ is. inr (was_error c.from_residual.result c.check_alternate.result c.in_err-check_alternate.field-0.0 Device
    c.from_residual.ensures.1 c.in_err-check_alternate.was is))
    loop.invariant.looks c.check_alternate.ensures.looks

pub returns-in_err-check_alternate-clause-damaged : goal.returns-in_err-check_alternate-clause-damaged
returns-in_err-check_alternate-clause-damaged g c = λ up honest agrees refused trees are can.
    let told =
    was_error c.from_residual.result c.check_alternate.result c.in_err-check_alternate.field-0.0 Damaged
    c.from_residual.ensures.1 c.in_err-check_alternate.was refused in
    let loop = c.loop-key in
    let spec = spec_of c.args.file.now in
    let rows = rows_of c.args.rows.now in
    let low = key_low g (goal.at.returns-in_err-check_alternate-clause-damaged g c).After-check_alternate in
    none_here (pages_on g.D.Device c.args.pages.now c.args.device.now) spec rows c.args.value.now
    (length c.args.file.now.alternates.items) loop.key c.args.seen.now loop.seen
    low (loop.invariant.rest up honest agrees)
    (on_pages_before g.D.Device (λ pages. NoIndex pages spec rows c.args.value.now loop.key loop.seen)
    loop.invariant.looks (λ still same. c.check_alternate.ensures.damaged up still same told) honest agrees) trees are
    can

pub returns-clause-indexes : goal.returns-clause-indexes
returns-clause-indexes g c = λ up honest agrees.
    let spec = spec_of c.args.file.now in
    let rows = rows_of c.args.rows.now in
    let before : List (Option Sector) =
    (map_now c.args.pages.now (g.D.Device.state c.args.device.now).disk.present).pages in
    let short = few_alternates spec c.args.file.now.sound in
    let all : c.loop-key.key ≡ length c.args.file.now.alternates.items =
    omega (arith, short, c.len-count.ensures, c.loop-key-test.false, c.loop-key.auto.key-end) in
    subst (λ (n : ℕ). FindsIndexes before spec rows c.args.value.now n c.args.seen.now c.loop-key.seen) all
    (c.loop-key.invariant.found up honest agrees)
