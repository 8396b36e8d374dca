use Rattle.std.proofs.Common.{◌∙◌, arith}
use Rattle.station.proofs.Calls.{writes_then}
use Rattle.volume_copies.proofs.LinesAdded.{front_more, one_more_as, line_refused, all_loaded}
use Rattle.volume_copies.proofs.loading.load_lines.Goals as goal

pub returns-in-Err-clause-loads : goal.returns-in-Err-clause-loads
returns-in-Err-clause-loads g c = λ files file stands has next.
    let held = g.met.S.Store.held in
    let l = c.loop-rest in
    let so = l.invariant.4 files file stands has next in
    line_refused g.S.Keeps g.D.Device held c.args.file.now c.args.text.now l.rest.now c.split_line.result.0.now
    c.split_line.result.1.now files c.args.device.now l.rows l.number l.store l.device c.add_line.new.store
    c.add_line.new.device l.invariant.3 c.split_line.ensures.lines so c.in-Err.end
    (c.in-Err.ensures.adds so.now so.file so.stands so.has so.next)

pub loop-rest-preserved : goal.loop-rest-preserved
loop-rest-preserved g c =
    let l = c.loop-rest in (
      omega (arith, l.invariant.0, c.split_line.ensures.shorter),
      c.add_line.ensures.needs ∙ l.invariant.1,
      writes_then g.D.Device ⊥ _ ⊥ c.args.device.now l.device c.add_line.new.device (λ never. absurd never)
          l.invariant.2 c.in-Ok.ensures.only,
      front_more c.args.text.now l.rest.now l.rows l.invariant.3 c.split_line.result.0.now c.split_line.result.1.now
          c.split_line.ensures.lines,
      (λ files file stands has next. let so = l.invariant.4 files file stands has next in one_more_as g.S.Keeps
          g.D.Device g.met.S.Store.held c.args.file.now c.args.text.now l.rest.now c.split_line.result.0.now
          c.split_line.result.1.now files c.args.device.now l.rows l.number l.store l.device c.add_line.new.store
          c.add_line.new.device l.invariant.3 c.split_line.ensures.lines so c.next_number-number.result
          c.next_number-number.ensures (c.in-Ok.ensures.adds so.now so.file so.stands so.has so.next)),
    )

pub returns-clause-loads : goal.returns-clause-loads
returns-clause-loads g c = λ files file stands has next.
    let l = c.loop-rest in
    all_loaded g.S.Keeps g.D.Device g.met.S.Store.held c.args.file.now c.args.text.now l.rest.now files
    c.args.device.now
    l.rows l.number l.store l.device l.invariant.3
    (omega (arith, c.loop-rest-test.false)) (l.invariant.4 files file stands has next)
