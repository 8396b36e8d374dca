use Rattle.std.proofs.lemmas.Result.{err_from_is_err_and}
use Rattle.data_image.specs.Reading.{entries_at}
use Rattle.data_image.specs.Faults.{fault_of}
use Rattle.data_image.proofs.Entries.{goes_on, ends, is_done}
use Rattle.data_image.proofs.table.read_entries.Goals as goal

pub returns-in_err-entry : goal.returns-in_err-entry
returns-in_err-entry g c =
    let p = err_from_is_err_and c.from_residual.result c.from_residual.ensures.1 in
    rw (p.1, p.2) (ends g.T.TableEntry.read_from (fault_of c.in_err-entry.field-0.0) c.loop.entries c.args.count
    c.loop.counter c.loop.rest.now (entries_at g.T.TableEntry.read_from c.args.count c.args.bytes.now) c.loop-test.true
    c.in_err-entry.ensures c.loop.invariant)

pub loop-preserved : goal.loop-preserved
loop-preserved g c =
    rw c.in_ok-push.ensures.ok (goes_on g.T.TableEntry.read_from c.loop.entries c.args.count c.loop.counter
    c.loop.rest.now c.in_ok-entry.entry c.in_ok-entry.after.now (entries_at g.T.TableEntry.read_from c.args.count
    c.args.bytes.now) c.loop-test.true c.in_ok-entry.ensures c.loop.invariant)

pub returns : goal.returns
returns g c = is_done g.T.TableEntry.read_from c.loop.entries c.args.count c.loop.counter c.loop.rest.now
    (entries_at g.T.TableEntry.read_from c.args.count c.args.bytes.now) c.loop-test.false c.loop.invariant
