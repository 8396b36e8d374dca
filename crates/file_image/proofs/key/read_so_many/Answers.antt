use Rattle.std.proofs.lemmas.Result.{err_from_is_err_and}
use Rattle.data_image.specs.Reading.{entries_at}
use Rattle.data_image.specs.Faults.{fault_of}
use Rattle.data_image.proofs.Entries.{goes_on, ends, is_done}
use Rattle.file_image.specs.Spelling.{alternate_at}
use Rattle.file_image.proofs.key.read_so_many.Goals as goal

pub returns-in_err-key : goal.returns-in_err-key
returns-in_err-key c =
    let p = err_from_is_err_and c.from_residual.result c.from_residual.ensures.1 in
    rw (p.1, p.2)
    (ends alternate_at (fault_of c.in_err-key.field-0.0) c.loop.keys c.args.count c.loop.counter c.loop.rest.now
    (entries_at alternate_at c.args.count c.args.bytes.now) c.loop-test.true c.in_err-key.ensures c.loop.invariant)

pub loop-preserved : goal.loop-preserved
loop-preserved c =
    rw c.in_ok-push.ensures.ok
    (goes_on alternate_at c.loop.keys c.args.count c.loop.counter c.loop.rest.now c.in_ok-key.key c.in_ok-key.after.now
    (entries_at alternate_at c.args.count c.args.bytes.now) c.loop-test.true c.in_ok-key.ensures c.loop.invariant)

pub returns : goal.returns
returns c = is_done alternate_at c.loop.keys c.args.count c.loop.counter c.loop.rest.now
    (entries_at alternate_at c.args.count c.args.bytes.now) c.loop-test.false c.loop.invariant
