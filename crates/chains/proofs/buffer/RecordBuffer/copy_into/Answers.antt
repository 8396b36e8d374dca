use Rattle.std.proofs.Common.{◌<◌, length, arith}
use Rattle.chains.proofs.Buffers.{HasCopied, copied_more}
use Rattle.chains.proofs.buffer.RecordBuffer.copy_into.Goals as goal

pub loop-place-preserved : goal.loop-place-preserved
loop-place-preserved c =
    let loop = c.loop-place in
    let pages = c.args.self.now.pages.items in
    let part = c.part_from.ensures in
    let ends = c.part_end-end.ensures in
    let test = c.loop-place-test.true in
    let few : loop.place < length pages = omega (arith, test, c.page_count-place-end.ensures, c.requires) in
    let was : HasCopied loop.into loop.place pages =
    record { long = loop.invariant.long; written = loop.invariant.written } in
    let more = copied_more loop.into c.put.new.bytes c.part_from.result.now pages c.index.result.now loop.place
    c.part_end-end.result (length c.args.into.now) few c.index.ensures part.long ends.low ends.high ends.within
    ends.last loop.auto.into c.put.auto.bytes part.bytes c.put.ensures was in
    record { long = more.long; written = more.written }
