use Rattle.name_table.proofs.Records.{file_passed}
use Rattle.name_table.proofs.conditions.with_records.Goals as goal

pub loop-file-preserved : goal.loop-file-preserved
loop-file-preserved c =
    let inv = c.loop-file.invariant in
    let passed = file_passed c.args.files.now c.loop-file.file-index c.file-item.result _ _ _ _ c.loop-file.so_far.items
    _ _ c.loop-file-test.true c.file-item.is c.as_slice.ensures c.in_ok-so_far.ensures.items
    c.in_ok-so_far.ensures.pairs inv.range inv.pairs in
    record { range = passed.0; called = c.in_ok-so_far.ensures.told; pairs = passed.1 }
