use Rattle.std.proofs.Common.{drop, arith}
use Rattle.std.proofs.lemmas.List.{drop_all}
use Rattle.layout.proofs.Trees.{file_fits, file_short, file_turn, file_end}
use Rattle.layout.proofs.file_records.place_files.Goals as goal

pub place_records-requires-clause-fits : goal.place_records-requires-clause-fits
place_records-requires-clause-fits c = file_fits c.args.files.now c.loop-file.file-index c.file-item.result _
    c.loop-file-test.true c.file-item.is c.as_slice.ensures c.loop-file.invariant.fits

pub place_records-requires-clause-most : goal.place_records-requires-clause-most
place_records-requires-clause-most c = file_short c.args.files.now c.loop-file.file-index c.file-item.result _
    c.loop-file-test.true c.file-item.is c.as_slice.ensures c.loop-file.invariant.fits

pub loop-file-preserved : goal.loop-file-preserved
loop-file-preserved c =
    let inv = c.loop-file.invariant in
    let turn = file_turn c.args.files.now c.loop-file.file-index c.file-item.result _ c.loop-file-test.true
    c.file-item.is c.as_slice.ensures inv.fits c.place_records.new.out.items c.loop-file.out.items _ c.loop-file.area
    c.in_ok-place_records.ensures inv.placed in
    let is = inv.area_is in
    record { fits = turn.0; area_is = omega arith; placed = turn.1 }

pub returns : goal.returns
returns c =
    file_end c.loop-file.out.items _ c.loop-file.area (drop c.loop-file.file-index c.args.files.now)
    (let past =
    c.loop-file-test.false in drop_all c.loop-file.file-index c.args.files.now past) c.loop-file.invariant.placed
