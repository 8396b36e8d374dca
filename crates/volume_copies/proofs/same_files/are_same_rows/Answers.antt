use Rattle.std.proofs.Common.{rules, arith}
use Rattle.file_bytes.specs.Stored.{row_of}
use Rattle.volume_copies.specs.Same.{IsSameRow}
use Rattle.volume_copies.proofs.Zips.{zip_more, zip_all, zip_maps}
use Rattle.volume_copies.proofs.same_files.are_same_rows.Goals as goal

pub loop-place-preserved : goal.loop-place-preserved
loop-place-preserved c =
    zip_more (λ x y. IsSameRow c.args.organization (row_of x) (row_of y)) c.args.one.now c.args.two.now
    c.loop-place.place
    c.index-one-place.result c.index-two-place.result c.loop-place-test.true
    (omega (arith, c.loop-place-test.true, c.if-one-two.false)) c.index-one-place.is c.index-two-place.is
    c.loop-place.invariant (c.is_same_row.ensures (search rules))

pub returns : goal.returns
returns c = λ _.
    zip_maps row_of (IsSameRow c.args.organization) c.args.one.now c.args.two.now
    (zip_all (λ x y. IsSameRow c.args.organization (row_of x) (row_of y)) c.args.one.now c.args.two.now
    c.loop-place.place
    (omega (arith, c.loop-place-test.false, c.loop-place.auto.place-end))
    (omega (arith, c.loop-place-test.false, c.loop-place.auto.place-end, c.if-one-two.false)) c.loop-place.invariant)
