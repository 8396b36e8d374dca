use Rattle.std.proofs.Common.{rules, arith}
use Rattle.file_bytes.specs.Stored.{named_of}
use Rattle.volume_copies.specs.Same.{IsSameNamed}
use Rattle.volume_copies.proofs.Zips.{zip_more, zip_all, zip_maps}
use Rattle.volume_copies.proofs.same_files.are_same_files.Goals as goal

pub loop-place-preserved : goal.loop-place-preserved
loop-place-preserved c =
    zip_more (λ x y. IsSameNamed (named_of x) (named_of y)) c.args.one.now c.args.two.now c.loop-place.place
    c.index-one-place.result c.index-two-place.result c.loop-place-test.true
    (omega (arith, c.loop-place-test.true, c.if-one-two.false)) c.index-one-place.is c.index-two-place.is
    c.loop-place.invariant (c.in_ok-is_same_file.ensures (search rules))

pub returns : goal.returns
returns c = λ _.
    zip_maps named_of IsSameNamed c.args.one.now c.args.two.now
    (zip_all (λ x y. IsSameNamed (named_of x) (named_of y)) c.args.one.now c.args.two.now c.loop-place.place
    (omega (arith, c.loop-place-test.false, c.loop-place.auto.place-end))
    (omega (arith, c.loop-place-test.false, c.loop-place.auto.place-end, c.if-one-two.false)) c.loop-place.invariant)
