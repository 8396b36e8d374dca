use Rattle.std.proofs.Common.{take}
use Rattle.std.specs.List.{AllZip}
use Rattle.file_bytes.specs.Stored.{named_of}
use Rattle.volume_copies.specs.Same.{IsSameNamed}
use Rattle.volume_copies.proofs.same_files.are_same_files.Given as goal

abbrev pub invariant-loop-place : goal.invariant-loop-place
invariant-loop-place l =
    AllZip (λ x y. IsSameNamed (named_of x) (named_of y)) (take l.place l.one) (take l.place l.two)
