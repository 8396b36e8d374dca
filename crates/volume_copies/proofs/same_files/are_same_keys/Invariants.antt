use Rattle.std.proofs.Common.{◌≡◌, take}
use Rattle.volume_copies.proofs.same_files.are_same_keys.Given as goal

abbrev pub invariant-loop-place : goal.invariant-loop-place
invariant-loop-place l = take l.place l.one ≡ take l.place l.two
