use Rattle.std.proofs.Common.{All, take}
use Rattle.code_image.specs.Demands.{IsAddress}
use Rattle.code_image.proofs.verified.are_addresses.Given as goal

abbrev pub invariant-loop-start : goal.invariant-loop-start
invariant-loop-start l = All (IsAddress l.count) (take l.start-index l.starts)
