use Rattle.std.proofs.Common.{All, take}
use Rattle.perform_graph.specs.Order.{IsRange}
use Rattle.code_image.proofs.paragraph.are_ranges.Given as goal

abbrev pub invariant-loop-one : goal.invariant-loop-one
invariant-loop-one l = All (IsRange l.count) (take l.one-index l.ranges)
