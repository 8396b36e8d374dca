use Rattle.std.proofs.Common.{All, subst, refl, arith}
use Rattle.std.proofs.lemmas.List.{take_all}
use Rattle.std.proofs.lemmas.List.Elements.{All-more}
use Rattle.perform_graph.specs.Order.{IsRange}
use Rattle.code_image.proofs.paragraph.are_ranges.Goals as goal

pub loop-one-preserved : goal.loop-one-preserved
loop-one-preserved c = All-more (IsRange c.args.count) c.args.ranges.now c.loop-one.one-index _ c.loop-one-test.true
    c.loop-one.invariant (c.is_range.ensures.0 c.if-not-is_range.false)

pub returns : goal.returns
returns c = (
  λ _. subst (All (IsRange c.args.count)) (take_all c.loop-one.one-index c.args.ranges.now (omega arith))
      c.loop-one.invariant,
  λ _. refl,
)
