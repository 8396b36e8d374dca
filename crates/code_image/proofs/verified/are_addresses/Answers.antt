use Rattle.std.proofs.Common.{All, subst, refl, arith}
use Rattle.std.proofs.lemmas.List.{take_all}
use Rattle.std.proofs.lemmas.List.Elements.{All-more}
use Rattle.code_image.specs.Demands.{IsAddress}
use Rattle.code_image.proofs.verified.are_addresses.Goals as goal

pub loop-start-preserved : goal.loop-start-preserved
loop-start-preserved c = All-more (IsAddress c.args.count) c.args.starts.now c.loop-start.start-index 0
    c.loop-start-test.true c.loop-start.invariant (omega arith)

pub returns : goal.returns
returns c = (
  λ _. subst (All (IsAddress c.args.count)) (take_all c.loop-start.start-index c.args.starts.now (omega arith))
      c.loop-start.invariant,
  λ _. refl,
)
