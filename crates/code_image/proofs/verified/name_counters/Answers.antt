use Rattle.std.proofs.Common.{All, subst, refl, arith}
use Rattle.std.proofs.lemmas.Grind.{common_steps}
use Rattle.std.proofs.lemmas.List.{take_all}
use Rattle.std.proofs.lemmas.List.Elements.{All-more}
use Rattle.code_image.specs.Demands.{NamesCounter}
use Rattle.code_image.proofs.verified.name_counters.Goals as goal

pub loop-instruction-preserved : goal.loop-instruction-preserved
loop-instruction-preserved c =
    All-more (NamesCounter c.args.count) c.args.instructions.now c.loop-instruction.instruction-index _
    c.loop-instruction-test.true c.loop-instruction.invariant (c.names_counter.ensures.0 c.if-not-names_counter.false)

pub returns : goal.returns
returns c = (
  λ _. subst (All (NamesCounter c.args.count)) (take_all c.loop-instruction.instruction-index c.args.instructions.now
      (omega arith)) c.loop-instruction.invariant,
  λ _. refl,
)

pub returns-then-not-names_counter : goal.returns-then-not-names_counter
returns-then-not-names_counter c = grind (arith, common_steps)
