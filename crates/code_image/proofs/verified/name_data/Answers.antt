use Rattle.std.proofs.Common.{All, subst, refl, arith}
use Rattle.std.proofs.lemmas.Grind.{common_steps}
use Rattle.std.proofs.lemmas.List.{take_all}
use Rattle.std.proofs.lemmas.List.Elements.{All-more}
use Rattle.code_image.specs.Demands.{NamesData}
use Rattle.code_image.proofs.verified.name_data.Goals as goal

pub loop-instruction-preserved : goal.loop-instruction-preserved
loop-instruction-preserved c =
    All-more (NamesData c.args.tables.now) c.args.instructions.now c.loop-instruction.instruction-index _
    c.loop-instruction-test.true c.loop-instruction.invariant (c.names_data.ensures.0 c.if-not-names_data.false)

pub returns : goal.returns
returns c = (
  λ _. subst (All (NamesData c.args.tables.now)) (take_all c.loop-instruction.instruction-index c.args.instructions.now
      (omega arith)) c.loop-instruction.invariant,
  λ _. refl,
)

pub returns-then-not-names_data : goal.returns-then-not-names_data
returns-then-not-names_data c = grind (arith, common_steps)
