use Rattle.std.proofs.Common.{All, subst, refl, arith}
use Rattle.std.proofs.lemmas.Grind.{common_steps}
use Rattle.std.proofs.lemmas.List.{take_all}
use Rattle.std.proofs.lemmas.List.Elements.{All-more}
use Rattle.code_image.specs.Demands.{NamesFile}
use Rattle.code_image.proofs.verified.name_files.Goals as goal

pub loop-instruction-preserved : goal.loop-instruction-preserved
loop-instruction-preserved c =
    All-more (NamesFile c.args.count) c.args.instructions.now c.loop-instruction.instruction-index _
    c.loop-instruction-test.true c.loop-instruction.invariant (c.names_file.ensures.0 c.if-not-names_file.false)

pub returns : goal.returns
returns c = (
  λ _. subst (All (NamesFile c.args.count)) (take_all c.loop-instruction.instruction-index c.args.instructions.now
      (omega arith)) c.loop-instruction.invariant,
  λ _. refl,
)

pub returns-then-not-names_file : goal.returns-then-not-names_file
returns-then-not-names_file c = grind (arith, common_steps)
