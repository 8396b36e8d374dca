use Rattle.std.proofs.Common.{All, subst, refl, arith}
use Rattle.std.proofs.lemmas.Grind.{common_steps}
use Rattle.std.proofs.lemmas.List.{take_all}
use Rattle.std.proofs.lemmas.List.Elements.{All-more}
use Rattle.code_image.specs.Demands.{NamesParagraph}
use Rattle.code_image.proofs.verified.name_paragraphs.Goals as goal

pub loop-instruction-preserved : goal.loop-instruction-preserved
loop-instruction-preserved c = All-more (NamesParagraph c.args.count) c.args.instructions.now
    c.loop-instruction.instruction-index _ c.loop-instruction-test.true c.loop-instruction.invariant
    (c.names_paragraph.ensures.0 c.if-not-names_paragraph.false)

pub returns : goal.returns
returns c = (
  λ _. subst (All (NamesParagraph c.args.count)) (take_all c.loop-instruction.instruction-index c.args.instructions.now
      (omega arith)) c.loop-instruction.invariant,
  λ _. refl,
)

pub returns-then-not-names_paragraph : goal.returns-then-not-names_paragraph
returns-then-not-names_paragraph c = grind (arith, common_steps)
