use Rattle.std.proofs.Common.{All, subst, refl, arith}
use Rattle.std.proofs.lemmas.Grind.{common_steps}
use Rattle.std.proofs.lemmas.List.{take_all}
use Rattle.std.proofs.lemmas.List.Elements.{All-more}
use Rattle.file_image.specs.Files.{entries_of}
use Rattle.code_image.specs.Demands.{SuitsFile}
use Rattle.code_image.proofs.verified.suit_files.Goals as goal

pub loop-instruction-preserved : goal.loop-instruction-preserved
loop-instruction-preserved c =
    let entries = entries_of c.args.code.now.tables c.args.code.now.files in
    All-more (SuitsFile entries) c.args.instructions.now c.loop-instruction.instruction-index _
    c.loop-instruction-test.true c.loop-instruction.invariant
    (c.suits_file.ensures.0 c.if-not-suits_file.false)

pub returns : goal.returns
returns c =
    let entries = entries_of c.args.code.now.tables c.args.code.now.files in (
      λ _. subst (All (SuitsFile entries)) (take_all c.loop-instruction.instruction-index c.args.instructions.now
          (omega arith)) c.loop-instruction.invariant,
      λ _. refl,
    )

pub returns-then-not-suits_file : goal.returns-then-not-suits_file
returns-then-not-suits_file c = grind (arith, common_steps)
