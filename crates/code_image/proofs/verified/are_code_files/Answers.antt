use Rattle.std.proofs.Common.{All, subst, refl, arith}
use Rattle.std.proofs.lemmas.List.{take_all}
use Rattle.std.proofs.lemmas.List.Elements.{All-more}
use Rattle.file_image.specs.Files.{IsCodeFile}
use Rattle.code_image.proofs.verified.are_code_files.Goals as goal

pub loop-file-preserved : goal.loop-file-preserved
loop-file-preserved c =
    All-more (IsCodeFile c.args.tables.now) c.args.files.now c.loop-file.file-index c.file-item.result
    c.loop-file-test.true c.loop-file.invariant
    (subst (IsCodeFile c.args.tables.now) c.file-item.is (c.in_ok-is_code_file.ensures.0 c.if-not-branch.false))

pub returns : goal.returns
returns c = (
  λ _. subst (All (IsCodeFile c.args.tables.now)) (take_all c.loop-file.file-index c.args.files.now (omega arith))
      c.loop-file.invariant,
  λ _. refl,
)
