use Rattle.std.proofs.Common.{All, subst, refl, arith}
use Rattle.std.proofs.lemmas.Grind.{common_steps}
use Rattle.std.proofs.lemmas.List.{take_all}
use Rattle.std.proofs.lemmas.List.Elements.{All-more}
use Rattle.file_image.specs.Files.{NamesPlaces}
use Rattle.code_image.proofs.verified.name_places.Goals as goal

pub loop-file-preserved : goal.loop-file-preserved
loop-file-preserved c =
    All-more (NamesPlaces c.args.tables.now) c.args.files.now c.loop-file.file-index c.file-item.result
    c.loop-file-test.true c.loop-file.invariant
    (subst (NamesPlaces c.args.tables.now) c.file-item.is (c.names_places.ensures.0 c.if-not-names_places.false))

pub returns : goal.returns
returns c = (
  λ _. subst (All (NamesPlaces c.args.tables.now)) (take_all c.loop-file.file-index c.args.files.now (omega arith))
      c.loop-file.invariant,
  λ _. refl,
)

pub returns-then-not-names_places : goal.returns-then-not-names_places
returns-then-not-names_places c = grind (arith, common_steps)
