use Rattle.std.proofs.Common.{ap, ◌∙◌, arith}
use Rattle.std.proofs.lemmas.Grind.{common_steps}
use Rattle.condition_codegen.specs.Fragments.{append}
use Rattle.condition_codegen.specs.DataCode.{work_fragment}
use Rattle.condition_codegen.proofs.Fragments.{is_done}
use Rattle.condition_codegen.proofs.Works.{works_are}
use Rattle.condition_codegen.proofs.references.emit_works.Goals as goal

pub returns : goal.returns
returns c =
    is_done work_fragment c.args.all.now c.loop-one.one-index c.loop-one.code _ c.loop-one-test.false
    c.loop-one.invariant ∙ ap (append c.args.code.now) (works_are c.args.all.now c.args.code.now)

pub loop-one-preserved : goal.loop-one-preserved
loop-one-preserved c = grind (arith, common_steps)
