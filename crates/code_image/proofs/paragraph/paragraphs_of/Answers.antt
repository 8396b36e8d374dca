use Rattle.std.proofs.Common.{get_or}
use Rattle.std.proofs.lemmas.Option.{slice_get-get_or}
use Rattle.code_image.specs.declared.instruction.Instruction.TheVariants.{Tick}
use Rattle.code_image.proofs.Paragraphs.{table_next}
use Rattle.code_image.proofs.paragraph.paragraphs_of.Goals as goal

pub loop-instruction-preserved : goal.loop-instruction-preserved
loop-instruction-preserved c =
    let is = c.args.instructions.now in
    let k = c.loop-instruction.instruction-index in
    table_next is k c.loop-instruction.number c.ended_by-number.result (get_or is k (Tick 0))
    c.loop-instruction.paragraphs.items _ (slice_get-get_or is k (Tick 0) c.loop-instruction-test.true)
    c.ended_by-number.ensures c.in_ok-push-2.ensures.items c.loop-instruction.invariant
