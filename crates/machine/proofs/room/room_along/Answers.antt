use Rattle.std.proofs.Common.{get_or, sym, ◌∙◌}
use Rattle.std.proofs.lemmas.Option.{slice_get-get_or}
use Rattle.data_instructions.specs.Shapes.{empty}
use Rattle.code_image.specs.declared.instruction.Instruction.TheVariants.{Tick}
use Rattle.machine.proofs.Rooms.{here_first, enough_before, least_after}
use Rattle.machine.proofs.room.room_along.Goals as goal

pub loop-instruction-preserved : goal.loop-instruction-preserved
loop-instruction-preserved c =
    let all = c.as_slice-instruction-items.result.now in
    let k = c.loop-instruction.instruction-index in
    let here = here_first all c.args.code.now.instructions k (get_or all k (Tick 0))
    c.as_slice-instruction-items.ensures (slice_get-get_or all k (Tick 0) c.loop-instruction-test.true) in
    let leaves = sym c.in_ok-after.ensures ∙ c.in-Some.is in
    let now = c.loop-instruction.invariant in
    record {
      holds = c.widened-room.ensures.holds;
      enough = enough_before c.args.code.now.tables c.args.code.now.instructions empty c.loop-instruction.shape
          c.in-Some.after here leaves c.widened-room.ensures.wider now.holds now.enough;
      least = least_after c.args.code.now.tables c.args.code.now.instructions empty c.loop-instruction.shape
          c.in-Some.after here leaves c.widened-room.ensures.least now.least;
    }
