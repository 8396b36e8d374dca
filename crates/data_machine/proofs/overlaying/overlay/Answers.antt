use Rattle.std.proofs.Common.{arith, sym, ◌∙◌}
use Rattle.std.proofs.lemmas.List.{length-set}
use Rattle.data_instructions.specs.Table.{pattern_of}
use Rattle.data_machine.proofs.Overlays.{kept, done}
use Rattle.data_machine.proofs.overlaying.overlay.Goals as goal

pub loop-at-preserved : goal.loop-at-preserved
loop-at-preserved c =
    let h = c.loop-at-test.true in
    let long = c.loop-at.invariant.0 in (
      length-set c.loop-at.to c.loop-at.at c.byte_over.result ∙ long,
      kept c.loop-at.at (pattern_of c.args.bytes.now c.args.marks.now) c.loop-at.to _ c.byte_over.result
          (omega (arith, h, long)) c.byte_over.ensures c.loop-at.invariant.1,
    )

pub returns : goal.returns
returns c =
    let h = c.loop-at-test.false in
    let long = c.loop-at.invariant.0 in
    sym (done c.loop-at.at (pattern_of c.args.bytes.now c.args.marks.now) c.loop-at.to (omega (arith, h, long)))
    ∙ c.loop-at.invariant.1
