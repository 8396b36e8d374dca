use Rattle.std.proofs.Common.{arith}
use Rattle.data_machine.proofs.Overlays.{past_bytes, past_marks, unmarked, marked_there}
use Rattle.data_machine.proofs.overlaying.byte_over.Goals as goal

pub returns-then-at-bytes : goal.returns-then-at-bytes
returns-then-at-bytes c =
    elim c.then-at-bytes.branch [
      | goal.then-at-bytes-via-then-at-bytes w ↦ let h =
          w.if-at-bytes.true in past_bytes c.args.old c.args.bytes.now c.args.marks.now c.args.at (omega (arith, h))
      | goal.then-at-bytes-via-else-at-bytes+then-at-marks w ↦ let h =
          w.if-at-marks.true in past_marks c.args.old c.args.bytes.now c.args.marks.now c.args.at (omega (arith, h))
      | goal.then-at-bytes-via-else-at-bytes+else-at-marks+then-marks-at-eq0 w ↦
          unmarked c.args.old c.args.bytes.now c.args.marks.now c.args.at w.if-marks-at-eq0.true
    ]

pub returns : goal.returns
returns c = marked_there c.args.old c.args.bytes.now c.args.marks.now c.args.at c.if-at-bytes.false c.if-at-marks.false
    c.if-marks-at-eq0.false
