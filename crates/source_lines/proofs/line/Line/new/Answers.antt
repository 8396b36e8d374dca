use Rattle.std.proofs.Common.{arith, refl, ◌≡◌, ◌==◌, ◌<◌, false, get_or}
use Rattle.std.proofs.lemmas.Bool.Decides.{nat_tests}
use Rattle.source_lines.proofs.Tabs.{filled_all, filled_full, filled_tab, filled_byte}
use Rattle.source_lines.proofs.line.Line.new.Goals as goal
use Rattle.source_lines.proofs.line.Line.new.Goals.{then-byte-eq-TAB, else-byte-eq-TAB}

pub loop-byte-preserved : goal.loop-byte-preserved
loop-byte-preserved c =
    let known = c.loop-byte.invariant in
    let room : c.loop-byte.filled < 72 = omega (arith, known.room) in
    elim c.if-byte-eq-TAB.branch [
      | then-byte-eq-TAB w ↦
          rw (w.filled-is, w.columns-is)
          (filled_tab c.args.bytes.now c.loop-byte.byte-index c.loop-byte.filled c.loop-byte.columns known
          c.loop-byte-test.true room w.if-byte-eq-TAB.true)
      | else-byte-eq-TAB w ↦
          let other : (get_or c.args.bytes.now c.loop-byte.byte-index 0 == 9) ≡ false = grind (arith, nat_tests) in
          rw (w.filled-is, w.columns-is)
          (filled_byte c.args.bytes.now c.loop-byte.byte-index c.loop-byte.filled c.loop-byte.columns known
          c.loop-byte-test.true room refl other)
    ]

pub returns-after-loop-byte : goal.returns-after-loop-byte
returns-after-loop-byte c =
    let e = filled_all c.args.bytes.now c.loop-byte.byte-index c.loop-byte.filled c.loop-byte.columns
    c.loop-byte.invariant c.loop-byte-test.false in
    rw e

pub returns-then-filled-eq-COLUMNS : goal.returns-then-filled-eq-COLUMNS
returns-then-filled-eq-COLUMNS c =
    let e = filled_full c.args.bytes.now c.loop-byte.byte-index c.loop-byte.filled c.loop-byte.columns
    c.loop-byte.invariant c.if-filled-eq-COLUMNS.true in
    rw e
