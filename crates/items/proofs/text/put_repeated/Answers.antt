use Rattle.std.proofs.Common.{inl, inr, length, arith}
use Rattle.items.proofs.Repeats.{begin, turn}
use Rattle.items.proofs.text.put_repeated.Goals as goal
use Rattle.items.proofs.text.put_repeated.Goals.{then-at-text, else-at-text}

pub loop-byte-init : goal.loop-byte-init
loop-byte-init c = record { within = omega arith; written = begin (length c.args.bytes.now) c.args.text.now c.requires }

pub loop-byte-preserved : goal.loop-byte-preserved
loop-byte-preserved c =
    let here = c.loop-byte.invariant in
    let t = turn c.loop-byte.bytes c.args.text.now c.loop-byte.byte-index c.loop-byte.at c.if-at-text.at c.requires
    (omega arith) here.within here.written
    (elim c.if-at-text.branch [
      | then-at-text w ↦ inl (w.if-at-text.true, w.at-is)
      | else-at-text w ↦ inr (w.if-at-text.false, w.at-is)
    ]) in
    record { within = t.0; written = t.1 }
