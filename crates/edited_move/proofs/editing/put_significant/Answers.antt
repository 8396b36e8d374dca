use Rattle.std.proofs.Common.{◌∙◌, sym, arith}
use Rattle.picture.specs.declared.place.Place.TheVariants.{Digit}
use Rattle.edited_move.proofs.Turns.{digit_turn, other_turn, turn_within, start}
use Rattle.edited_move.proofs.editing.put_significant.Goals as goal

pub loop-at-init : goal.loop-at-init
loop-at-init c =
    let s = start c.args.region c.args.negative c.args.magnitude c.args.places.now c.args.bytes.now c.requires in
    record { within = omega arith; rest = s.0; stop = s.1; written = s.2 }

pub loop-at-preserved-then-is_digit_place : goal.loop-at-preserved-then-is_digit_place
loop-at-preserved-then-is_digit_place c =
    let i = c.loop-at.invariant in
    let t = digit_turn c.args.region c.args.negative c.args.magnitude c.loop-at.at c.args.places.now Digit
    c.loop-at.rest c.loop-at.bytes (sym c.is_digit_place.ensures ∙ c.if-is_digit_place.true) c.loop-at-test.true
    c.if-rest-gt0.true i.within (c.loop-at.auto.bytes ∙ c.requires) (i.rest, i.stop, i.written) in
    record { within = turn_within c.loop-at.bytes c.loop-at.at _ i.within; rest = t.0; stop = t.1; written = t.2 }

pub loop-at-preserved : goal.loop-at-preserved
loop-at-preserved c =
    let i = c.loop-at.invariant in
    let t = other_turn c.args.region c.args.negative c.args.magnitude c.loop-at.at c.args.places.now Digit
    c.loop-at.rest c.printed.result c.loop-at.bytes (sym c.is_digit_place.ensures ∙ c.if-is_digit_place.false)
    c.loop-at-test.true c.if-rest-gt0.true i.within (c.loop-at.auto.bytes ∙ c.requires) (i.rest, i.stop, i.written)
    c.printed.ensures in
    record { within = turn_within c.loop-at.bytes c.loop-at.at _ i.within; rest = t.0; stop = t.1; written = t.2 }
