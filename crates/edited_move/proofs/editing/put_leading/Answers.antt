use Rattle.std.proofs.Common.{◌∙◌}
use Rattle.picture.specs.declared.place.Place.TheVariants.{Digit}
use Rattle.edited_move.proofs.Turns.{leading_turn, turn_within}
use Rattle.edited_move.proofs.editing.put_leading.Goals as goal

pub loop-at-preserved : goal.loop-at-preserved
loop-at-preserved c =
    let i = c.loop-at.invariant in
    let t = leading_turn c.args.region c.args.negative c.args.magnitude c.loop-at.at c.args.places.now Digit
    c.shown_place.result c.loop-at.next_before_stop c.is_in-before_stop.result _ c.loop-at.bytes
    c.suppressed_by-by.ensures c.is_in-before_stop.ensures c.loop-at-test.true i.within
    (c.loop-at.auto.bytes ∙ c.requires.length) (i.rest c.loop-at-test.true, i.stop, i.written) c.shown_place.ensures in
    record { within = turn_within c.loop-at.bytes c.loop-at.at _ i.within; rest = λ h. t.0; stop = t.1; written = t.2 }
