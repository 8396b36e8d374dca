use Rattle.std.proofs.Common.{◌∙◌, ap, sym}
use Rattle.std.proofs.lemmas.List.{take_rest}
use Rattle.text_ops.specs.Places.{begins_text}
use Rattle.text_ops.proofs.Places.{not_here}
use Rattle.text_ops.proofs.place.first_place.Goals as goal

pub loop-at-preserved : goal.loop-at-preserved
loop-at-preserved c =
    let whole = take_rest c.args.text.now c.loop-at.at in
    let stands = ap (begins_text c.args.sought.now) (sym whole) ∙ sym c.begins_text.ensures.value
    ∙ c.if-begins_text.false in
    c.loop-at.invariant ∙ not_here c.args.sought.now c.args.text.now c.loop-at.at c.loop-at-test.true stands
