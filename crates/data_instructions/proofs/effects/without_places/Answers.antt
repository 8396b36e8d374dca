use Rattle.std.proofs.Common.{sym, ◌∙◌, arith}
use Rattle.data_instructions.proofs.Known.{one_less}
use Rattle.data_instructions.proofs.effects.without_places.Goals as goal

pub loop-left-preserved : goal.loop-left-preserved
loop-left-preserved c =
    sym (one_less c.loop-left.left c.loop-left.rest c.in_ok-rest.rest (omega (arith, c.loop-left-test.true))
    (sym c.without_place.ensures ∙ c.in_ok-rest.was)) ∙ c.loop-left.invariant
