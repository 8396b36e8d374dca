use Rattle.std.proofs.Common.{sym, ◌∙◌}
use Rattle.text_ops.proofs.showing.shown.Goals as goal

pub put_number-requires-clause-held : goal.put_number-requires-clause-held
put_number-requires-clause-held c =
    c.numbers_are_held.ensures c.in-Numeric.numeric _ c.in-Some.x (sym c.number.ensures ∙ c.in-Some.is)
