use Rattle.std.proofs.Common.{sym, ◌∙◌}
use Rattle.edited_move.proofs.Sent.{short_number}
use Rattle.edited_move.proofs.move_statement.move_any.Goals as goal

pub move_plain-requires-clause-short : goal.move_plain-requires-clause-short
move_plain-requires-clause-short c =
    short_number c.args.receiver.now c.args.taken.now c.requires.short (sym c.has_group.ensures ∙ c.if-has_group.false)
