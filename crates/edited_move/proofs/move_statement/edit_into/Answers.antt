use Rattle.std.proofs.Common.{sym, ◌∙◌}
use Rattle.edited_move.proofs.Sent.{short_number}
use Rattle.edited_move.proofs.move_statement.edit_into.Goals as goal

pub move_edited-requires-clause-short : goal.move_edited-requires-clause-short
move_edited-requires-clause-short c =
    short_number c.args.receiver c.args.taken c.requires.short (sym c.has_group.ensures ∙ c.if-has_group.false)
