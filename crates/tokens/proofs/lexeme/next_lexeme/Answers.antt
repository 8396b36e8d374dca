use Rattle.std.proofs.Common.{◌≤◌, length, IfOk, sym, subst, arith}
use Rattle.tokens.proofs.Sizes.{picture_sized, plain_sized, returned_sized}
use Rattle.tokens.proofs.lexeme.next_lexeme.Goals as goal

pub returns-then-is_in-clause-within : goal.returns-then-is_in-clause-within
returns-then-is_in-clause-within c =
    returned_sized c.picture.result (picture_sized c.args.before c.args.first.byte c.args.characters.now
    (rw c.requires (omega arith))) c.picture.ensures

pub returns-else-awaits_picture-clause-within : goal.returns-else-awaits_picture-clause-within
returns-else-awaits_picture-clause-within c =
    subst (λ l. IfOk c.plain.result (λ one. (1 ≤ one.size) × (one.size ≤ length l))) (sym c.requires)
    (returned_sized c.plain.result (plain_sized c.args.before c.args.first c.args.more.now) c.plain.ensures)
