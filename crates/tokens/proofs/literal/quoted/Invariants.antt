use Rattle.std.proofs.Common.{◌≡◌, ◌+◌, false, [], length}
use Rattle.tokens.specs.Literals.{quoted_characters}
use Rattle.tokens.proofs.literal.quoted.Given as goal

abbrev pub invariant-loop-characters : goal.invariant-loop-characters
invariant-loop-characters l = (quoted_characters l.mark l.is_after_mark l.text.items l.size l.characters
    ≡ quoted_characters l.mark false [] 1 l.initial.characters)
    × (l.size + length l.characters ≡ length l.initial.characters + 1)

abbrev pub decreases-loop-characters : goal.decreases-loop-characters
decreases-loop-characters l = length l.characters
