use Rattle.std.proofs.Common.{◌≡◌, length}
use Rattle.tokens.specs.Characters.{has_class}
use Rattle.tokens.proofs.character.has.Given as goal

abbrev pub invariant-loop-characters : goal.invariant-loop-characters
invariant-loop-characters l = has_class l.class l.characters ≡ has_class l.class l.initial.characters

abbrev pub decreases-loop-characters : goal.decreases-loop-characters
decreases-loop-characters l = length l.characters
