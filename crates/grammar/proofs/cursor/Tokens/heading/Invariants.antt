use Rattle.std.proofs.Common.{◌≡◌, drop}
use Rattle.grammar.specs.Reading.{heading_reader}
use Rattle.grammar.proofs.cursor.Tokens.heading.Given as goal

-- what is still to be passed
abbrev pub invariant-loop-word : goal.invariant-loop-word
invariant-loop-word l = heading_reader l.words l.initial.self ≡ heading_reader (drop l.word-index l.words) l.self
