use Rattle.std.proofs.Common.{◌≡◌, ◌-◌}
use Rattle.grammar.specs.Reading.{several, several_from}
use Rattle.grammar.proofs.part.several.Given as goal

abbrev pub invariant-loop-turn : goal.invariant-loop-turn
invariant-loop-turn g l = several (g.P.Part.reading l.fn.part) (g.P.Part.beginning l.fn.part) l.fn.tokens
    ≡ several_from (g.P.Part.reading l.fn.part) (g.P.Part.beginning l.fn.part) (l._turn-end - l._turn) l.found l.tokens
