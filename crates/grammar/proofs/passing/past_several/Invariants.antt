use Rattle.std.proofs.Common.{◌≡◌, ◌-◌}
use Rattle.grammar.specs.Reading.{past_several, past_several_from}
use Rattle.grammar.proofs.passing.past_several.Given as goal

abbrev pub invariant-loop-turn : goal.invariant-loop-turn
invariant-loop-turn g l = past_several (g.P.Passing.passing l.fn.part) (g.P.Passing.beginning l.fn.part) l.fn.tokens
    ≡ past_several_from (g.P.Passing.passing l.fn.part) (g.P.Passing.beginning l.fn.part) (l._turn-end - l._turn) l.rest
