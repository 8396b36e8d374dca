use Rattle.std.proofs.Common.{rules, arith}
use Rattle.std.proofs.lemmas.Grind.{common_steps}
use Rattle.grammar.specs.Reading.{past_several, past_several_from}
use Rattle.grammar.proofs.Turns.{one_more, no_more}
use Rattle.grammar.proofs.passing.past_several.Goals as goal

pub loop-turn-init : goal.loop-turn-init
unfolding past_several
loop-turn-init g c = first_of (search rules, grind (arith, common_steps))

pub returns-in_err-rest : goal.returns-in_err-rest
unfolding past_several_from
returns-in_err-rest g c =
    let e =
    one_more (λ n. past_several_from (g.P.Passing.passing c.args.part.now) (g.P.Passing.beginning c.args.part.now) n
    c.loop-turn.rest.now) _ c.loop-turn._turn c.loop-turn-test.true c.loop-turn.invariant in
    first_of (search rules, grind (arith, common_steps))

pub returns-then-not-begins : goal.returns-then-not-begins
unfolding past_several_from
returns-then-not-begins g c =
    let e =
    one_more (λ n. past_several_from (g.P.Passing.passing c.args.part.now) (g.P.Passing.beginning c.args.part.now) n
    c.loop-turn.rest.now) _ c.loop-turn._turn c.loop-turn-test.true c.loop-turn.invariant in
    first_of (search rules, grind (arith, common_steps))

pub loop-turn-preserved : goal.loop-turn-preserved
unfolding past_several_from
loop-turn-preserved g c =
    let e =
    one_more (λ n. past_several_from (g.P.Passing.passing c.args.part.now) (g.P.Passing.beginning c.args.part.now) n
    c.loop-turn.rest.now) _ c.loop-turn._turn c.loop-turn-test.true c.loop-turn.invariant in
    first_of (search rules, grind (arith, common_steps))

pub returns : goal.returns
unfolding past_several_from
returns g c =
    let e =
    no_more (λ n. past_several_from (g.P.Passing.passing c.args.part.now) (g.P.Passing.beginning c.args.part.now) n
    c.loop-turn.rest.now) _ c.loop-turn._turn c.loop-turn-test.false c.loop-turn.invariant in
    first_of (search rules, grind (arith, common_steps))
