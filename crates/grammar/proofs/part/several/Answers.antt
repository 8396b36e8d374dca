use Rattle.std.proofs.Common.{rules, arith}
use Rattle.std.proofs.lemmas.Grind.{common_steps}
use Rattle.grammar.specs.Reading.{several, several_from}
use Rattle.grammar.proofs.Turns.{one_more, no_more}
use Rattle.grammar.proofs.part.several.Goals as goal

pub loop-turn-init : goal.loop-turn-init
unfolding several
loop-turn-init g c = first_of (search rules, grind (arith, common_steps))

pub returns-in_err-read : goal.returns-in_err-read
unfolding several_from
returns-in_err-read g c =
    let e = one_more (λ n. several_from (g.P.Part.reading c.args.part.now) (g.P.Part.beginning c.args.part.now) n
    c.loop-turn.found c.loop-turn.tokens) _ c.loop-turn._turn c.loop-turn-test.true c.loop-turn.invariant in
    first_of (search rules, grind (arith, common_steps))

pub returns-then-not-begins : goal.returns-then-not-begins
unfolding several_from
returns-then-not-begins g c =
    let e = one_more (λ n. several_from (g.P.Part.reading c.args.part.now) (g.P.Part.beginning c.args.part.now) n
    c.loop-turn.found c.loop-turn.tokens) _ c.loop-turn._turn c.loop-turn-test.true c.loop-turn.invariant in
    first_of (search rules, grind (arith, common_steps))

pub loop-turn-preserved : goal.loop-turn-preserved
unfolding several_from
loop-turn-preserved g c =
    let e = one_more (λ n. several_from (g.P.Part.reading c.args.part.now) (g.P.Part.beginning c.args.part.now) n
    c.loop-turn.found c.loop-turn.tokens) _ c.loop-turn._turn c.loop-turn-test.true c.loop-turn.invariant in
    first_of (search rules, grind (arith, common_steps))

pub returns : goal.returns
unfolding several_from
returns g c =
    let e = no_more (λ n. several_from (g.P.Part.reading c.args.part.now) (g.P.Part.beginning c.args.part.now) n
    c.loop-turn.found c.loop-turn.tokens) _ c.loop-turn._turn c.loop-turn-test.false c.loop-turn.invariant in
    first_of (search rules, grind (arith, common_steps))
