use Rattle.std.proofs.Common.{rules, arith}
use Rattle.std.proofs.lemmas.Grind.{common_steps}
use Rattle.grammar.proofs.Turns.{one_more, no_more}
use Rattle.statements.specs.Opening.{all_opened_reader, opened_turns}
use Rattle.statements.proofs.open_statement.all_opened.Goals as goal

pub loop-turn-init : goal.loop-turn-init
unfolding all_opened_reader
loop-turn-init c = first_of (search rules, grind (arith, common_steps))

pub returns-in_err-opened : goal.returns-in_err-opened
unfolding opened_turns
returns-in_err-opened c =
    let e = one_more (λ n. opened_turns n c.loop-turn.found c.loop-turn.tokens) _ c.loop-turn._turn
    c.loop-turn-test.true c.loop-turn.invariant in
    first_of (search rules, grind (arith, common_steps))

pub returns-then-not-begins_mode : goal.returns-then-not-begins_mode
unfolding opened_turns
returns-then-not-begins_mode c =
    let e = one_more (λ n. opened_turns n c.loop-turn.found c.loop-turn.tokens) _ c.loop-turn._turn
    c.loop-turn-test.true c.loop-turn.invariant in
    first_of (search rules, grind (arith, common_steps))

pub loop-turn-preserved : goal.loop-turn-preserved
unfolding opened_turns
loop-turn-preserved c =
    let e = one_more (λ n. opened_turns n c.loop-turn.found c.loop-turn.tokens) _ c.loop-turn._turn
    c.loop-turn-test.true c.loop-turn.invariant in
    first_of (search rules, grind (arith, common_steps))

pub returns : goal.returns
unfolding opened_turns
returns c =
    let e = no_more (λ n. opened_turns n c.loop-turn.found c.loop-turn.tokens) _ c.loop-turn._turn
    c.loop-turn-test.false c.loop-turn.invariant in
    first_of (search rules, grind (arith, common_steps))
