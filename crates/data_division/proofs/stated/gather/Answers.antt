use Rattle.std.proofs.Common.{rules, arith}
use Rattle.std.proofs.lemmas.Grind.{common_steps}
use Rattle.grammar.proofs.Turns.{one_more}
use Rattle.grammar.specs.Gathering.{gathering_reader, gathering_turns}
use Rattle.data_division.specs.Stated.{entry_clauses}
use Rattle.data_division.specs.ClauseReading.{clause_reader}
use Rattle.data_division.proofs.stated.gather.Goals as goal

pub loop-turn-init : goal.loop-turn-init
unfolding gathering_reader
loop-turn-init c = first_of (search rules, grind (arith, common_steps))

pub returns-in_default : goal.returns-in_default
unfolding gathering_turns
returns-in_default c =
    let e = one_more (λ n. gathering_turns entry_clauses clause_reader n c.loop-turn.stated c.loop-turn.tokens) _
    c.loop-turn._turn c.loop-turn-test.true c.loop-turn.invariant in
    first_of (search rules, grind (arith, common_steps))

pub returns-then-has : goal.returns-then-has
unfolding gathering_turns
returns-then-has c =
    let e = one_more (λ n. gathering_turns entry_clauses clause_reader n c.loop-turn.stated c.loop-turn.tokens) _
    c.loop-turn._turn c.loop-turn-test.true c.loop-turn.invariant in
    first_of (search rules, grind (arith, common_steps))

pub returns-in_err-clause_of_kind : goal.returns-in_err-clause_of_kind
unfolding gathering_turns
returns-in_err-clause_of_kind c =
    let e = one_more (λ n. gathering_turns entry_clauses clause_reader n c.loop-turn.stated c.loop-turn.tokens) _
    c.loop-turn._turn c.loop-turn-test.true c.loop-turn.invariant in
    first_of (search rules, grind (arith, common_steps))

pub loop-turn-preserved : goal.loop-turn-preserved
unfolding gathering_turns
loop-turn-preserved c =
    let e = one_more (λ n. gathering_turns entry_clauses clause_reader n c.loop-turn.stated c.loop-turn.tokens) _
    c.loop-turn._turn c.loop-turn-test.true c.loop-turn.invariant in
    first_of (search rules, grind (arith, common_steps))
