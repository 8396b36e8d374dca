use Rattle.std.proofs.Common.{◌≡◌, ◌+◌, ◌-◌, Some, sym, ap, ◌∙◌, rules, arith}
use Rattle.std.proofs.lemmas.Grind.{common_steps}
use Rattle.picture.specs.Faults.{or_no_form}
use Rattle.picture.specs.Runs.{symbol_count}
use Rattle.picture.specs.Text.{run_at, runs_from}
use Rattle.picture.proofs.Turns.{total-append, turn_takes, turn_refuses, turns_end, short_enough}
use Rattle.picture.proofs.text.runs_of.Goals as goal

pub loop-turn-init : goal.loop-turn-init
unfolding symbol_count
loop-turn-init c = first_of (search rules, grind (arith, common_steps))

pub returns-in_default-clause-value : goal.returns-in_default-clause-value
returns-in_default-clause-value c =
    let full = sym c.is_empty.ensures ∙ c.if-is_empty.false in
    ap or_no_form (short_enough c.args.text.now (omega arith) ∙ c.loop-turn.invariant.read
    ∙ turn_refuses c.loop-turn._turn c.loop-turn.runs c.loop-turn.rest.now full (sym c.in_default.ensures.value))

pub loop-turn-preserved : goal.loop-turn-preserved
loop-turn-preserved c =
    let full = sym c.is_empty.ensures ∙ c.if-is_empty.false in
    let is : run_at c.loop-turn.rest.now ≡ Some (c.in-Some.run', c.in-Some.more.now) = sym c.in-Some.ensures.value in
    let pushed = c.in_ok-push.ensures.ok in
    let sum = ap symbol_count pushed ∙ total-append c.loop-turn.runs c.in-Some.run' in
    let bound = c.in-Some.ensures.bound in
    let within = c.in-Some.ensures.within in
    record {
      read = c.loop-turn.invariant.read ∙ turn_takes c.loop-turn._turn c.loop-turn.runs c.loop-turn.rest.now
          c.in-Some.more.now c.in-Some.run' c.loop-turn-test.true full is
          ∙ ap (λ l. runs_from (30 - (c.loop-turn._turn + 1)) l c.in-Some.more.now) (sym pushed);
      most = omega arith;
      within = omega arith;
    }

pub returns-else-is_empty-2-clause-value : goal.returns-else-is_empty-2-clause-value
returns-else-is_empty-2-clause-value c =
    let full = sym c.is_empty-2.ensures ∙ c.if-is_empty-2.false in
    ap or_no_form (short_enough c.args.text.now (omega arith) ∙ c.loop-turn.invariant.read
    ∙ turns_end c.loop-turn._turn c.loop-turn.runs c.loop-turn.rest.now (omega arith) full)
