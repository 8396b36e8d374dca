use Rattle.std.proofs.Common.{◌≤◌, ap, ◌∙◌}
use Rattle.tokens.specs.Contexts.{context_after}
use Rattle.tokens.proofs.Scans.{loop_steps, left_counts}
use Rattle.tokens.proofs.scanner.scan.Goals as goal

pub loop-rest-preserved : goal.loop-rest-preserved
loop-rest-preserved c =
    let one = c.in_ok-kind.field-0 in
    let within = c.in_ok-kind.ensures.within in
    let positive : 1 ≤ one.size = within.0 in
    let next = c.after-before.ensures ∙ ap (context_after c.loop-rest.before) c.as_ref.ensures.value in (
      loop_steps c.loop-rest.tokens c.add.new.tokens c.loop-rest.before c.after-before.result c.loop-rest.start
          c.loop-rest.rest.now _ one
          c.in-len1-up.len_at_least positive c.in_ok-kind.ensures.value next c.in_ok-add.ensures
          ∙ c.loop-rest.invariant.0,
      left_counts c.loop-rest.rest.now one.size c.loop-rest.start _ within.1 c.loop-rest.invariant.1,
    )
