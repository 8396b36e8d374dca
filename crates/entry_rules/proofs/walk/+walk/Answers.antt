use Rattle.std.proofs.Common.{ap, ◌∙◌, arith}
use Rattle.std.proofs.lemmas.Result.{err_from_is_err_and}
use Rattle.source_tree.specs.Levels.{leading_conditions, forest_of}
use Rattle.entry_rules.specs.Checks.{fault_of}
use Rattle.entry_rules.specs.Trees.{own_bytes}
use Rattle.entry_rules.specs.Walk.{redefinable_of}
use Rattle.entry_rules.proofs.Forests.{found_in, none_in, known_after, room_tree, item_within}
use Rattle.entry_rules.proofs.LevelLaws.{levels_tree}
use Rattle.entry_rules.proofs.walk.+walk.Goals as goal

pub check_group-returns-in_err-extent-clause-rules : goal.check_group-returns-in_err-extent-clause-rules
check_group-returns-in_err-extent-clause-rules t c =
    let p = err_from_is_err_and c.from_residual.result c.from_residual.ensures.1 in
    let one = c.in-Some.one in
    rw (p.1, p.2) (found_in c.args.at (redefinable_of c.items.last) (forest_of c.items.rest.now)
    one.entry.now (leading_conditions one.inner.now) (forest_of one.inner.now) (forest_of one.next.now) _
    (fault_of c.in_err-extent.field-0.0)
    c.in-Some.ensures.0 c.items.invariant.rules c.in_err-extent.ensures.rules)

pub check_group-items-preserved : goal.check_group-items-preserved
check_group-items-preserved t c =
    let inv = c.items.invariant in
    let e = c.in-Some.ensures.0 in
    let split = room_tree c.args.at.around _ _ _ _ _ e in
    let same = c.taken-bytes.ensures.value ∙ ap (own_bytes c.in-Some.one.entry.now) c.in_ok-extent.ensures.bytes in
    record {
      levels = (levels_tree _ _ _ _ _ e inv.levels).2;
      last = known_after _ _ _ _ _ _ _ _ e inv.levels inv.last c.remembered-last.ensures;
      shorter = omega (arith, c.in-Some.ensures.1, inv.shorter);
      rules = none_in _ _ _ _ _ _ _ _ _ _ e inv.rules c.in_ok-extent.ensures.rules c.in_ok-extent.ensures.bytes
          c.remembered-last.ensures;
      sum = omega (arith, split, same, inv.sum);
      bound = omega (arith, c.in-Some.ensures.1, inv.bound, c.taken-bytes.ensures.bound, c.in_ok-extent.ensures.bound);
    }

pub check_item-returns-in_err-within-clause-rules : goal.check_item-returns-in_err-within-clause-rules
check_item-returns-in_err-within-clause-rules t c =
    let p = err_from_is_err_and c.from_residual.result c.from_residual.ensures.1 in
    rw (p.1, p.2) (item_within c.args.at c.below.result c.args.one.entry.now (leading_conditions c.args.one.inner.now)
    (forest_of c.args.one.inner.now) (redefinable_of c.args.last) (fault_of c.in_err-within.field-0.0)
    c.below.ensures.value c.in_err-within.ensures.rules)
