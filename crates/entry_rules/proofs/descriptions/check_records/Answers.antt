use Rattle.std.proofs.Common.{max, None, true, ap, sym, ◌∙◌, arith}
use Rattle.std.proofs.lemmas.Result.{err_from_is_err_and}
use Rattle.source_tree.specs.Clauses.{nothing_around}
use Rattle.source_tree.specs.EntryRules.{forest_rules, outermost}
use Rattle.source_tree.specs.Levels.{leading_conditions, forest_of}
use Rattle.source_tree.specs.Rooms.{longest}
use Rattle.entry_rules.specs.Checks.{fault_of}
use Rattle.entry_rules.specs.Walk.{redefinable_of}
use Rattle.entry_rules.proofs.FileEntries.{longest_tree}
use Rattle.entry_rules.proofs.Forests.{found_in, after_item}
use Rattle.entry_rules.proofs.descriptions.check_records.Goals as goal

pub returns-in_err-bytes-clause-rules : goal.returns-in_err-bytes-clause-rules
returns-in_err-bytes-clause-rules c =
    let p = err_from_is_err_and c.from_residual.result c.from_residual.ensures.1 in
    let one = c.in-Some.one in
    rw (p.1, p.2) (found_in c.outermost.result (redefinable_of c.items.last) (forest_of c.items.rest.now)
    one.entry.now (leading_conditions one.inner.now) (forest_of one.inner.now) (forest_of one.next.now)
    (forest_rules (outermost true) None (forest_of c.args.entries.now)) (fault_of c.in_err-bytes.field-0.0)
    c.in-Some.ensures.0 (c.items.invariant.rules ∙ ap (λ at. forest_rules at (redefinable_of c.items.last)
    (forest_of c.items.rest.now)) (sym c.outermost.ensures)) c.in_err-bytes.ensures.rules)

pub items-preserved : goal.items-preserved
items-preserved c =
    let inv = c.items.invariant in
    let after = after_item _ _ _ _ _ _ _ _ _ _ _ c.outermost.ensures c.in-Some.ensures.0 inv.levels inv.last inv.rules
    c.in_ok-bytes.ensures.rules c.in_ok-bytes.ensures.bytes c.remembered-last.ensures in
    record {
      levels = after.0;
      last = after.1;
      shorter = omega (arith, c.in-Some.ensures.1, inv.shorter);
      rules = after.2;
      longest = longest_tree _ _ _ _ _ _ _ _ c.in-Some.ensures.0 inv.longest after.3
          ∙ ap (λ n. max n (longest nothing_around (forest_of c.in-Some.one.next.now))) (sym c.max-longest.ensures);
      bound = omega (arith, inv.bound, c.in_ok-bytes.ensures.bound, c.max-longest.ensures);
    }
