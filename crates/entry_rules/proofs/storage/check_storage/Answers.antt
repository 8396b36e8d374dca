use Rattle.std.proofs.Common.{◌++◌, None, false, ap, sym, refl, ◌∙◌, arith}
use Rattle.std.proofs.lemmas.Result.{err_from_is_err_and}
use Rattle.source_tree.specs.EntryRules.{forest_rules, outermost, storage_rules}
use Rattle.source_tree.specs.Levels.{leading_conditions, forest_of}
use Rattle.source_tree.specs.LookUp.{first}
use Rattle.entry_rules.specs.declared.storage.Areas.{Areas}
use Rattle.entry_rules.specs.Areas.{bytes_in, past_rules, broken_area_rules}
use Rattle.entry_rules.specs.Checks.{fault_of}
use Rattle.entry_rules.specs.Walk.{redefinable_of}
use Rattle.entry_rules.proofs.Firsts.{same_front}
use Rattle.entry_rules.proofs.Forests.{found_in, after_item}
use Rattle.entry_rules.proofs.Sums.{from_start, area_step, with_bytes}
use Rattle.entry_rules.proofs.Totals as totals
use Rattle.entry_rules.proofs.storage.check_storage.Goals as goal

pub items-init : goal.items-init
items-init c =
    let none = ap bytes_in c.none-areas.ensures in
    record {
      levels = c.requires.levels;
      last = tt;
      shorter = omega arith;
      rules = refl;
      areas = ap first (sym (from_start 0 (forest_of c.args.entries.now))) ∙ ap (λ (a : Areas). first (past_rules a.past
          ++ broken_area_rules a.before a.last (forest_of c.args.entries.now))) (sym c.none-areas.ensures);
      total = totals.from_zero (forest_of c.args.entries.now)
          ∙ ap (λ (a : Areas). totals.total a.before a.last (forest_of c.args.entries.now)) (sym c.none-areas.ensures);
      bound = omega (arith, none);
    }

pub returns-in_err-bytes-clause-rules : goal.returns-in_err-bytes-clause-rules
returns-in_err-bytes-clause-rules c =
    let p = err_from_is_err_and c.from_residual.result c.from_residual.ensures.1 in
    let one = c.in-Some.one in
    rw (p.1, p.2) (same_front (fault_of c.in_err-bytes.field-0.0) (forest_rules (outermost false) None
    (forest_of c.args.entries.now)) (storage_rules 0 (forest_of c.args.entries.now))
    (found_in c.outermost.result (redefinable_of c.items.last) (forest_of c.items.rest.now)
    one.entry.now (leading_conditions one.inner.now) (forest_of one.inner.now) (forest_of one.next.now)
    (forest_rules (outermost false) None (forest_of c.args.entries.now)) (fault_of c.in_err-bytes.field-0.0)
    c.in-Some.ensures.0 (c.items.invariant.rules ∙ ap (λ at. forest_rules at (redefinable_of c.items.last)
    (forest_of c.items.rest.now)) (sym c.outermost.ensures)) c.in_err-bytes.ensures.rules))

pub items-preserved : goal.items-preserved
items-preserved c =
    let inv = c.items.invariant in
    let after = after_item _ _ _ _ _ _ _ _ _ _ _ c.outermost.ensures c.in-Some.ensures.0 inv.levels inv.last inv.rules
    c.in_ok-bytes.ensures.rules c.in_ok-bytes.ensures.bytes c.remembered-last.ensures in
    let more = with_bytes c.items.areas c.with-areas.result c.in-Some.one.entry.now _ c.with-areas.ensures in
    record {
      levels = after.0;
      last = after.1;
      shorter = omega (arith, c.in-Some.ensures.1, inv.shorter);
      rules = after.2;
      areas = area_step _ _ _ _ _ _ _ _ _ c.in-Some.ensures.0 inv.areas after.3 c.with-areas.ensures;
      total = totals.total_step _ _ _ _ _ _ _ _ _ c.in-Some.ensures.0 inv.total after.3 c.with-areas.ensures;
      bound = omega (arith, more, c.in-Some.ensures.1, inv.bound, c.in_ok-bytes.ensures.bound);
    }
