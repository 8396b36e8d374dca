use Rattle.std.proofs.Common.{subst}
use Rattle.std.proofs.lemmas.Result.{err_from_is_err_and}
use Rattle.items.specs.declared.item.Kind.{Kind}
use Rattle.entry_rules.specs.Checks.{IsFirstBreach, broken_of}
use Rattle.declarations.specs.Named.{items_in}
use Rattle.check_rules.specs.Asking.{asks, asks_kind}
use Rattle.check_rules.proofs.Parts.{shape_refused, kind_asked}
use Rattle.check_rules.proofs.checker.Checker.named_rules.Goals as goal

pub returns-in_err-shape_rules : goal.returns-in_err-shape_rules
returns-in_err-shape_rules c =
    let p =
    err_from_is_err_and c.from_residual-in_err-shape_rules.result c.from_residual-in_err-shape_rules.ensures.1 in
    let named = c.in_ok-found.ensures in
    rw (p.1, p.2)
    (shape_refused (items_in c.args.self.now.declarations.now) c.args.one.now named.0 c.in_ok-found.found.now
    named.1 named.2 (asks c.args.asked) (broken_of c.in_err-shape_rules.field-0.0) c.in_err-shape_rules.ensures)

pub returns : goal.returns
returns c =
    let named = c.in_ok-found.ensures in
    kind_asked (items_in c.args.self.now.declarations.now) c.args.one.now named.0 c.in_ok-found.found.now named.1
    named.2
    c.args.asked c.kind_rules.result c.in_ok-shape_rules.ensures
    (subst (λ (k : Kind). IsFirstBreach c.kind_rules.result (asks_kind c.args.asked k c.args.one.now.item.name.place))
    c.kind_seen.ensures c.kind_rules.ensures)
