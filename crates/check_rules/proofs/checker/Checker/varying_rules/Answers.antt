use Rattle.std.proofs.Common.{List, sym, ap, ◌∙◌}
use Rattle.std.proofs.lemmas.Result.{err_from_is_err_and}
use Rattle.source_tree.specs.declared.reference.Reference.{Reference}
use Rattle.source_tree.specs.LookUp.{first}
use Rattle.source_tree.specs.MoveRules.{move_rules}
use Rattle.entry_rules.specs.Checks.{broken_of}
use Rattle.declarations.specs.Named.{items_in}
use Rattle.check_rules.proofs.Varying.{found_moved, found_start, found_step, found_counted}
use Rattle.check_rules.proofs.checker.Checker.varying_rules.Goals as goal

pub returns-in_err-move_rules : goal.returns-in_err-move_rules
returns-in_err-move_rules c =
    let p = err_from_is_err_and c.from_residual.result c.from_residual.ensures.1 in
    let items = items_in c.args.self.now.declarations.now in
    rw (p.1, p.2) (found_moved items c.args.one.now (broken_of c.in_err-move_rules.field-0.0)
    (ap (λ (l : List Reference). first (move_rules items c.args.one.now.from l)) (sym c.from_ref.ensures.value)
    ∙ c.in_err-move_rules.ensures))

pub returns-in_err-number_rules : goal.returns-in_err-number_rules
returns-in_err-number_rules c =
    let p = err_from_is_err_and c.from_residual-in_err-number_rules.result
    c.from_residual-in_err-number_rules.ensures.1 in
    let items = items_in c.args.self.now.declarations.now in
    rw (p.1, p.2) (found_start items c.args.one.now (broken_of c.in_err-number_rules.field-0.0)
    (ap (λ (l : List Reference). move_rules items c.args.one.now.from l) (sym c.from_ref.ensures.value)
    ∙ c.in_ok-move_rules.ensures) c.in_err-number_rules.ensures)

pub returns-in_err-number_rules-2 : goal.returns-in_err-number_rules-2
returns-in_err-number_rules-2 c =
    let p = err_from_is_err_and c.from_residual-in_err-number_rules-2.result
    c.from_residual-in_err-number_rules-2.ensures.1 in
    let items = items_in c.args.self.now.declarations.now in
    rw (p.1, p.2) (found_step items c.args.one.now (broken_of c.in_err-number_rules-2.field-0.0)
    (ap (λ (l : List Reference). move_rules items c.args.one.now.from l) (sym c.from_ref.ensures.value)
    ∙ c.in_ok-move_rules.ensures) c.in_ok-number_rules.ensures c.in_err-number_rules-2.ensures)

pub returns : goal.returns
returns c =
    let items = items_in c.args.self.now.declarations.now in
    found_counted items c.args.one.now c.item_rules.result
    (ap (λ (l : List Reference). move_rules items c.args.one.now.from l) (sym c.from_ref.ensures.value)
    ∙ c.in_ok-move_rules.ensures) c.in_ok-number_rules.ensures c.in_ok-number_rules-2.ensures c.item_rules.ensures
