use Rattle.std.proofs.Common.{rules, ◌≡◌, false, List, length, sym, ap, arith, ◌∙◌}
use Rattle.std.proofs.lemmas.Grind.{common_steps}
use Rattle.source_tree.specs.declared.condition.Condition.{Condition}
use Rattle.source_tree.specs.declared.condition.Condition.TheVariants.{All, Any}
use Rattle.source_tree.specs.declared.evaluate_statement.Object.{Object}
use Rattle.source_tree.specs.declared.evaluate_statement.When.{When}
use Rattle.source_tree.specs.Broken.{each}
use Rattle.source_tree.specs.ConditionRules.{condition_rules}
use Rattle.source_tree.specs.Evaluate.{object_conditions, when_condition, when_conditions}
use Rattle.declarations.specs.Named.{items_in}
use Rattle.condition_codegen.specs.Fragments.{Fragment, append, in_order}
use Rattle.condition_codegen.specs.ConditionCode.{or_fragment, condition_fragment}
use Rattle.condition_codegen.specs.EvaluateCode.{constant_fragment}
use Rattle.condition_codegen.proofs.Kept.{front_kept, back_kept}
use Rattle.condition_codegen.proofs.Questions.{constant_is, no_whens}
use Rattle.condition_codegen.proofs.Sequences.{is_so, ends_so, on_ok}
use Rattle.condition_codegen.proofs.AskedPairs.{whens_all}
use Rattle.condition_codegen.proofs.emitter.Emitter.emit_whens.Goals as goal

pub returns-in_default : goal.returns-in_default
returns-in_default c =
    let items = items_in c.args.self.now.declarations.now in
    let old = c.args.code.now in
    let none : length c.args.whens.now ≡ 0 = first_of (search rules, grind (arith, common_steps)) in
    is_so c.emit_constant.result c.emit_constant.new.code (append old (constant_fragment false old))
    (append old (condition_fragment items (Any (when_conditions items c.args.subjects.now c.args.whens.now)) old))
    c.emit_constant.ensures
    (ap (λ (p : Fragment). append old (p old)) (sym (constant_is items false))
    ∙ sym (ap (λ (l : List Condition). append old (condition_fragment items (Any l) old))
    (no_whens items c.args.subjects.now c.args.whens.now none)))

pub emit_when-requires-clause-rules : goal.emit_when-requires-clause-rules
emit_when-requires-clause-rules c =
    let items = items_in c.args.self.now.declarations.now in
    let kept = λ (one : When). each (condition_rules items) (object_conditions items c.args.subjects.now one.objects) in
    ap (λ (l : List Object). each (condition_rules items) (object_conditions items c.args.subjects.now l))
    c.as_slice.ensures
    ∙ front_kept (kept c.in-Some.first.now) (each kept c.in-Some.more.now)
    (sym (ap (each kept) c.in-Some.ensures.cases.0) ∙ c.requires.rules)

pub emit_each_when-requires-clause-rules : goal.emit_each_when-requires-clause-rules
emit_each_when-requires-clause-rules c =
    let items = items_in c.args.self.now.declarations.now in
    let kept = λ (one : When). each (condition_rules items) (object_conditions items c.args.subjects.now one.objects) in
    back_kept (kept c.in-Some.first.now) (each kept c.in-Some.more.now) (sym (ap (each kept) c.in-Some.ensures.cases.0)
    ∙ c.requires.rules)

pub returns : goal.returns
returns c =
    let items = items_in c.args.self.now.declarations.now in
    let subjects = c.args.subjects.now in
    let old = c.args.code.now in
    let first = c.in-Some.first.now in
    let further = in_order (λ (one : When). or_fragment
    (condition_fragment items (when_condition items subjects one))) c.in-Some.more.now in
    on_ok c.emit_each_when.result
    (ends_so c.emit_each_when.result (condition_fragment items (when_condition items subjects first)) further old
    c.emit_when.new.code c.emit_each_when.new.code (c.in_ok-emit_when.ensures ∙ ap (λ (l : List Object).
    append old (condition_fragment items (All (object_conditions items subjects l)) old)) c.as_slice.ensures)
    c.emit_each_when.ensures)
    (λ e. e ∙ ap (append old)
    (whens_all items subjects first c.in-Some.more.now c.args.whens.now old c.in-Some.ensures.cases.0))
