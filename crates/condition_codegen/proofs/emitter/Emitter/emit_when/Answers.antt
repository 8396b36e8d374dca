use Rattle.std.proofs.Common.{rules, ◌≡◌, true, List, ◌∷◌, length, sym, ap, arith, ◌∙◌}
use Rattle.std.proofs.lemmas.Grind.{common_steps}
use Rattle.source_tree.specs.declared.condition.Condition.{Condition}
use Rattle.source_tree.specs.declared.condition.Condition.TheVariants.{All}
use Rattle.source_tree.specs.declared.evaluate_statement.Subject.{Subject}
use Rattle.source_tree.specs.declared.evaluate_statement.Object.{Object}
use Rattle.source_tree.specs.Broken.{each}
use Rattle.source_tree.specs.ConditionRules.{condition_rules}
use Rattle.source_tree.specs.Evaluate.{selection_condition, object_conditions}
use Rattle.declarations.specs.Named.{items_in}
use Rattle.condition_codegen.specs.Fragments.{Fragment, append, in_order}
use Rattle.condition_codegen.specs.ConditionCode.{condition_fragment}
use Rattle.condition_codegen.specs.EvaluateCode.{constant_fragment}
use Rattle.condition_codegen.proofs.Questions.{constant_is, further_piece, no_subjects, no_objects, pair_rules}
use Rattle.condition_codegen.proofs.Questions.{pairs_rules}
use Rattle.condition_codegen.proofs.Sequences.{is_so, ends_so, on_ok}
use Rattle.condition_codegen.proofs.AskedPairs.{pairs_are}
use Rattle.condition_codegen.proofs.emitter.Emitter.emit_when.Goals as goal

pub returns-in_default : goal.returns-in_default
returns-in_default c =
    let items = items_in c.args.self.now.declarations.now in
    let old = c.args.code.now in
    let none : length c.args.subjects.now ≡ 0 = first_of (search rules, grind (arith, common_steps)) in
    is_so c.emit_constant.result c.emit_constant.new.code (append old (constant_fragment true old))
    (append old (condition_fragment items (All (object_conditions items c.args.subjects.now c.args.objects.now)) old))
    c.emit_constant.ensures
    (ap (λ (p : Fragment). append old (p old)) (sym (constant_is items true))
    ∙ sym (ap (λ (l : List Condition). append old (condition_fragment items (All l) old))
    (no_subjects items c.args.subjects.now c.args.objects.now none)))

pub returns-in_default-split_first : goal.returns-in_default-split_first
returns-in_default-split_first c =
    let items = items_in c.args.self.now.declarations.now in
    let old = c.args.code.now in
    let none : length c.args.objects.now ≡ 0 = first_of (search rules, grind (arith, common_steps)) in
    let result = c.emit_constant-in_default-split_first.result in
    let new = c.emit_constant-in_default-split_first.new.code in
    is_so result new (append old (constant_fragment true old))
    (append old (condition_fragment items (All (object_conditions items c.args.subjects.now c.args.objects.now)) old))
    c.emit_constant-in_default-split_first.ensures
    (ap (λ (p : Fragment). append old (p old)) (sym (constant_is items true))
    ∙ sym (ap (λ (l : List Condition). append old (condition_fragment items (All l) old))
    (no_objects items c.args.subjects.now c.args.objects.now none)))

pub emit_asked-requires-clause-rules : goal.emit_asked-requires-clause-rules
emit_asked-requires-clause-rules c =
    let items = items_in c.args.self.now.declarations.now in
    let subject = c.in-Some.subject.now in
    let subjects = c.in-Some.subjects.now in
    let object = c.in-Some-split_first.object.now in
    let objects = c.in-Some-split_first.objects.now in
    let kept = each (condition_rules items) in
    pair_rules items subject subjects object objects
    (sym (ap (λ (l : List Subject). kept (object_conditions items l c.args.objects.now)) c.in-Some.ensures.cases.0
    ∙ ap (λ (l : List Object). kept (object_conditions items (subject ∷ subjects) l))
    c.in-Some-split_first.ensures.cases.0)
    ∙ c.requires.rules)

pub emit_each_asked-requires-clause-rules : goal.emit_each_asked-requires-clause-rules
emit_each_asked-requires-clause-rules c =
    let items = items_in c.args.self.now.declarations.now in
    let subject = c.in-Some.subject.now in
    let subjects = c.in-Some.subjects.now in
    let object = c.in-Some-split_first.object.now in
    let objects = c.in-Some-split_first.objects.now in
    let kept = each (condition_rules items) in
    pairs_rules items subject subjects object objects
    (sym (ap (λ (l : List Subject). kept (object_conditions items l c.args.objects.now)) c.in-Some.ensures.cases.0
    ∙ ap (λ (l : List Object). kept (object_conditions items (subject ∷ subjects) l))
    c.in-Some-split_first.ensures.cases.0)
    ∙ c.requires.rules)

pub returns : goal.returns
returns c =
    let items = items_in c.args.self.now.declarations.now in
    let subject = c.in-Some.subject.now in
    let subjects = c.in-Some.subjects.now in
    let object = c.in-Some-split_first.object.now in
    let objects = c.in-Some-split_first.objects.now in
    on_ok c.emit_each_asked.result
    (ends_so c.emit_each_asked.result (condition_fragment items (selection_condition items subject object.choice))
    (in_order (further_piece items) (object_conditions items subjects objects)) c.args.code.now
    c.emit_asked.new.code c.emit_each_asked.new.code c.in_ok-emit_asked.ensures c.emit_each_asked.ensures)
    (λ e. e ∙ ap (append c.args.code.now) (pairs_are items subject subjects object objects c.args.subjects.now
    c.args.objects.now c.in-Some.ensures.cases.0 c.in-Some-split_first.ensures.cases.0 c.args.code.now))
