use Rattle.std.proofs.Common.{ap, ◌∙◌}
use Rattle.source_tree.specs.declared.evaluate_statement.When.{When}
use Rattle.source_tree.specs.Broken.{each}
use Rattle.source_tree.specs.ConditionRules.{condition_rules}
use Rattle.source_tree.specs.Evaluate.{object_conditions, when_condition}
use Rattle.declarations.specs.Named.{items_in}
use Rattle.condition_codegen.specs.Fragments.{append, in_order}
use Rattle.condition_codegen.specs.ConditionCode.{or_fragment, condition_fragment}
use Rattle.condition_codegen.proofs.Kept.{one_kept}
use Rattle.condition_codegen.proofs.Fragments.{goes_on, is_done}
use Rattle.condition_codegen.proofs.emitter.Emitter.emit_each_when.Goals as goal

pub emit_or_when-requires-clause-rules : goal.emit_or_when-requires-clause-rules
emit_or_when-requires-clause-rules c =
    let items = items_in c.args.self.now.declarations.now in
    let kept = λ (one : When). each (condition_rules items) (object_conditions items c.args.subjects.now one.objects) in
    ap kept c.one-item.is
    ∙ one_kept kept c.args.more.now c.loop-one.one-index c.one-item.result c.loop-one-test.true c.requires.rules

pub loop-one-preserved : goal.loop-one-preserved
loop-one-preserved c =
    let items = items_in c.args.self.now.declarations.now in
    let when_piece =
    λ (one : When). or_fragment (condition_fragment items (when_condition items c.args.subjects.now one)) in
    let all = c.args.more.now in
    let i = c.loop-one.one-index in
    let one = c.one-item.result in
    let old = c.loop-one.code in
    let next = c.emit_or_when.new.code in
    let whole = append c.args.code.now (in_order when_piece all c.args.code.now) in
    goes_on when_piece all i one old next whole c.loop-one-test.true
    (c.in_ok-emit_or_when.ensures ∙ ap (λ (w : When). append old (when_piece w old)) c.one-item.is) c.loop-one.invariant

pub returns : goal.returns
returns c =
    let items = items_in c.args.self.now.declarations.now in
    is_done (λ (one : When). or_fragment (condition_fragment items (when_condition items c.args.subjects.now one)))
    c.args.more.now c.loop-one.one-index c.loop-one.code _ c.loop-one-test.false c.loop-one.invariant
