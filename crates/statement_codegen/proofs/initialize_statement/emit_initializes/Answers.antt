use Rattle.std.proofs.Common.{ap, ◌∙◌}
use Rattle.declarations.specs.Named.{items_in}
use Rattle.source_tree.specs.NameRules.{reference_rules, any_item}
use Rattle.source_tree.specs.declared.reference.Reference.{Reference}
use Rattle.condition_codegen.specs.Fragments.{append}
use Rattle.condition_codegen.specs.PatternCode.{initialize_fragment}
use Rattle.condition_codegen.proofs.Fragments.{goes_on, is_done}
use Rattle.condition_codegen.proofs.Kept.{one_kept}
use Rattle.statement_codegen.proofs.initialize_statement.emit_initializes.Goals as goal

pub emit_initialize-requires-clause-rules : goal.emit_initialize-requires-clause-rules
emit_initialize-requires-clause-rules c =
    let items = items_in c.args.emitter.now.declarations.now in
    ap (reference_rules items any_item) c.one-item.is
    ∙ one_kept (reference_rules items any_item) c.args.all.now c.loop-one.one-index c.one-item.result
    c.loop-one-test.true c.requires.rules

pub loop-one-preserved : goal.loop-one-preserved
loop-one-preserved c =
    let code = c.loop-one.code in
    let piece = initialize_fragment (items_in c.args.emitter.now.declarations.now) in
    goes_on piece c.args.all.now c.loop-one.one-index c.one-item.result code c.emit_initialize.new.code _
    c.loop-one-test.true
    (c.in_ok-emit_initialize.ensures ∙ ap (λ (one : Reference). append code (piece one code)) c.one-item.is)
    c.loop-one.invariant

pub returns : goal.returns
returns c =
    is_done (initialize_fragment (items_in c.args.emitter.now.declarations.now)) c.args.all.now
    c.loop-one.one-index c.loop-one.code _ c.loop-one-test.false c.loop-one.invariant
