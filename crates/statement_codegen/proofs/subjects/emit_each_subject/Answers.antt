use Rattle.std.proofs.Common.{ap, ◌∙◌}
use Rattle.source_tree.specs.declared.evaluate_statement.Subject.{Subject}
use Rattle.source_tree.specs.EvaluateRules.{subject_rules}
use Rattle.declarations.specs.Named.{items_in}
use Rattle.condition_codegen.specs.Fragments.{append, in_order}
use Rattle.statement_codegen.specs.SubjectCode.{subject_fragment}
use Rattle.condition_codegen.proofs.Kept.{one_kept}
use Rattle.condition_codegen.proofs.Fragments.{goes_on, is_done}
use Rattle.statement_codegen.proofs.subjects.emit_each_subject.Goals as goal

pub emit_subject-requires-clause-rules : goal.emit_subject-requires-clause-rules
emit_subject-requires-clause-rules c =
    let kept = subject_rules (items_in c.args.emitter.now.declarations.now) in
    ap kept c.one-item.is
    ∙ one_kept kept c.args.all.now c.loop-one.one-index c.one-item.result c.loop-one-test.true c.requires.rules

pub loop-one-preserved : goal.loop-one-preserved
loop-one-preserved c =
    let piece = subject_fragment (items_in c.args.emitter.now.declarations.now) in
    let old = c.loop-one.code in
    goes_on piece c.args.all.now c.loop-one.one-index c.one-item.result old c.emit_subject.new.code
    (append c.args.code.now (in_order piece c.args.all.now c.args.code.now)) c.loop-one-test.true
    (c.in_ok-emit_subject.ensures ∙ ap (λ (one : Subject). append old (piece one old)) c.one-item.is)
    c.loop-one.invariant

pub returns : goal.returns
returns c =
    is_done (subject_fragment (items_in c.args.emitter.now.declarations.now)) c.args.all.now
    c.loop-one.one-index c.loop-one.code _ c.loop-one-test.false c.loop-one.invariant
