use Rattle.std.proofs.Common.{List, ap, ◌∙◌}
use Rattle.source_tree.specs.declared.statement.Statement.{Statement}
use Rattle.source_tree.specs.Broken.{each}
use Rattle.source_tree.specs.Rules.{all_permitted, sentence_rules, statement_rules}
use Rattle.declarations.specs.Named.{scope_in}
use Rattle.condition_codegen.specs.Fragments.{append, in_order}
use Rattle.codegen.specs.Layout.{sentence_fragment, statement_fragment}
use Rattle.condition_codegen.proofs.Fragments.{is_done}
use Rattle.condition_codegen.proofs.Kept.{one_kept}
use Rattle.codegen.proofs.ByCase.{next_piece}
use Rattle.codegen.proofs.emit.emit_sentences.Goals as goal

pub emit_statements-requires-clause-rules : goal.emit_statements-requires-clause-rules
emit_statements-requires-clause-rules c =
    let scope = scope_in c.args.emitter.now.declarations.now in
    ap (each (statement_rules scope all_permitted)) c.as_slice.ensures
    ∙ ap (sentence_rules scope all_permitted) c.one-item.is
    ∙ one_kept (sentence_rules scope all_permitted) c.args.all.now c.loop-one.one-index c.one-item.result
    c.loop-one-test.true c.requires.rules

pub loop-one-preserved : goal.loop-one-preserved
loop-one-preserved c =
    let scope = scope_in c.args.emitter.now.declarations.now in
    let code = c.loop-one.code in
    next_piece (sentence_fragment scope) c.args.all.now c.loop-one.one-index c.one-item.result code
    c.emit_statements.new.code _ c.loop-one-test.true c.one-item.is
    (c.in_ok-emit_statements.ensures
    ∙ ap (λ (l : List Statement). append code (in_order (statement_fragment scope) l code)) c.as_slice.ensures)
    c.loop-one.invariant

pub returns : goal.returns
returns c =
    is_done (sentence_fragment (scope_in c.args.emitter.now.declarations.now)) c.args.all.now c.loop-one.one-index
    c.loop-one.code _ c.loop-one-test.false c.loop-one.invariant
