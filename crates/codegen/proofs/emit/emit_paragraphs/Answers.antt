use Rattle.std.proofs.Common.{List, length, ap, ◌∙◌}
use Rattle.source_tree.specs.declared.program.Sentence.{Sentence}
use Rattle.source_tree.specs.Broken.{each}
use Rattle.source_tree.specs.Rules.{all_permitted, paragraph_rules, sentence_rules}
use Rattle.declarations.specs.Named.{scope_in}
use Rattle.condition_codegen.specs.Fragments.{append, in_order, sequence}
use Rattle.codegen.specs.Layout.{start_fragment, sentence_fragment, back_fragment, paragraph_fragment}
use Rattle.condition_codegen.proofs.Fragments.{is_done}
use Rattle.condition_codegen.proofs.Kept.{one_kept}
use Rattle.condition_codegen.proofs.Sequences.{then_piece}
use Rattle.codegen.proofs.ByCase.{next_piece}
use Rattle.codegen.proofs.emit.emit_paragraphs.Goals as goal

pub emit_sentences-requires-clause-rules : goal.emit_sentences-requires-clause-rules
emit_sentences-requires-clause-rules c =
    let scope = scope_in c.args.emitter.now.declarations.now in
    ap (each (sentence_rules scope all_permitted)) c.as_slice.ensures
    ∙ ap (paragraph_rules scope all_permitted) c.one-item.is
    ∙ one_kept (paragraph_rules scope all_permitted) c.args.all.now c.loop-one.one-index c.one-item.result
    c.loop-one-test.true c.requires.rules

pub loop-one-preserved : goal.loop-one-preserved
loop-one-preserved c =
    let scope = scope_in c.args.emitter.now.declarations.now in
    let piece = in_order (sentence_fragment scope) in
    let old = c.loop-one.code in
    let started = c.emit_start.new.code in
    let behind = c.emit_sentences.new.code in
    let one = c.one-item.result in
    let back = back_fragment (length old.starts) in
    next_piece (paragraph_fragment scope) c.args.all.now c.loop-one.one-index one old c.emit_back.new.code _
    c.loop-one-test.true c.one-item.is (then_piece start_fragment (sequence (piece one.sentences) back) old started
    c.emit_back.new.code c.in_ok-emit_start.ensures (then_piece (piece one.sentences) back started behind
    c.emit_back.new.code (c.in_ok-emit_sentences.ensures ∙ ap (λ (l : List Sentence). append started (piece l started))
    c.as_slice.ensures) (c.in_ok-emit_back.ensures ∙ ap (λ n. append behind (back_fragment n behind))
    c.len-number.ensures))) c.loop-one.invariant

pub returns : goal.returns
returns c =
    is_done (paragraph_fragment (scope_in c.args.emitter.now.declarations.now)) c.args.all.now c.loop-one.one-index
    c.loop-one.code _ c.loop-one-test.false c.loop-one.invariant
