use Rattle.std.proofs.Common.{ap, ◌∙◌}
use Rattle.declarations.specs.Named.{scope_in}
use Rattle.source_tree.specs.Rules.{all_permitted, section_rules}
use Rattle.code_image.specs.declared.code.Code.{Code}
use Rattle.codegen.specs.Layout.{end_fragment, section_fragment}
use Rattle.condition_codegen.specs.Fragments.{append}
use Rattle.condition_codegen.proofs.Fragments.{is_done}
use Rattle.condition_codegen.proofs.Sequences.{is_so}
use Rattle.condition_codegen.proofs.Kept.{one_kept}
use Rattle.codegen.proofs.ByCase.{next_piece}
use Rattle.codegen.proofs.emit.emit_sections.Goals as goal

pub emit_section-requires-clause-rules : goal.emit_section-requires-clause-rules
emit_section-requires-clause-rules c =
    ap (section_rules (scope_in c.args.emitter.now.declarations.now) all_permitted) c.one-item.is
    ∙ one_kept (section_rules (scope_in c.args.emitter.now.declarations.now) all_permitted) c.args.all.now
    c.loop-one.one-index c.one-item.result c.loop-one-test.true c.requires.rules

pub loop-one-preserved : goal.loop-one-preserved
loop-one-preserved c =
    next_piece (section_fragment (scope_in c.args.emitter.now.declarations.now)) c.args.all.now c.loop-one.one-index
    c.one-item.result c.loop-one.code c.emit_section.new.code _ c.loop-one-test.true c.one-item.is
    c.in_ok-emit_section.ensures c.loop-one.invariant

pub returns : goal.returns
returns c =
    is_so c.emit_end.result c.emit_end.new.code (append c.loop-one.code end_fragment) _ c.emit_end.ensures
    (ap (λ (code : Code). append code end_fragment)
    (is_done (section_fragment (scope_in c.args.emitter.now.declarations.now)) c.args.all.now c.loop-one.one-index
    c.loop-one.code _ c.loop-one-test.false c.loop-one.invariant))
