use Rattle.std.proofs.Common.{ap, ◌∙◌, Some}
use Rattle.declarations.specs.Named.{items_in}
use Rattle.source_tree.specs.StringRules.{sent_rules}
use Rattle.condition_codegen.proofs.Kept.{one_kept}
use Rattle.condition_codegen.specs.Fragments.{append}
use Rattle.condition_codegen.proofs.Fragments.{goes_on, is_done}
use Rattle.source_tree.specs.declared.expression.Operand.{Operand}
use Rattle.statement_codegen.specs.StringCode.{sent_fragment}
use Rattle.statement_codegen.proofs.string_statement.emit_all_cut.Goals as goal

pub emit_cut-requires : goal.emit_cut-requires
emit_cut-requires c =
    record {
      rules = ap (sent_rules (items_in c.args.emitter.now.declarations.now)) c.one-item.is
          ∙ one_kept (sent_rules (items_in c.args.emitter.now.declarations.now)) c.args.all.now c.loop-one.one-index
          c.one-item.result c.loop-one-test.true c.requires.rules;
    }

pub loop-one-preserved : goal.loop-one-preserved
loop-one-preserved c =
    let code = c.loop-one.code in
    let piece = sent_fragment (items_in c.args.emitter.now.declarations.now) (Some c.args.delimiter.now) in
    goes_on piece c.args.all.now c.loop-one.one-index c.one-item.result code c.emit_cut.new.code _
    c.loop-one-test.true (c.in_ok-emit_cut.ensures ∙ ap (λ (one : Operand). append code (piece one code)) c.one-item.is)
    c.loop-one.invariant

pub returns : goal.returns
returns c =
    is_done (sent_fragment (items_in c.args.emitter.now.declarations.now) (Some c.args.delimiter.now)) c.args.all.now
    c.loop-one.one-index c.loop-one.code _ c.loop-one-test.false c.loop-one.invariant
