use Rattle.std.proofs.Common.{ap, ◌∙◌}
use Rattle.source_tree.specs.declared.reference.Reference.{Reference}
use Rattle.source_tree.specs.NameRules.{number_rules_of}
use Rattle.data_instructions.specs.declared.instruction.DataInstruction.TheVariants as i
use Rattle.declarations.specs.Named.{items_in}
use Rattle.condition_codegen.specs.Fragments.{append}
use Rattle.condition_codegen.specs.DataCode.{take_fragment}
use Rattle.condition_codegen.proofs.Fragments.{goes_on, is_done}
use Rattle.condition_codegen.proofs.Kept.{one_kept}
use Rattle.statement_codegen.proofs.move_statement.emit_receivers.Goals as goal

pub emit_taking-requires : goal.emit_taking-requires
emit_taking-requires c =
    let kept = number_rules_of (items_in c.args.emitter.now.declarations.now) in
    record {
      rules = ap kept c.one-item.is
          ∙ one_kept kept c.args.all.now c.loop-one.one-index c.one-item.result c.loop-one-test.true c.requires.rules;
    }

pub loop-one-preserved : goal.loop-one-preserved
loop-one-preserved c =
    let code = c.loop-one.code in
    let piece = take_fragment (items_in c.args.emitter.now.declarations.now) i.Move in
    goes_on piece c.args.all.now c.loop-one.one-index c.one-item.result code c.emit_taking.new.code _
    c.loop-one-test.true
    (c.in_ok-emit_taking.ensures ∙ ap (λ (one : Reference). append code (piece one code)) c.one-item.is)
    c.loop-one.invariant

pub returns : goal.returns
returns c =
    is_done (take_fragment (items_in c.args.emitter.now.declarations.now) i.Move) c.args.all.now
    c.loop-one.one-index c.loop-one.code _ c.loop-one-test.false c.loop-one.invariant
