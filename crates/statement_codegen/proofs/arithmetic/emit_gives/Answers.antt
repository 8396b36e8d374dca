use Rattle.std.proofs.Common.{ap, ◌∙◌}
use Rattle.declarations.specs.Named.{items_in}
use Rattle.source_tree.specs.declared.arithmetic.Receiver.{Receiver}
use Rattle.source_tree.specs.NameRules.{number_rules_of}
use Rattle.source_tree.specs.ArithmeticRules.{number_receiver}
use Rattle.condition_codegen.specs.Fragments.{append}
use Rattle.condition_codegen.specs.ArithmeticCode.{give_fragment}
use Rattle.condition_codegen.proofs.Fragments.{goes_on, is_done}
use Rattle.condition_codegen.proofs.Kept.{receiver_kept}
use Rattle.statement_codegen.proofs.arithmetic.emit_gives.Goals as goal

pub emit_give-requires : goal.emit_give-requires
emit_give-requires c =
    let items = items_in c.args.emitter.now.declarations.now in
    record {
      rules = ap (λ (r : Receiver). number_rules_of items r.item) c.one-item.is
          ∙ receiver_kept items number_receiver c.args.all.now c.loop-one.one-index c.one-item.result
          c.loop-one-test.true
          c.requires.rules;
    }

pub loop-one-preserved : goal.loop-one-preserved
loop-one-preserved c =
    let code = c.loop-one.code in
    let piece = give_fragment (items_in c.args.emitter.now.declarations.now) c.args.keep in
    goes_on piece c.args.all.now c.loop-one.one-index c.one-item.result code c.emit_give.new.code _
    c.loop-one-test.true
    (c.in_ok-emit_give.ensures ∙ ap (λ (one : Receiver). append code (piece one code)) c.one-item.is)
    c.loop-one.invariant

pub returns : goal.returns
returns c =
    is_done (give_fragment (items_in c.args.emitter.now.declarations.now) c.args.keep) c.args.all.now
    c.loop-one.one-index c.loop-one.code _ c.loop-one-test.false c.loop-one.invariant
