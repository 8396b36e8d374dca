use Rattle.std.proofs.Common.{◌≤◌, [], ◌∷◌, length, ap, ◌∙◌, arith}
use Rattle.declarations.specs.Named.{items_in}
use Rattle.source_tree.specs.InspectRules.{replaced_text_rules}
use Rattle.source_tree.specs.InspectLayout.{replaced_text}
use Rattle.condition_codegen.proofs.Kept.{one_kept}
use Rattle.statement_codegen.proofs.InspectMaking.{puts_none, puts_more, puts_all}
use Rattle.statement_codegen.proofs.inspect_statement.emit_replaced_texts.Goals as goal

pub emit_replaced_text-requires : goal.emit_replaced_text-requires
emit_replaced_text-requires c =
    record {
      rules = ap (replaced_text_rules (items_in c.args.emitter.now.declarations.now)) c.one-item.is
          ∙ one_kept (replaced_text_rules (items_in c.args.emitter.now.declarations.now)) c.args.all.now
          c.loop-one.one-index
          c.one-item.result c.loop-one-test.true c.requires.rules;
    }

pub loop-one-preserved : goal.loop-one-preserved
loop-one-preserved c =
    let items = items_in c.args.emitter.now.declarations.now in
    puts_more items (λ one. replaced_text items c.args.how one ∷ []) c.args.all.now c.loop-one.one-index
    c.one-item.result c.loop-one-test.true c.one-item.is c.args.code.now c.loop-one.code c.emit_replaced_text.new.code
    c.args.made.now c.loop-one.made
    c.emit_replaced_text.new.made c.loop-one.invariant c.in_ok-emit_replaced_text.ensures

pub returns : goal.returns
returns c =
    let items = items_in c.args.emitter.now.declarations.now in
    let le : length c.args.all.now ≤ c.loop-one.one-index = omega arith in
    puts_all items (λ one. replaced_text items c.args.how one ∷ []) c.args.all.now c.loop-one.one-index c.args.code.now
    c.loop-one.code c.args.made.now c.loop-one.made le c.loop-one.invariant

pub loop-one-init : goal.loop-one-init
loop-one-init c =
    puts_none (items_in c.args.emitter.now.declarations.now) c.args.code.now c.args.made.now
