use Rattle.std.proofs.Common.{ap, ◌∙◌}
use Rattle.declarations.specs.Named.{items_in}
use Rattle.source_tree.specs.Broken.{each}
use Rattle.source_tree.specs.StringRules.{sent_rules, delimiter_rules, sending_rules}
use Rattle.condition_codegen.proofs.Kept.{front_kept, back_kept, one_kept}
use Rattle.condition_codegen.specs.Fragments.{append}
use Rattle.condition_codegen.proofs.Fragments.{goes_on, is_done}
use Rattle.source_tree.specs.declared.string_statement.Sending.{Sending}
use Rattle.statement_codegen.specs.StringCode.{sender_fragment}
use Rattle.statement_codegen.proofs.string_statement.emit_sendings.Goals as goal

pub emit_sending-requires-clause-senders : goal.emit_sending-requires-clause-senders
emit_sending-requires-clause-senders c =
    let items = items_in c.args.emitter.now.declarations.now in
    front_kept (each (sent_rules items) c.one-item.result.senders) (delimiter_rules items c.one-item.result.delimiter)
    (ap (sending_rules items) c.one-item.is
    ∙ one_kept (sending_rules items) c.args.all.now c.loop-one.one-index c.one-item.result c.loop-one-test.true
    c.requires.rules)

pub emit_sending-requires-clause-delimiter : goal.emit_sending-requires-clause-delimiter
emit_sending-requires-clause-delimiter c =
    let items = items_in c.args.emitter.now.declarations.now in
    back_kept (each (sent_rules items) c.one-item.result.senders) (delimiter_rules items c.one-item.result.delimiter)
    (ap (sending_rules items) c.one-item.is
    ∙ one_kept (sending_rules items) c.args.all.now c.loop-one.one-index c.one-item.result c.loop-one-test.true
    c.requires.rules)

pub loop-one-preserved : goal.loop-one-preserved
loop-one-preserved c =
    let code = c.loop-one.code in
    let piece = sender_fragment (items_in c.args.emitter.now.declarations.now) in
    goes_on piece c.args.all.now c.loop-one.one-index c.one-item.result code c.emit_sending.new.code _
    c.loop-one-test.true
    (c.in_ok-emit_sending.ensures ∙ ap (λ (one : Sending). append code (piece one code)) c.one-item.is)
    c.loop-one.invariant

pub returns : goal.returns
returns c =
    is_done (sender_fragment (items_in c.args.emitter.now.declarations.now)) c.args.all.now
    c.loop-one.one-index c.loop-one.code _ c.loop-one-test.false c.loop-one.invariant
