use Rattle.std.proofs.Common.{refl}
use Rattle.declarations.specs.Named.{items_in}
use Rattle.source_tree.specs.InspectRules.{inspected_item, replaced_text_rules}
use Rattle.source_tree.specs.NameRules.{reference_rules}
use Rattle.statement_codegen.specs.declared.inspect_statement.Entries.{Entries}
use Rattle.condition_codegen.proofs.Lists.{left_none, right_none}
use Rattle.condition_codegen.proofs.Kept.{item_kept}
use Rattle.statement_codegen.proofs.InspectMaking.{convert_made}
use Rattle.condition_codegen.proofs.Sequences.{on_ok}
use Rattle.statement_codegen.proofs.inspect_statement.emit_convert.Goals as goal

pub emit_reference-requires : goal.emit_reference-requires
emit_reference-requires c =
    let items = items_in c.args.emitter.now.declarations.now in
    let one = c.args.one.now in
    record {
      rules = item_kept items inspected_item one.subject (left_none (reference_rules items inspected_item one.subject)
          (replaced_text_rules items one.texts) c.requires.rules);
    }

pub emit_replaced_text-requires : goal.emit_replaced_text-requires
emit_replaced_text-requires c =
    let items = items_in c.args.emitter.now.declarations.now in
    let one = c.args.one.now in
    record {
      rules = right_none (reference_rules items inspected_item one.subject) (replaced_text_rules items one.texts)
          c.requires.rules;
    }

pub returns : goal.returns
returns c =
    let items = items_in c.args.emitter.now.declarations.now in
    let a = c.emit_reference.new.code in
    let d = c.emit_replaced_text.new.code in
    let made = c.emit_replaced_text.new.made in
    let begins : Entries = record { line = record { size = 0; measured = 0 }; entries = c.new.result } in
    on_ok c.emit_conversion.result c.emit_conversion.ensures
    (λ e. convert_made items c.args.one.now c.args.code.now a d c.emit_conversion.new.code c.new-2.result c.new-3.result
    begins made c.in_ok-emit_reference.ensures c.new-2.ensures c.new-3.ensures refl c.new.ensures
    c.in_ok-emit_replaced_text.ensures e)
