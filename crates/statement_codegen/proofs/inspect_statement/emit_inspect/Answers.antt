use Rattle.std.proofs.Common.{ap, ◌∙◌}
use Rattle.source_tree.specs.Broken.{each}
use Rattle.source_tree.specs.InspectRules.{inspected_item, tallying_rules, replacing_rules}
use Rattle.declarations.specs.Named.{items_in}
use Rattle.statement_codegen.proofs.InspectKept.{keeps_inspect}
use Rattle.statement_codegen.proofs.InspectMaking.{inspect_emitted}
use Rattle.condition_codegen.proofs.Kept.{item_kept}
use Rattle.statement_codegen.proofs.inspect_statement.emit_inspect.Goals as goal

pub emit_reference-requires : goal.emit_reference-requires
emit_reference-requires c =
    let items = items_in c.args.emitter.now.declarations.now in
    record {
      rules = item_kept items inspected_item c.args.one.now.subject
          (keeps_inspect items c.args.one.now c.requires.rules).subject;
    }

pub emit_counters-requires : goal.emit_counters-requires
emit_counters-requires c =
    let items = items_in c.args.emitter.now.declarations.now in
    record {
      rules = ap (each (tallying_rules items)) c.as_slice.ensures
          ∙ (keeps_inspect items c.args.one.now c.requires.rules).tallying;
    }

pub emit_all_replaced-requires : goal.emit_all_replaced-requires
emit_all_replaced-requires c =
    let items = items_in c.args.emitter.now.declarations.now in
    record {
      rules = ap (each (replacing_rules items)) c.as_slice-2.ensures
          ∙ (keeps_inspect items c.args.one.now c.requires.rules).replacing;
    }

pub returns : goal.returns
returns c =
    inspect_emitted (items_in c.args.emitter.now.declarations.now) c.emit_inspection.result c.args.one.now
    c.as_slice.result.now c.as_slice-2.result.now c.args.code.now c.emit_reference.new.code c.emit_counters.new.code
    c.emit_all_replaced.new.code c.emit_inspection.new.code c.emit_counters.new.counters c.new-counters.result
    c.new.result c.new-2.result c.emit_counters.new.made c.emit_all_replaced.new.made c.as_slice.ensures
    c.as_slice-2.ensures c.in_ok-emit_reference.ensures c.new-counters.ensures c.new.ensures c.new-2.ensures
    c.in_ok-emit_counters.ensures c.in_ok-emit_all_replaced.ensures c.emit_inspection.ensures
