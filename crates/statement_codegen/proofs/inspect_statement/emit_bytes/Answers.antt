use Rattle.source_tree.specs.InspectRules.{inspected_item}
use Rattle.declarations.specs.Named.{items_in}
use Rattle.statement_codegen.proofs.InspectMaking.{bytes_taken}
use Rattle.condition_codegen.proofs.Kept.{item_kept}
use Rattle.statement_codegen.proofs.inspect_statement.emit_bytes.Goals as goal

pub emit_taking-requires : goal.emit_taking-requires
emit_taking-requires c =
    record {
      rules = item_kept (items_in c.args.emitter.now.declarations.now) inspected_item c.args.one.now c.requires.rules;
    }

pub returns : goal.returns
returns c =
    bytes_taken (items_in c.args.emitter.now.declarations.now) c.with.result c.args.one.now c.args.code.now
    c.emit_taking.new.code c.args.line.now c.with.new.self c.length_shown.result c.is_measured-measured.result
    c.gather.result
    c.requires.rules c.in_ok-emit_taking.ensures c.gather.ensures c.is_measured-measured.ensures c.length_shown.ensures
    c.with.ensures.line c.with.ensures.span
