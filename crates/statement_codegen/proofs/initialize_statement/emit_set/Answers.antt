use Rattle.std.proofs.Common.{ap, ◌∙◌}
use Rattle.source_tree.specs.Broken.{each}
use Rattle.source_tree.specs.NameRules.{subscript_rules}
use Rattle.declarations.specs.Named.{items_in}
use Rattle.condition_codegen.proofs.Kept.{back_kept, subscripts_kept}
use Rattle.condition_codegen.proofs.Setting.{set_kept}
use Rattle.condition_codegen.proofs.ReferencePieces.{set_so}
use Rattle.statement_codegen.proofs.initialize_statement.emit_set.Goals as goal

pub emit_subscripts-requires : goal.emit_subscripts-requires
emit_subscripts-requires c =
    let items = items_in c.args.emitter.now.declarations.now in
    record {
      rules = ap (each (subscript_rules items)) c.as_slice.ensures
          ∙ subscripts_kept items c.args.one.now (back_kept _ _ (set_kept items c.args.one.now c.requires.rules));
    }

pub returns : goal.returns
returns c =
    let items = items_in c.args.emitter.now.declarations.now in
    set_so items c.args.one.now c.emit_overlay.result c.in_ok-item.item c.dimensions_at-dimensions.result.now
    c.as_slice.result.now c.args.code.now c.emit_work.new.code c.emit_subscripts.new.code c.in_ok-item.ensures
    c.dimensions_at-dimensions.ensures c.as_slice.ensures c.in_ok-emit_work.ensures c.in_ok-emit_subscripts.ensures
    c.in_ok-made.made.bytes c.in_ok-made.made.marks c.emit_overlay.new.code c.in_ok-made.ensures.bytes
    c.in_ok-made.ensures.marks c.emit_overlay.ensures
