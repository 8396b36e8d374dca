use Rattle.std.proofs.Common.{ap, ◌∙◌}
use Rattle.source_tree.specs.Broken.{each}
use Rattle.source_tree.specs.NameRules.{subscript_rules}
use Rattle.declarations.specs.Named.{items_in}
use Rattle.condition_codegen.proofs.Kept.{subscripts_kept, part_kept}
use Rattle.condition_codegen.proofs.ReferencePieces.{reference_so}
use Rattle.condition_codegen.proofs.emitter.Emitter.emit_reference.Goals as goal

pub emit_subscripts-requires : goal.emit_subscripts-requires
emit_subscripts-requires c =
    let items = items_in c.args.self.now.declarations.now in
    record {
      rules =
          ap (each (subscript_rules items)) c.as_slice.ensures ∙ subscripts_kept items c.args.one.now c.requires.rules;
    }

pub emit_making-requires : goal.emit_making-requires
emit_making-requires c =
    record { rules = part_kept (items_in c.args.self.now.declarations.now) c.args.one.now c.requires.rules }

pub returns : goal.returns
returns c =
    let items = items_in c.args.self.now.declarations.now in
    reference_so items c.args.one.now c.emit_making.result c.item_number-number.result c.length_at.result
    c.dimensions_at-dimensions.result.now c.as_slice.result.now c.args.code.now c.emit_place.new.code
    c.emit_subscripts.new.code c.emit_making.new.code c.item_number-number.ensures c.dimensions_at-dimensions.ensures
    c.as_slice.ensures c.length_at.ensures c.in_ok-emit_place.ensures c.in_ok-emit_subscripts.ensures
    c.emit_making.ensures
