use Rattle.std.proofs.Common.{sym, subst, ap, ◌∙◌}
use Rattle.source_tree.specs.Broken.{each}
use Rattle.source_tree.specs.NameRules.{subscript_rules}
use Rattle.declarations.specs.Named.{data_in, items_in}
use Rattle.condition_codegen.specs.Values.{AreFormedValues}
use Rattle.condition_codegen.proofs.ConditionNames.{values_formed}
use Rattle.condition_codegen.proofs.ConditionValues.{descriptions_kept}
use Rattle.condition_codegen.proofs.Kept.{back_kept, subscripts_kept}
use Rattle.condition_codegen.proofs.ReferencePieces.{condition_name_so}
use Rattle.condition_codegen.proofs.emitter.Emitter.emit_condition_name.Goals as goal

pub emit_subscripts-requires : goal.emit_subscripts-requires
emit_subscripts-requires c =
    record {
      rules = ap (each (subscript_rules (items_in c.args.self.now.declarations.now))) c.as_slice.ensures
          ∙ subscripts_kept (items_in c.args.self.now.declarations.now) c.args.one.now (back_kept _ _ c.requires.rules);
    }

pub emit_values-requires : goal.emit_values-requires
emit_values-requires c =
    let declarations = c.args.self.now.declarations.now in
    subst AreFormedValues (sym c.values_named.ensures)
    (values_formed (data_in declarations) c.args.one.now.item c.requires.entries
    (descriptions_kept (items_in declarations) (data_in declarations) declarations.declared.file_rules))

pub returns : goal.returns
returns c =
    let items = items_in c.args.self.now.declarations.now in
    condition_name_so items c.args.one.now c.emit_values.result c.in_ok-item.item
    c.dimensions_at-dimensions.result.now c.as_slice.result.now c.args.code.now c.emit_work.new.code
    c.emit_subscripts.new.code c.in_ok-item.ensures c.dimensions_at-dimensions.ensures c.as_slice.ensures
    c.in_ok-emit_work.ensures c.in_ok-emit_subscripts.ensures c.values_named.result.now c.emit_works.new.code
    c.emit_values.new.code c.values_named.ensures c.in_ok-emit_works.ensures c.emit_values.ensures
