use Rattle.std.proofs.Common.{sym, ap, ◌∙◌}
use Rattle.source_tree.specs.ArithmeticRules.{numeric_item, number_rules}
use Rattle.declarations.specs.Named.{items_in}
use Rattle.condition_codegen.proofs.Kept.{item_kept}
use Rattle.condition_codegen.proofs.emitter.Emitter.emit_value.Goals as goal

pub emit_taking-requires : goal.emit_taking-requires
emit_taking-requires c =
    let items = items_in c.args.self.now.declarations.now in
    record {
      rules = item_kept items numeric_item c.in-Item.reference (sym (ap (number_rules items) c.in-Item.is)
          ∙ c.requires.rules);
    }
