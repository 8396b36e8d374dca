use Rattle.std.proofs.Common.{◌≡◌, [], ◌∷◌, sym, ap, ◌∙◌}
use Rattle.source_tree.specs.declared.expression.Operand.TheVariants.{Item}
use Rattle.source_tree.specs.Broken.{each}
use Rattle.source_tree.specs.FilingRules.{from_rules}
use Rattle.source_tree.specs.NameRules.{number_rules_of, reference_rules, any_item, operand_rules}
use Rattle.source_tree.specs.MoveRules.{sent_by, receives, move_rules}
use Rattle.declarations.specs.Named.{items_in, files_in}
use Rattle.condition_codegen.proofs.Kept.{front_kept, back_kept, item_kept, numbers_kept}
use Rattle.statement_codegen.proofs.file_parts.emit_from.Goals as goal

pub emit_taking-requires : goal.emit_taking-requires
emit_taking-requires c =
    let items = items_in c.args.emitter.now.declarations.now in
    let files = files_in c.args.emitter.now.declarations.now in
    let from = c.in-Some.from in
    let to = c.args.to.now in
    let r : move_rules items (Item from) (to ∷ []) ≡ [] =
    sym (ap (from_rules items files to) c.in-Some.is) ∙ c.requires.rules in
    record {
      rules = item_kept items any_item from (front_kept (operand_rules items (Item from))
          (each (reference_rules items (receives (sent_by items (Item from)))) (to ∷ [])) r);
    }

pub emit_receivers-requires : goal.emit_receivers-requires
emit_receivers-requires c =
    let items = items_in c.args.emitter.now.declarations.now in
    let files = files_in c.args.emitter.now.declarations.now in
    let from = c.in-Some.from in
    let to = c.args.to.now in
    let asked = receives (sent_by items (Item from)) in
    let r : move_rules items (Item from) (to ∷ []) ≡ [] =
    sym (ap (from_rules items files to) c.in-Some.is) ∙ c.requires.rules in
    record {
      rules = ap (each (number_rules_of items)) c.from_ref.ensures.value
          ∙ numbers_kept items asked (to ∷ [])
          (back_kept (operand_rules items (Item from)) (each (reference_rules items asked) (to ∷ [])) r);
    }
