use Rattle.std.proofs.Common.{◌≡◌, Some, inl, inr, sym, ap, ◌∙◌}
use Rattle.std.specs.Option.{option_map}
use Rattle.source_tree.specs.Conditions.{alone_side}
use Rattle.declarations.specs.Named.{items_in}
use Rattle.condition_codegen.specs.Sides.{operand_of}
use Rattle.condition_codegen.proofs.RelationPieces.{pair_compared}
use Rattle.condition_codegen.proofs.Sides.{left_kept, right_kept, side_kept}
use Rattle.condition_codegen.proofs.emitter.Emitter.emit_relation.Goals as goal
use Rattle.condition_codegen.proofs.emitter.Emitter.emit_relation.Goals.{else-takes_first}
use Rattle.condition_codegen.proofs.emitter.Emitter.emit_relation.Goals.{then-takes_first+else-is_numeric_operand+in_ok-emit_look}

pub emit_numbers_compared-requires-clause-left : goal.emit_numbers_compared-requires-clause-left
emit_numbers_compared-requires-clause-left c =
    left_kept (items_in c.args.self.now.declarations.now) c.args.left.now c.args.right.now c.requires.rules

pub emit_numbers_compared-requires-clause-right : goal.emit_numbers_compared-requires-clause-right
emit_numbers_compared-requires-clause-right c =
    right_kept (items_in c.args.self.now.declarations.now) c.args.left.now c.args.right.now c.requires.rules

pub emit_numbers_compared-requires-in_default-alone_side-clause-left :
    goal.emit_numbers_compared-requires-in_default-alone_side-clause-left
emit_numbers_compared-requires-in_default-alone_side-clause-left c =
    left_kept (items_in c.args.self.now.declarations.now) c.args.left.now c.args.right.now c.requires.rules

pub emit_numbers_compared-requires-in_default-alone_side-clause-right :
    goal.emit_numbers_compared-requires-in_default-alone_side-clause-right
emit_numbers_compared-requires-in_default-alone_side-clause-right c =
    right_kept (items_in c.args.self.now.declarations.now) c.args.left.now c.args.right.now c.requires.rules

pub emit_numbers_compared-requires-then-is_numeric_operand-clause-left :
    goal.emit_numbers_compared-requires-then-is_numeric_operand-clause-left
emit_numbers_compared-requires-then-is_numeric_operand-clause-left c =
    left_kept (items_in c.args.self.now.declarations.now) c.args.left.now c.args.right.now c.requires.rules

pub emit_numbers_compared-requires-then-is_numeric_operand-clause-right :
    goal.emit_numbers_compared-requires-then-is_numeric_operand-clause-right
emit_numbers_compared-requires-then-is_numeric_operand-clause-right c =
    right_kept (items_in c.args.self.now.declarations.now) c.args.left.now c.args.right.now c.requires.rules

pub emit_look-requires : goal.emit_look-requires
emit_look-requires c =
    let items = items_in c.args.self.now.declarations.now in
    let told : alone_side c.args.left.now ≡ Some (operand_of c.in-Some.one) =
    sym c.alone_side.ensures ∙ ap (option_map operand_of) c.in-Some.is in
    record {
      rules = side_kept items c.args.left.now (operand_of c.in-Some.one) told
          (left_kept items c.args.left.now c.args.right.now c.requires.rules);
    }

pub emit_pair_compared-requires-clause-left : goal.emit_pair_compared-requires-clause-left
emit_pair_compared-requires-clause-left c =
    let items = items_in c.args.self.now.declarations.now in
    let told : alone_side c.args.left.now ≡ Some (operand_of c.in-Some.one) =
    sym c.alone_side.ensures ∙ ap (option_map operand_of) c.in-Some.is in
    side_kept items c.args.left.now (operand_of c.in-Some.one) told
    (left_kept items c.args.left.now c.args.right.now c.requires.rules)

pub emit_pair_compared-requires-clause-right : goal.emit_pair_compared-requires-clause-right
emit_pair_compared-requires-clause-right c =
    let items = items_in c.args.self.now.declarations.now in
    let told : alone_side c.args.right.now ≡ Some (operand_of c.in-Some-alone_side.other) =
    sym c.alone_side-2.ensures ∙ ap (option_map operand_of) c.in-Some-alone_side.is in
    side_kept items c.args.right.now (operand_of c.in-Some-alone_side.other) told
    (right_kept items c.args.left.now c.args.right.now c.requires.rules)

pub returns : goal.returns
returns c =
    pair_compared (items_in c.args.self.now.declarations.now) c.args.left.now c.args.right.now c.args.relation
    c.emit_pair_compared.result (operand_of c.in-Some.one) (operand_of c.in-Some-alone_side.other) c.args.code.now
    c.if-takes_first.code c.emit_pair_compared.new.code c.takes_first.result (sym c.alone_side.ensures
    ∙ ap (option_map operand_of) c.in-Some.is) (sym c.alone_side-2.ensures ∙ ap (option_map operand_of)
    c.in-Some-alone_side.is) c.takes_first.ensures c.emit_pair_compared.ensures (elim c.if-takes_first.branch [
      | then-takes_first+else-is_numeric_operand+in_ok-emit_look w ↦
          inl (
            w.if-takes_first.true,
            sym w.is_numeric_operand.ensures ∙ w.if-is_numeric_operand.false,
            w.code-is ∙ w.in_ok-emit_look.ensures,
          )
      | else-takes_first w ↦ inr (w.if-takes_first.false, w.code-is)
    ])
