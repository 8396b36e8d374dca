use Rattle.std.proofs.Common.{ap, ◌∙◌, ◌<◌, ◌≤◌, length, arith}
use Rattle.std.proofs.lemmas.Grind.{common_steps}
use Rattle.source_tree.specs.NameRules.{subscript_rules}
use Rattle.declarations.specs.Named.{items_in}
use Rattle.condition_codegen.proofs.Kept.{one_kept}
use Rattle.condition_codegen.proofs.Subscripts.{subscripts_done}
use Rattle.condition_codegen.proofs.emitter.Emitter.emit_subscripts.Goals as goal

pub returns-in_default : goal.returns-in_default
returns-in_default c =
    let le : length c.args.subscripts.now ≤ c.loop-number.number = grind (arith, common_steps) in
    subscripts_done (items_in c.args.self.now.declarations.now) c.args.dimensions.now c.args.subscripts.now
    c.loop-number.number c.loop-number.code _ le c.loop-number.invariant

pub emit_indexing-requires : goal.emit_indexing-requires
emit_indexing-requires c =
    let items = items_in c.args.self.now.declarations.now in
    let lt : c.loop-number.number < length c.args.subscripts.now = grind (arith, common_steps) in
    let seen = c.in-Some.ensures.lookup in
    record {
      rules = ap (subscript_rules items) seen.1
          ∙ one_kept (subscript_rules items) c.args.subscripts.now c.loop-number.number c.in-Some.one.now lt
          c.requires.rules;
    }

pub loop-number-preserved : goal.loop-number-preserved
loop-number-preserved c = grind (arith, common_steps)
