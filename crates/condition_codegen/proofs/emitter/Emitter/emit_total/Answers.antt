use Rattle.std.proofs.Common.{sym, ap, ◌∙◌, arith}
use Rattle.std.proofs.lemmas.Grind.{common_steps}
use Rattle.source_tree.specs.Broken.{each}
use Rattle.source_tree.specs.ArithmeticRules.{number_rules}
use Rattle.declarations.specs.Named.{items_in}
use Rattle.condition_codegen.proofs.Kept.{front_kept, back_kept}
use Rattle.condition_codegen.proofs.emitter.Emitter.emit_total.Goals as goal

pub emit_value-requires : goal.emit_value-requires
emit_value-requires c =
    let kept = number_rules (items_in c.args.self.now.declarations.now) in
    record {
      rules = front_kept (kept c.in-Some.first.now) (each kept c.in-Some.more.now)
          (sym (ap (each kept) c.in-Some.ensures.cases.0)
          ∙ c.requires.rules);
    }

pub emit_all_added-requires : goal.emit_all_added-requires
emit_all_added-requires c =
    let kept = number_rules (items_in c.args.self.now.declarations.now) in
    record {
      rules = back_kept (kept c.in-Some.first.now) (each kept c.in-Some.more.now)
          (sym (ap (each kept) c.in-Some.ensures.cases.0)
          ∙ c.requires.rules);
    }

pub returns : goal.returns
returns c = grind (arith, common_steps)
