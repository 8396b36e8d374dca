use Rattle.std.proofs.Common.{sym, ap, ◌∙◌}
use Rattle.source_tree.specs.ConditionRules.{varying_rules}
use Rattle.declarations.specs.Named.{items_in}
use Rattle.codegen.proofs.Varying.{from_kept, varied_kept}
use Rattle.codegen.proofs.until.emit_vary_begin.Goals as goal

pub emit_sender-requires : goal.emit_sender-requires
emit_sender-requires c =
    let items = items_in c.args.emitter.now.declarations.now in
    record {
      rules = from_kept items c.in-Some.varying (sym (ap (varying_rules items) c.in-Some.is) ∙ c.requires.rules);
    }

pub emit_taking-requires : goal.emit_taking-requires
emit_taking-requires c =
    let items = items_in c.args.emitter.now.declarations.now in
    record {
      rules = varied_kept items c.in-Some.varying (sym (ap (varying_rules items) c.in-Some.is) ∙ c.requires.rules);
    }
