use Rattle.std.proofs.Common.{List, ◌∷◌, sym, ap, ◌∙◌}
use Rattle.source_tree.specs.declared.evaluate_statement.Subject.{Subject}
use Rattle.source_tree.specs.declared.evaluate_statement.Object.{Object}
use Rattle.source_tree.specs.Broken.{each}
use Rattle.source_tree.specs.ConditionRules.{condition_rules}
use Rattle.source_tree.specs.Evaluate.{object_conditions}
use Rattle.declarations.specs.Named.{items_in}
use Rattle.condition_codegen.proofs.Questions.{pair_rules}
use Rattle.condition_codegen.proofs.AskedPairs.{pairs_next, pairs_kept}
use Rattle.condition_codegen.proofs.emitter.Emitter.emit_each_asked.Goals as goal

pub emit_and_asked-requires-clause-rules : goal.emit_and_asked-requires-clause-rules
emit_and_asked-requires-clause-rules c =
    let items = items_in c.args.self.now.declarations.now in
    let subject = c.in-Some.subject.now in
    let more = c.in-Some.more.now in
    let kept = each (condition_rules items) in
    pair_rules items subject more c.in-Some-split_first.object.now c.in-Some-split_first.others.now
    (sym (ap (λ (l : List Subject). kept (object_conditions items l c.pairs.rest.now)) c.in-Some.ensures.cases.0
    ∙ ap (λ (l : List Object). kept (object_conditions items (subject ∷ more) l)) c.in-Some-split_first.ensures.cases.0)
    ∙ c.pairs.invariant.rules)

pub pairs-preserved : goal.pairs-preserved
pairs-preserved c =
    let items = items_in c.args.self.now.declarations.now in
    let subject = c.in-Some.subject.now in
    let more = c.in-Some.more.now in
    let object = c.in-Some-split_first.object.now in
    let others = c.in-Some-split_first.others.now in
    record {
      same = pairs_next items subject more object others _ c.pairs.rest.now c.in-Some.ensures.cases.0
          c.in-Some-split_first.ensures.cases.0 c.pairs.code c.emit_and_asked.new.code c.in_ok-emit_and_asked.ensures
          ∙ c.pairs.invariant.same;
      rules = pairs_kept items subject more object others _ c.pairs.rest.now c.in-Some.ensures.cases.0
          c.in-Some-split_first.ensures.cases.0 c.pairs.invariant.rules;
    }
