use Rattle.std.proofs.Common.{Option, sym, ap, ◌∙◌}
use Rattle.source_tree.specs.declared.condition.Relation.TheVariants.{Equal, GreaterOrEqual, LessOrEqual}
use Rattle.source_tree.specs.declared.condition.Side.{Side}
use Rattle.source_tree.specs.ConditionRules.{condition_rules}
use Rattle.source_tree.specs.Evaluate.{value_within}
use Rattle.declarations.specs.Named.{items_in}
use Rattle.condition_codegen.specs.Fragments.{Fragment, append, sequence}
use Rattle.condition_codegen.specs.ConditionCode.{relation_fragment, and_fragment, condition_fragment}
use Rattle.condition_codegen.proofs.ConditionLayers.{relation_is, relation_kept}
use Rattle.condition_codegen.proofs.Questions.{between_is, from_rules, last_rules}
use Rattle.condition_codegen.proofs.Sequences.{is_so}
use Rattle.condition_codegen.proofs.emitter.Emitter.emit_within.Goals as goal

pub emit_relation-requires : goal.emit_relation-requires
emit_relation-requires c =
    let items = items_in c.args.self.now.declarations.now in
    record {
      rules = sym (relation_kept items c.args.value.now Equal c.args.first.now)
          ∙ sym
          (ap (λ (o : Option Side). condition_rules items (value_within c.args.value.now c.args.first.now o))
          c.in-None.is)
          ∙ c.requires.rules;
    }

pub emit_between-requires-clause-first : goal.emit_between-requires-clause-first
emit_between-requires-clause-first c =
    let items = items_in c.args.self.now.declarations.now in
    from_rules items c.args.value.now c.args.first.now c.in-Some.last
    (sym (ap (λ (o : Option Side). condition_rules items (value_within c.args.value.now c.args.first.now o))
    c.in-Some.is) ∙ c.requires.rules)

pub emit_between-requires-clause-last : goal.emit_between-requires-clause-last
emit_between-requires-clause-last c =
    let items = items_in c.args.self.now.declarations.now in
    last_rules items c.args.value.now c.args.first.now c.in-Some.last
    (sym (ap (λ (o : Option Side). condition_rules items (value_within c.args.value.now c.args.first.now o))
    c.in-Some.is) ∙ c.requires.rules)

pub returns-in-None : goal.returns-in-None
returns-in-None c =
    let items = items_in c.args.self.now.declarations.now in
    let old = c.args.code.now in
    let value = c.args.value.now in
    let first = c.args.first.now in
    is_so c.emit_relation.result c.emit_relation.new.code (append old (relation_fragment items value Equal first old))
    (append old (condition_fragment items (value_within value first c.args.last.now) old)) c.emit_relation.ensures
    (ap (λ (p : Fragment). append old (p old)) (sym (relation_is items value Equal first))
    ∙ sym
    (ap (λ (o : Option Side). append old (condition_fragment items (value_within value first o) old)) c.in-None.is))

pub returns-in-Some : goal.returns-in-Some
returns-in-Some c =
    let items = items_in c.args.self.now.declarations.now in
    let old = c.args.code.now in
    let value = c.args.value.now in
    let first = c.args.first.now in
    let last = c.in-Some.last in
    is_so c.emit_between.result c.emit_between.new.code
    (append old (sequence (relation_fragment items value GreaterOrEqual first)
    (and_fragment (relation_fragment items value LessOrEqual last)) old))
    (append old (condition_fragment items (value_within value first c.args.last.now) old)) c.emit_between.ensures
    (ap (append old) (between_is items value first last old)
    ∙ sym
    (ap (λ (o : Option Side). append old (condition_fragment items (value_within value first o) old)) c.in-Some.is))
