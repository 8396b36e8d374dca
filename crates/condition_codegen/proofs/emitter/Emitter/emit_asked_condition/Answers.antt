use Rattle.std.proofs.Common.{sym, ap, ◌∙◌}
use Rattle.std.specs.Prelude.{not}
use Rattle.source_tree.specs.declared.condition.Condition.TheVariants.{Name}
use Rattle.source_tree.specs.ConditionRules.{condition_rules}
use Rattle.data_instructions.specs.ConditionCodes.{negation}
use Rattle.declarations.specs.declared.resolved.AskedCondition.{AskedCondition}
use Rattle.declarations.specs.Resolved.{condition_meant}
use Rattle.declarations.specs.Named.{items_in}
use Rattle.condition_codegen.specs.Fragments.{Fragment, append}
use Rattle.condition_codegen.specs.DataCode.{works_fragment}
use Rattle.condition_codegen.specs.ConditionCode.{condition_fragment}
use Rattle.condition_codegen.proofs.ConditionLayers.{name_is, name_rules}
use Rattle.condition_codegen.proofs.Questions.{unless_is, told_rules}
use Rattle.condition_codegen.proofs.Sequences.{ends_so, on_ok}
use Rattle.condition_codegen.proofs.emitter.Emitter.emit_asked_condition.Goals as goal

pub emit_condition_name-requires-clause-rules : goal.emit_condition_name-requires-clause-rules
emit_condition_name-requires-clause-rules c =
    let items = items_in c.args.self.now.declarations.now in
    let named = c.in-Name.reference.now in
    sym (name_rules items named) ∙ sym (told_rules items (not c.in-Name.negated) (Name named))
    ∙ sym (ap (λ (one : AskedCondition). condition_rules items (condition_meant one)) c.in-Name.is) ∙ c.requires.rules

pub returns-in_ok-emit_condition_name-in-Name : goal.returns-in_ok-emit_condition_name-in-Name
returns-in_ok-emit_condition_name-in-Name c =
    let items = items_in c.args.self.now.declarations.now in
    let old = c.args.code.now in
    let named = c.in-Name.reference.now in
    on_ok c.emit_negation.result
    (ends_so c.emit_negation.result (condition_fragment items (Name named))
    (works_fragment (negation c.in-Name.negated)) old c.emit_condition_name.new.code c.emit_negation.new.code
    (c.in_ok-emit_condition_name-in-Name.ensures
    ∙ ap (λ (p : Fragment). append old (p old)) (sym (name_is items named))) c.emit_negation.ensures)
    (λ e. e ∙ ap (append old) (unless_is items (Name named) c.in-Name.negated old) ∙ sym
    (ap (λ (one : AskedCondition). append old (condition_fragment items (condition_meant one) old)) c.in-Name.is))
