use Rattle.std.proofs.Common.{rules, ◌≡◌, false, sym, ap, arith, ◌∙◌}
use Rattle.std.proofs.lemmas.Grind.{common_steps}
use Rattle.source_tree.specs.declared.condition.Relation.TheVariants.{Equal}
use Rattle.source_tree.specs.declared.condition.Side.{Side}
use Rattle.declarations.specs.Named.{items_in}
use Rattle.condition_codegen.specs.Fragments.{append}
use Rattle.condition_codegen.specs.ConditionCode.{relation_fragment}
use Rattle.statement_codegen.specs.SubjectCode.{value_look, look_fragment}
use Rattle.condition_codegen.proofs.Sequences.{is_so}
use Rattle.statement_codegen.proofs.SubjectLooks.{one_look}
use Rattle.statement_codegen.proofs.subjects.emit_value_look.Goals as goal

pub returns : goal.returns
returns c =
    let items = items_in c.args.emitter.now.declarations.now in
    let value = c.args.value.now in
    let old = c.args.code.now in
    let so : c.is_faultless.result ≡ false = first_of (search rules, grind (arith, common_steps)) in
    is_so c.emit_relation-looked.result c.emit_relation-looked.new.code
    (append old (relation_fragment items value Equal c.zero_side-zero.result old))
    (append old (look_fragment items (value_look items value) old)) c.emit_relation-looked.ensures
    (ap (λ (zero : Side). append old (relation_fragment items value Equal zero old)) c.zero_side-zero.ensures
    ∙ ap (append old) (one_look items value old (sym c.is_faultless.ensures ∙ so)))
