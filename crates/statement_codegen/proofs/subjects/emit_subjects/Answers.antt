use Rattle.std.proofs.Common.{rules, ◌≡◌, false, List, sym, ap, arith, ◌∙◌}
use Rattle.std.proofs.lemmas.Grind.{common_steps}
use Rattle.source_tree.specs.declared.evaluate_statement.Selected.{Selected}
use Rattle.source_tree.specs.declared.evaluate_statement.Subject.{Subject}
use Rattle.source_tree.specs.declared.statement.Statement.{Statement}
use Rattle.declarations.specs.Named.{items_in}
use Rattle.condition_codegen.specs.Fragments.{append}
use Rattle.statement_codegen.specs.SubjectCode.{first_object, each_subject_fragment, is_asked_first}
use Rattle.condition_codegen.proofs.Sequences.{on_ok}
use Rattle.statement_codegen.proofs.SubjectLooks.{all_looks}
use Rattle.statement_codegen.proofs.subjects.emit_subjects.Goals as goal

pub returns : goal.returns
returns c =
    let items = items_in c.args.emitter.now.declarations.now in
    let old = c.args.code.now in
    let one = c.args.one.now in
    let object = first_object one.selected in
    let so : c.is_asked_first.result ≡ false = first_of (search rules, grind (arith, common_steps)) in
    let asks : is_asked_first items one.subjects object ≡ false =
    sym (ap (λ (l : List Subject). is_asked_first items l object) c.as_slice-subjects.ensures)
    ∙ sym (ap (is_asked_first items c.as_slice-subjects.result.now)
    (c.first_object.ensures ∙ ap (λ (l : List (Selected Statement)). first_object l) c.as_slice.ensures))
    ∙ sym c.is_asked_first.ensures ∙ so in
    on_ok c.emit_each_subject.result c.emit_each_subject.ensures
    (λ e. e ∙ ap (λ (l : List Subject). append old (each_subject_fragment items l old)) c.as_slice-subjects.ensures
    ∙ ap (append old) (all_looks items one.subjects object old asks))
