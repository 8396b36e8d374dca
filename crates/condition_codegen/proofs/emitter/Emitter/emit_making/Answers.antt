use Rattle.std.proofs.Common.{Option, ap, sym, ◌∙◌}
use Rattle.std.specs.Prelude.{Some}
use Rattle.source_tree.specs.declared.reference.Part.{Part}
use Rattle.source_tree.specs.NameRules.{part_rules}
use Rattle.data_instructions.specs.PartForms.{part_form}
use Rattle.declarations.specs.Named.{items_in}
use Rattle.condition_codegen.specs.Fragments.{append}
use Rattle.condition_codegen.specs.DataCode.{making_fragment}
use Rattle.condition_codegen.proofs.Sequences.{is_so}
use Rattle.condition_codegen.proofs.emitter.Emitter.emit_making.Goals as goal

pub emit_given_part-requires : goal.emit_given_part-requires
emit_given_part-requires c =
    let rules = part_rules (items_in c.args.self.now.declarations.now) in
    record { rules = ap (λ (p : Part). rules (Some p)) c.part.ensures ∙ sym (ap rules c.in-Some.is) ∙ c.requires.rules }

pub returns-in-Some : goal.returns-in-Some
returns-in-Some c =
    let items = items_in c.args.self.now.declarations.now in
    let old = c.args.code.now in
    let size = c.args.size in
    let made = λ (p : Option Part). append old (making_fragment items size (part_form size p) old) in
    is_so c.emit_given_part.result c.emit_given_part.new.code (made (Some c.part.result.now))
    (made c.args.part.now) c.emit_given_part.ensures
    (ap (λ (p : Part). made (Some p)) c.part.ensures ∙ sym (ap made c.in-Some.is))
