use Rattle.std.proofs.Common.{None, ap, sym, ◌∙◌}
use Rattle.source_tree.specs.Parts.{known_length}
use Rattle.data_instructions.specs.PartForms.{form_by, part_form}
use Rattle.std.specs.Prelude.{Some}
use Rattle.declarations.specs.Named.{items_in}
use Rattle.condition_codegen.specs.Fragments.{append}
use Rattle.condition_codegen.specs.DataCode.{making_fragment}
use Rattle.condition_codegen.proofs.ItemParts.{settled_making, other_making}
use Rattle.condition_codegen.proofs.Fragments.{joined_nothing}
use Rattle.condition_codegen.proofs.Sequences.{is_so}
use Rattle.condition_codegen.proofs.emitter.Emitter.emit_given_part.Goals as goal

pub returns-then-is_some : goal.returns-then-is_some
returns-then-is_some c =
    let items = items_in c.args.self.now.declarations.now in
    let old = c.args.code.now in
    sym (joined_nothing old)
    ∙ ap (append old) (settled_making items c.args.size old c.args.one.now c.known_begin.result c.known_begin.ensures
    (sym c.is_some.ensures ∙ c.if-is_some.true))

pub returns : goal.returns
returns c =
    let items = items_in c.args.self.now.declarations.now in
    let old = c.args.code.now in
    let one = c.args.one.now in
    let size = c.args.size in
    is_so c.emit_made.result c.emit_made.new.code
    (append old (making_fragment items size
    (form_by one.first one.length (known_length size one.first one.length) None) old))
    (append old (making_fragment items size (part_form size (Some one)) old)) c.emit_made.ensures
    (ap (append old) (other_making items size old one c.known_begin.result c.known_begin.ensures
    (sym c.is_some.ensures ∙ c.if-is_some.false)))
