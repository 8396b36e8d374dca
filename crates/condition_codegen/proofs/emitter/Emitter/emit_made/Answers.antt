use Rattle.std.proofs.Common.{ℕ, Option, None, ap, sym, ◌∙◌}
use Rattle.source_tree.specs.NameRules.{subscript_rules, length_rules}
use Rattle.data_instructions.specs.declared.part.Part.TheVariants as made
use Rattle.data_instructions.specs.PartForms.{form_by}
use Rattle.declarations.specs.Named.{items_in}
use Rattle.condition_codegen.specs.Fragments.{append}
use Rattle.condition_codegen.specs.DataCode.{subscript_fragment, part_fragment, unknown_fragment, making_fragment}
use Rattle.condition_codegen.proofs.ItemParts.{unknown_making}
use Rattle.condition_codegen.proofs.Kept.{front_kept, back_kept}
use Rattle.condition_codegen.proofs.Sequences.{ends_so, on_ok}
use Rattle.condition_codegen.proofs.emitter.Emitter.emit_made.Goals as goal

pub emit_subscript-requires : goal.emit_subscript-requires
emit_subscript-requires c =
    let items = items_in c.args.self.now.declarations.now in
    record {
      rules = front_kept (subscript_rules items c.args.one.now.first) (length_rules items c.args.one.now.length)
          c.requires.rules;
    }

pub emit_unknown-requires : goal.emit_unknown-requires
emit_unknown-requires c =
    let items = items_in c.args.self.now.declarations.now in
    record {
      rules = back_kept (subscript_rules items c.args.one.now.first) (length_rules items c.args.one.now.length)
          c.requires.rules;
    }

pub returns-in-Some : goal.returns-in-Some
returns-in-Some c =
    let items = items_in c.args.self.now.declarations.now in
    let old = c.args.code.now in
    let one = c.args.one.now in
    let size = c.args.size in
    on_ok c.emit_part.result
    (ends_so c.emit_part.result (subscript_fragment items one.first) (part_fragment (made.Fixed size)) old
    c.emit_subscript.new.code c.emit_part.new.code c.in_ok-emit_subscript.ensures c.emit_part.ensures)
    (λ e. e ∙ ap (λ (known : Option ℕ). append old (making_fragment items size
    (form_by one.first one.length known None) old)) (sym c.in-Some.is ∙ c.known_length.ensures))

pub returns-in-None : goal.returns-in-None
returns-in-None c =
    let items = items_in c.args.self.now.declarations.now in
    let old = c.args.code.now in
    let one = c.args.one.now in
    let size = c.args.size in
    on_ok c.emit_unknown.result
    (ends_so c.emit_unknown.result (subscript_fragment items one.first) (unknown_fragment items one.length) old
    c.emit_subscript.new.code c.emit_unknown.new.code c.in_ok-emit_subscript.ensures c.emit_unknown.ensures)
    (λ e. e ∙ ap (append old) (unknown_making items size old one.first one.length)
    ∙ ap (λ (known : Option ℕ). append old (making_fragment items size (form_by one.first one.length known None) old))
    (sym c.in-None.is ∙ c.known_length.ensures))
