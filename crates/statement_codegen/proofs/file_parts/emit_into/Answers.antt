use Rattle.std.proofs.Common.{◌≡◌, List, [], ◌∷◌, Option, Some, refl, sym, ap, ◌∙◌}
use Rattle.items.specs.declared.taken.Taken.TheVariants as taken
use Rattle.source_tree.specs.declared.reference.Reference.{Reference}
use Rattle.source_tree.specs.Broken.{each}
use Rattle.source_tree.specs.FilingRules.{into_rules}
use Rattle.source_tree.specs.MoveRules.{receives}
use Rattle.source_tree.specs.NameRules.{number_rules_of, reference_rules}
use Rattle.file_descriptions.specs.Files.{file_in}
use Rattle.data_instructions.specs.declared.index.ItemIndex.{ItemIndex}
use Rattle.data_instructions.specs.declared.instruction.DataInstruction.TheVariants as i
use Rattle.declarations.specs.Named.{items_in, files_in}
use Rattle.condition_codegen.specs.Fragments.{append, sequence}
use Rattle.condition_codegen.specs.DataCode.{receivers_fragment, works_fragment}
use Rattle.statement_codegen.specs.FileCode.{into_fragment, sent_index}
use Rattle.condition_codegen.proofs.Kept.{both_kept, item_kept}
use Rattle.condition_codegen.proofs.Sequences.{ends_so, on_ok}
use Rattle.statement_codegen.proofs.file_parts.emit_into.Goals as goal

pub emit_receivers-requires : goal.emit_receivers-requires
emit_receivers-requires c =
    let items = items_in c.args.emitter.now.declarations.now in
    let file = file_in items c.args.file.now in
    let into = c.in-Some.into in
    let asked = receives (Some (taken.Item file.sent)) in
    let r : reference_rules items asked into ≡ [] =
    sym (ap (into_rules items (files_in c.args.emitter.now.declarations.now) file) c.in-Some.is) ∙ c.requires.rules in
    record {
      rules = ap (each (number_rules_of items)) c.from_ref.ensures.value
          ∙ both_kept (number_rules_of items into) [] (item_kept items asked into r) refl;
    }

pub returns : goal.returns
returns c =
    let items = items_in c.args.emitter.now.declarations.now in
    let known = file_in items c.args.file.now in
    let old = c.args.code.now in
    let found = works_fragment (i.Place (sent_index items known) ∷ i.Take ∷ []) in
    on_ok c.emit_receivers.result
    (ends_so c.emit_receivers.result found (receivers_fragment items c.from_ref.result.now) old c.emit_works.new.code
    c.emit_receivers.new.code (c.in_ok-emit_works.ensures ∙ ap (λ (index : ItemIndex).
    append old (works_fragment (i.Place index ∷ i.Take ∷ []) old)) c.in_ok-item.ensures) c.emit_receivers.ensures)
    (λ e. e ∙ ap (λ (all : List Reference). append old (sequence found (receivers_fragment items all) old))
    c.from_ref.ensures.value ∙ sym (ap (λ (one : Option Reference). append old (into_fragment items one known old))
    c.in-Some.is))
