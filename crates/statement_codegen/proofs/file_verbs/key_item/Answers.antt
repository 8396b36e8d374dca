use Rattle.declarations.specs.Named.{items_in}
use Rattle.statement_codegen.proofs.OneNamed.{key_offset, key_bytes, not_missing}
use Rattle.statement_codegen.proofs.file_verbs.key_item.Goals as goal

pub returns-in-Some-clause-offset : goal.returns-in-Some-clause-offset
returns-in-Some-clause-offset c =
    let declarations = c.args.emitter.now.declarations.now in
    key_offset (items_in declarations) c.args.one.now c.requires.named declarations.layout.items c.item_number.result
    declarations.declared.items c.item_number.ensures
    c.in-Some.found.now c.in-Some.ensures.value

pub returns-in-Some-clause-length : goal.returns-in-Some-clause-length
returns-in-Some-clause-length c =
    let declarations = c.args.emitter.now.declarations.now in
    key_bytes (items_in declarations) c.args.one.now c.requires.named declarations.layout.items c.item_number.result
    declarations.declared.items c.item_number.ensures
    c.in-Some.found.now c.in-Some.ensures.value

pub returns-in-None-clause-offset : goal.returns-in-None-clause-offset
returns-in-None-clause-offset c =
    let declarations = c.args.emitter.now.declarations.now in
    absurd (not_missing (items_in declarations) c.args.one.now c.requires.named declarations.layout.items
    c.item_number.result declarations.declared.items c.item_number.ensures
    c.in-None.ensures.value)

pub returns-in-None-clause-length : goal.returns-in-None-clause-length
returns-in-None-clause-length c =
    let declarations = c.args.emitter.now.declarations.now in
    absurd (not_missing (items_in declarations) c.args.one.now c.requires.named declarations.layout.items
    c.item_number.result declarations.declared.items c.item_number.ensures
    c.in-None.ensures.value)
