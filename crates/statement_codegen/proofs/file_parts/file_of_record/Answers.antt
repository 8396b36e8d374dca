use Rattle.std.proofs.Common.{ℕ, sym, ap, ◌∙◌}
use Rattle.std.specs.Prelude.{Option}
use Rattle.source_tree.specs.Filing.{file_with_record}
use Rattle.source_tree.specs.LookUp.{first}
use Rattle.source_tree.specs.Places.{LocatedItem}
use Rattle.source_tree.specs.ProgramFiles.{files_with}
use Rattle.declarations.specs.Named.{data_in, items_in, files_in}
use Rattle.statement_codegen.proofs.OneNamed.{area_named, not_missing}
use Rattle.statement_codegen.proofs.file_parts.file_of_record.Goals as goal

pub returns-in_err-found : goal.returns-in_err-found
returns-in_err-found c =
    let declarations = c.args.emitter.now.declarations.now in
    absurd (not_missing (items_in declarations) c.args.one.now c.requires.named declarations.layout.items
    c.item_number-number.result declarations.declared.items
    c.item_number-number.ensures c.in_err-found.ensures.value)

pub returns : goal.returns
returns c =
    let declarations = c.args.emitter.now.declarations.now in
    let items = items_in declarations in
    let files = files_in declarations in
    let named = c.requires.named in
    let found = c.in_ok-found.found.now in
    ap (λ (one : Option LocatedItem). file_with_record files one) (ap first named.named)
    ∙ ap (λ (area : ℕ). first (files_with files area))
    (sym (area_named items c.args.one.now named declarations.layout.items c.item_number-number.result
    declarations.declared.items c.item_number-number.ensures found c.in_ok-found.ensures.value))
    ∙ c.file_with.ensures items (data_in declarations) declarations.declared.files
