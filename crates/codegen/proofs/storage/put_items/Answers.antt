use Rattle.std.proofs.Common.{map, length, get_or, ap, ◌∙◌, arith}
use Rattle.data_instructions.specs.Codes.{data_item}
use Rattle.file_descriptions.specs.Files.{file_in}
use Rattle.declarations.specs.Named.{items_in, files_in}
use Rattle.statement_codegen.specs.FileCode.{sent_entry}
use Rattle.codegen.proofs.StorageItems.{mapped_more, sent_all}
use Rattle.codegen.proofs.storage.put_items.Goals as goal

pub loop-file-preserved : goal.loop-file-preserved
loop-file-preserved c =
    let items = items_in c.args.declarations.now in
    let all = c.args.declarations.now.files.files.items in
    let i = c.loop-file.file-index in
    let one = c.file-item.result in
    let same = c.as_slice-file-items.ensures.value in
    mapped_more (λ file. sent_entry items (file_in items file)) all i one (map data_item items) c.loop-file.items
    c.push.new.self
    c.in_ok-sent_entry.field-0 (omega (arith, c.loop-file-test.true, ap length same))
    (c.file-item.is ∙ ap (λ l. get_or l i one) same)
    c.in_ok-sent_entry.ensures c.loop-file.invariant c.in_ok-push.ensures.ok

pub returns : goal.returns
returns c =
    let declarations = c.args.declarations.now in
    let same = c.as_slice-file-items.ensures.value in
    sent_all (items_in declarations) declarations.files.files.items (files_in declarations) c.loop-file.file-index
    c.loop-file.items
    (omega (arith, c.loop-file-test.false, ap length same)) c.loop-file.invariant
    declarations.declared.files.files
