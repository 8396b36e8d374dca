use Rattle.std.proofs.Common.{[], length, get_or, ap, arith, ◌∙◌}
use Rattle.declarations.specs.Named.{items_in, files_in}
use Rattle.codegen.specs.Sent.{code_in}
use Rattle.codegen.proofs.StorageItems.{mapped_more, codes_all}
use Rattle.codegen.proofs.file_table.put_files.Goals as goal

pub loop-file-preserved : goal.loop-file-preserved
loop-file-preserved c =
    let i = c.loop-file.file-index in
    let one = c.file-item.result in
    let same = c.as_slice-file-items.ensures.value in
    mapped_more code_in c.args.declarations.now.files.files.items i one [] c.loop-file.files c.push.new.self
    c.in_ok-code_file.field-0 (omega (arith, c.loop-file-test.true, ap length same))
    (c.file-item.is ∙ ap (λ l. get_or l i one) same) c.in_ok-code_file.ensures c.loop-file.invariant
    c.in_ok-push.ensures.ok

pub returns : goal.returns
returns c =
    let declarations = c.args.declarations.now in
    let same = c.as_slice-file-items.ensures.value in
    codes_all (items_in declarations) declarations.selects.now declarations.files.files.items (files_in declarations)
    c.loop-file.file-index
    c.loop-file.files (omega (arith, c.loop-file-test.false, ap length same))
    c.loop-file.invariant
    declarations.declared.files.numbers declarations.declared.files.files
