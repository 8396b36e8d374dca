use Rattle.declarations.specs.Named.{data_in, items_in}
use Rattle.statement_codegen.proofs.file_parts.file_named.Goals as goal

pub returns : goal.returns
returns c =
    let declarations = c.args.emitter.now.declarations.now in
    c.file_named.ensures (items_in declarations) (data_in declarations) declarations.declared.files
