use Rattle.records.specs.Stores.{spec_of}
use Rattle.alternate_keys.proofs.RowForms.{fits_form}
use Rattle.alternate_keys.proofs.file_tree.row_tree.Goals as goal

pub new-requires-clause-form : goal.new-requires-clause-form
new-requires-clause-form c = fits_form (spec_of c.args.file.now) c.tree_layout-layout.result c.chained_bytes.result
    c.args.file.now.sound c.tree_layout-layout.ensures.layout c.chained_bytes.ensures
