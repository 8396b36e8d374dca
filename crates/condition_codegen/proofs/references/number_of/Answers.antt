use Rattle.condition_codegen.proofs.Kept.{room}
use Rattle.condition_codegen.proofs.references.number_of.Goals as goal

pub number_after-requires : goal.number_after-requires
number_after-requires c = room c.args.one.now c.as_slice.result.now c.requires c.as_slice.ensures
