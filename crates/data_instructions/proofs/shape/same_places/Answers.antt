use Rattle.std.proofs.lemmas.Slice.Eq.{slice_eq-Decides}
use Rattle.data_instructions.proofs.Same.{one_place}
use Rattle.data_instructions.proofs.shape.same_places.Goals as goal

pub returns : goal.returns
returns c = slice_eq-Decides one_place c.args.one.now c.args.other.now c.eq.result c.eq.ensures
