use Rattle.std.proofs.Common.{arith}
use Rattle.std.proofs.lemmas.Grind.{common_steps}
use Rattle.data_machine.proofs.Newest.{some_place, item_within}
use Rattle.data_machine.proofs.data.Data.part_fixed.Goals as goal

pub pop-place-requires : goal.pop-place-requires
pop-place-requires c =
    some_place c.args.tables.now c.args.self.now.areas c.args.self.now.places.newest_first c.requires.place

pub item_of-one-requires : goal.item_of-one-requires
item_of-one-requires c =
    item_within c.args.tables.now c.args.self.now.areas c.args.self.now.places.newest_first
    c.requires.place c.pop-place.result c.pop-place.new.self.newest_first c.pop-place.ensures.newest

pub returns-clause-keeps : goal.returns-clause-keeps
returns-clause-keeps c = grind (arith, common_steps)
