use Rattle.source_tree.proofs.Parts.{whole_items, whole_place, whole_numbers, part_within}
use Rattle.source_tree.proofs.laws.part_law.Goals as goal

pub returns : goal.returns
returns c = record { items = whole_items; place = whole_place; numbers = whole_numbers; within = part_within }
