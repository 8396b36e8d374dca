-- Parts of the rules of references.
use Rattle.std.specs.Prelude.{◌==◌, not, ◌&&◌, List, ◌++◌, length}
use Rattle.lexical.specs.declared.place.Place.{Place}
use Rattle.source_tree.specs.Broken.{RuleBreach, where_so}
use Rattle.source_tree.specs.declared.reference.QualifiedName.{QualifiedName}
use Rattle.source_tree.specs.declared.reference.Reference.{Reference}
use Rattle.source_tree.specs.LookUp.{items_named}
use Rattle.source_tree.specs.NameRules.{unique_name_rules, subscript_item, part_item_rules}
use Rattle.source_tree.specs.Parts.{seen_through, may_have_parts, has_part}
use Rattle.source_tree.specs.Places.{LocatedItem}
use Rattle.layout.specs.declared.placed.PlacedItem.{PlacedItem}

abbrev pub subscript_rules_of : List LocatedItem → QualifiedName → List RuleBreach
subscript_rules_of items item = unique_name_rules item.name.place (subscript_item item.name.place) (items_named items item)

-- 50 and 75 of an item, as it is placed
abbrev pub shape_rules : Reference → PlacedItem → List RuleBreach
shape_rules one placed =
    where_so (not (length one.subscripts == length placed.dimensions)) 50 one.item.name.place
    ++ where_so (has_part one && not (may_have_parts placed.item.kind)) 75 one.item.name.place

abbrev pub named_rules : List LocatedItem → (Place → LocatedItem → List RuleBreach) → Reference → List RuleBreach
named_rules items asked one =
    unique_name_rules one.item.name.place
    (λ found. where_so (not (length one.subscripts == length found.dimensions)) 50 one.item.name.place ++ part_item_rules one found
    ++ asked one.item.name.place (seen_through one found))
    (items_named items one.item)
