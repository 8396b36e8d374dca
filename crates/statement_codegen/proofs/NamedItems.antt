-- The one item that a name names, and its number.
use Rattle.std.proofs.Common.{◌≡◌, List, [], ◌∷◌, map, Some, refl}
use Rattle.std.proofs.Common.{sym, ap, ◌∙◌}
use Rattle.std.specs.Prelude.{slice_get}
use Rattle.lexical.specs.declared.place.Place.{Place}
use Rattle.source_tree.specs.declared.reference.QualifiedName.{QualifiedName}
use Rattle.source_tree.specs.Broken.{RuleBreach}
use Rattle.source_tree.specs.LookUp.{items_named}
use Rattle.source_tree.specs.NameRules.{unique_name_rules}
use Rattle.source_tree.specs.Places.{LocatedItem}
use Rattle.name_table.specs.declared.look_up.LookUp.{LookUp}
use Rattle.name_table.specs.declared.look_up.LookUp.TheVariants.{Unknown, One, Several}
use Rattle.name_table.specs.Items.{called_item, IsNamed}
use Rattle.name_table.specs.Positions.{look_up}
use Rattle.name_table.proofs.Picked.{named_items}
use Rattle.condition_codegen.specs.DataCode.{found_number, item_number}

-- the only item that a name names
pub only_named : (place : Place) (rules : LocatedItem → List RuleBreach) (found : List LocatedItem)
    → unique_name_rules place rules found ≡ [] → (one : LocatedItem) × (found ≡ one ∷ []) × (rules one ≡ [])
only_named place rules [] e = absurd cc
only_named place rules (one ∷ []) e = (one, refl, e)
only_named place rules (one ∷ other ∷ more) e = absurd cc

found_one : (items : List LocatedItem) (name : QualifiedName) (one : LocatedItem) (found : LookUp)
    → IsNamed items name found → items_named items name ≡ one ∷ [] → slice_get items (found_number found) ≡ Some one
found_one items name one Unknown is e = absurd (none is e)
  where
    none : items_named items name ≡ [] → items_named items name ≡ one ∷ [] → ⊥
    none a b = cc
found_one items name one (One n) is e = is.1 ∙ ap Some (same is.0 (sym is.2 ∙ e))
  where
    same : (x : LocatedItem) → x ∷ [] ≡ one ∷ [] → x ≡ one
    same x e = cc
found_one items name one Several is e = absurd (more is.0 is.1 is.2 (sym is.3 ∙ e))
  where
    more : (x y : LocatedItem) (zs : List LocatedItem) → x ∷ y ∷ zs ≡ one ∷ [] → ⊥
    more x y zs e = cc

pub item_there : (items : List LocatedItem) (name : QualifiedName) (one : LocatedItem)
    → items_named items name ≡ one ∷ [] → slice_get items (item_number items name) ≡ Some one
item_there items name one e = found_one items name one (look_up name (map called_item items)) (named_items items name) e
