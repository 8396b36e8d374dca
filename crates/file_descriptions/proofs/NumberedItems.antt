-- The item of a clause, by its number.
use Rattle.std.proofs.Common.{◌≡◌, List, [], ◌∷◌, refl, sym, ap, ◌∙◌}
use Rattle.std.specs.Prelude.{Option, Some, None, IfSome}
use Rattle.source_tree.specs.declared.reference.QualifiedName.{QualifiedName}
use Rattle.source_tree.specs.declared.reference.Reference.{Reference}
use Rattle.source_tree.specs.Places.{LocatedItem}
use Rattle.source_tree.specs.LookUp.{items_named, first}
use Rattle.source_tree.specs.ProgramFiles.{plain_place, item_place}
use Rattle.name_table.specs.declared.look_up.LookUp.{LookUp}
use Rattle.name_table.specs.declared.look_up.LookUp.TheVariants.{Unknown, One, Several}
use Rattle.name_table.specs.Items.{IsNamed}
use Rattle.name_table.proofs.Picked.{named_items}
use Rattle.file_descriptions.specs.Clauses.{only_number, clause_number, NamesOne}
use Rattle.file_descriptions.specs.Files.{place_at}

by_number : (items : List LocatedItem) (name : QualifiedName) (one : LocatedItem) (found : LookUp)
    → IsNamed items name found → items_named items name ≡ one ∷ []
    → place_at items (only_number found) ≡ plain_place (first (items_named items name))
by_number items name one Unknown h e = let wrong = sym h ∙ e in cc
by_number items name one (One number) h e = ap plain_place (h.1 ∙ sym (ap first h.2))
by_number items name one Several h e = let wrong = sym h.3 ∙ e in cc

pub place_numbered : (items : List LocatedItem) (clause : Option Reference) → IfSome clause (NamesOne items)
    → place_at items (clause_number items clause) ≡ item_place items clause
place_numbered items None h = refl
place_numbered items (Some one) h = by_number items one.item h.one _ (named_items items one.item) h.named
