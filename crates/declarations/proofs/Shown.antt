-- What a reference shows of the items that its name names.
use Rattle.std.proofs.Common.{◌≡◌, List, [], ◌∷◌, None, Some, refl, ap, ◌∙◌}
use Rattle.std.specs.Prelude.{map, Option, Ok}
use Rattle.items.specs.declared.item.Item.{Item}
use Rattle.lexical.specs.declared.place.Place.{Place}
use Rattle.source_tree.specs.declared.reference.Part.{Part}
use Rattle.source_tree.specs.Broken.{RuleBreach}
use Rattle.source_tree.specs.Parts.{seen_by}
use Rattle.source_tree.specs.Places.{LocatedItem}
use Rattle.layout.specs.declared.placed.PlacedItem.{PlacedItem}
use Rattle.entry_rules.specs.declared.rule.BrokenRule.{BrokenRule}
use Rattle.entry_rules.specs.Checks.{broken_of}
use Rattle.declarations.specs.Found.{IsUnnamed}
use Rattle.declarations.specs.Named.{IsItemNamed}
use Rattle.declarations.specs.Seen.{item_seen, kind_seen, IsItemShown}

seen_item : (part : Option Part) (found : LocatedItem) → item_seen part found.item ≡ (seen_by part found).item
seen_item None found = refl
seen_item (Some part) found = refl

pub seen_kind : (part : Option Part) (found : LocatedItem)
    → kind_seen part found.item.kind ≡ (seen_by part found).item.kind
seen_kind None found = refl
seen_kind (Some part) found = refl

pub shows : (place : Place) (part : Option Part) (found : List LocatedItem) (placed : PlacedItem) (item : Item)
    → IsItemNamed place (Ok placed) found → item ≡ item_seen part placed.item
    → IsItemShown place (Ok item) (map (seen_by part) found)
shows place part found placed item named is = (
  seen_by part named.0,
  ap (map (seen_by part)) named.1,
  is ∙ ap (λ (p : PlacedItem). item_seen part p.item) named.2 ∙ seen_item part named.0,
)

-- What a name breaks is told of what it shows, too.
pub shows_none : (place : Place) (part : Option Part) (found : List LocatedItem) (broken : BrokenRule)
    → IsUnnamed place broken found → IsUnnamed place broken (map (seen_by part) found)
shows_none place part [] broken h = λ rules. h (λ one. [])
shows_none place part (one ∷ []) broken h = λ rules.
    (let no : ◌≡◌ {A = Option RuleBreach} None (Some (broken_of broken)) = h (λ one. []) in cc)
shows_none place part (one ∷ other ∷ more) broken h = λ rules. h (λ one. [])
