-- What a sender asks of receivers, and what a name breaks that names no one thing.
use Rattle.std.proofs.Common.{◌≡◌, List, [], ◌∷◌, ◌++◌, None, Some, length, refl, sym, ap, ◌∙◌, subst}
use Rattle.std.specs.Prelude.{◌==◌, not, Option, Result}
use Rattle.items.specs.declared.item.Kind.{Kind}
use Rattle.items.specs.declared.taken.Taken.{Taken}
use Rattle.lexical.specs.declared.place.Place.{Place}
use Rattle.source_tree.specs.declared.phrases.FilePhrases.{FilePhrases}
use Rattle.source_tree.specs.declared.reference.Part.{Part}
use Rattle.source_tree.specs.declared.reference.Reference.{Reference}
use Rattle.source_tree.specs.Broken.{RuleBreach, where_so}
use Rattle.source_tree.specs.LookUp.{items_named, first}
use Rattle.source_tree.specs.MoveRules.{only_item, receives}
use Rattle.source_tree.specs.NameRules.{unique_name_rules, part_item_rules, no_part_rules}
use Rattle.source_tree.specs.Places.{LocatedItem}
use Rattle.source_tree.specs.ProgramFiles.{ProgramFile}
use Rattle.source_tree.specs.Parts.{seen_by, seen_through}
use Rattle.source_tree.specs.FilingRules.{record_item}
use Rattle.source_tree.specs.InspectRules.{AnySize, only_size}
use Rattle.source_tree.specs.StringRules.{only_length}
use Rattle.layout.specs.declared.placed.PlacedItem.{PlacedItem}
use Rattle.layout.specs.Placing.{placed_item}
use Rattle.entry_rules.specs.declared.rule.BrokenRule.{BrokenRule}
use Rattle.entry_rules.specs.Checks.{IsFirstBreach}
use Rattle.declarations.specs.Seen.{kind_seen}
use Rattle.declarations.proofs.Firsts.{first_front}
use Rattle.declarations.proofs.Shown.{seen_kind}
use Rattle.check_rules.specs.declared.asked.Asked.{Asked}
use Rattle.check_rules.specs.Asking.{asks, asks_kind, asked_by}
use Rattle.check_rules.specs.Filed.{whole_record}
use Rattle.check_rules.specs.References.{shape_rules, named_rules}

-- What a MOVE asks of its receivers is what is asked for what it sends.
pub asks_receives : (from : Option Taken) → asks (asked_by from) ≡ receives from
asks_receives None = refl
asks_receives (Some from) = refl

-- What doesn't name one item sends nothing.
pub sends_nothing : (place : Place) (found : List LocatedItem) (broken : RuleBreach)
    → ((rules : LocatedItem → List RuleBreach) → first (unique_name_rules place rules found) ≡ Some broken)
    → only_item found ≡ None
sends_nothing place [] broken h = refl
sends_nothing place (one ∷ []) broken h = let no : ◌≡◌ {A = Option RuleBreach} None (Some broken) =
    h (λ found. []) in cc
sends_nothing place (one ∷ other ∷ more) broken h = refl

-- What doesn't name one item has no bytes.
pub no_length : (place : Place) (found : List LocatedItem) (broken : RuleBreach)
    → ((rules : LocatedItem → List RuleBreach) → first (unique_name_rules place rules found) ≡ Some broken)
    → only_length found ≡ 0
no_length place [] broken h = refl
no_length place (one ∷ []) broken h = let no : ◌≡◌ {A = Option RuleBreach} None (Some broken) = h (λ found. []) in cc
no_length place (one ∷ other ∷ more) broken h = refl

-- What doesn't name one item has any size.
pub no_size : (place : Place) (found : List LocatedItem) (broken : RuleBreach)
    → ((rules : LocatedItem → List RuleBreach) → first (unique_name_rules place rules found) ≡ Some broken)
    → (part : Option Part) → only_size part found ≡ AnySize
no_size place [] broken h part = refl
no_size place (one ∷ []) broken h part = let no : ◌≡◌ {A = Option RuleBreach} None (Some broken) = h (λ found. []) in cc
no_size place (one ∷ other ∷ more) broken h part = refl

-- ---- after rules that are kept

pub kept_before : {A : Type 0} (result : Result A BrokenRule) (xs ys : List RuleBreach) → xs ≡ []
    → IsFirstBreach result ys → IsFirstBreach result (xs ++ ys)
kept_before result xs ys none h = subst (λ (l : List RuleBreach). IsFirstBreach result (l ++ ys)) (sym none) h

-- ---- the item that a reference names alone, and what is asked of what the reference shows of it

module _ (items : List LocatedItem) (one : Reference) (item : LocatedItem) (placed : PlacedItem)
    (only : items_named items one.item ≡ item ∷ []) (stands : placed ≡ placed_item item) where
  module _ (asked : Place → LocatedItem → List RuleBreach) where
    abbrev fifty : List RuleBreach
    fifty = where_so (not (length one.subscripts == length item.dimensions)) 50 one.item.name.place

    abbrev behind : List RuleBreach
    behind = asked one.item.name.place (seen_through one item)

    only_rules : named_rules items asked one ≡ fifty ++ part_item_rules one item ++ behind
    only_rules = ap (λ (l : List LocatedItem). unique_name_rules one.item.name.place (λ (found : LocatedItem).
        where_so (not (length one.subscripts == length found.dimensions)) 50 one.item.name.place
        ++ part_item_rules one found ++ asked one.item.name.place (seen_through one found)) l) only

    shape_is : shape_rules one placed ≡ fifty ++ part_item_rules one item
    shape_is = ap (shape_rules one) stands

    pub shape_refused : (broken : RuleBreach) → first (shape_rules one placed) ≡ Some broken
        → first (named_rules items asked one) ≡ Some broken
    shape_refused broken h =
        ap first only_rules
        ∙ first_front (fifty ++ part_item_rules one item) behind broken (ap first (sym shape_is) ∙ h)

    pub shape_kept : {A : Type 0} (result : Result A BrokenRule) → shape_rules one placed ≡ []
        → IsFirstBreach result (asked one.item.name.place (seen_through one item))
        → IsFirstBreach result (named_rules items asked one)
    shape_kept result none h =
        subst (IsFirstBreach result) (sym only_rules)
        (kept_before result (fifty ++ part_item_rules one item) behind (sym shape_is ∙ none) h)

  -- the kind that a reference shows
  pub kind_asked : {A : Type 0} (asked : Asked) (result : Result A BrokenRule) → shape_rules one placed ≡ []
      → IsFirstBreach result (asks_kind asked (kind_seen one.part placed.item.kind) one.item.name.place)
      → IsFirstBreach result (named_rules items (asks asked) one)
  kind_asked asked result none h = shape_kept (asks asked) result none
      (subst (λ (k : Kind). IsFirstBreach result (asks_kind asked k one.item.name.place))
      (ap (λ (p : PlacedItem). kind_seen one.part p.item.kind) stands ∙ seen_kind one.part item) h)

-- ---- a record without a part

-- What is asked of a record is asked of what a reference shows of it, too.
pub record_seen : {S : Type 0} (items : List LocatedItem) (files : List ProgramFile) (phrases : FilePhrases S)
    (place : Place) (part : Option Part) (found : LocatedItem)
    → record_item items files phrases place (seen_by part found) ≡ record_item items files phrases place found
record_seen items files phrases place None found = refl
record_seen items files phrases place (Some part) found = refl

-- What is found of a record that is named without a part is found of its name.
pub record_kept : {A S : Type 0} (items : List LocatedItem) (files : List ProgramFile) (phrases : FilePhrases S)
    (one : Reference) (item : LocatedItem) (placed : PlacedItem) (result : Result A BrokenRule)
    → items_named items one.item ≡ item ∷ [] → placed ≡ placed_item item → shape_rules one placed ≡ []
    → no_part_rules one ≡ [] → IsFirstBreach result (record_item items files phrases one.item.name.place item)
    → IsFirstBreach result (named_rules items (whole_record items files phrases one) one)
record_kept items files phrases one item placed result only stands shape parts own =
    let place = one.item.name.place in
    shape_kept items one item placed only stands (whole_record items files phrases one) result shape
    (kept_before result (no_part_rules one) (record_item items files phrases place (seen_through one item)) parts
    (subst (IsFirstBreach result) (sym (record_seen items files phrases place one.part item)) own))

-- ---- what is asked of the item of a key after 75

module _ (place : Place) (asked : LocatedItem → List RuleBreach) (key : Reference) (found : List LocatedItem)
    (one : LocatedItem) (only : found ≡ one ∷ []) where
  abbrev whole_key : LocatedItem → List RuleBreach
  whole_key item = no_part_rules key ++ asked item

  pub part_first : (broken : RuleBreach) → first (no_part_rules key) ≡ Some broken
      → first (unique_name_rules place (λ (item : LocatedItem). no_part_rules key ++ asked item) found) ≡ Some broken
  part_first broken h =
      ap (λ (l : List LocatedItem). first (unique_name_rules place whole_key l)) only
      ∙ first_front (no_part_rules key) (asked one) broken h

  pub asked_behind : {A : Type 0} (result : Result A BrokenRule) → no_part_rules key ≡ []
      → IsFirstBreach result (asked one)
      → IsFirstBreach result (unique_name_rules place (λ (item : LocatedItem). no_part_rules key ++ asked item) found)
  asked_behind result none h =
      subst (λ (l : List LocatedItem). IsFirstBreach result (unique_name_rules place whole_key l)) (sym only)
      (kept_before result (no_part_rules key) (asked one) none h)
