-- Lines one by one.
use Rattle.std.proofs.Common.{◌≡◌, ◌∙◌, ℕ, ◌+◌, ◌<◌, List, [], ◌∷◌, ◌++◌, ap, append_assoc, get_or, length, refl, sym}
use Rattle.std.proofs.Common.{take}
use Rattle.std.specs.List.{flat_map}
use Rattle.std.proofs.lemmas.Grind.{flat_map-append}
use Rattle.std.proofs.lemmas.List.{append-nil, take_more}
use Rattle.layout.specs.declared.placed.PlacedItem.{PlacedItem}
use Rattle.source_commands.specs.Layout.{item_lines, items_after}

-- no entries have no lines
pub no_entries : (items : List PlacedItem) → item_lines items [] ≡ []
no_entries [] = refl
no_entries (item ∷ items) = refl

-- and all items are after them
pub none_before : (items : List PlacedItem) → items_after items [] ≡ items
none_before [] = refl
none_before (item ∷ items) = refl

-- the texts of one more element
pub one_more : {X : Type 0} (text : X → List ℕ) (out : List ℕ) (xs : List X) (i : ℕ) (d : X) → i < length xs
    → out ++ flat_map text (take i xs) ++ text (get_or xs i d) ≡ out ++ flat_map text (take (i + 1) xs)
one_more text out xs i d here =
    append_assoc out (flat_map text (take i xs)) (text (get_or xs i d))
    ∙ ap (λ l. out ++ l) (sym (ap (λ l. flat_map text l) (take_more xs i d here)
    ∙ flat_map-append text (take i xs) (get_or xs i d ∷ [])
    ∙ ap (λ l. flat_map text (take i xs) ++ l) (append-nil (text (get_or xs i d)))))
