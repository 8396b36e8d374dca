-- How many bytes entries take (COBOL-85, Nucleus, "Data description entry": PICTURE, OCCURS, REDEFINES).
use Rattle.std.specs.Prelude.{ℕ, ◌+◌, ◌*◌, max, Bool, is_some, if◌then◌else◌, List, [], ◌∷◌}
use Rattle.items.specs.declared.item.Item.{Item}
use Rattle.source_tree.specs.declared.entry.Around.{Around}
use Rattle.source_tree.specs.declared.entry.ItemEntry.{ItemEntry}
use Rattle.source_tree.specs.declared.entry.ConditionEntry.{ConditionEntry}
use Rattle.source_tree.specs.Levels.{Forest, End, Tree}
use Rattle.source_tree.specs.Clauses.{nothing_around, inside, item_of, occurrences}

abbrev pub redefines : ItemEntry → Bool
redefines one = is_some one.redefines

-- the bytes of all occurrences
abbrev pub extent : Around → ItemEntry → ℕ → ℕ
extent around one within = occurrences one * (item_of around one within).length

-- The bytes that entries take: those that redefine others take none of their own.
abbrev pub room : Around → Forest → ℕ
room around End = 0
room around (Tree one conditions inner next) =
    (if redefines one then 0 else extent around one (room (inside around one) inner)) + room around next

-- the item of an entry with those in it
abbrev pub item_with : Around → ItemEntry → Forest → Item
item_with around one inner = item_of around one (room (inside around one) inner)

-- the bytes of the longest of some entries
abbrev pub longest : Around → Forest → ℕ
longest around End = 0
longest around (Tree one conditions inner next) = max (occurrences one * (item_with around one inner).length) (longest around next)

-- those at the front that redefine
abbrev pub leading_redefinitions : Forest → Forest
leading_redefinitions End = End
leading_redefinitions (Tree one conditions inner next) = if redefines one then Tree one conditions inner (leading_redefinitions next) else End

-- The bytes of the area that a 01 or 77 begins: those of the longest of it and the ones after it that redefine it.
abbrev pub area_length : ItemEntry → List ConditionEntry → Forest → Forest → ℕ
area_length one conditions inner next = longest nothing_around (Tree one conditions inner (leading_redefinitions next))

-- The lengths of all areas of working storage.
abbrev pub area_lengths : Forest → List ℕ
area_lengths End = []
area_lengths (Tree one conditions inner next) =
    if redefines one then area_lengths next else area_length one conditions inner next ∷ area_lengths next
