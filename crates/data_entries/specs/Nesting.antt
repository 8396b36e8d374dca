-- Which entries stand in a group, told on the list of entries.
use Rattle.std.specs.Prelude.{◌≡◌, ℕ, suc, ◌+◌, ◌<◌, Bool, true, nat_lt, if◌then◌else◌, List, [], ◌∷◌, length, Option, Some, None}
use Rattle.source_tree.specs.declared.entry.Entry.{Entry}
use Rattle.source_tree.specs.declared.entry.Entry.TheVariants.{Item, Condition}
use Rattle.source_tree.specs.Levels.{Forest, End, Tree, level_of, leading_conditions, forest_of}
use Rattle.data_entries.specs.declared.levels.Sibling.{Sibling}

-- It stands in a group of that level before it; a condition name belongs to the item before it.
abbrev pub is_deeper : ℕ → Entry → Bool
is_deeper level (Item one) = nat_lt level (level_of one)
is_deeper level (Condition one) = true

-- how many entries at the front stand in a group of that level
unfoldable pub deeper_count : ℕ → List Entry → ℕ
deeper_count level [] = 0
deeper_count level (one ∷ more) = if is_deeper level one then suc (deeper_count level more) else 0

-- The level of the first item is one that is told as it is.
abbrev pub HasLevel : Forest → Type 0
HasLevel End = Unit {0}
HasLevel (Tree one conditions inner next) = level_of one < 100000

-- The first item of a list of entries, the entries in it, and those after it; or there is no item.
abbrev pub IsNextItem : List Entry → Option Sibling → Type 0
IsNextItem entries None = forest_of entries ≡ End
IsNextItem entries (Some one) =
    (forest_of entries ≡ Tree one.entry.now (leading_conditions one.inner.now) (forest_of one.inner.now) (forest_of one.next.now))
    × (length one.inner.now + length one.next.now < length entries)

-- Each level is told as it is.
abbrev pub AreTold : Forest → Type 0
AreTold End = Unit {0}
AreTold (Tree one conditions inner next) = (level_of one < 100000) × AreTold inner × AreTold next
