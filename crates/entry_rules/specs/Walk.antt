-- What a walk over entries knows of those around and before an entry, in the words of the rules.
use Rattle.std.specs.Prelude.{◌≡◌, ℕ, ◌+◌, ◌≤◌, ◌<◌, Bool, is_none, is_some, List, Option, Some, None}
use Rattle.source_tree.specs.declared.entry.ItemEntry.{ItemEntry}
use Rattle.source_tree.specs.declared.entry.Entry.{Entry}
use Rattle.source_tree.specs.Integers.{number_of}
use Rattle.source_tree.specs.Levels.{Forest, End, Tree, forest_of}
use Rattle.source_tree.specs.EntryRules as rules
use Rattle.source_tree.specs.RedefinitionRules as redefinition
use Rattle.entry_rules.specs.declared.position.Position.{Position}
use Rattle.entry_rules.specs.declared.redefinition.Redefinable.{Redefinable}

abbrev pub at_of : Position → rules.Position
at_of one = record { around = one.around; level = one.level; in_file = one.in_file; has_no_value = one.has_no_value; nesting = one.nesting }

abbrev pub is_outermost : Position → Bool
is_outermost one = is_none one.level

-- the group has OCCURS or hasn't
abbrev pub IsBelow : ℕ → ℕ → Type 0
IsBelow nesting inner = inner ≤ nesting + 1

abbrev pub redefinable_of : Option Redefinable → Option redefinition.Redefinable
redefinable_of None = None
redefinable_of (Some one) =
    Some (record { name = one.entry.now.name; level = number_of one.entry.now.level; bytes = one.bytes; has_occurs = is_some one.entry.now.occurs })

-- ---- levels that are told as they are

abbrev pub HasFirstLevel : Forest → Type 0
HasFirstLevel End = Unit {0}
HasFirstLevel (Tree one conditions inner next) = number_of one.level < 100000

abbrev pub HasKnownLevel : Option redefinition.Redefinable → Type 0
HasKnownLevel None = Unit {0}
HasKnownLevel (Some one) = one.level < 100000

abbrev pub HasLevelLast : Option Redefinable → Type 0
HasLevelLast last = HasKnownLevel (redefinable_of last)

abbrev pub HasLevels : Forest → Type 0
HasLevels End = Unit {0}
HasLevels (Tree one conditions inner next) = (number_of one.level < 100000) × HasLevels inner × HasLevels next

-- ---- the first item of entries

abbrev pub IsOfTree : Forest → ItemEntry → Type 0
IsOfTree End one = ⊥
IsOfTree (Tree other conditions inner next) one = other ≡ one

abbrev pub IsFirstItem : List Entry → Option ItemEntry → Type 0
IsFirstItem entries None = forest_of entries ≡ End
IsFirstItem entries (Some one) = IsOfTree (forest_of entries) one
