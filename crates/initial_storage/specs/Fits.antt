-- Entries whose levels, occurrences and lengths keep within the limits, and whose values are such as their items take.
use Rattle.std.specs.Prelude.{◌≡◌, ℕ, ◌≤◌, ◌<◌, true, Option, Some, None}
use Rattle.items.specs.declared.item.Kind.{Kind}
use Rattle.items.specs.declared.item.Kind.TheVariants as kind
use Rattle.items.specs.declared.item.Item.{Item}
use Rattle.items.specs.declared.taken.Taken.{Taken}
use Rattle.items.specs.Numbers.{IsNumeric, length_of}
use Rattle.edited_move.specs.Moves.{is_number_sender}
use Rattle.source_tree.specs.declared.literal.Literal.{Literal}
use Rattle.source_tree.specs.declared.entry.Around.{Around}
use Rattle.source_tree.specs.declared.entry.ItemEntry.{ItemEntry}
use Rattle.source_tree.specs.declared.select.FileDescription.{FileDescription}
use Rattle.source_tree.specs.Levels.{Forest, End, Tree, level_of, forest_of}
use Rattle.source_tree.specs.Clauses.{nothing_around, inside, occurrences}
use Rattle.source_tree.specs.Rooms.{item_with}
use Rattle.source_tree.specs.Literals.{literal_sender}
use Rattle.source_tree.specs.ClauseRules.{most_item_bytes, most_occurrences}
use Rattle.source_tree.specs.ValueRules.{has_form}

-- A numeric item takes a number.
abbrev pub Suits : Kind → Taken → Type 0
Suits (kind.Numeric numeric) taken = is_number_sender taken ≡ true
Suits _ taken = Unit {0}

abbrev pub HasValue : Kind → Option Literal → Type 0
HasValue kind None = Unit {0}
HasValue kind (Some one) = (has_form one.value ≡ true) × Suits kind (literal_sender one.value).taken

pub record FitsEntry (around : Around) (one : ItemEntry) (inner : Forest) : Type 0 where
  pub level : level_of one < 100000
  pub some : 1 ≤ occurrences one
  pub times : occurrences one ≤ most_occurrences
  pub bytes : (item_with around one inner).length ≤ most_item_bytes
  pub value : HasValue (item_with around one inner).kind one.value

abbrev pub Fits : Around → Forest → Type 0
Fits around End = Unit {0}
Fits around (Tree one conditions inner next) = FitsEntry around one inner × Fits (inside around one) inner × Fits around next

-- the same of the records of a file
abbrev pub FitsFile : FileDescription → Type 0
FitsFile one = Fits nothing_around (forest_of one.entries)

-- A numeric item has its form, and the length of its usage.
abbrev pub IsKindOf : Kind → ℕ → Type 0
IsKindOf (kind.Numeric numeric) length = IsNumeric numeric × (length ≡ length_of numeric)
IsKindOf _ length = Unit {0}

abbrev pub HasKind : Item → Type 0
HasKind item = IsKindOf item.kind item.length
