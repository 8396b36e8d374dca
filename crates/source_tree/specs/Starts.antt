-- What working storage holds at the start of a run (COBOL-85, Nucleus, the VALUE clause; own choice where none is written).
use Rattle.std.specs.Prelude.{ℕ, if◌then◌else◌, List, [], ◌∷◌, ◌++◌, Option, Some, None}
use Rattle.std.specs.List.{repeat}
use Rattle.items.specs.declared.item.Kind.{Kind}
use Rattle.items.specs.declared.item.Kind.TheVariants as kind
use Rattle.items.specs.declared.item.Item.{Item}
use Rattle.items.specs.Items.{initial, initial_text}
use Rattle.items.specs.Texts.{padded_text}
use Rattle.edited_move.specs.Moves.{moved_bytes}
use Rattle.source_tree.specs.declared.literal.Literal.{Literal}
use Rattle.source_tree.specs.declared.entry.Around.{Around}
use Rattle.source_tree.specs.declared.entry.Entry.{Entry}
use Rattle.source_tree.specs.Levels.{Forest, End, Tree, forest_of}
use Rattle.source_tree.specs.Clauses.{nothing_around, inside, occurrences}
use Rattle.source_tree.specs.Rooms.{redefines, item_with, area_length}
use Rattle.source_tree.specs.Literals.{Sender, literal_sender}

abbrev pub or_initial : Item → Option (List ℕ) → List ℕ
or_initial item None = initial item
or_initial item (Some bytes) = bytes

-- A value is moved in: a number as numbers are, others by their characters. JUSTIFIED has no part in it, and an edited item
-- takes them as they are.
abbrev pub value_by : Kind → Item → Sender → List ℕ
value_by (kind.Numeric numeric) item value = or_initial item (moved_bytes item value.taken value.bytes)
value_by _ item value = initial_text item value.taken value.bytes

abbrev pub with_value : Item → Sender → List ℕ
with_value item value = value_by item.kind item value

-- Without a value a group holds what its items do.
abbrev pub without_value : Kind → Item → List ℕ → List ℕ
without_value kind.Group item within = within
without_value _ item within = initial item

-- The value of a group stands for those of its items.
abbrev pub initial_bytes : Item → Option Literal → List ℕ → List ℕ
initial_bytes item None within = without_value item.kind item within
initial_bytes item (Some literal) within = with_value item (literal_sender literal.value)

-- The bytes of entries in order, each occurrence alike; those that redefine set nothing.
abbrev pub start : Around → Forest → List ℕ
start around End = []
start around (Tree one conditions inner next) =
    (if redefines one then []
    else repeat (occurrences one) (initial_bytes (item_with around one inner) one.value (start (inside around one) inner)))
    ++ start around next

-- An area for each 01 and 77 that redefines nothing; bytes that no item sets are spaces.
abbrev pub areas_from : Forest → List (List ℕ)
areas_from End = []
areas_from (Tree one conditions inner next) =
    if redefines one then areas_from next
    else padded_text (area_length one conditions inner next) (start nothing_around (Tree one conditions inner End)) ∷ areas_from next

abbrev pub areas_at_start : List Entry → List (List ℕ)
areas_at_start entries = areas_from (forest_of entries)
