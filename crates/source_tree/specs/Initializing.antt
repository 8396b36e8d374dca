-- INITIALIZE and SET (COBOL-85, Nucleus, "The INITIALIZE statement", "The SET statement"): what they put into the bytes of an item.
use Rattle.std.specs.Prelude.{ℕ, map, if◌then◌else◌, List, [], ◌∷◌, ◌++◌, Option, Some, None, Ok}
use Rattle.std.specs.List.{repeat}
use Rattle.picture.specs.declared.picture.Picture.{Picture}
use Rattle.items.specs.declared.item.Kind.{Kind}
use Rattle.items.specs.declared.item.Kind.TheVariants as kind
use Rattle.items.specs.declared.item.Item.{Item}
use Rattle.source_tree.specs.declared.literal.Figurative.{Figurative}
use Rattle.source_tree.specs.declared.literal.Figurative.TheVariants as figurative
use Rattle.source_tree.specs.declared.literal.LiteralValue.TheVariants as literal
use Rattle.source_tree.specs.declared.name.Name.{Name}
use Rattle.source_tree.specs.declared.reference.Reference.{Reference}
use Rattle.source_tree.specs.declared.entry.Around.{Around}
use Rattle.source_tree.specs.declared.entry.ItemEntry.{ItemEntry}
use Rattle.source_tree.specs.declared.entry.ValueRange.{ValueRange}
use Rattle.source_tree.specs.Levels.{Forest, End, Tree}
use Rattle.source_tree.specs.Clauses.{inside, editing_of, occurrences}
use Rattle.source_tree.specs.Rooms.{redefines, item_with}
use Rattle.source_tree.specs.Places.{LocatedItem}
use Rattle.source_tree.specs.Starts.{or_initial, with_value}
use Rattle.source_tree.specs.Literals.{Sender, literal_sender}
use Rattle.source_tree.specs.Storage.{Storage}
use Rattle.source_tree.specs.Evaluated.{Evaluation, ◌>>=◌, evaluation_of}
use Rattle.source_tree.specs.References.{ItemPlace, part_of, storage_with, occurrence, referred_place}
use Rattle.source_tree.specs.Parts.{seen_through}
use Rattle.source_tree.specs.LookUp.{NamedCondition, items_named, conditions_named, first}
use Rattle.source_tree.specs.Moving.{moved_by}

-- What comes in the place of each byte; none: that one stays.
abbrev pub Pattern : Type 0
Pattern = List (Option ℕ)

abbrev pub or_old : Option ℕ → ℕ → ℕ
or_old None old = old
or_old (Some new) old = new

abbrev pub overlaid : Pattern → List ℕ → List ℕ
overlaid [] old = old
overlaid (one ∷ more) [] = []
overlaid (one ∷ more) (byte ∷ bytes) = or_old one byte ∷ overlaid more bytes

abbrev pub overlaid_storage : Pattern → ItemPlace → Storage → Storage
overlaid_storage pattern place storage = storage_with place (overlaid pattern (part_of storage place)) storage

-- all bytes
abbrev pub whole_pattern : List ℕ → Pattern
whole_pattern bytes = map Some bytes

-- ---- INITIALIZE

-- zero for numbers, edited or not, and spaces for others
abbrev pub initial_figurative : Kind → Figurative
initial_figurative (kind.Numeric numeric) = figurative.Zero
initial_figurative (kind.NumericEdited blank) = figurative.Zero
initial_figurative _ = figurative.Space

abbrev pub initial_sender : Kind → Sender
initial_sender kind = literal_sender (literal.Figurative (initial_figurative kind))

-- An elementary item takes them as MOVE moves them; an edited one is edited.
abbrev pub initial_pattern : Option Picture → Item → Pattern
initial_pattern editing item = whole_pattern (or_initial item (moved_by editing item (initial_sender item.kind)))

-- A FILLER stays.
abbrev pub unless_filler : Option Name → Item → Pattern → Pattern
unless_filler None item pattern = repeat item.length (None ∷ [])
unless_filler (Some name) item pattern = pattern

-- A group takes what its items do, FILLER or not.
abbrev pub by_kind : Kind → Pattern → Pattern → Pattern
by_kind kind.Group within alone = within
by_kind _ within alone = alone

abbrev pub entry_pattern : Around → ItemEntry → Item → Pattern → Pattern
entry_pattern around one item within = by_kind item.kind within (unless_filler one.name item (initial_pattern (editing_of around one) item))

-- The entries of a group in order, each occurrence alike; those that redefine, and what is in them, are left out.
abbrev pub entries_pattern : Around → Forest → Pattern
entries_pattern around End = []
entries_pattern around (Tree one conditions inner next) =
    (if redefines one then []
    else repeat (occurrences one) (entry_pattern around one (item_with around one inner) (entries_pattern (inside around one) inner)))
    ++ entries_pattern around next

-- the item that is named
abbrev pub named_pattern : LocatedItem → Pattern
named_pattern one = by_kind one.item.kind (entries_pattern one.inside one.entries) (initial_pattern one.editing one.item)

-- Each receiver's subscripts are evaluated just before its own store.
abbrev pub initialize : List LocatedItem → List Reference → Storage → Evaluation Storage
initialize items [] storage = Ok storage
initialize items (one ∷ more) storage =
    evaluation_of (first (items_named items one.item)) >>= (λ found.
    referred_place items one found storage >>= (λ place.
    initialize items more (overlaid_storage (named_pattern (seen_through one found)) place storage)))

-- ---- SET of condition names TO TRUE

-- the first value of a condition name, as a VALUE of its item; a condition name has one or more
abbrev pub first_value : Item → List ValueRange → Pattern
first_value item [] = []
first_value item (one ∷ more) = whole_pattern (with_value item (literal_sender one.first.value))

abbrev pub set_pattern : NamedCondition → Pattern
set_pattern found = first_value found.item.item found.condition.values

-- It is stored in the item, in the occurrence referred to.
abbrev pub storage_after_set : List LocatedItem → List Reference → Storage → Evaluation Storage
storage_after_set items [] storage = Ok storage
storage_after_set items (one ∷ more) storage =
    evaluation_of (first (conditions_named items one.item)) >>= (λ found.
    occurrence items one.subscripts found.item storage >>= (λ place.
    storage_after_set items more (overlaid_storage (set_pattern found) place storage)))
