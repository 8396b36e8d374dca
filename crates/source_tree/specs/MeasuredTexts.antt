-- Texts of INSPECT whose lengths are found in the run (own choice): parts whose lengths no literals say. Among the
-- texts that are joined each has room for its whole item, and the spans that begin there become as short as it is.
use Rattle.std.specs.Prelude.{ℕ, ◌==◌, nat_le, ◌&&◌, if◌then◌else◌, List, [], ◌∷◌, Option, Some, None}
use Rattle.std.specs.Option.{option_map}
use Rattle.text_ops.specs.declared.entry.Span.{Span}
use Rattle.text_ops.specs.declared.entry.Fit.{Fit}
use Rattle.text_ops.specs.declared.entry.Fit.TheVariants as fit
use Rattle.text_ops.specs.declared.entry.Entry.{Entry}
use Rattle.text_ops.specs.Beginnings.{text_of}
use Rattle.source_tree.specs.declared.reference.Part.{Part}
use Rattle.source_tree.specs.declared.reference.Reference.{Reference}
use Rattle.source_tree.specs.Places.{LocatedItem}
use Rattle.source_tree.specs.LookUp.{items_named, first}
use Rattle.source_tree.specs.Parts.{known_length}

-- ---- which texts

abbrev pub room_by : ℕ → Option ℕ → Option ℕ
room_by size None = Some size
room_by size (Some length) = None

abbrev pub part_room : Option LocatedItem → Option Part → Option ℕ
part_room None part = None
part_room (Some found) None = None
part_room (Some found) (Some part) = room_by found.item.length (known_length found.item.length part.first part.length)

-- The room of a text whose length is found in the run: the size of its whole item. Others have none.
abbrev pub room_of : List LocatedItem → Reference → Option ℕ
room_of items one = part_room (first (items_named items one.item)) one.part

-- ---- lengths

-- where a text begins among those that are joined, and its length
pub record TextLength : Type 0 where
  pub start : ℕ
  pub length : ℕ

-- the length of the text that begins there, if these have it
abbrev pub length_at : List TextLength → ℕ → Option ℕ
length_at [] at = None
length_at (one ∷ more) at = if one.start == at then Some one.length else length_at more at

-- ---- entries with these lengths

-- A length from 1 to the room.
abbrev pub length_within : ℕ → ℕ → ℕ
length_within room length = if nat_le 1 length && nat_le length room then length else room

abbrev pub shortened_by : Option ℕ → Span → Span
shortened_by None span = span
shortened_by (Some length) span = record span { length = length_within span.length length }

-- What replaces a text is as short as the text.
abbrev pub replacing_span : (ℕ → Option ℕ) → Option Span → Span → Span
replacing_span lengths None span = span
replacing_span lengths (Some text) span = shortened_by (lengths text.start) span

module _ (lengths : ℕ → Option ℕ) where
  abbrev pub measured_span : Span → Span
  measured_span span = shortened_by (lengths span.start) span

  abbrev pub measured_fit : Fit → Fit
  measured_fit fit.Characters = fit.Characters
  measured_fit (fit.All span) = fit.All (measured_span span)
  measured_fit (fit.Leading span) = fit.Leading (measured_span span)
  measured_fit (fit.First span) = fit.First (measured_span span)

  abbrev pub measured_entry : Entry → Entry
  measured_entry one = record {
    fit = measured_fit one.fit;
    before = option_map measured_span one.before;
    after = option_map measured_span one.after;
    by = option_map (replacing_span lengths (text_of one.fit)) one.by;
  }
