-- The rules of an entry's clauses: 44 OCCURS, JUSTIFIED, BLANK WHEN ZERO, SIGN and USAGE, 45 PICTURE, 48 and 69 sizes (COBOL-85,
-- Nucleus, "Data description entry", syntax rules; the limits are this project's own choice).
use Rattle.std.specs.Prelude.{ℕ, ◌==◌, nat_lt, Bool, true, false, not, ◌&&◌, ◌||◌, is_some, is_none, Option, Some, None}
use Rattle.picture.specs.declared.picture.Picture.{Picture}
use Rattle.picture.specs.declared.category.Category.{Category}
use Rattle.picture.specs.declared.category.Category.TheVariants as category
use Rattle.picture.specs.declared.place.Region.{Region}
use Rattle.picture.specs.declared.symbol.Suppression.{Suppression}
use Rattle.picture.specs.declared.symbol.Suppression.TheVariants as suppression
use Rattle.items.specs.declared.usage.Usage.{Usage}
use Rattle.items.specs.declared.usage.Usage.TheVariants as usage
use Rattle.items.specs.declared.item.Kind.{Kind}
use Rattle.items.specs.declared.item.Kind.TheVariants as kind
use Rattle.items.specs.declared.item.Item.{Item}
use Rattle.items.specs.Numbers.{has_sign}
use Rattle.source_tree.specs.declared.entry.UsageClause.{UsageClause}
use Rattle.source_tree.specs.declared.entry.UsageClause.TheVariants as clause
use Rattle.source_tree.specs.declared.entry.Around.{Around}
use Rattle.source_tree.specs.declared.entry.ItemEntry.{ItemEntry}
use Rattle.source_tree.specs.Levels.{Forest, End, Tree}
use Rattle.source_tree.specs.Clauses.{usage_of, picture_in, occurrences}

abbrev pub most_item_bytes : ℕ
most_item_bytes = 65535

abbrev pub most_occurrences : ℕ
most_occurrences = 65535

-- dimensions of one table
abbrev pub most_dimensions : ℕ
most_dimensions = 7

abbrev pub has_items : Forest → Bool
has_items End = false
has_items (Tree one conditions inner next) = true

-- ---- 44, with so many OCCURS around the entry, which is a 01 or 77 or stands in a group

abbrev pub wrong_occurs : Bool → ℕ → ItemEntry → Bool
wrong_occurs is_outermost nesting one =
    is_some one.occurs && (is_outermost || not (nat_lt nesting most_dimensions) || (occurrences one == 0))

-- an elementary alphabetic or alphanumeric item
abbrev pub may_be_justified : Kind → Bool
may_be_justified (kind.Alphabetic right) = true
may_be_justified (kind.Alphanumeric right) = true
may_be_justified _ = false

abbrev pub is_display : UsageClause → Bool
is_display clause.Display = true
is_display _ = false

abbrev pub are_asterisks : Suppression → Bool
are_asterisks suppression.Asterisks = true
are_asterisks _ = false

abbrev pub has_asterisks : Option Region → Bool
has_asterisks None = false
has_asterisks (Some region) = are_asterisks region.by

-- a numeric edited item without `*`, or an unsigned DISPLAY one
abbrev pub may_be_blank : Category → UsageClause → Picture → Bool
may_be_blank category.NumericEdited written picture = not (has_asterisks picture.region)
may_be_blank category.Numeric written picture = not picture.signed && is_display written
may_be_blank _ written picture = false

abbrev pub wrong_blank : Around → ItemEntry → Option Picture → Bool
wrong_blank around one None = one.blank_when_zero
wrong_blank around one (Some picture) = one.blank_when_zero && not (may_be_blank picture.category (usage_of around one) picture)

abbrev pub is_signed_display : Usage → Bool
is_signed_display (usage.Display sign) = has_sign sign
is_signed_display _ = false

-- SIGN is of a DISPLAY item with S.
abbrev pub may_have_sign : Kind → Bool
may_have_sign (kind.Numeric numeric) = is_signed_display numeric.usage
may_have_sign _ = false

abbrev pub is_numeric_kind_of : Kind → Bool
is_numeric_kind_of (kind.Numeric numeric) = true
is_numeric_kind_of _ = false

-- The clauses of an elementary item.
abbrev pub wrong_form : Around → ItemEntry → Item → Option Picture → Bool
wrong_form around one item None = false
wrong_form around one item (Some picture) =
    (is_some one.sign && not (may_have_sign item.kind)) || (not (is_display (usage_of around one)) && not (is_numeric_kind_of item.kind))

abbrev pub are_same : UsageClause → UsageClause → Bool
are_same clause.Display clause.Display = true
are_same clause.Binary clause.Binary = true
are_same clause.PackedDecimal clause.PackedDecimal = true
are_same _ _ = false

-- USAGE other than that of a group around it
abbrev pub another_usage : Option UsageClause → Option UsageClause → Bool
another_usage (Some own) (Some other) = not (are_same own other)
another_usage _ _ = false

abbrev pub wrong_clause : Bool → ℕ → Around → ItemEntry → Item → Bool
wrong_clause is_outermost nesting around one item =
    wrong_occurs is_outermost nesting one
    || (one.justified && not (may_be_justified item.kind))
    || wrong_blank around one (picture_in one)
    || wrong_form around one item (picture_in one)
    || another_usage one.usage around.usage

-- ---- 45, 48, 69

-- A group has none, and an elementary item has one, with a form.
abbrev pub wrong_picture : ItemEntry → Forest → Bool
wrong_picture one inner = (has_items inner && is_some one.picture) || (not (has_items inner) && is_none (picture_in one))

abbrev pub too_large : Item → Bool
too_large item = nat_lt most_item_bytes item.length

abbrev pub too_many : ItemEntry → Bool
too_many one = nat_lt most_occurrences (occurrences one)
