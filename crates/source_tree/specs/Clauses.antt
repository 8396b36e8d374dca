-- What an item is by its own clauses and those of the groups around it (COBOL-85, Nucleus, "Data description entry").
use Rattle.std.specs.Prelude.{ℕ, Bool, true, false, if◌then◌else◌, Option, Some, None}
use Rattle.picture.specs.declared.picture.Picture.{Picture}
use Rattle.picture.specs.declared.category.Category.{Category}
use Rattle.picture.specs.declared.category.Category.TheVariants as category
use Rattle.picture.specs.Pictures.{picture_of}
use Rattle.items.specs.declared.usage.OperationalSign.{OperationalSign}
use Rattle.items.specs.declared.usage.OperationalSign.TheVariants as sign
use Rattle.items.specs.declared.usage.Usage.{Usage}
use Rattle.items.specs.declared.usage.Usage.TheVariants as usage
use Rattle.items.specs.declared.numeric.Numeric.{Numeric}
use Rattle.items.specs.declared.item.Kind.{Kind}
use Rattle.items.specs.declared.item.Kind.TheVariants as kind
use Rattle.items.specs.declared.item.Item.{Item}
use Rattle.items.specs.Numbers.{length_of}
use Rattle.source_tree.specs.declared.literal.Integer.{Integer}
use Rattle.source_tree.specs.declared.entry.PictureText.{PictureText}
use Rattle.source_tree.specs.declared.entry.UsageClause.{UsageClause}
use Rattle.source_tree.specs.declared.entry.UsageClause.TheVariants as clause
use Rattle.source_tree.specs.declared.entry.SignPosition.{SignPosition}
use Rattle.source_tree.specs.declared.entry.SignPosition.TheVariants as position
use Rattle.source_tree.specs.declared.entry.SignClause.{SignClause}
use Rattle.source_tree.specs.declared.entry.Around.{Around}
use Rattle.source_tree.specs.declared.entry.ItemEntry.{ItemEntry}
use Rattle.source_tree.specs.Integers.{number_of}

abbrev pub nothing_around : Around
nothing_around = record { usage = None; sign = None }

-- An entry's own clause goes before that of a group, and a nearer group's before that of one farther out.
abbrev pub own_or : {A : Type 0} → Option A → Option A → Option A
own_or (Some own) other = Some own
own_or None other = other

abbrev pub or_else : {A : Type 0} → Option A → A → A
or_else (Some own) other = own
or_else None other = other

abbrev pub inside : Around → ItemEntry → Around
inside around one = record { usage = own_or one.usage around.usage; sign = own_or one.sign around.sign }

-- without a clause DISPLAY
abbrev pub usage_of : Around → ItemEntry → UsageClause
usage_of around one = or_else (own_or one.usage around.usage) clause.Display

-- without a clause with the last digit
abbrev pub sign_of : Around → ItemEntry → SignClause
sign_of around one = or_else (own_or one.sign around.sign) (record { position = position.Trailing; separate = false })

-- The sign of a picture with S.
abbrev pub placed_sign : SignPosition → Bool → OperationalSign
placed_sign position.Leading true = sign.LeadingSeparate
placed_sign position.Leading false = sign.Leading
placed_sign position.Trailing true = sign.TrailingSeparate
placed_sign position.Trailing false = sign.Trailing

abbrev pub operational_sign : Bool → SignClause → OperationalSign
operational_sign signed one = if signed then placed_sign one.position one.separate else sign.Unsigned

-- USAGE and SIGN of a numeric item; SIGN has no part but in DISPLAY.
abbrev pub numeric_usage : UsageClause → Bool → SignClause → Usage
numeric_usage clause.Display signed one = usage.Display (operational_sign signed one)
numeric_usage clause.Binary signed one = usage.Binary signed
numeric_usage clause.PackedDecimal signed one = usage.Packed signed

abbrev pub numeric_by : Around → ItemEntry → Picture → Numeric
numeric_by around one picture = record {
  digits = picture.digits;
  scale = picture.scale;
  usage = numeric_usage (usage_of around one) picture.signed (sign_of around one);
}

-- BLANK WHEN ZERO makes a numeric item numeric edited.
abbrev pub kind_by : Category → Bool → Bool → Numeric → Kind
kind_by category.Alphabetic justified blank numeric = kind.Alphabetic justified
kind_by category.Alphanumeric justified blank numeric = kind.Alphanumeric justified
kind_by category.AlphanumericEdited justified blank numeric = kind.AlphanumericEdited
kind_by category.NumericEdited justified blank numeric = kind.NumericEdited blank
kind_by category.Numeric justified true numeric = kind.NumericEdited true
kind_by category.Numeric justified false numeric = kind.Numeric numeric

abbrev pub kind_of : Around → ItemEntry → Picture → Kind
kind_of around one picture = kind_by picture.category one.justified one.blank_when_zero (numeric_by around one picture)

-- A number's length is the one that its usage gives it, others have a byte for each place of the picture.
abbrev pub length_by : Kind → Picture → ℕ
length_by (kind.Numeric numeric) picture = length_of numeric
length_by _ picture = picture.size

abbrev pub elementary : Around → ItemEntry → Picture → Item
elementary around one picture = record { kind = kind_of around one picture; length = length_by (kind_of around one picture) picture }

-- A group is an alphanumeric item of its whole length.
abbrev pub group : ℕ → Item
group length = record { kind = kind.Group; length = length }

-- The picture that the clause spells, if it has a form.
abbrev pub form_of : Option PictureText → Option Picture
form_of None = None
form_of (Some text) = picture_of text.characters

abbrev pub picture_in : ItemEntry → Option Picture
picture_in one = form_of one.picture

abbrev pub item_by : Around → ItemEntry → Option Picture → ℕ → Item
item_by around one None within = group within
item_by around one (Some picture) within = elementary around one picture

-- The item of an entry, where the entries in it take so many bytes.
abbrev pub item_of : Around → ItemEntry → ℕ → Item
item_of around one within = item_by around one (picture_in one) within

-- The picture by which an item is edited; others have none to be edited by.
abbrev pub editing_by : Kind → Picture → Option Picture
editing_by kind.AlphanumericEdited picture = Some picture
editing_by (kind.NumericEdited blank) picture = Some picture
editing_by _ picture = None

abbrev pub editing_in : Around → ItemEntry → Option Picture → Option Picture
editing_in around one None = None
editing_in around one (Some picture) = editing_by (kind_of around one picture) picture

abbrev pub editing_of : Around → ItemEntry → Option Picture
editing_of around one = editing_in around one (picture_in one)

abbrev pub count_in : Option Integer → ℕ
count_in None = 1
count_in (Some count) = number_of count

-- How often an item occurs: without OCCURS once.
abbrev pub occurrences : ItemEntry → ℕ
occurrences one = count_in one.occurs
