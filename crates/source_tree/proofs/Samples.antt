-- Short ways to write entries and references down.
use Rattle.std.proofs.Common.{ℕ, Bool, true, false, List, [], None, Some}
use Rattle.std.specs.Prelude.{map}
use Rattle.lexical.specs.declared.place.Place.{Place}
use Rattle.source_tree.specs.declared.name.Name.{Name}
use Rattle.source_tree.specs.declared.literal.Integer.{Integer}
use Rattle.lexical.specs.declared.number.Sign.{Sign}
use Rattle.lexical.specs.declared.number.Sign.TheVariants as sign
use Rattle.source_tree.specs.declared.literal.Figurative.{Figurative}
use Rattle.source_tree.specs.declared.literal.Literal.{Literal}
use Rattle.source_tree.specs.declared.literal.LiteralValue.TheVariants as literal
use Rattle.source_tree.specs.declared.reference.QualifiedName.{QualifiedName}
use Rattle.source_tree.specs.declared.reference.Subscript.{Subscript}
use Rattle.source_tree.specs.declared.reference.Subscript.TheVariants as subscript
use Rattle.source_tree.specs.declared.reference.Adjustment.TheVariants as adjustment
use Rattle.source_tree.specs.declared.reference.Reference.{Reference}
use Rattle.source_tree.specs.declared.expression.Operand.{Operand}
use Rattle.source_tree.specs.declared.expression.Operand.TheVariants as operand
use Rattle.source_tree.specs.declared.entry.UsageClause.TheVariants as usage
use Rattle.source_tree.specs.declared.entry.SignPosition.{SignPosition}
use Rattle.source_tree.specs.declared.entry.ValueRange.{ValueRange}
use Rattle.source_tree.specs.declared.entry.ItemEntry.{ItemEntry}
use Rattle.source_tree.specs.declared.entry.Entry.{Entry}
use Rattle.source_tree.specs.declared.entry.Entry.TheVariants as entry

abbrev pub at : ℕ → ℕ → Place
at line column = record { line = line; column = column }

abbrev pub here : Place
here = at 1 12

abbrev pub name : List ℕ → Name
name characters = record { characters = characters; place = here }

abbrev pub integer : List ℕ → Integer
integer digits = record { digits = digits; place = here }

-- ---- entries: the digits of the level, and the name

abbrev pub group : List ℕ → List ℕ → ItemEntry
group level called = record {
  level = integer level;
  name = Some (name called);
  redefines = None;
  picture = None;
  usage = None;
  sign = None;
  occurs = None;
  justified = false;
  blank_when_zero = false;
  value = None;
}

abbrev pub item : List ℕ → List ℕ → List ℕ → ItemEntry
item level called picture =
    record (group level called) { picture = Some (record { characters = picture; place = here }) }

abbrev pub unnamed : ItemEntry → ItemEntry
unnamed one = record one { name = None }

abbrev pub redefining : List ℕ → ItemEntry → ItemEntry
redefining called one = record one { redefines = Some (name called) }

abbrev pub occurring : List ℕ → ItemEntry → ItemEntry
occurring count one = record one { occurs = Some (integer count) }

abbrev pub valued : Literal → ItemEntry → ItemEntry
valued literal one = record one { value = Some literal }

abbrev pub binary : ItemEntry → ItemEntry
binary one = record one { usage = Some usage.Binary }

abbrev pub packed : ItemEntry → ItemEntry
packed one = record one { usage = Some usage.PackedDecimal }

abbrev pub displayed : ItemEntry → ItemEntry
displayed one = record one { usage = Some usage.Display }

abbrev pub signed : SignPosition → Bool → ItemEntry → ItemEntry
signed position separate one = record one { sign = Some (record { position = position; separate = separate }) }

abbrev pub justified : ItemEntry → ItemEntry
justified one = record one { justified = true }

abbrev pub blank : ItemEntry → ItemEntry
blank one = record one { blank_when_zero = true }

abbrev pub entries : List ItemEntry → List Entry
entries = map (λ one. entry.Item one)

abbrev pub one_value : Literal → ValueRange
one_value literal = record { first = literal; last = None }

abbrev pub range : Literal → Literal → ValueRange
range first last = record { first = first; last = Some last }

abbrev pub condition : List ℕ → List ValueRange → Entry
condition called values = entry.Condition (record { name = name called; values = values })

-- ---- literals

abbrev pub signed_number : Sign → List ℕ → List ℕ → Literal
signed_number sign whole decimals =
    record { value = literal.Numeric (record { sign = sign; whole = whole; decimals = decimals }); place = here }

abbrev pub number : List ℕ → Literal
number whole = signed_number sign.Unsigned whole []

abbrev pub minus : List ℕ → Literal
minus whole = signed_number sign.Minus whole []

abbrev pub decimal : List ℕ → List ℕ → Literal
decimal whole decimals = signed_number sign.Unsigned whole decimals

abbrev pub text : List ℕ → Literal
text bytes = record { value = literal.Nonnumeric bytes; place = here }

abbrev pub constant : Figurative → Literal
constant one = record { value = literal.Figurative one; place = here }

abbrev pub all : List ℕ → Literal
all bytes = record { value = literal.All bytes; place = here }

-- ---- references

abbrev pub qualified : List ℕ → List (List ℕ) → QualifiedName
qualified called groups = record { name = name called; qualifiers = map name groups }

abbrev pub reference : List ℕ → List Subscript → Reference
reference called subscripts = record { item = qualified called []; subscripts = subscripts; part = None }

abbrev pub plain : List ℕ → Reference
plain called = reference called []

abbrev pub counted : List ℕ → Subscript
counted digits = subscript.Literal (integer digits)

abbrev pub by_item : List ℕ → Subscript
by_item called = subscript.Item (qualified called []) adjustment.Nothing

abbrev pub by_item_less : List ℕ → List ℕ → Subscript
by_item_less called digits = subscript.Item (qualified called []) (adjustment.Minus (integer digits))

abbrev pub by_item_more : List ℕ → List ℕ → Subscript
by_item_more called digits = subscript.Item (qualified called []) (adjustment.Plus (integer digits))

abbrev pub the_item : List ℕ → Operand
the_item called = operand.Item (plain called)

abbrev pub the_literal : Literal → Operand
the_literal one = operand.Literal one
