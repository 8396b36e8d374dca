-- The rules of VALUE: 47 a literal that its item can't hold as it is, 55 a range of values that is backwards (COBOL-85, Nucleus,
-- "The VALUE clause").
use Rattle.std.specs.Prelude.{ℕ, nat_lt, nat_le, Bool, true, false, not, ◌&&◌, ◌||◌, List, [], ◌∷◌, ◌++◌, length, Option, Some, None}
use Rattle.std.specs.Char.{is_ascii_digit}
use Rattle.std.specs.List.{list_all}
use Rattle.std.specs.declared.cmp.Ordering.{Ordering}
use Rattle.std.specs.declared.cmp.Ordering.TheVariants.{Greater}
use Rattle.decimal18.specs.Fraction.{Fraction, is_negative}
use Rattle.decimal18.specs.Order.{equals}
use Rattle.decimal18.specs.Receiver.{low_digits}
use Rattle.decimal18.specs.declared.receiver.Rounding.TheVariants.{Truncated}
use Rattle.items.specs.declared.numeric.Numeric.{Numeric}
use Rattle.items.specs.declared.item.Kind.{Kind}
use Rattle.items.specs.declared.item.Kind.TheVariants as kind
use Rattle.items.specs.declared.item.Item.{Item}
use Rattle.items.specs.declared.taken.Taken.{Taken}
use Rattle.items.specs.declared.taken.Taken.TheVariants as taken
use Rattle.items.specs.Numbers.{is_signed}
use Rattle.items.specs.Texts.{character_of}
use Rattle.text_ops.specs.Compare.{comparison_of, order_of_texts}
use Rattle.source_tree.specs.declared.literal.Figurative.TheVariants as figurative
use Rattle.source_tree.specs.declared.literal.LiteralValue.{LiteralValue}
use Rattle.source_tree.specs.declared.literal.LiteralValue.TheVariants as literal
use Rattle.source_tree.specs.declared.literal.Literal.{Literal}
use Rattle.source_tree.specs.declared.entry.ValueRange.{ValueRange}
use Rattle.source_tree.specs.declared.entry.ConditionEntry.{ConditionEntry}
use Rattle.source_tree.specs.Literals.{Sender, literal_number, literal_sender}
use Rattle.source_tree.specs.Broken.{RuleBreach, where_so, each}

-- ---- the form of a literal (COBOL-85, Nucleus, "Literals"; the most characters are this project's own choice)

abbrev pub most_literal_digits : ℕ
most_literal_digits = 18

abbrev pub most_literal_characters : ℕ
most_literal_characters = 160

abbrev pub are_some : ℕ → ℕ → Bool
are_some most n = nat_le 1 n && nat_le n most

-- A numeric literal has 1 to 18 digits, and a text 1 to 160 characters. Those of a source text have this form.
abbrev pub has_form : LiteralValue → Bool
has_form (literal.Numeric one) =
    list_all is_ascii_digit one.whole && list_all is_ascii_digit one.decimals && are_some most_literal_digits (length (one.whole ++ one.decimals))
has_form (literal.Nonnumeric bytes) = are_some most_literal_characters (length bytes)
has_form (literal.Figurative one) = true
has_form (literal.All bytes) = are_some most_literal_characters (length bytes)

-- ---- 47

-- Zeros in front of the digits that the item keeps, and after them, aren't cut.
abbrev pub is_cut : Numeric → Fraction → Bool
is_cut numeric x = not (equals (low_digits x numeric.digits numeric.scale Truncated) x)

-- A numeric item has a numeric literal or ZERO.
abbrev pub wrong_number : Numeric → LiteralValue → Bool
wrong_number numeric (literal.Numeric one) = is_cut numeric (literal_number one) || (not (is_signed numeric) && is_negative (literal_number one).coefficient)
wrong_number numeric (literal.Figurative figurative.Zero) = false
wrong_number numeric _ = true

-- Others have a nonnumeric literal or a figurative constant.
abbrev pub wrong_text : ℕ → LiteralValue → Bool
wrong_text size (literal.Numeric one) = true
wrong_text size (literal.Nonnumeric bytes) = nat_lt size (length bytes)
wrong_text size _ = false

abbrev pub wrong_class : Kind → ℕ → LiteralValue → Bool
wrong_class (kind.Numeric numeric) size value = wrong_number numeric value
wrong_class _ size value = wrong_text size value

-- A literal of another form than literals have is no value of any item.
abbrev pub wrong_value : Kind → ℕ → LiteralValue → Bool
wrong_value kind size value = not (has_form value) || wrong_class kind size value

-- Where a VALUE may not stand: in a file, under REDEFINES, in a group with VALUE.
abbrev pub value_rules : Bool → Item → Option Literal → List RuleBreach
value_rules forbidden item None = []
value_rules forbidden item (Some one) = where_so (forbidden || wrong_value item.kind item.length one.value) 47 one.place

-- ---- the values of a condition name

-- The characters of a literal that is repeated, where nothing says how often.
abbrev pub once : Taken → List ℕ → Option (List ℕ)
once (taken.Item item) bytes = None
once (taken.Figurative constant) bytes = Some (character_of constant ∷ [])
once taken.All bytes = Some bytes

abbrev pub order_once : Sender → Sender → Option (List ℕ) → Option (List ℕ) → Option Ordering
order_once one other (Some ones) (Some others) = Some (order_of_texts ones others)
order_once one other _ _ = comparison_of one.taken one.bytes other.taken other.bytes

-- The order of two literals, as in a relation.
abbrev pub literals_order : Sender → Sender → Option Ordering
literals_order one other = order_once one other (once one.taken one.bytes) (once other.taken other.bytes)

abbrev pub is_greater : Option Ordering → Bool
is_greater (Some Greater) = true
is_greater _ = false

abbrev pub last_rules : Item → Literal → Option Literal → List RuleBreach
last_rules item first None = []
last_rules item first (Some last) =
    where_so (wrong_value item.kind item.length last.value) 47 last.place
    ++ where_so (is_greater (literals_order (literal_sender first.value) (literal_sender last.value))) 55 first.place

abbrev pub range_rules : Item → ValueRange → List RuleBreach
range_rules item one = where_so (wrong_value item.kind item.length one.first.value) 47 one.first.place ++ last_rules item one.first one.last

abbrev pub condition_rules : Item → ConditionEntry → List RuleBreach
condition_rules item one = each (range_rules item) one.values
