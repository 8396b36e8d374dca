-- Qualified names and subscripts (COBOL-85, Nucleus, "Qualification", "Subscripting"): their rules, and how they are read.
use Rattle.std.specs.Prelude.{ℕ, ◌||◌, ◌&&◌, if◌then◌else◌, Bool, true, false, List, [], ◌∷◌, Option, None, Some, Ok}
use Rattle.std.specs.Option.{option_map}
use Rattle.tokens.specs.declared.reserved.Reserved.TheVariants as w
use Rattle.tokens.specs.declared.token.Kind.{Kind}
use Rattle.tokens.specs.declared.token.Kind.TheVariants as k
use Rattle.tokens.specs.declared.token.Token.{Token}
use Rattle.lexical.specs.declared.number.Sign.{Sign}
use Rattle.lexical.specs.declared.number.Sign.TheVariants as sign
use Rattle.lexical.specs.declared.number.NumericLiteral.{NumericLiteral}
use Rattle.lexical.specs.declared.place.Place.{Place}
use Rattle.source_tree.specs.declared.name.Name.{Name}
use Rattle.source_tree.specs.declared.literal.Integer.{Integer}
use Rattle.source_tree.specs.declared.reference.QualifiedName.{QualifiedName}
use Rattle.source_tree.specs.declared.reference.Adjustment.{Adjustment}
use Rattle.source_tree.specs.declared.reference.Adjustment.TheVariants as adjustment_as
use Rattle.source_tree.specs.declared.reference.Subscript.{Subscript}
use Rattle.source_tree.specs.declared.reference.Subscript.TheVariants as subscript_as
use Rattle.grammar.specs.Parts as g
use Rattle.grammar.specs.Parts.{Part, ◌then◌, ◌or◌, absence_of, lookahead, token_with, begins_telling, word, name, begins_name}
use Rattle.grammar.specs.Reading as r
use Rattle.grammar.specs.Reading.{Parser, ◌>>=◌, ◌>>◌, pure, expect, one_token, begins_word}
use Rattle.expressions.specs.declared.marks.PlusOrMinus.{PlusOrMinus}
use Rattle.expressions.specs.declared.marks.PlusOrMinus.TheVariants.{Plus, Minus}
use Rattle.expressions.specs.Marks.{sign_in, begins_sign}

-- ---- names with qualifiers

-- {IN|OF} n
abbrev pub qualifier : Name → Part
qualifier n = (word w.In or word w.Of) then name n

abbrev pub begins_qualifier : List Token → Bool
begins_qualifier i = begins_word w.In i || begins_word w.Of i

-- n [{IN|OF} n]...
abbrev pub qualified_name : QualifiedName → Part
qualified_name q = name q.name then g.any qualifier (lookahead begins_qualifier) q.qualifiers

unfoldable pub qualifier_reader : Parser Name
qualifier_reader i = if begins_word w.In i then (expect w.In >> r.name) i else (expect w.Of >> r.name) i

unfoldable pub qualified_reader : Parser QualifiedName
qualified_reader = do
  given ← r.name
  groups ← r.any qualifier_reader begins_qualifier
  pure (record { name = given; qualifiers = groups })

-- ---- unsigned integers

abbrev pub is_unsigned : Sign → Bool
is_unsigned sign.Unsigned = true
is_unsigned _ = false

abbrev pub has_none : List ℕ → Bool
has_none [] = true
has_none (one ∷ more) = false

-- without a sign and without a point
abbrev pub is_integer : NumericLiteral → Bool
is_integer n = is_unsigned n.sign && has_none n.decimals

abbrev pub digits_by : Kind → Option (List ℕ)
digits_by (k.Numeric n) = if is_integer n then Some n.whole else None
digits_by _ = None

abbrev pub integer_at : Place → List ℕ → Integer
integer_at place digits = record { digits = digits; place = place }

abbrev pub integer_by : Kind → Place → Option Integer
integer_by kind place = option_map (integer_at place) (digits_by kind)

abbrev pub integer_in : Token → Option Integer
integer_in one = integer_by one.kind one.place

abbrev pub integer : Integer → Part
integer = token_with integer_in

abbrev pub begins_integer : List Token → Bool
begins_integer = begins_telling integer_in

unfoldable pub integer_reader : Parser Integer
integer_reader = one_token integer_in

-- ---- subscripts

-- [{+|-} int]
abbrev pub adjustment : Adjustment → Part
adjustment adjustment_as.Nothing = absence_of (lookahead begins_sign)
adjustment (adjustment_as.Plus n) = token_with sign_in Plus then integer n
adjustment (adjustment_as.Minus n) = token_with sign_in Minus then integer n

-- int | n [{IN|OF} n]... [{+|-} int]
abbrev pub subscript : Subscript → Part
subscript (subscript_as.Literal n) = integer n
subscript (subscript_as.Item item by) = qualified_name item then adjustment by

abbrev pub begins_subscript : List Token → Bool
begins_subscript i = begins_integer i || begins_name i

abbrev pub adjustment_of : PlusOrMinus → Integer → Adjustment
adjustment_of Plus n = adjustment_as.Plus n
adjustment_of Minus n = adjustment_as.Minus n

unfoldable pub signed_integer_reader : Parser Adjustment
signed_integer_reader = do
  sign ← one_token sign_in
  n ← integer_reader
  pure (adjustment_of sign n)

unfoldable pub adjustment_reader : Parser Adjustment
adjustment_reader i = if begins_sign i then signed_integer_reader i else Ok (adjustment_as.Nothing, i)

unfoldable pub literal_subscript_reader : Parser Subscript
literal_subscript_reader = do
  n ← integer_reader
  pure (subscript_as.Literal n)

unfoldable pub item_subscript_reader : Parser Subscript
item_subscript_reader = do
  item ← qualified_reader
  by ← adjustment_reader
  pure (subscript_as.Item item by)

unfoldable pub subscript_reader : Parser Subscript
subscript_reader i = if begins_integer i then literal_subscript_reader i else item_subscript_reader i
