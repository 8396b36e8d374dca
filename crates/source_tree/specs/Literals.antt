-- What literals send (COBOL-85, Nucleus, "Literals", "Figurative constants").
use Rattle.std.specs.Prelude.{ℕ, Bool, true, false, List, [], ◌++◌, length}
use Rattle.decimal18.specs.Fraction.{Fraction, of_parts}
use Rattle.decimal18.specs.Digits.{digits_after}
use Rattle.items.specs.declared.usage.OperationalSign.{OperationalSign}
use Rattle.items.specs.declared.usage.OperationalSign.TheVariants as operational
use Rattle.items.specs.declared.usage.Usage.TheVariants as usage
use Rattle.items.specs.declared.numeric.Numeric.{Numeric}
use Rattle.items.specs.declared.item.Kind.TheVariants as kind
use Rattle.items.specs.declared.item.Item.{Item}
use Rattle.items.specs.declared.taken.Figurative.{Figurative}
use Rattle.items.specs.declared.taken.Figurative.TheVariants as constant
use Rattle.items.specs.declared.taken.Taken.{Taken}
use Rattle.items.specs.declared.taken.Taken.TheVariants as taken
use Rattle.items.specs.Numbers.{length_of}
use Rattle.items.specs.Values.{bytes_of}
use Rattle.lexical.specs.declared.number.Sign.{Sign}
use Rattle.lexical.specs.declared.number.Sign.TheVariants as sign
use Rattle.lexical.specs.declared.number.NumericLiteral.{NumericLiteral}
use Rattle.source_tree.specs.declared.literal.Figurative as written
use Rattle.source_tree.specs.declared.literal.Figurative.TheVariants as figurative
use Rattle.source_tree.specs.declared.literal.LiteralValue.{LiteralValue}
use Rattle.source_tree.specs.declared.literal.LiteralValue.TheVariants as literal

-- What a statement has taken of an operand, with its bytes.
pub record Sender : Type 0 where
  pub taken : Taken
  pub bytes : List ℕ

abbrev pub item_sender : Item → List ℕ → Sender
item_sender item bytes = record { taken = taken.Item item; bytes = bytes }

abbrev pub is_minus : Sign → Bool
is_minus sign.Minus = true
is_minus _ = false

abbrev pub literal_number : NumericLiteral → Fraction
literal_number one = of_parts (is_minus one.sign) (digits_after 0 (one.whole ++ one.decimals)) (length one.decimals)

-- with S where a sign is written
abbrev pub literal_sign : Sign → OperationalSign
literal_sign sign.Unsigned = operational.Unsigned
literal_sign _ = operational.Trailing

-- A numeric literal is a DISPLAY item of the digits with which it is written.
abbrev pub literal_numeric : NumericLiteral → Numeric
literal_numeric one = record {
  digits = length (one.whole ++ one.decimals);
  scale = length one.decimals;
  usage = usage.Display (literal_sign one.sign);
}

abbrev pub numeric_item : Numeric → Item
numeric_item numeric = record { kind = kind.Numeric numeric; length = length_of numeric }

abbrev pub number_sender : NumericLiteral → Sender
number_sender one = item_sender (numeric_item (literal_numeric one)) (bytes_of (literal_numeric one) (literal_number one))

abbrev pub text_sender : List ℕ → Sender
text_sender bytes = item_sender (record { kind = kind.Alphanumeric false; length = length bytes }) bytes

abbrev pub constant_of : written.Figurative → Figurative
constant_of figurative.Zero = constant.Zero
constant_of figurative.Space = constant.Space
constant_of figurative.HighValue = constant.HighValue
constant_of figurative.LowValue = constant.LowValue
constant_of figurative.Quote = constant.Quote

abbrev pub literal_sender : LiteralValue → Sender
literal_sender (literal.Numeric one) = number_sender one
literal_sender (literal.Nonnumeric bytes) = text_sender bytes
literal_sender (literal.Figurative one) = record { taken = taken.Figurative (constant_of one); bytes = [] }
literal_sender (literal.All bytes) = record { taken = taken.All; bytes = bytes }
