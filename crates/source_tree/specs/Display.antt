-- What DISPLAY shows of literals, and the end of its line (COBOL-85, Nucleus, "The DISPLAY statement").
use Rattle.std.specs.Prelude.{ℕ, Bool, true, false, List, [], ◌∷◌, ◌++◌}
use Rattle.lexical.specs.declared.number.Sign.{Sign}
use Rattle.lexical.specs.declared.number.Sign.TheVariants as sign
use Rattle.lexical.specs.declared.number.NumericLiteral.{NumericLiteral}
use Rattle.source_tree.specs.declared.literal.Figurative.{Figurative}
use Rattle.source_tree.specs.declared.literal.Figurative.TheVariants.{Zero, Space, HighValue, LowValue, Quote}
use Rattle.source_tree.specs.declared.literal.LiteralValue.{LiteralValue}
use Rattle.source_tree.specs.declared.literal.LiteralValue.TheVariants as value

-- in ASCII
abbrev pub line_feed : ℕ
line_feed = 10

abbrev pub plus_sign : ℕ
plus_sign = 43

abbrev pub minus_sign : ℕ
minus_sign = 45

abbrev pub point : ℕ
point = 46

abbrev pub shown_sign : Sign → List ℕ
shown_sign sign.Unsigned = []
shown_sign sign.Plus = plus_sign ∷ []
shown_sign sign.Minus = minus_sign ∷ []

-- decimals with their point; without any there is no point
abbrev pub shown_decimals : List ℕ → List ℕ
shown_decimals [] = []
shown_decimals (digit ∷ digits) = point ∷ digit ∷ digits

-- A number is shown as it was written (own choice, except for unsigned integers).
abbrev pub literal_text : NumericLiteral → List ℕ
literal_text n = shown_sign n.sign ++ n.whole ++ shown_decimals n.decimals

-- the character of a figurative constant (COBOL-85, Nucleus, "Figurative constants"); HIGH-VALUE and LOW-VALUE are the
-- greatest and the least byte (own choice)
abbrev pub figurative_byte : Figurative → ℕ
figurative_byte Zero = 48
figurative_byte Space = 32
figurative_byte HighValue = 255
figurative_byte LowValue = 0
figurative_byte Quote = 34

-- A figurative constant is shown once. ALL shows its literal once (own choice).
abbrev pub shown_literal : LiteralValue → List ℕ
shown_literal (value.Numeric number) = literal_text number
shown_literal (value.Nonnumeric bytes) = bytes
shown_literal (value.Figurative one) = figurative_byte one ∷ []
shown_literal (value.All bytes) = bytes

abbrev pub line_end : Bool → List ℕ
line_end true = line_feed ∷ []
line_end false = []
