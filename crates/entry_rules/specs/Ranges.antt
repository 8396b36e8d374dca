-- The literals of a range of values.
use Rattle.std.specs.Prelude.{◌≡◌, ℕ, Bool, true, false, pos, List, length, Option}
use Rattle.decimal18.specs.Fraction.{Fraction}
use Rattle.items.specs.declared.item.Kind.TheVariants as kind
use Rattle.items.specs.declared.taken.Taken.{Taken}
use Rattle.items.specs.declared.taken.Taken.TheVariants as taken
use Rattle.source_tree.specs.declared.literal.Figurative.TheVariants as figurative
use Rattle.source_tree.specs.declared.literal.LiteralValue.{LiteralValue}
use Rattle.source_tree.specs.declared.literal.LiteralValue.TheVariants as literal
use Rattle.source_tree.specs.Literals.{literal_number, literal_sender}
use Rattle.source_tree.specs.ValueRules.{has_form, once}

-- a numeric literal, or ZERO
abbrev pub is_numeral : LiteralValue → Bool
is_numeral (literal.Numeric one) = true
is_numeral (literal.Figurative figurative.Zero) = true
is_numeral _ = false

abbrev pub is_text_literal : LiteralValue → Bool
is_text_literal (literal.Numeric one) = false
is_text_literal _ = true

pub record IsNumeral (value : LiteralValue) : Type 0 where
  pub form : has_form value ≡ true
  pub class : is_numeral value ≡ true

pub record IsText (value : LiteralValue) : Type 0 where
  pub form : has_form value ≡ true
  pub class : is_text_literal value ≡ true

abbrev pub number_of_literal : LiteralValue → Fraction
number_of_literal (literal.Numeric one) = literal_number one
number_of_literal _ = record { coefficient = pos 0; scale = 0 }

abbrev pub text_taken : List ℕ → Taken
text_taken bytes = taken.Item (record { kind = kind.Alphanumeric false; length = length bytes })

abbrev pub IsOnce : LiteralValue → Option (List ℕ) → Type 0
IsOnce value result = result ≡ once (literal_sender value).taken (literal_sender value).bytes
