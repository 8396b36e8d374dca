-- What is asked of an operand: relational operators, signs and classes, with IS and NOT before them (COBOL-85, Nucleus,
-- "Relation condition", "Sign condition", "Class condition"): their rules, and how they are read.
use Rattle.std.specs.Prelude.{◌≡◌, if◌then◌else◌, Bool, true, false, List, [], ◌∷◌, Option, None, Some, Ok}
use Rattle.std.specs.Option.{option_map}
use Rattle.tokens.specs.declared.reserved.Reserved.{Reserved}
use Rattle.tokens.specs.declared.reserved.Reserved.TheVariants as w
use Rattle.tokens.specs.declared.token.Kind.{Kind}
use Rattle.tokens.specs.declared.token.Kind.TheVariants as k
use Rattle.tokens.specs.declared.token.Token.{Token}
use Rattle.tokens.specs.declared.token.Operator.{Operator as Written}
use Rattle.tokens.specs.declared.token.Operator.TheVariants as written
use Rattle.source_tree.specs.declared.condition.Relation.{Relation}
use Rattle.source_tree.specs.declared.condition.Relation.TheVariants as relation
use Rattle.source_tree.specs.declared.condition.SignTest.TheVariants as sign
use Rattle.source_tree.specs.declared.condition.Class.TheVariants as class
use Rattle.grammar.specs.Parts.{Part, ◌then◌, ◌or◌, absence_of, optional, optional_part, word, token_with, is_told}
use Rattle.grammar.specs.Reading as r
use Rattle.grammar.specs.Reading.{Parser, ◌>>=◌, ◌>>◌, pure, expect, skip, one_token, begins_word, after_word, past_word}
use Rattle.conditions.specs.declared.asked.Test.{Test}
use Rattle.conditions.specs.declared.asked.Test.TheVariants as test
use Rattle.conditions.specs.declared.asked.Asked.{Asked}
use Rattle.conditions.specs.declared.asked.Asked.TheVariants as asked_as

-- ---- words and symbols

abbrev pub symbol_of : Written → Option Relation
symbol_of written.Equal = Some relation.Equal
symbol_of written.Greater = Some relation.Greater
symbol_of written.Less = Some relation.Less
symbol_of written.GreaterOrEqual = Some relation.GreaterOrEqual
symbol_of written.LessOrEqual = Some relation.LessOrEqual
symbol_of _ = None

-- what a word asks for
abbrev pub word_asks : Reserved → Option Test
word_asks w.Greater = Some (test.Order relation.Greater)
word_asks w.Less = Some (test.Order relation.Less)
word_asks w.Equal = Some test.Equal
word_asks w.Positive = Some (test.Sign sign.Positive)
word_asks w.Negative = Some (test.Sign sign.Negative)
word_asks w.Zero = Some (test.Sign sign.Zero)
word_asks w.Numeric = Some (test.Class class.Numeric)
word_asks w.Alphabetic = Some (test.Class class.Alphabetic)
word_asks w.AlphabeticLower = Some (test.Class class.AlphabeticLower)
word_asks w.AlphabeticUpper = Some (test.Class class.AlphabeticUpper)
word_asks _ = None

abbrev pub test_by : Kind → Option Test
test_by (k.Reserved one) = word_asks one
test_by (k.Operator one) = option_map test.Symbol (symbol_of one)
test_by _ = None

abbrev pub test_in : Token → Option Test
test_in one = test_by one.kind

-- ---- relational operators

-- [OR EQUAL [TO]], told by whether it stands
abbrev pub or_equal : Bool → Part
or_equal true = word w.Or then word w.Equal then optional (word w.To)
or_equal false = absence_of (word w.Or)

abbrev pub with_equal : Bool → Relation → Relation
with_equal false one = one
with_equal true relation.Greater = relation.GreaterOrEqual
with_equal true relation.Less = relation.LessOrEqual
with_equal true one = one

-- {GREATER|LESS} [THAN] [OR EQUAL [TO]]
abbrev pub order_relation : Relation → Part
order_relation one = λ from rest. (order : Relation) × (equal : Bool) × (one ≡ with_equal equal order)
    × (token_with test_in (test.Order order) then optional (word w.Than) then or_equal equal) from rest

-- EQUAL [TO]
abbrev pub equality : Relation → Part
equality one = λ from rest. (one ≡ relation.Equal) × (token_with test_in test.Equal then optional (word w.To)) from rest

-- {GREATER|LESS} [THAN] [OR EQUAL [TO]] | EQUAL [TO] | > | < | = | >= | <=
abbrev pub comparison : Relation → Part
comparison one = token_with test_in (test.Symbol one) or (order_relation one or equality one)

-- ---- with IS and NOT

-- [IS] [NOT]
abbrev pub is_not : Bool → Part
is_not negated = optional (word w.Is) then optional_part (word w.Not) negated

-- [IS] [NOT] rel | [IS] [NOT] {POSITIVE|NEGATIVE|ZERO} | [IS] [NOT] {NUMERIC|ALPHABETIC|ALPHABETIC-LOWER|ALPHABETIC-UPPER}
abbrev pub test_phrase : Asked → Part
test_phrase (asked_as.Relation one) = is_not one.negated then comparison one.relation
test_phrase (asked_as.Sign negated one) = is_not negated then token_with test_in (test.Sign one)
test_phrase (asked_as.Class negated one) = is_not negated then token_with test_in (test.Class one)

-- ---- reading

abbrev pub operator : Bool → Relation → Asked
operator negated one = asked_as.Relation (record { negated = negated; relation = one })

unfoldable pub or_equal_phrase_reader : Parser Bool
or_equal_phrase_reader = do
  expect w.Or
  expect w.Equal
  skip w.To
  pure true

unfoldable pub or_equal_reader : Parser Bool
or_equal_reader i = if begins_word w.Or i then or_equal_phrase_reader i else Ok (false, i)

-- after GREATER or LESS
unfoldable pub order_reader : Bool → Relation → Parser Asked
order_reader negated order = do
  skip w.Than
  equal ← or_equal_reader
  pure (operator negated (with_equal equal order))

-- after EQUAL
unfoldable pub equal_reader : Bool → Parser Asked
equal_reader negated = do
  skip w.To
  pure (operator negated relation.Equal)

abbrev pub asked_after : Bool → Test → Parser Asked
asked_after negated (test.Symbol one) = pure (operator negated one)
asked_after negated (test.Order one) = order_reader negated one
asked_after negated test.Equal = equal_reader negated
asked_after negated (test.Sign one) = pure (asked_as.Sign negated one)
asked_after negated (test.Class one) = pure (asked_as.Class negated one)

unfoldable pub asked_reader : Parser Asked
asked_reader = do
  skip w.Is
  negated ← r.presence_reader (after_word w.Not)
  one ← one_token test_in
  asked_after negated one

-- ---- looking ahead

abbrev pub first_known : {A : Type 0} → (Token → Option A) → List Token → Option A
first_known tells [] = None
first_known tells (first ∷ more) = tells first

-- what is asked, after IS and NOT
abbrev pub next_test : List Token → Option Test
next_test i = first_known test_in (past_word w.Not (past_word w.Is i))

abbrev pub begins_test : List Token → Bool
begins_test i = is_told (next_test i)

abbrev pub is_class : Option Test → Bool
is_class (Some (test.Class one)) = true
is_class _ = false

abbrev pub begins_class : List Token → Bool
begins_class i = is_class (next_test i)
