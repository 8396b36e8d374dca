-- DIVIDE: its rule, and how it is read.
use Rattle.std.specs.Prelude.{if◌then◌else◌, List, [], ◌∷◌, Option, None, Some, Ok}
use Rattle.tokens.specs.declared.reserved.Reserved.{Reserved}
use Rattle.tokens.specs.declared.reserved.Reserved.TheVariants as w
use Rattle.source_tree.specs.declared.reference.Reference.{Reference}
use Rattle.source_tree.specs.declared.expression.Operand.{Operand}
use Rattle.source_tree.specs.declared.arithmetic.Receiver.{Receiver}
use Rattle.source_tree.specs.declared.arithmetic.DivisionOrder.{DivisionOrder}
use Rattle.source_tree.specs.declared.arithmetic.DivisionOrder.TheVariants.{Into, By}
use Rattle.source_tree.specs.declared.arithmetic.Operation.{Operation}
use Rattle.source_tree.specs.declared.arithmetic.Operation.TheVariants.{Divide, DivideGiving, DivideRemainder}
use Rattle.grammar.specs.Parts.{Part, ◌then◌, absence_of, word}
use Rattle.grammar.specs.Reading.{Parser, ◌>>=◌, ◌>>◌, pure, refuse, begins_word, expect}
use Rattle.expressions.specs.References.{reference, reference_reader}
use Rattle.expressions.specs.Operands.{number_operand, number_operand_reader}
use Rattle.statements.specs.declared.receivers.Target.{Target}
use Rattle.statements.specs.declared.receivers.Target.TheVariants.{Receivers, Giving}
use Rattle.statements.specs.Receivers.{receiver, receivers, target, receivers_reader, target_reader}

-- DIVIDE num INTO rd... (COBOL-85, Nucleus, "The DIVIDE statement")
abbrev pub divide_into_statement : Operand → List Receiver → Part
divide_into_statement divisor all = word w.Divide then number_operand divisor then word w.Into then target (Receivers all)

abbrev pub order_word : DivisionOrder → Reserved
order_word Into = w.Into
order_word By = w.By

-- DIVIDE num {INTO|BY} num GIVING, and the quotients
abbrev pub dividing_giving : Operand → DivisionOrder → Operand → Part → Part
dividing_giving first order second quotients =
    word w.Divide then number_operand first then word (order_word order) then number_operand second then word w.Giving then quotients

-- rd...: REMAINDER is left out only where it does not stand
abbrev pub quotients : List Receiver → Part
quotients all = receivers all then absence_of (word w.Remainder)

-- rd REMAINDER d
abbrev pub quotient_remainder : Receiver → Reference → Part
quotient_remainder quotient remainder = receiver quotient then word w.Remainder then reference remainder

-- ---- reading

-- the one receiver of a list
abbrev pub only : List Receiver → Option Receiver
only [] = None
only (one ∷ []) = Some one
only (one ∷ other ∷ more) = None

module _ (first : Operand) (order : DivisionOrder) (second : Operand) where
  abbrev pub remainder_of : Option Receiver → Parser Operation
  remainder_of None = refuse
  remainder_of (Some quotient) = do
    expect w.Remainder
    remainder ← reference_reader
    pure (DivideRemainder first order second quotient remainder)

  -- after what is given: REMAINDER takes one quotient
  unfoldable pub given_reader : List Receiver → Parser Operation
  given_reader all i = if begins_word w.Remainder i then remainder_of (only all) i else Ok (DivideGiving first order second all, i)

abbrev pub divided_into : Operand → Target → Parser Operation
divided_into first (Receivers all) = pure (Divide first all)
divided_into first (Giving second all) = given_reader first Into second all

unfoldable pub into_reader : Operand → Parser Operation
into_reader first = do
  expect w.Into
  to ← target_reader
  divided_into first to

abbrev pub giving_of : Operand → Operand → Parser Operation
giving_of first second = do
  expect w.Giving
  all ← receivers_reader
  given_reader first By second all

unfoldable pub by_reader : Operand → Parser Operation
by_reader first = do
  expect w.By
  second ← number_operand_reader
  giving_of first second

unfoldable pub divided_reader : Operand → Parser Operation
divided_reader first i = if begins_word w.By i then by_reader first i else into_reader first i

unfoldable pub divide_reader : Parser Operation
divide_reader = do
  expect w.Divide
  first ← number_operand_reader
  divided_reader first
