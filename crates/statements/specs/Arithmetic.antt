-- Arithmetic statements, each with its SIZE ERROR phrases and its END word: their rule, and how they are read.
use Rattle.std.specs.Prelude.{ℕ, List}
use Rattle.tokens.specs.declared.reserved.Reserved.{Reserved}
use Rattle.tokens.specs.declared.reserved.Reserved.TheVariants as w
use Rattle.source_tree.specs.declared.arithmetic.Operation.{Operation}
use Rattle.source_tree.specs.declared.arithmetic.Operation.TheVariants.{Add, AddGiving, Subtract, SubtractGiving, Multiply, MultiplyGiving, Divide, DivideGiving, DivideRemainder, Compute}
use Rattle.source_tree.specs.declared.arithmetic.Arithmetic.{Arithmetic}
use Rattle.source_tree.specs.declared.statement.Verb.{Verb}
use Rattle.source_tree.specs.declared.statement.Verb.TheVariants as verb
use Rattle.source_tree.specs.declared.statement.Statement.{Statement}
use Rattle.grammar.specs.declared.phrase.Phrase.TheVariants.{SizeError}
use Rattle.grammar.specs.Parts.{Part, ◌then◌, optional, word}
use Rattle.grammar.specs.Reading.{Parser, ◌>>=◌, ◌>>◌, pure, skip}
use Rattle.grammar.specs.Phrases.{two_sided, two_sided_reader}
use Rattle.statements.specs.declared.verb.ArithmeticVerb.{ArithmeticVerb}
use Rattle.statements.specs.declared.verb.ArithmeticVerb.TheVariants as v
use Rattle.statements.specs.declared.receivers.Target.TheVariants.{Receivers, Giving}
use Rattle.statements.specs.Adding.{add_statement, adding_giving, add_reader}
use Rattle.statements.specs.Subtracting.{subtract_statement, subtract_reader}
use Rattle.statements.specs.Multiplying.{multiply_statement, multiply_reader}
use Rattle.statements.specs.Dividing.{divide_into_statement, dividing_giving, quotients, quotient_remainder, divide_reader}
use Rattle.statements.specs.Computing.{compute_statement, compute_reader}

-- What is computed: one line for each form. `depth` is how deep an expression may nest.
abbrev pub operation : ℕ → Operation → Part
operation depth (Add operands all) = add_statement operands (Receivers all)
operation depth (AddGiving operands all) = adding_giving operands all
operation depth (Subtract operands all) = subtract_statement operands (Receivers all)
operation depth (SubtractGiving operands minuend all) = subtract_statement operands (Giving minuend all)
operation depth (Multiply factor all) = multiply_statement factor (Receivers all)
operation depth (MultiplyGiving factor by all) = multiply_statement factor (Giving by all)
operation depth (Divide divisor all) = divide_into_statement divisor all
operation depth (DivideGiving first order second all) = dividing_giving first order second (quotients all)
operation depth (DivideRemainder first order second quotient remainder) = dividing_giving first order second (quotient_remainder quotient remainder)
operation depth (Compute all value) = compute_statement depth all value

-- the END word of a statement
abbrev pub end_word : Operation → Reserved
end_word (Add operands all) = w.EndAdd
end_word (AddGiving operands all) = w.EndAdd
end_word (Subtract operands all) = w.EndSubtract
end_word (SubtractGiving operands minuend all) = w.EndSubtract
end_word (Multiply factor all) = w.EndMultiply
end_word (MultiplyGiving factor by all) = w.EndMultiply
end_word (Divide divisor all) = w.EndDivide
end_word (DivideGiving first order second all) = w.EndDivide
end_word (DivideRemainder first order second quotient remainder) = w.EndDivide
end_word (Compute all value) = w.EndCompute

-- What is computed, [[ON] SIZE ERROR s] [NOT [ON] SIZE ERROR s], and its END word, which may be left out (COBOL-85, Nucleus,
-- "The SIZE ERROR phrase").
abbrev pub arithmetic : ℕ → (List Statement → Part) → Arithmetic Statement → Part
arithmetic depth statements one = operation depth one.operation then two_sided statements SizeError one.phrases then optional (word (end_word one.operation))

abbrev pub operation_reader : ℕ → ArithmeticVerb → Parser Operation
operation_reader depth v.Add = add_reader
operation_reader depth v.Subtract = subtract_reader
operation_reader depth v.Multiply = multiply_reader
operation_reader depth v.Divide = divide_reader
operation_reader depth v.Compute = compute_reader depth

unfoldable pub arithmetic_reader : {S : Type 0} → ℕ → Parser (List S) → ArithmeticVerb → Parser (Verb S)
arithmetic_reader depth statements one = do
  what ← operation_reader depth one
  both ← two_sided_reader statements SizeError
  skip (end_word what)
  pure (verb.Arithmetic (record { operation = what; phrases = both }))
