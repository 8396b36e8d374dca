-- STRING: its rule, and how it is read.
use Rattle.std.specs.Prelude.{List, Option, None, Some, Ok}
use Rattle.tokens.specs.declared.reserved.Reserved.TheVariants as w
use Rattle.tokens.specs.declared.token.Token.{Token}
use Rattle.source_tree.specs.declared.expression.Operand.{Operand}
use Rattle.source_tree.specs.declared.reference.Reference.{Reference}
use Rattle.source_tree.specs.declared.string_statement.Sending.{Sending}
use Rattle.source_tree.specs.declared.string_statement.StringStatement.{StringStatement}
use Rattle.source_tree.specs.declared.statement.Verb.{Verb}
use Rattle.source_tree.specs.declared.statement.Verb.TheVariants as verb
use Rattle.source_tree.specs.declared.statement.Statement.{Statement}
use Rattle.grammar.specs.declared.phrase.Phrase.TheVariants.{Overflow}
use Rattle.grammar.specs.Parts as g
use Rattle.grammar.specs.Parts.{Part, ◌then◌, optional, absence_of, lookahead, word}
use Rattle.grammar.specs.Reading as r
use Rattle.grammar.specs.Reading.{Parser, Words, ◌>>=◌, ◌>>◌, pure, after_word, past_word, expect, skip}
use Rattle.grammar.specs.Phrases.{two_sided, two_sided_reader}
use Rattle.expressions.specs.References.{reference, reference_reader}
use Rattle.expressions.specs.Operands.{operand, begins_operand, operand_reader}

-- ---- senders and their delimiter

-- x|SIZE
abbrev pub delimiter : Option Operand → Part
delimiter None = word w.Size
delimiter (Some one) = operand one

-- x... DELIMITED [BY] {x|SIZE}
abbrev pub delimited_senders : Sending → Part
delimited_senders one = g.several operand (lookahead begins_operand) one.senders then word w.Delimited then optional (word w.By) then delimiter one.delimiter

-- ---- POINTER

-- [WITH] POINTER
abbrev pub with_pointer : Part
with_pointer = optional (word w.With) then word w.Pointer

-- [[WITH] POINTER d]
abbrev pub pointer_phrase : Option Reference → Part
pointer_phrase None = absence_of with_pointer
pointer_phrase (Some one) = with_pointer then reference one

-- STRING {x... DELIMITED [BY] {x|SIZE}}... INTO d [[WITH] POINTER d] [[ON] OVERFLOW s] [NOT [ON] OVERFLOW s] [END-STRING]
-- (COBOL-85, Nucleus, "The STRING statement"). After a delimiter INTO stands, or the senders of another.
abbrev pub string_statement : (List Statement → Part) → StringStatement Statement → Part
string_statement statements one =
    word w.String then g.several delimited_senders (lookahead begins_operand) one.sendings then word w.Into then reference one.receiver
    then pointer_phrase one.pointer then two_sided statements Overflow one.phrases then optional (word w.EndString)

-- ---- reading

-- by the tokens after SIZE
abbrev pub delimiter_at : Option (List Token) → Parser (Option Operand)
delimiter_at None i = (operand_reader >>= (λ one. pure (Some one))) i
delimiter_at (Some after) i = Ok (None, after)

unfoldable pub delimiter_reader : Parser (Option Operand)
delimiter_reader i = delimiter_at (after_word w.Size i) i

unfoldable pub sending_reader : Parser Sending
sending_reader = do
  senders ← r.several operand_reader begins_operand
  expect w.Delimited
  skip w.By
  delimiter ← delimiter_reader
  pure (record { senders = senders; delimiter = delimiter })

unfoldable pub after_with_pointer : Words
after_with_pointer i = after_word w.Pointer (past_word w.With i)

-- by the tokens after POINTER
abbrev pub pointer_at : Option (List Token) → Parser (Option Reference)
pointer_at None i = Ok (None, i)
pointer_at (Some after) i = (reference_reader >>= (λ one. pure (Some one))) after

unfoldable pub pointer_reader : Parser (Option Reference)
pointer_reader i = pointer_at (after_with_pointer i) i

-- what is strung together, and into what
unfoldable pub strung_reader : Parser (List Sending × Reference)
strung_reader = do
  sendings ← r.several sending_reader begins_operand
  expect w.Into
  receiver ← reference_reader
  pure (sendings, receiver)

unfoldable pub string_reader : {S : Type 0} → Parser (List S) → Parser (Verb S)
string_reader statements = do
  expect w.String
  strung ← strung_reader
  pointer ← pointer_reader
  both ← two_sided_reader statements Overflow
  skip w.EndString
  pure (verb.StringStatement (record { sendings = strung.0; receiver = strung.1; pointer = pointer; phrases = both }))
