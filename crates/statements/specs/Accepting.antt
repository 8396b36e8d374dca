-- ACCEPT: its rule, and how it is read.
use Rattle.std.specs.Prelude.{Bool, true, false}
use Rattle.tokens.specs.declared.reserved.Reserved.TheVariants as w
use Rattle.source_tree.specs.declared.reference.Reference.{Reference}
use Rattle.source_tree.specs.declared.text_statement.TextStatement.{TextStatement}
use Rattle.source_tree.specs.declared.text_statement.TextStatement.TheVariants as text
use Rattle.source_tree.specs.declared.statement.Verb.{Verb}
use Rattle.source_tree.specs.declared.statement.Verb.TheVariants as verb
use Rattle.source_tree.specs.declared.statement.Statement.{Statement}
use Rattle.grammar.specs.Parts.{Part, ◌then◌, left_out, word}
use Rattle.grammar.specs.Reading as r
use Rattle.grammar.specs.Reading.{Parser, ◌>>=◌, ◌>>◌, pure, Words, after_word, also_after, expect}
use Rattle.expressions.specs.References.{reference, reference_reader}

abbrev pub from_date : Part
from_date = word w.From then word w.Date

-- ACCEPT d [FROM DATE] (COBOL-85, Nucleus, "The ACCEPT statement"); `console` where FROM DATE is left out
abbrev pub accept_statement : Reference → Bool → Part
accept_statement receiver console = word w.Accept then reference receiver then left_out from_date console

abbrev pub accept_tree : Reference → Bool → TextStatement
accept_tree receiver true = text.Accept receiver
accept_tree receiver false = text.AcceptDate receiver

unfoldable pub after_from_date : Words
after_from_date i = also_after w.Date (after_word w.From i)

unfoldable pub accept_reader : Parser (Verb Statement)
accept_reader = do
  expect w.Accept
  receiver ← reference_reader
  console ← r.left_out after_from_date
  pure (verb.TextStatement (accept_tree receiver console))
