-- Reading the clauses of a SELECT, as functions on lists of tokens.
use Rattle.tokens.specs.declared.reserved.Reserved.TheVariants as w
use Rattle.source_tree.specs.declared.reference.Reference.{Reference}
use Rattle.grammar.specs.Reading.{Parser, Words, ◌>>=◌, ◌>>◌, pure, after_word, past_word, expect, skip, presence_reader, one_token}
use Rattle.expressions.specs.References.{reference_reader}
use Rattle.grammar.specs.OptionalWords.{skip_led}
use Rattle.file_control.specs.Clauses.{organization_in, access_in}
use Rattle.file_control.specs.declared.clause.ClauseKind.{ClauseKind}
use Rattle.file_control.specs.declared.clause.ClauseKind.TheVariants as kind
use Rattle.file_control.specs.declared.clause.Clause.{Clause}
use Rattle.file_control.specs.declared.clause.Clause.TheVariants as clause_as

unfoldable pub organization_reader : Parser Clause
organization_reader = do
  skip_led w.Organization
  one ← one_token organization_in
  pure (clause_as.Organization one)

unfoldable pub access_reader : Parser Clause
access_reader = do
  expect w.Access
  skip w.Mode
  skip w.Is
  one ← one_token access_in
  pure (clause_as.Access one)

unfoldable pub key_reader : Parser Reference
key_reader = do
  skip w.Key
  skip w.Is
  reference_reader

unfoldable pub relative_key_reader : Parser Clause
relative_key_reader = do
  expect w.Relative
  one ← key_reader
  pure (clause_as.RelativeKey one)

unfoldable pub record_key_reader : Parser Clause
record_key_reader = do
  expect w.Record
  one ← key_reader
  pure (clause_as.RecordKey one)

unfoldable pub after_with_duplicates : Words
after_with_duplicates i = after_word w.Duplicates (past_word w.With i)

unfoldable pub alternate_key_reader : Parser Clause
alternate_key_reader = do
  expect w.Alternate
  skip w.Record
  key ← key_reader
  duplicates ← presence_reader after_with_duplicates
  pure (clause_as.AlternateKey (record { key = key; duplicates = duplicates }))

unfoldable pub status_reader : Parser Clause
status_reader = do
  skip w.File
  expect w.Status
  skip w.Is
  one ← reference_reader
  pure (clause_as.Status one)

-- the clause of this kind
unfoldable pub clause_reader : ClauseKind → Parser Clause
clause_reader kind.Organization = organization_reader
clause_reader kind.Access = access_reader
clause_reader kind.RelativeKey = relative_key_reader
clause_reader kind.RecordKey = record_key_reader
clause_reader kind.AlternateKey = alternate_key_reader
clause_reader kind.Status = status_reader
