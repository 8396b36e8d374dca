-- File statements (COBOL-85, Sequential, Relative and Indexed I-O): their rules, and how they are read.
use Rattle.std.specs.Prelude.{Bool, List, Option, None, Some, Ok}
use Rattle.std.specs.Option.{option_map}
use Rattle.tokens.specs.declared.reserved.Reserved.{Reserved}
use Rattle.tokens.specs.declared.reserved.Reserved.TheVariants as w
use Rattle.tokens.specs.declared.token.Token.{Token}
use Rattle.source_tree.specs.declared.name.Name.{Name}
use Rattle.source_tree.specs.declared.reference.Reference.{Reference}
use Rattle.source_tree.specs.declared.phrases.FilePhrases.{FilePhrases}
use Rattle.source_tree.specs.declared.file_statement.StartKey.{StartKey}
use Rattle.source_tree.specs.declared.file_statement.FileStatement.{FileStatement}
use Rattle.source_tree.specs.declared.file_statement.FileStatement.TheVariants as filing_as
use Rattle.source_tree.specs.declared.statement.Verb.{Verb}
use Rattle.source_tree.specs.declared.statement.Verb.TheVariants as verb
use Rattle.source_tree.specs.declared.statement.Statement.{Statement}
use Rattle.grammar.specs.Parts.{Part, ◌then◌, absence_of, optional, optional_part, word, name}
use Rattle.grammar.specs.Reading as r
use Rattle.grammar.specs.Reading.{Parser, Words, ◌>>=◌, ◌>>◌, pure, expect, skip, after_word, past_word}
use Rattle.expressions.specs.References.{reference, reference_reader}
use Rattle.conditions.specs.Relations.{relational_operator, relation_reader}
use Rattle.statements.specs.declared.verb.FileVerb.{FileVerb}
use Rattle.statements.specs.declared.verb.FileVerb.TheVariants as v
use Rattle.statements.specs.FilePhrases.{key_phrases, read_phrases, key_phrases_reader, read_phrases_reader}
use Rattle.statements.specs.Opening.{openings, close_statement, openings_reader, close_reader}

-- ---- items after words

-- words and d, or neither where the words do not stand
abbrev pub item_after : Part → Option Reference → Part
item_after words None = absence_of words
item_after words (Some one) = words then reference one

-- KEY [IS]
abbrev pub key_is : Part
key_is = word w.Key then optional (word w.Is)

-- KEY [IS] [NOT] rel d, or neither where KEY does not stand
abbrev pub start_key : Option StartKey → Part
start_key None = absence_of (word w.Key)
start_key (Some one) = word w.Key then relational_operator one.operator then reference one.key

-- ---- the statements

-- `statements` spells the statements of the phrases.
module _ (statements : List Statement → Part) where
  -- READ f [NEXT] [RECORD] [INTO d] [KEY [IS] d] {end|inv} [END-READ]
  abbrev pub read_statement : Name → Bool → Option Reference → Option Reference → FilePhrases Statement → Part
  read_statement file next into key phrases =
      word w.Read then name file then optional_part (word w.Next) next then optional (word w.Record) then item_after (word w.Into) into
      then item_after key_is key then read_phrases statements phrases then optional (word w.EndRead)

  -- WRITE d [FROM d] inv [END-WRITE], and the same by REWRITE
  abbrev pub record_statement : Reserved → Reserved → Reference → Option Reference → FilePhrases Statement → Part
  record_statement verb end row from phrases =
      word verb then reference row then item_after (word w.From) from then key_phrases statements phrases then optional (word end)

  -- DELETE f [RECORD] inv [END-DELETE]
  abbrev pub delete_statement : Name → FilePhrases Statement → Part
  delete_statement file phrases = word w.Delete then name file then optional (word w.Record) then key_phrases statements phrases then optional (word w.EndDelete)

  -- START f [KEY [IS] [NOT] rel d] inv [END-START]
  abbrev pub start_statement : Name → Option StartKey → FilePhrases Statement → Part
  start_statement file key phrases = word w.Start then name file then start_key key then key_phrases statements phrases then optional (word w.EndStart)

  abbrev pub file_statement : FileStatement Statement → Part
  file_statement (filing_as.Open files) = openings files
  file_statement (filing_as.Close files) = close_statement files
  file_statement (filing_as.Read file next into key phrases) = read_statement file next into key phrases
  file_statement (filing_as.Write row from phrases) = record_statement w.Write w.EndWrite row from phrases
  file_statement (filing_as.Rewrite row from phrases) = record_statement w.Rewrite w.EndRewrite row from phrases
  file_statement (filing_as.Delete file phrases) = delete_statement file phrases
  file_statement (filing_as.Start file key phrases) = start_statement file key phrases

-- ---- reading

-- by the tokens after the words, where they stand
abbrev pub item_at : Option (List Token) → Parser (Option Reference)
item_at None i = Ok (None, i)
item_at (Some after) i = (reference_reader >>= (λ one. pure (Some one))) after

unfoldable pub item_after_reader : Words → Parser (Option Reference)
item_after_reader words i = item_at (words i) i

unfoldable pub after_key_is : Words
after_key_is i = option_map (past_word w.Is) (after_word w.Key i)

-- after KEY
unfoldable pub some_key_reader : Parser (Option StartKey)
some_key_reader = do
  operator ← relation_reader
  key ← reference_reader
  pure (Some (record { operator = operator; key = key }))

abbrev pub start_key_at : Option (List Token) → Parser (Option StartKey)
start_key_at None i = Ok (None, i)
start_key_at (Some after) i = some_key_reader after

unfoldable pub start_key_reader : Parser (Option StartKey)
start_key_reader i = start_key_at (after_word w.Key i) i

-- `statements` reads the statements of the phrases.
module _ {S : Type 0} (statements : Parser (List S)) where
  unfoldable pub read_reader : Parser (FileStatement S)
  read_reader = do
    expect w.Read
    file ← r.name
    next ← r.presence_reader (after_word w.Next)
    skip w.Record
    into ← item_after_reader (after_word w.Into)
    key ← item_after_reader after_key_is
    phrases ← read_phrases_reader statements
    skip w.EndRead
    pure (filing_as.Read file next into key phrases)

  -- a record, what it is stored from, and the phrases
  unfoldable pub stored_reader : Parser (Reference × (Option Reference × FilePhrases S))
  stored_reader = do
    row ← reference_reader
    from ← item_after_reader (after_word w.From)
    phrases ← key_phrases_reader statements
    pure (row, (from, phrases))

  unfoldable pub write_reader : Parser (FileStatement S)
  write_reader = do
    expect w.Write
    stored ← stored_reader
    skip w.EndWrite
    pure (filing_as.Write stored.0 stored.1.0 stored.1.1)

  unfoldable pub rewrite_reader : Parser (FileStatement S)
  rewrite_reader = do
    expect w.Rewrite
    stored ← stored_reader
    skip w.EndRewrite
    pure (filing_as.Rewrite stored.0 stored.1.0 stored.1.1)

  unfoldable pub delete_reader : Parser (FileStatement S)
  delete_reader = do
    expect w.Delete
    file ← r.name
    skip w.Record
    phrases ← key_phrases_reader statements
    skip w.EndDelete
    pure (filing_as.Delete file phrases)

  unfoldable pub start_reader : Parser (FileStatement S)
  start_reader = do
    expect w.Start
    file ← r.name
    key ← start_key_reader
    phrases ← key_phrases_reader statements
    skip w.EndStart
    pure (filing_as.Start file key phrases)

  -- the verb decides
  abbrev pub by_file_verb : FileVerb → Parser (FileStatement S)
  by_file_verb v.Open = openings_reader
  by_file_verb v.Close = close_reader
  by_file_verb v.Read = read_reader
  by_file_verb v.Write = write_reader
  by_file_verb v.Rewrite = rewrite_reader
  by_file_verb v.Delete = delete_reader
  by_file_verb v.Start = start_reader

  unfoldable pub file_reader : FileVerb → Parser (Verb S)
  file_reader one = do
    found ← by_file_verb one
    pure (verb.FileStatement found)
