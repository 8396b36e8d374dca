-- INSPECT: its rule, and how it is read.
use Rattle.std.specs.Prelude.{◌&&◌, ◌||◌, not, is_some, if◌then◌else◌, Bool, List, [], ◌∷◌, Option, None, Some, Ok}
use Rattle.tokens.specs.declared.reserved.Reserved.{Reserved}
use Rattle.tokens.specs.declared.reserved.Reserved.TheVariants as w
use Rattle.tokens.specs.declared.token.Kind.{Kind}
use Rattle.tokens.specs.declared.token.Kind.TheVariants as k
use Rattle.tokens.specs.declared.token.Token.{Token}
use Rattle.source_tree.specs.declared.inspect_statement.Occurrences.{Occurrences}
use Rattle.source_tree.specs.declared.inspect_statement.Occurrences.TheVariants.{All, Leading, First}
use Rattle.source_tree.specs.declared.inspect_statement.TalliedText.{TalliedText}
use Rattle.source_tree.specs.declared.inspect_statement.Tallied.{Tallied}
use Rattle.source_tree.specs.declared.inspect_statement.Tallied.TheVariants as tallied_as
use Rattle.source_tree.specs.declared.inspect_statement.Tallying.{Tallying}
use Rattle.source_tree.specs.declared.inspect_statement.ReplacedText.{ReplacedText}
use Rattle.source_tree.specs.declared.inspect_statement.Replacing.{Replacing}
use Rattle.source_tree.specs.declared.inspect_statement.Replacing.TheVariants as replacing_as
use Rattle.source_tree.specs.declared.inspect_statement.Converting.{Converting}
use Rattle.source_tree.specs.declared.inspect_statement.InspectStatement.{InspectStatement}
use Rattle.source_tree.specs.declared.text_statement.TextStatement.{TextStatement}
use Rattle.source_tree.specs.declared.text_statement.TextStatement.TheVariants as text_as
use Rattle.source_tree.specs.declared.reference.Reference.{Reference}
use Rattle.source_tree.specs.declared.statement.Verb.{Verb}
use Rattle.source_tree.specs.declared.statement.Verb.TheVariants as verb
use Rattle.source_tree.specs.declared.statement.Statement.{Statement}
use Rattle.grammar.specs.Parts as g
use Rattle.grammar.specs.Parts.{Part, ◌then◌, ◌but◌, absence_of, lookahead, token_with, begins_telling, word}
use Rattle.grammar.specs.Parts.{begins_name}
use Rattle.grammar.specs.Reading as r
use Rattle.grammar.specs.Reading.{Parser, ◌>>=◌, ◌>>◌, pure, refuse, begins_word, expect, one_token}
use Rattle.expressions.specs.References.{reference, reference_reader}
use Rattle.expressions.specs.Looking.{reference_before, after_reference_before}
use Rattle.statements.specs.Limiting.{text, begins_text, limit_phrases, text_reader, limits_reader}

-- ---- how texts occur

abbrev pub tallied_of : Reserved → Option Occurrences
tallied_of w.All = Some All
tallied_of w.Leading = Some Leading
tallied_of _ = None

abbrev pub replaced_of : Reserved → Option Occurrences
replaced_of w.First = Some First
replaced_of one = tallied_of one

abbrev pub tallied_by : Kind → Option Occurrences
tallied_by (k.Reserved one) = tallied_of one
tallied_by _ = None

abbrev pub replaced_by : Kind → Option Occurrences
replaced_by (k.Reserved one) = replaced_of one
replaced_by _ = None

-- ALL|LEADING
abbrev pub tallied_in : Token → Option Occurrences
tallied_in one = tallied_by one.kind

-- ALL|LEADING|FIRST
abbrev pub replaced_in : Token → Option Occurrences
replaced_in one = replaced_by one.kind

-- ---- TALLYING

-- A reference before FOR is a counter, and no text.
abbrev pub begin_tallied_text : Part
begin_tallied_text = lookahead begins_text but reference_before w.For

-- x bd
abbrev pub tallied_text : TalliedText → Part
tallied_text one = (text one.text then limit_phrases one.limits) but reference_before w.For

-- CHARACTERS bd|{ALL|LEADING} {x bd}...
abbrev pub tally_clause : Tallied → Part
tally_clause (tallied_as.Characters limits) = word w.Characters then limit_phrases limits
tally_clause (tallied_as.Texts occurrences texts) =
    token_with tallied_in occurrences then g.several tallied_text begin_tallied_text texts

abbrev pub begins_tallied : List Token → Bool
begins_tallied i = begins_word w.Characters i || begins_telling tallied_in i

-- d FOR {CHARACTERS bd|{ALL|LEADING} {x bd}...}...
abbrev pub counter_clause : Tallying → Part
counter_clause one =
    reference one.counter then word w.For then g.several tally_clause (lookahead begins_tallied) one.tallied

-- tal: TALLYING {d FOR {CHARACTERS bd|{ALL|LEADING} {x bd}...}...}...
abbrev pub tallying_phrase : List Tallying → Part
tallying_phrase all = word w.Tallying then g.several counter_clause (lookahead begins_name) all

-- ---- REPLACING

-- x BY x bd
abbrev pub replaced_text : ReplacedText → Part
replaced_text one = text one.text then word w.By then text one.by then limit_phrases one.limits

-- CHARACTERS BY x bd|{ALL|LEADING|FIRST} {x BY x bd}...
abbrev pub replacement_clause : Replacing → Part
replacement_clause (replacing_as.Characters by limits) =
    word w.Characters then word w.By then text by then limit_phrases limits
replacement_clause (replacing_as.Texts occurrences texts) =
    token_with replaced_in occurrences then g.several replaced_text (lookahead begins_text) texts

abbrev pub begins_replaced : List Token → Bool
begins_replaced i = begins_word w.Characters i || begins_telling replaced_in i

-- rep: REPLACING {CHARACTERS BY x bd|{ALL|LEADING|FIRST} {x BY x bd}...}...
abbrev pub replacing_phrase : List Replacing → Part
replacing_phrase all = word w.Replacing then g.several replacement_clause (lookahead begins_replaced) all

-- ---- the statement

-- [rep]
abbrev pub perhaps_replacing : List Replacing → Part
perhaps_replacing [] = absence_of (word w.Replacing)
perhaps_replacing (one ∷ more) = replacing_phrase (one ∷ more)

-- tal [rep]|rep
abbrev pub phrases : List Tallying → List Replacing → Part
phrases [] all = replacing_phrase all
phrases (one ∷ more) all = tallying_phrase (one ∷ more) then perhaps_replacing all

-- INSPECT d {tal [rep]|rep} (COBOL-85, Nucleus, "The INSPECT statement")
abbrev pub inspect_statement : InspectStatement → Part
inspect_statement one = word w.Inspect then reference one.subject then phrases one.tallying one.replacing

-- CONVERTING x TO x bd
abbrev pub converted_texts : ReplacedText → Part
converted_texts one = word w.Converting then text one.text then word w.To then text one.by then limit_phrases one.limits

-- INSPECT d CONVERTING x TO x bd (COBOL-85, Nucleus, "The INSPECT statement")
abbrev pub convert_statement : Converting → Part
convert_statement one = word w.Inspect then reference one.subject then converted_texts one.texts

-- ---- reading TALLYING

abbrev pub begins_tallied_text : List Token → Bool
begins_tallied_text i = begins_text i && not (is_some (after_reference_before w.For i))

unfoldable pub limited_text_reader : Parser TalliedText
limited_text_reader = do
  one ← text_reader
  limits ← limits_reader
  pure (record { text = one; limits = limits })

unfoldable pub tallied_text_reader : Parser TalliedText
tallied_text_reader i = if is_some (after_reference_before w.For i) then refuse i else limited_text_reader i

unfoldable pub tallied_texts_reader : Parser Tallied
tallied_texts_reader = do
  occurrences ← one_token tallied_in
  texts ← r.several tallied_text_reader begins_tallied_text
  pure (tallied_as.Texts occurrences texts)

unfoldable pub tallied_characters_reader : Parser Tallied
tallied_characters_reader = do
  expect w.Characters
  limits ← limits_reader
  pure (tallied_as.Characters limits)

unfoldable pub tallied_reader : Parser Tallied
tallied_reader i = if begins_telling tallied_in i then tallied_texts_reader i else tallied_characters_reader i

unfoldable pub counting_reader : Parser Tallying
counting_reader = do
  counter ← reference_reader
  expect w.For
  entries ← r.several tallied_reader begins_tallied
  pure (record { counter = counter; tallied = entries })

unfoldable pub tallying_reader : Parser (List Tallying)
tallying_reader = do
  expect w.Tallying
  r.several counting_reader begins_name

-- ---- reading REPLACING

-- x, the word between, x bd
unfoldable pub replacement_reader : Reserved → Parser ReplacedText
replacement_reader between = do
  one ← text_reader
  expect between
  by ← text_reader
  limits ← limits_reader
  pure (record { text = one; by = by; limits = limits })

unfoldable pub replaced_text_reader : Parser ReplacedText
replaced_text_reader = do
  one ← text_reader
  expect w.By
  by ← text_reader
  limits ← limits_reader
  pure (record { text = one; by = by; limits = limits })

unfoldable pub replaced_texts_reader : Parser Replacing
replaced_texts_reader = do
  occurrences ← one_token replaced_in
  texts ← r.several replaced_text_reader begins_text
  pure (replacing_as.Texts occurrences texts)

unfoldable pub replaced_characters_reader : Parser Replacing
replaced_characters_reader = do
  expect w.Characters
  expect w.By
  by ← text_reader
  limits ← limits_reader
  pure (replacing_as.Characters by limits)

unfoldable pub replaced_reader : Parser Replacing
replaced_reader i = if begins_telling replaced_in i then replaced_texts_reader i else replaced_characters_reader i

unfoldable pub replacing_reader : Parser (List Replacing)
replacing_reader = do
  expect w.Replacing
  r.several replaced_reader begins_replaced

-- ---- reading the statement

unfoldable pub perhaps_replacing_reader : Parser (List Replacing)
perhaps_replacing_reader i = if begins_word w.Replacing i then replacing_reader i else Ok ([], i)

unfoldable pub counted_reader : Parser (List Tallying × List Replacing)
counted_reader = do
  counters ← tallying_reader
  entries ← perhaps_replacing_reader
  pure (counters, entries)

unfoldable pub uncounted_reader : Parser (List Tallying × List Replacing)
uncounted_reader = do
  entries ← replacing_reader
  pure ([], entries)

unfoldable pub phrases_reader : Parser (List Tallying × List Replacing)
phrases_reader i = if begins_word w.Tallying i then counted_reader i else uncounted_reader i

unfoldable pub converted_texts_reader : Parser ReplacedText
converted_texts_reader = do
  expect w.Converting
  one ← text_reader
  expect w.To
  by ← text_reader
  limits ← limits_reader
  pure (record { text = one; by = by; limits = limits })

-- after the subject
unfoldable pub convert_of : Reference → Parser TextStatement
convert_of subject = do
  texts ← converted_texts_reader
  pure (text_as.Convert (record { subject = subject; texts = texts }))

unfoldable pub phrases_of : Reference → Parser TextStatement
phrases_of subject = do
  both ← phrases_reader
  pure (text_as.Inspect (record { subject = subject; tallying = both.0; replacing = both.1 }))

unfoldable pub inspected_of : Reference → Parser TextStatement
inspected_of subject i = if begins_word w.Converting i then convert_of subject i else phrases_of subject i

unfoldable pub inspect_reader : Parser (Verb Statement)
inspect_reader = do
  expect w.Inspect
  subject ← reference_reader
  one ← inspected_of subject
  pure (verb.TextStatement one)
