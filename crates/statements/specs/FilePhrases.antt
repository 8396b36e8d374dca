-- The phrases of file statements, AT END and INVALID KEY with their opposites: their rules, and how they are read, whatever reads
-- statements. The standard has them under "The AT END phrase" (COBOL-85, Sequential I-O) and "The INVALID KEY phrase" (Indexed
-- I-O).
use Rattle.std.specs.Prelude.{◌≡◌, ◌||◌, is_some, if◌then◌else◌, Bool, true, List}
use Rattle.source_tree.specs.declared.phrases.Phrases.{Phrases}
use Rattle.source_tree.specs.declared.phrases.FilePhrases.{FilePhrases}
use Rattle.source_tree.specs.declared.phrases.FilePhrases.TheVariants.{Absent, AtEnd, InvalidKey}
use Rattle.grammar.specs.declared.phrase.Phrase.{Phrase}
use Rattle.grammar.specs.declared.phrase.Phrase.TheVariants as phrase
use Rattle.grammar.specs.Parts.{Part, ◌or◌, nowhere, absence_of}
use Rattle.grammar.specs.Reading.{Parser, ◌>>=◌, pure}
use Rattle.grammar.specs.Phrases.{phrase_words, negated_phrase_words, two_sided, two_sided_reader}

-- one of the two stands, or both do
abbrev pub has_phrase : {S : Type 0} → Phrases S → Bool
has_phrase both = is_some both.arose || is_some both.did_not

-- the words of a phrase or of its opposite
abbrev pub phrase_beginning : Phrase → Part
phrase_beginning one = phrase_words one or negated_phrase_words one

-- a phrase, its opposite, or both
abbrev pub some_side : {S : Type 0} → (List S → Part) → Phrase → Phrases S → Part
some_side statements one both = λ from rest. (has_phrase both ≡ true) × two_sided statements one both from rest

-- [INVALID [KEY] s] [NOT INVALID [KEY] s]
abbrev pub key_phrases : {S : Type 0} → (List S → Part) → FilePhrases S → Part
key_phrases statements Absent = absence_of (phrase_beginning phrase.InvalidKey)
key_phrases statements (AtEnd both) = nowhere
key_phrases statements (InvalidKey both) = some_side statements phrase.InvalidKey both

-- [[AT] END s] [NOT [AT] END s], or INVALID KEY likewise
abbrev pub read_phrases : {S : Type 0} → (List S → Part) → FilePhrases S → Part
read_phrases statements Absent = absence_of (phrase_beginning phrase.AtEnd or phrase_beginning phrase.InvalidKey)
read_phrases statements (AtEnd both) = some_side statements phrase.AtEnd both
read_phrases statements (InvalidKey both) = some_side statements phrase.InvalidKey both

-- ---- reading

abbrev pub on_invalid_key : {S : Type 0} → Phrases S → FilePhrases S
on_invalid_key both = if has_phrase both then InvalidKey both else Absent

unfoldable pub key_phrases_reader : {S : Type 0} → Parser (List S) → Parser (FilePhrases S)
key_phrases_reader statements = do
  both ← two_sided_reader statements phrase.InvalidKey
  pure (on_invalid_key both)

-- INVALID KEY is looked for where neither AT END nor its opposite stands
abbrev pub or_invalid_key : {S : Type 0} → Parser (List S) → Phrases S → Parser (FilePhrases S)
or_invalid_key statements both = if has_phrase both then pure (AtEnd both) else key_phrases_reader statements

unfoldable pub read_phrases_reader : {S : Type 0} → Parser (List S) → Parser (FilePhrases S)
read_phrases_reader statements = do
  both ← two_sided_reader statements phrase.AtEnd
  or_invalid_key statements both
