-- Phrases with statements, each with its opposite: SIZE ERROR, AT END, INVALID KEY and OVERFLOW, and the same after NOT. The
-- standard has them under "The SIZE ERROR phrase" (COBOL-85, Nucleus), "The AT END phrase" (Sequential I-O) and "The INVALID KEY
-- phrase" (Indexed I-O). Their rules, and how they are read, whatever reads statements.
use Rattle.std.specs.Prelude.{List, Option, None, Some, Ok}
use Rattle.std.specs.Option.{option_map}
use Rattle.tokens.specs.declared.reserved.Reserved.TheVariants as w
use Rattle.tokens.specs.declared.token.Token.{Token}
use Rattle.source_tree.specs.declared.phrases.Phrases.{Phrases}
use Rattle.grammar.specs.declared.phrase.Phrase.{Phrase}
use Rattle.grammar.specs.declared.phrase.Phrase.TheVariants.{SizeError, AtEnd, InvalidKey, Overflow}
use Rattle.grammar.specs.Parts.{Part, ◌then◌, optional, absence_of, word}
use Rattle.grammar.specs.Reading.{Parser, Words, ◌>>=◌, pure, after_word, past_word, also_after, and_past}

-- [ON] SIZE ERROR | [AT] END | INVALID [KEY] | [ON] OVERFLOW
abbrev pub phrase_words : Phrase → Part
phrase_words SizeError = optional (word w.On) then word w.Size then word w.Error
phrase_words AtEnd = optional (word w.At) then word w.End
phrase_words InvalidKey = word w.Invalid then optional (word w.Key)
phrase_words Overflow = optional (word w.On) then word w.Overflow

-- NOT and these words
abbrev pub negated_phrase_words : Phrase → Part
negated_phrase_words phrase = word w.Not then phrase_words phrase

-- words and statements, or neither where the words do not stand
abbrev pub phrase : {S : Type 0} → (List S → Part) → Part → Option (List S) → Part
phrase statements words None = absence_of words
phrase statements words (Some done) = words then statements done

-- the phrase, and then its opposite; either may be left out
abbrev pub two_sided : {S : Type 0} → (List S → Part) → Phrase → Phrases S → Part
two_sided statements one both = phrase statements (phrase_words one) both.arose then phrase statements (negated_phrase_words one) both.did_not

-- ---- reading

abbrev pub after_opened : Phrase → Words
after_opened SizeError i = also_after w.Error (after_word w.Size (past_word w.On i))
after_opened AtEnd i = after_word w.End (past_word w.At i)
after_opened InvalidKey i = option_map (past_word w.Key) (after_word w.Invalid i)
after_opened Overflow i = after_word w.Overflow (past_word w.On i)

abbrev pub after_denied : Phrase → Words
after_denied one i = and_past (after_word w.Not i) (after_opened one)

-- by the tokens after the words, where they stand
abbrev pub phrase_at : {S : Type 0} → Parser (List S) → Option (List Token) → Parser (Option (List S))
phrase_at statements None i = Ok (None, i)
phrase_at statements (Some after) i = (statements >>= (λ done. pure (Some done))) after

unfoldable pub phrase_reader : {S : Type 0} → Parser (List S) → Words → Parser (Option (List S))
phrase_reader statements words = λ i. phrase_at statements (words i) i

unfoldable pub two_sided_reader : {S : Type 0} → Parser (List S) → Phrase → Parser (Phrases S)
two_sided_reader statements one = do
  arose ← phrase_reader statements (after_opened one)
  did_not ← phrase_reader statements (after_denied one)
  pure (record { arose = arose; did_not = did_not })
