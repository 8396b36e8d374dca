-- Worked examples of the reference format.
use Rattle.std.proofs.Common.{◌≡◌, ℕ, List, [], ◌∷◌, ◌++◌, map, take, drop, replicate, Result, Ok, Err, refl, sym, ◌∙◌}
use Rattle.std.proofs.Common.{arith}
use Rattle.std.specs.Prelude.{codes}
use Rattle.source_lines.specs.declared.fault.SourceFault.{SourceFault}
use Rattle.source_lines.specs.declared.fault.FaultKind.{FaultKind}
use Rattle.source_lines.specs.declared.fault.FaultKind.TheVariants.{ByteOutsideCharacterSet, UnknownIndicator}
use Rattle.source_lines.specs.declared.fault.FaultKind.TheVariants.{WrongContinuation, UnclosedLiteral}
use Rattle.source_lines.specs.declared.lines.Character.{Character}
use Rattle.source_lines.specs.declared.literal.OpenLiteral.{OpenLiteral}
use Rattle.lexical.specs.declared.place.Place.{Place}
use Rattle.source_lines.specs.Format.{Each, Continues, IsSkipped}
use Rattle.source_lines.specs.Line.{characters, columns_of}
use Rattle.source_lines.specs.Reading.{after_continuation, after_line, after_lines, after_plain, plain_line_step}
use Rattle.source_lines.specs.Reading.{characters_of, line_continued, literal_continued, line_step}
use Rattle.source_lines.specs.Unclosed.{HasUnclosed, LeavesOpen, Leaves, IsUncontinued}
use Rattle.source_lines.proofs.Unclosed.{unclosed}
use Rattle.source_lines.proofs.UnclosedFound.{continuation_not, same_kind}

-- lines, each ended by a line feed
text : List (List ℕ) → List ℕ
text [] = []
text (line ∷ more) = line ++ 10 ∷ text more

spaces : ℕ → List ℕ
spaces n = replicate n 32

bytes_of : Result (List Character) SourceFault → List ℕ
bytes_of (Ok characters) = map (λ c. c.byte) characters
bytes_of (Err fault) = []

places_of : Result (List Character) SourceFault → List Place
places_of (Ok characters) = map (λ c. c.place) characters
places_of (Err fault) = []

at : ℕ → ℕ → Place
at line column = record { line = line; column = column }

fault : FaultKind → ℕ → ℕ → Result (List Character) SourceFault
fault kind line column = Err (record { kind = kind; place = at line column })

-- ---- a program of six lines

hello : List ℕ
hello = text (codes "       IDENTIFICATION DIVISION." ∷ codes "       PROGRAM-ID. HELLO."
    ∷ codes "       PROCEDURE DIVISION." ∷ codes "       MAIN."
    ∷ codes "           DISPLAY \"HELLO\"." ∷ codes "           STOP RUN." ∷ [])

six_lines : bytes_of (characters_of hello)
    ≡ codes "IDENTIFICATION DIVISION. PROGRAM-ID. HELLO. PROCEDURE DIVISION. MAIN. "
    ++ codes "    DISPLAY \"HELLO\".     STOP RUN. "
unfolding text bytes_of hello characters characters_of after_lines after_line after_plain plain_line_step line_step
six_lines = refl

-- the first character, the end of the first line, and the opening mark
three_places : take 1 (places_of (characters_of hello)) ++ take 1 (drop 24 (places_of (characters_of hello)))
    ++ take 1 (drop 82 (places_of (characters_of hello)))
    ≡ at 1 8 ∷ at 1 32 ∷ at 5 20 ∷ []
unfolding text places_of at hello characters characters_of after_lines after_line after_plain plain_line_step line_step
three_places = refl

-- ---- columns

-- a tab leads to column 9, and one after column 9 to column 17
tabs : take 18 (columns_of (9 ∷ codes "A" ++ 9 ∷ codes "B"))
    ≡ spaces 8 ++ codes "A" ++ spaces 7 ++ codes "B" ++ spaces 1
unfolding spaces
tabs = refl

carriage_return_before_a_line_feed : bytes_of (characters_of (codes "       A" ++ 13 ∷ 10 ∷ [])) ≡ codes "A "
unfolding bytes_of characters characters_of after_lines after_line after_plain plain_line_step line_step
carriage_return_before_a_line_feed = refl

carriage_return_in_a_line : characters_of (codes "       A" ++ 13 ∷ codes "B" ++ 10 ∷ [])
    ≡ fault ByteOutsideCharacterSet 1 9
unfolding at fault characters characters_of after_lines after_line after_plain plain_line_step line_step
carriage_return_in_a_line = refl

byte_e9_in_column_20 : characters_of (text (codes "       A." ∷ (codes "           DISPLAY " ++ 0xe9 ∷ []) ∷ []))
    ≡ fault ByteOutsideCharacterSet 2 20
unfolding text at fault characters characters_of after_lines after_line after_plain plain_line_step line_step
byte_e9_in_column_20 = refl

byte_e9_in_column_73 : bytes_of (characters_of (codes "       A" ++ spaces 64 ++ 0xe9 ∷ [])) ≡ codes "A "
unfolding spaces bytes_of characters characters_of after_lines after_line after_plain plain_line_step line_step
byte_e9_in_column_73 = refl

byte_e9_in_column_7 : characters_of (codes "      " ++ 0xe9 ∷ codes " A") ≡ fault ByteOutsideCharacterSet 1 7
unfolding at fault characters characters_of after_lines after_line
byte_e9_in_column_7 = refl

comment_line : bytes_of (characters_of (text
    (codes "       A" ∷ (codes "      * " ++ 0xe9 ∷ []) ∷ codes "      DB" ∷ codes "       C" ∷ []))) ≡ codes "A C "
unfolding text bytes_of characters characters_of after_lines after_line after_plain plain_line_step line_step
comment_line = refl

unknown_indicator : characters_of (codes "      X A") ≡ fault UnknownIndicator 1 7
unfolding at fault characters characters_of after_lines after_line
unknown_indicator = refl

-- ---- dropped paragraphs

dropped_paragraph : bytes_of (characters_of (text (codes "       A." ∷ codes "       Author. 'x" ∷ codes "           B"
    ∷ codes "      -    C" ∷ codes "       D." ∷ [])))
    ≡ codes "A. D. "
unfolding text bytes_of characters characters_of after_lines after_line after_plain after_continuation plain_line_step
    line_step
dropped_paragraph = refl

-- ---- continuations

open_line : List ℕ
open_line = codes "           DISPLAY \"AB"

continued_literal :
    bytes_of (characters_of (text (open_line ∷ codes "      * A COMMENT" ∷ codes "      -    \"CD\"." ∷ [])))
    ≡ codes "    DISPLAY \"AB" ++ spaces 50 ++ codes "CD\". "
unfolding spaces text open_line bytes_of characters characters_of after_lines after_line after_plain after_continuation
    literal_continued plain_line_step line_step
continued_literal = refl

continued_word : bytes_of (characters_of (text (codes "           DIS" ∷ [] ∷ codes "      -    PLAY" ∷ [])))
    ≡ codes "    DISPLAY "
unfolding text bytes_of characters characters_of after_lines after_line after_plain after_continuation line_continued
    plain_line_step line_step
continued_word = refl

not_continued : characters_of (text (open_line ∷ codes "           STOP RUN." ∷ [])) ≡ fault UnclosedLiteral 1 20
unfolding at fault text open_line characters characters_of after_lines after_line after_plain plain_line_step line_step
not_continued = refl

open_at_the_end : characters_of open_line ≡ fault UnclosedLiteral 1 20
unfolding at fault open_line characters characters_of after_lines after_line after_plain plain_line_step line_step
open_at_the_end = refl

continued_without_its_mark : characters_of (text (open_line ∷ codes "      -    'CD\"." ∷ []))
    ≡ fault WrongContinuation 2 12
unfolding at fault text open_line characters characters_of after_lines after_line after_plain after_continuation
    literal_continued plain_line_step line_step
continued_without_its_mark = refl

mark_in_area_a : characters_of (text (open_line ∷ codes "      - \"CD\"." ∷ [])) ≡ fault WrongContinuation 2 9
unfolding at fault text open_line characters characters_of after_lines after_line after_plain after_continuation
    literal_continued plain_line_step line_step
mark_in_area_a = refl

nothing_before : characters_of (codes "      -    A") ≡ fault WrongContinuation 1 7
unfolding at fault characters characters_of after_lines after_line after_continuation
nothing_before = refl

-- ---- literals that stay open

quoted_at : Place → OpenLiteral
quoted_at place = record { mark = 34; opening = place }

-- a plain line with a nonblank comes
stays_open : HasUnclosed (text (open_line ∷ codes "           STOP RUN." ∷ [])) (quoted_at (at 1 20))
unfolding at text open_line quoted_at characters
stays_open = record {
  size = omega arith;
  text = LeavesOpen.this_one refl refl refl
      (Leaves.here (record { in_character_set = refl; literal = refl; counts = refl }) Each.none
      (IsUncontinued.plain refl refl));
}

-- A comment line is skipped. The continuation closes the literal and opens another, which is open where the text ends.
stays_open_in_a_continuation : HasUnclosed
    (text (open_line ∷ codes "      * A COMMENT" ∷ codes "      -    \"CD\" \"E" ∷ [])) (quoted_at (at 3 17))
unfolding at text open_line quoted_at characters
stays_open_in_a_continuation = record {
  size = omega arith;
  text = LeavesOpen.this_one refl refl refl
      (Leaves.further (record { in_character_set = refl; literal = refl; counts = refl })
      (Each.one (IsSkipped.comment refl) Each.none)
      (Continues.mark refl refl refl (omega arith) refl) (Leaves.here
      (record { in_character_set = refl; literal = refl; counts = refl }) Each.none IsUncontinued.at_end));
}

-- a continuation without the mark is a fault of its own, so no literal stays open
none_stays_open : (literal : OpenLiteral) → HasUnclosed (text (open_line ∷ codes "      -    'CD\"." ∷ [])) literal → ⊥
unfolding fault
none_stays_open literal h = continuation_not (same_kind (sym continued_without_its_mark ∙ unclosed _ literal h) refl)
