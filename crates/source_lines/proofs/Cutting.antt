-- Cutting a text into lines, and reading them one after the other.
use Rattle.std.proofs.Common.{◌≡◌, ℕ, ◌+◌, ◌<◌, ◌≤◌, ◌==◌, Bool, true, false, cond, List, [], ◌∷◌, ◌++◌, length, take}
use Rattle.std.proofs.Common.{drop, get_or, Option, None, Some, Result, Ok, Err, refl, sym, ap, ◌∙◌, arith, nat_le}
use Rattle.std.specs.List.{slice_split, onto_first}
use Rattle.std.specs.Str.Lines.{lines_of_parts, strip_carriage_return}
use Rattle.std.proofs.lemmas.List as list
use Rattle.std.proofs.lemmas.List.Splits.{slice_split_at, slice_split_none, length-slice_split}
use Rattle.std.proofs.lemmas.Bool.Decides.{nat_tests}
use Rattle.memchr.specs.Find.{IsFirstByte, is_byte}
use Rattle.answers.specs.Answer.{Fails}
use Rattle.source_lines.specs.Cut.{lines, parts}
use Rattle.source_lines.specs.declared.fault.SourceFault.{SourceFault}
use Rattle.source_lines.specs.declared.line.Line.{Line}
use Rattle.source_lines.specs.declared.reader.Reader.{Reader}
use Rattle.source_lines.specs.Reading.{after_line, after_lines, and_then, at_end, at_start, characters_of, lines_of}
use Rattle.source_lines.specs.Reading.{numbered_lines, too_large}
use Rattle.source_lines.specs.Line.{line}

parts_are : (source : List ℕ) → parts source ≡ slice_split (λ byte. byte == 10) source
parts_are [] = refl
parts_are (byte ∷ more) = ap (λ known. cond (byte == 10) ([] ∷ known) (onto_first byte known)) (parts_are more)

first_part : (x : List ℕ) (parts : List (List ℕ)) → 0 < length parts
    → lines_of_parts (x ∷ parts) ≡ strip_carriage_return x ∷ lines_of_parts parts
first_part x [] h = absurd (omega arith)
first_part x (y ∷ more) h = refl

test_false : (b : Bool) → (b ≡ true → ⊥) → b ≡ false
test_false true h = absurd (h refl)
test_false false h = refl

feed : (byte : ℕ) → (byte == 10) ≡ true → byte ≡ 10
feed byte h = grind (arith, nat_tests)

-- the line before a line feed
pub line_cut : (rest : List ℕ) (end : ℕ) → IsFirstByte (is_byte 10) rest (Some end)
    → lines rest ≡ strip_carriage_return (take end rest) ∷ lines (drop (end + 1) rest)
line_cut rest end found =
    let at : get_or rest end 0 ≡ 10 = feed (get_or rest end 0) found.1 in
    let within : end < length rest = found.0.high in
    let rest_of : List ℕ = drop (end + 1) rest in
    let whole : rest ≡ take end rest ++ 10 ∷ rest_of =
    sym (list.take-append-drop end rest)
    ∙ ap (λ xs. take end rest ++ xs) (list.drop_more rest end 0 within ∙ ap (λ b. b ∷ rest_of) at) in
    let before : (k d : ℕ) → k < length (take end rest) → (get_or (take end rest) k d == 10) ≡ false = λ k d h.
    let low : k < end = omega (arith, list.length-take end rest) in
    let same : get_or (take end rest) k d ≡ get_or rest k 0 =
    list.get_or-take end rest k d low ∙ list.get_or_default rest k d 0 (omega arith) in
    ap (λ b. b == 10) same ∙ test_false (get_or rest k 0 == 10) (found.0.before k (omega arith) low) in
    ap lines whole ∙ ap lines_of_parts (parts_are (take end rest ++ 10 ∷ rest_of)
    ∙ slice_split_at (λ b. b == 10) (take end rest) 10 rest_of before refl)
    ∙ first_part (take end rest) (slice_split (λ b. b == 10) rest_of)
    (omega (arith, length-slice_split (λ b. b == 10) rest_of))
    ∙ ap (λ known. strip_carriage_return (take end rest) ∷ lines_of_parts known) (sym (parts_are rest_of))

only_part : (x : List ℕ) → 0 < length x → lines_of_parts (x ∷ []) ≡ x ∷ []
only_part x h =
    let some : (length x == 0) ≡ false = grind (arith, nat_tests) in
    ap (λ b. cond b [] (x ∷ [])) some

-- the last line, where no line feed ends it
pub line_left : (rest : List ℕ) → IsFirstByte (is_byte 10) rest None → 0 < length rest → lines rest ≡ rest ∷ []
line_left rest none some =
    let each : (k d : ℕ) → k < length rest → (get_or rest k d == 10) ≡ false = λ k d h.
    ap (λ b. b == 10) (list.get_or_default rest k d 0 h)
    ∙ test_false (get_or rest k 0 == 10) (none k (omega arith) h) in
    ap lines_of_parts (parts_are rest ∙ slice_split_none (λ b. b == 10) rest each) ∙ only_part rest some

module _ (number : ℕ) (rest first more : List ℕ) (cut : lines rest ≡ first ∷ lines more) (line_is : Line)
    (is : line_is ≡ line number first) (reader : Reader) where
  one_line : after_lines (numbered_lines number (lines rest)) reader
      ≡ and_then (after_line line_is reader) (after_lines (numbered_lines (number + 1) (lines more)))
  unfolding after_lines
  one_line = ap (λ parts. after_lines (numbered_lines number parts) reader) cut
      ∙ ap (λ l. and_then (after_line l reader) (after_lines (numbered_lines (number + 1) (lines more)))) (sym is)

  pub line_read : (next : Reader) → after_line line_is reader ≡ Ok next
      → after_lines (numbered_lines number (lines rest)) reader
      ≡ after_lines (numbered_lines (number + 1) (lines more)) next
  line_read next e = one_line ∙ ap (λ step. and_then step (after_lines (numbered_lines (number + 1) (lines more)))) e

  pub line_refused : (fault : Option SourceFault) → Fails fault (after_line line_is reader)
      → Fails fault (after_lines (numbered_lines number (lines rest)) reader)
  line_refused None e = tt
  line_refused (Some fault) e =
      one_line ∙ ap (λ step. and_then step (after_lines (numbered_lines (number + 1) (lines more)))) e

pub no_line : (number : ℕ) (rest : List ℕ) (reader : Reader) → lines rest ≡ []
    → after_lines (numbered_lines number (lines rest)) reader ≡ Ok reader
unfolding after_lines
no_line number rest reader e = ap (λ parts. after_lines (numbered_lines number parts) reader) e

pub fails_too : {A B : Type 0} (fault : Option SourceFault) (step : Result A SourceFault)
    (next : A → Result B SourceFault) → Fails fault step → Fails fault (and_then step next)
fails_too None step next e = tt
fails_too (Some fault) step next e = ap (λ s. and_then s next) e

pub fails_as : {A : Type 0} (fault : Option SourceFault) (one two : Result A SourceFault) → one ≡ two → Fails fault two
    → Fails fault one
fails_as None one two e f = tt
fails_as (Some fault) one two e f = e ∙ f

pub within_limit : (source : List ℕ) → length source ≤ 8000000
    → characters_of source ≡ and_then (after_lines (lines_of source) at_start) at_end
unfolding characters_of
within_limit source h =
    let e : nat_le (length source) 8000000 ≡ true = grind (arith, nat_tests) in
    ap (λ b. cond b (and_then (after_lines (lines_of source) at_start) at_end) (Err too_large)) e

pub past_limit : (source : List ℕ) → 8000000 < length source → characters_of source ≡ Err too_large
unfolding characters_of
past_limit source h =
    let e : nat_le (length source) 8000000 ≡ false = grind (arith, nat_tests) in
    ap (λ b. cond b (and_then (after_lines (lines_of source) at_start) at_end) (Err too_large)) e
