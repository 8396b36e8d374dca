-- The reference format as a relation between a source text and its characters (COBOL-85, Section IV, "Reference format"):
--
--     text              = { comment line | blank line | dropped paragraph | logical line }
--     dropped paragraph = heading { line of its body }
--     logical line      = plain line { { comment line | blank line } continuation }
use Rattle.std.specs.Prelude.{◌≡◌, ℕ, ◌+◌, ◌<◌, ◌≤◌, true, false, List, [], ◌∷◌, ◌++◌, length, Option, None, Some, Ok}
use Rattle.source_lines.specs.declared.indicator.Indicator.{Indicator}
use Rattle.source_lines.specs.declared.indicator.Indicator.TheVariants.{Plain, Comment, Continuation}
use Rattle.source_lines.specs.declared.line.Line.{Line}
use Rattle.source_lines.specs.declared.lines.Character.{Character}
use Rattle.source_lines.specs.declared.literal.OpenLiteral.{OpenLiteral}
use Rattle.lexical.specs.declared.place.Place.{Place}
use Rattle.source_lines.specs.Indicator.{indicator_of}
use Rattle.source_lines.specs.Line.{byte, place_in_line, characters, first_nonblank, last_nonblank, first_outside, is_in_character_set}
use Rattle.source_lines.specs.Literal.{is_mark, open_at_end}
use Rattle.source_lines.specs.Paragraph.{begins_dropped}
use Rattle.source_lines.specs.Reading.{lines_of}

-- ---- kinds of line

-- column 7 makes it a line of this kind
abbrev pub HasIndicator : Indicator → Line → Type 0
HasIndicator kind line = indicator_of (byte line 7) ≡ Ok kind

-- the first column of areas A and B that isn't blank is this one
abbrev pub BeginsAt : Line → ℕ → Type 0
BeginsAt line first = first_nonblank line ≡ Some first

-- comment lines and blank lines
pub data IsSkipped (line : Line) : Type 0 where
  comment : HasIndicator Comment line → IsSkipped line
  blank : HasIndicator Plain line → first_nonblank line ≡ None → IsSkipped line

-- the lines of a dropped paragraph after its heading
pub data IsInBody (line : Line) : Type 0 where
  comment : HasIndicator Comment line → IsInBody line
  continuation : HasIndicator Continuation line → IsInBody line
  blank : HasIndicator Plain line → first_nonblank line ≡ None → IsInBody line
  in_area_b : {first : ℕ} → HasIndicator Plain line → BeginsAt line first → 12 ≤ first → IsInBody line

pub data Each (P : Line → Type 0) : List Line → Type 0 where
  none : Each P []
  one : {line : Line} {more : List Line} → P line → Each P more → Each P (line ∷ more)

-- A dropped paragraph ends before the next plain line with a nonblank in area A, or with the text.
pub data EndsParagraph : List Line → Type 0 where
  at_end : EndsParagraph []
  in_area_a : {line : Line} {more : List Line} {first : ℕ} → HasIndicator Plain line → BeginsAt line first → first < 12 → EndsParagraph (line ∷ more)

-- ---- logical lines

-- the column after the characters that count: through column 72 where a literal is open at the end of the line
abbrev pub past_end : Line → Option OpenLiteral → ℕ
past_end line None = last_nonblank line + 1
past_end line (Some literal) = 73

-- What a line gives from a column on, where `before` is open before it and `after` at its end.
pub record Gives (line : Line) (from : ℕ) (before after : Option OpenLiteral) (given : List Character) : Type 0 where
  pub in_character_set : first_outside line ≡ None
  pub literal : open_at_end before line from ≡ after
  pub counts : given ≡ characters line from (past_end line after)

-- The line goes on, from this column, with a line at whose end this literal is open.
pub data Continues : Option OpenLiteral → Line → ℕ → Type 0 where
  -- its first nonblank follows, which is no mark in area A
  word : {line : Line} {first : ℕ} → HasIndicator Continuation line → BeginsAt line first → (first < 12 → is_mark (byte line first) ≡ false) → Continues None line first
  -- its first nonblank is the literal's mark, in area B; what is after it follows
  mark : {line : Line} {first : ℕ} {literal : OpenLiteral} → HasIndicator Continuation line → BeginsAt line first
      → is_in_character_set (byte line first) ≡ true → 12 ≤ first → byte line first ≡ literal.mark → Continues (Some literal) line (first + 1)

-- A line from a column on with the lines that continue it; its characters, and where it ends.
pub data Logical : Option OpenLiteral → Line → ℕ → List Line → List Character → Place → Type 0 where
  -- no literal is open at the end of the last of these lines
  last : {before : Option OpenLiteral} {line : Line} {from : ℕ} {given : List Character}
      → Gives line from before None given → Logical before line from [] given (place_in_line line (last_nonblank line + 1))
  continued : {before after : Option OpenLiteral} {line next : Line} {from begin : ℕ} {skipped rest : List Line} {given others : List Character} {end : Place}
      → Gives line from before after given → Each IsSkipped skipped → Continues after next begin → Logical after next begin rest others end
      → Logical before line from (skipped ++ next ∷ rest) (given ++ others) end

-- ---- texts

abbrev pub space_at : Place → Character
space_at place = record { byte = 32; place = place }

pub data Text : List Line → List Character → Type 0 where
  end : Text [] []
  skipped : {line : Line} {more : List Line} {given : List Character} → IsSkipped line → Text more given → Text (line ∷ more) given
  paragraph : {line : Line} {first : ℕ} {body more : List Line} {given : List Character}
      → HasIndicator Plain line → BeginsAt line first → begins_dropped line first ≡ true → Each IsInBody body → EndsParagraph more → Text more given
      → Text (line ∷ (body ++ more)) given
  -- the end of a logical line counts as a space
  logical : {line : Line} {first : ℕ} {rest more : List Line} {given others : List Character} {end : Place}
      → HasIndicator Plain line → BeginsAt line first → begins_dropped line first ≡ false → Logical None line 8 rest given end → Text more others
      → Text (line ∷ (rest ++ more)) (given ++ space_at end ∷ others)

-- The characters of a source text, of at most 8,000,000 bytes.
pub record HasCharacters (source : List ℕ) (given : List Character) : Type 0 where
  pub size : length source ≤ 8000000
  pub text : Text (lines_of source) given
