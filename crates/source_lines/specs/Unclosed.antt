-- The texts in which a nonnumeric literal stays open, as a relation on the reference format's grammar:
--
--     text with an open literal         = { comment line | blank line | dropped paragraph | logical line } line that leaves a literal open
--     line that leaves a literal open   = plain line { { comment line | blank line } continuation } { comment line | blank line } end
--     end                               = the end of the text | plain line with a nonblank
--
-- where the literal is open at the end of that logical line's last line.
use Rattle.std.specs.Prelude.{◌≡◌, ℕ, ◌≤◌, true, false, List, [], ◌∷◌, ◌++◌, length, Option, None, Some}
use Rattle.source_lines.specs.declared.fault.SourceFault.{SourceFault}
use Rattle.source_lines.specs.declared.indicator.Indicator.TheVariants.{Plain}
use Rattle.source_lines.specs.declared.line.Line.{Line}
use Rattle.source_lines.specs.declared.lines.Character.{Character}
use Rattle.source_lines.specs.declared.literal.OpenLiteral.{OpenLiteral}
use Rattle.lexical.specs.declared.place.Place.{Place}
use Rattle.source_lines.specs.Format.{HasIndicator, BeginsAt, IsSkipped, IsInBody, Each, EndsParagraph, Gives, Continues, Logical}
use Rattle.source_lines.specs.Paragraph.{begins_dropped}
use Rattle.source_lines.specs.Reading.{lines_of, unclosed_fault}

-- What follows a line doesn't continue it: the text ends, or a plain line with a nonblank comes. A continuation that doesn't
-- begin with the literal's mark is a fault of its own, and so is a byte in column 7 that is no indicator.
pub data IsUncontinued : List Line → Type 0 where
  at_end : IsUncontinued []
  plain : {line : Line} {more : List Line} {first : ℕ} → HasIndicator Plain line → BeginsAt line first → IsUncontinued (line ∷ more)

-- A line from a column on, where `before` is open before it, with the lines after it: this literal stays open.
pub data Leaves : Option OpenLiteral → Line → ℕ → List Line → OpenLiteral → Type 0 where
  -- it is open at the end of this line, and nothing continues it
  here : {before : Option OpenLiteral} {line : Line} {from : ℕ} {literal : OpenLiteral} {skipped rest : List Line} {given : List Character}
      → Gives line from before (Some literal) given → Each IsSkipped skipped → IsUncontinued rest → Leaves before line from (skipped ++ rest) literal
  -- the line that continues this one leaves it open
  further : {before after : Option OpenLiteral} {line next : Line} {from begin : ℕ} {literal : OpenLiteral} {skipped rest : List Line} {given : List Character}
      → Gives line from before after given → Each IsSkipped skipped → Continues after next begin → Leaves after next begin rest literal
      → Leaves before line from (skipped ++ next ∷ rest) literal

-- Some logical line of a text leaves this literal open, and what stands before it is in the reference format.
pub data LeavesOpen : List Line → OpenLiteral → Type 0 where
  skipped : {line : Line} {more : List Line} {literal : OpenLiteral} → IsSkipped line → LeavesOpen more literal → LeavesOpen (line ∷ more) literal
  paragraph : {line : Line} {first : ℕ} {body more : List Line} {literal : OpenLiteral}
      → HasIndicator Plain line → BeginsAt line first → begins_dropped line first ≡ true → Each IsInBody body → EndsParagraph more → LeavesOpen more literal
      → LeavesOpen (line ∷ (body ++ more)) literal
  logical : {line : Line} {first : ℕ} {rest more : List Line} {given : List Character} {end : Place} {literal : OpenLiteral}
      → HasIndicator Plain line → BeginsAt line first → begins_dropped line first ≡ false → Logical None line 8 rest given end → LeavesOpen more literal
      → LeavesOpen (line ∷ (rest ++ more)) literal
  this_one : {line : Line} {first : ℕ} {more : List Line} {literal : OpenLiteral}
      → HasIndicator Plain line → BeginsAt line first → begins_dropped line first ≡ false → Leaves None line 8 more literal → LeavesOpen (line ∷ more) literal

-- A source text, of at most 8,000,000 bytes, in which this literal stays open.
pub record HasUnclosed (source : List ℕ) (literal : OpenLiteral) : Type 0 where
  pub size : length source ≤ 8000000
  pub text : LeavesOpen (lines_of source) literal

-- The fault is that of a literal that stays open in the source text.
abbrev pub HasUnclosedFault : List ℕ → SourceFault → Type 0
HasUnclosedFault source fault =
    (literal : OpenLiteral) × HasUnclosed source literal × (fault ≡ unclosed_fault literal)
