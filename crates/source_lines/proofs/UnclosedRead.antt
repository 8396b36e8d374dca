-- Where a text leaves a literal open, reading tells it.
use Rattle.std.proofs.Common.{◌≡◌, ℕ, List, ◌∷◌, ◌++◌, Option, Result, Err, ap, ◌∙◌}
use Rattle.source_lines.specs.declared.fault.SourceFault.{SourceFault}
use Rattle.source_lines.specs.declared.line.Line.{Line}
use Rattle.source_lines.specs.declared.lines.Character.{Character}
use Rattle.source_lines.specs.declared.literal.OpenLiteral.{OpenLiteral}
use Rattle.source_lines.specs.declared.reader.Before.{Before}
use Rattle.source_lines.specs.declared.reader.Before.TheVariants.{LineEnd, Open, Dropped}
use Rattle.source_lines.specs.declared.reader.Reader.{Reader}
use Rattle.source_lines.specs.Reading.{and_then, at_end, line_end, line_step, unclosed_fault}
use Rattle.source_lines.specs.Unclosed.{IsUncontinued, Leaves, LeavesOpen}
use Rattle.source_lines.proofs.Answered.{all_of, from_step}
use Rattle.source_lines.proofs.Written.{Fresh, begun_heading, begun_plain, bodies_read, ending, first_taken}
use Rattle.source_lines.proofs.Written.{fresh_begins, fresh_more, logical_read, next_taken, no_lines, one_more}
use Rattle.source_lines.proofs.Written.{plain_begins, reading, skipped_lines_read, skipped_read, taken_read}

abbrev refused_for : OpenLiteral → Result (List Character) SourceFault
refused_for literal = Err (unclosed_fault literal)

-- ---- a line that leaves a literal open

uncontinued_read : {rest : List Line} → IsUncontinued rest → (given : List Character) (literal : OpenLiteral)
    → all_of rest (reading given (Open literal)) ≡ refused_for literal
uncontinued_read IsUncontinued.at_end given literal = no_lines (reading given (Open literal))
uncontinued_read (IsUncontinued.plain {line} {more} {first} is begins) given literal =
    ap (λ step. and_then step at_end) (first_taken line (reading given (Open literal)) more _
    (plain_begins line (reading given (Open literal)) first is begins))

leaves_read : {before : Option OpenLiteral} {line : Line} {from : ℕ} {lines : List Line} {literal : OpenLiteral}
    → Leaves before line from lines literal
    → (reader : Reader) → from_step lines (line_step line from before reader) ≡ refused_for literal
leaves_read (Leaves.here {line = line} {literal = literal} {skipped = skipped} {rest = rest} {given =
    given} g each ends) reader =
    ap (from_step (skipped ++ rest)) (taken_read g reader)
    ∙ ap (λ step. and_then step at_end)
    (skipped_lines_read each rest (reading (reader.characters ++ given) (Open literal)))
    ∙ uncontinued_read ends (reader.characters ++ given) literal
leaves_read (Leaves.further {after = after} {line = line} {next = next} {skipped = skipped} {rest = rest} {given =
    given} g each goes tail) reader =
    let so_far : Reader = reading (reader.characters ++ given) (ending line after) in
    ap (from_step (skipped ++ next ∷ rest)) (taken_read g reader)
    ∙ ap (λ step. and_then step at_end) (skipped_lines_read each (next ∷ rest) so_far
    ∙ next_taken goes line (reader.characters ++ given) rest)
    ∙ leaves_read tail so_far

-- ---- texts

pub open_text_read : {lines : List Line} {literal : OpenLiteral} → LeavesOpen lines literal
    → (given : List Character) (before : Before) → Fresh lines before
    → all_of lines (reading given before) ≡ refused_for literal
open_text_read (LeavesOpen.skipped {line} {more} skip rest) given before fresh =
    ap (λ step. and_then step at_end)
    (one_more line (reading given before) (reading given before) more (skipped_read (reading given before) skip))
    ∙ open_text_read rest given before (fresh_more skip fresh)
open_text_read (LeavesOpen.paragraph {line} {first} {body} {more} is begins heading each ends rest) given before fresh =
    let now : List Character = given ++ line_end before in
    ap (λ step. and_then step at_end)
    (one_more line (reading given before) (reading now Dropped) (body ++ more)
    (fresh_begins line first given before (body ++ more) fresh is begins
    ∙ begun_heading line first (reading now before) heading)
    ∙ bodies_read each more now)
    ∙ open_text_read rest now Dropped (Fresh.dropped ends)
open_text_read (LeavesOpen.logical {line} {first} {rest} {more} {given = text} {end} is begins heading lines after)
    given before fresh =
    let now : List Character = given ++ line_end before in
    ap (λ step. and_then step at_end)
    (first_taken line (reading given before) (rest ++ more) _ (fresh_begins line first given before (rest ++ more) fresh
    is begins ∙ begun_plain line first (reading now before) heading)
    ∙ logical_read lines more (reading now before))
    ∙ open_text_read after (now ++ text) (LineEnd end) Fresh.ended
open_text_read (LeavesOpen.this_one {line} {first} {more} is begins heading leaves) given before fresh =
    let now : List Character = given ++ line_end before in
    ap (λ step. and_then step at_end)
    (first_taken line (reading given before) more _ (fresh_begins line first given before more fresh is begins
    ∙ begun_plain line first (reading now before) heading))
    ∙ leaves_read leaves (reading now before)
