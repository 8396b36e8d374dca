-- Where reading tells an open literal, the text leaves it open.
use Rattle.std.proofs.Common.{◌≡◌, ℕ, ◌+◌, ◌==◌, ◌||◌, ◌&&◌, not, Bool, true, false, cond, nat_lt, List, [], ◌∷◌, ◌++◌}
use Rattle.std.proofs.Common.{Option, None, Some, Result, Ok, Err, refl, sym, ap, ◌∙◌, subst, append_assoc}
use Rattle.source_lines.specs.declared.fault.SourceFault.{SourceFault}
use Rattle.source_lines.specs.declared.fault.FaultKind.{FaultKind}
use Rattle.source_lines.specs.declared.fault.FaultKind.TheVariants.{ByteOutsideCharacterSet, UnknownIndicator}
use Rattle.source_lines.specs.declared.fault.FaultKind.TheVariants.{WrongContinuation, UnclosedLiteral}
use Rattle.source_lines.specs.declared.indicator.Indicator.{Indicator}
use Rattle.source_lines.specs.declared.indicator.Indicator.TheVariants.{Plain, Comment, Continuation}
use Rattle.source_lines.specs.declared.line.Line.{Line}
use Rattle.source_lines.specs.declared.lines.Character.{Character}
use Rattle.source_lines.specs.declared.literal.OpenLiteral.{OpenLiteral}
use Rattle.lexical.specs.declared.place.Place.{Place}
use Rattle.source_lines.specs.declared.reader.Before.{Before}
use Rattle.source_lines.specs.declared.reader.Before.TheVariants.{Nothing, LineEnd, Open, Dropped}
use Rattle.source_lines.specs.Indicator.{indicator_of}
use Rattle.source_lines.specs.Line.{byte, characters, first_nonblank, first_outside, is_in_character_set}
use Rattle.source_lines.specs.Literal.{is_mark, open_at_end}
use Rattle.source_lines.specs.Paragraph.{begins_dropped}
use Rattle.source_lines.specs.Reading.{after_indicator, after_lines, after_plain, after_continuation, and_then, at_end}
use Rattle.source_lines.specs.Reading.{plain_line_step, continuation_after, line_continued, line_continued_at}
use Rattle.source_lines.specs.Reading.{literal_continued, literal_continued_at, plain_after, plain_at, refusal_step}
use Rattle.source_lines.specs.Reading.{line_step, characters_through, unclosed_fault, unless_outside}
use Rattle.source_lines.specs.Format.{HasIndicator, BeginsAt, IsSkipped, IsInBody, Each, EndsParagraph, Gives}
use Rattle.source_lines.specs.Format.{Continues, Logical, past_end, space_at}
use Rattle.source_lines.specs.Unclosed.{IsUncontinued, Leaves, LeavesOpen}
use Rattle.source_lines.proofs.Answered.{all_of, from_step, above_area_a, either_false, first_step, in_body}
use Rattle.source_lines.proofs.Answered.{no_mark_in_area_a, same_byte}
use Rattle.source_lines.proofs.Written.{reading, ending, below_area_b, no_lines, through_is}

-- A line from a column on, with the lines after it: it leaves this literal open, or it is whole and a later one does.
data ThenOpen (before : Option OpenLiteral) (line : Line) (from : ℕ) : List Line → OpenLiteral → Type 0 where
  this_one : {lines : List Line} {literal : OpenLiteral} → Leaves before line from lines literal
      → ThenOpen before line from lines literal
  later : {rest more : List Line} {own : List Character} {end : Place} {literal : OpenLiteral}
      → Logical before line from rest own end → LeavesOpen more literal
      → ThenOpen before line from (rest ++ more) literal

-- A continuation comes, after comment lines and blank lines.
data GoesOn (before : Option OpenLiteral) : List Line → OpenLiteral → Type 0 where
  continues : {skipped tail : List Line} {next : Line} {begin : ℕ} {literal : OpenLiteral}
      → Each IsSkipped skipped → Continues before next begin → ThenOpen before next begin tail literal
      → GoesOn before (skipped ++ next ∷ tail) literal

-- None comes, after comment lines and blank lines.
data StaysOpen : List Line → Type 0 where
  uncontinued : {skipped rest : List Line} → Each IsSkipped skipped → IsUncontinued rest → StaysOpen (skipped ++ rest)

data RestOfParagraph : List Line → OpenLiteral → Type 0 where
  paragraph : {body more : List Line} {literal : OpenLiteral} → Each IsInBody body → EndsParagraph more
      → LeavesOpen more literal → RestOfParagraph (body ++ more) literal

-- the literal that stays open in the lines from a place on, by what stands before it
data Remains (lines : List Line) : Before → OpenLiteral → Type 0 where
  text : {literal : OpenLiteral} → LeavesOpen lines literal → Remains lines Nothing literal
  ended : {literal : OpenLiteral} {end : Place} → LeavesOpen lines literal → Remains lines (LineEnd end) literal
  line_goes_on : {literal : OpenLiteral} {end : Place} → GoesOn None lines literal → Remains lines (LineEnd end) literal
  literal_goes_on : {literal now : OpenLiteral} → GoesOn (Some now) lines literal → Remains lines (Open now) literal
  stays : {literal : OpenLiteral} → StaysOpen lines → Remains lines (Open literal) literal
  paragraph : {literal : OpenLiteral} → RestOfParagraph lines literal → Remains lines Dropped literal

record Found (lines : List Line) (before : Before) (fault : SourceFault) : Type 0 where
  literal : OpenLiteral
  is : fault ≡ unclosed_fault literal
  remains : Remains lines before literal

-- ---- other faults

pub same_fault : {one two : SourceFault} → (let r : Result (List Character) SourceFault = Err one in r) ≡ Err two
    → one ≡ two
same_fault e = cc

answer_not : {given : List Character} {fault : SourceFault}
    → (let r : Result (List Character) SourceFault = Ok given in r) ≡ Err fault → ⊥
answer_not e = cc

pub same_kind : {one two : SourceFault} {kind : FaultKind}
    → (let r : Result (List Character) SourceFault = Err one in r) ≡ Err two → two.kind ≡ kind → one.kind ≡ kind
same_kind e is = ap (λ (fault : SourceFault). fault.kind) (same_fault e) ∙ is

pub continuation_not : WrongContinuation ≡ UnclosedLiteral → ⊥
continuation_not e = cc

byte_not : ByteOutsideCharacterSet ≡ UnclosedLiteral → ⊥
byte_not e = cc

-- no test of column 7 tells an open literal
indicator_if : (plain comment continuation allowed : Bool) {kind : FaultKind}
    → cond plain (Ok Plain) (cond comment (Ok Comment) (cond continuation (Ok Continuation)
    (cond allowed (Err UnknownIndicator) (Err ByteOutsideCharacterSet)))) ≡ Err kind
    → kind ≡ UnclosedLiteral → ⊥
indicator_if true comment continuation allowed e is = cc
indicator_if false true continuation allowed e is = cc
indicator_if false false true allowed e is = cc
indicator_if false false false true e is = cc
indicator_if false false false false e is = cc

indicator_not : (column : ℕ) {kind : FaultKind} → indicator_of column ≡ Err kind → kind ≡ UnclosedLiteral → ⊥
indicator_not column e is =
    indicator_if (column == 32) (column == 42 || column == 47 || column == 68 || column == 100) (column == 45)
    (is_in_character_set column) e is

-- ---- a line that gives nothing

skip_goes_on : {before : Option OpenLiteral} {line : Line} {more : List Line} {literal : OpenLiteral} → IsSkipped line
    → GoesOn before more literal → GoesOn before (line ∷ more) literal
skip_goes_on skip (GoesOn.continues each goes then) = GoesOn.continues (Each.one skip each) goes then

skip_stays : {line : Line} {more : List Line} → IsSkipped line → StaysOpen more → StaysOpen (line ∷ more)
skip_stays skip (StaysOpen.uncontinued each ends) = StaysOpen.uncontinued (Each.one skip each) ends

one_in_body : {line : Line} {more : List Line} {literal : OpenLiteral} → IsInBody line → RestOfParagraph more literal
    → RestOfParagraph (line ∷ more) literal
one_in_body is (RestOfParagraph.paragraph each ends tail) = RestOfParagraph.paragraph (Each.one is each) ends tail

body_more : {line : Line} {more : List Line} {literal : OpenLiteral} → IsInBody line → Remains more Dropped literal
    → Remains (line ∷ more) Dropped literal
body_more is (Remains.paragraph p) = Remains.paragraph (one_in_body is p)

skip_remains : {line : Line} {more : List Line} {before : Before} {literal : OpenLiteral} → IsSkipped line
    → Remains more before literal → Remains (line ∷ more) before literal
skip_remains skip (Remains.text t) = Remains.text (LeavesOpen.skipped skip t)
skip_remains skip (Remains.ended t) = Remains.ended (LeavesOpen.skipped skip t)
skip_remains skip (Remains.line_goes_on g) = Remains.line_goes_on (skip_goes_on skip g)
skip_remains skip (Remains.literal_goes_on g) = Remains.literal_goes_on (skip_goes_on skip g)
skip_remains skip (Remains.stays s) = Remains.stays (skip_stays skip s)
skip_remains skip (Remains.paragraph p) = Remains.paragraph (one_in_body (in_body skip) p)

skip_found : {line : Line} {more : List Line} {before : Before} {fault : SourceFault} → IsSkipped line
    → Found more before fault → Found (line ∷ more) before fault
skip_found skip f = record { literal = f.literal; is = f.is; remains = skip_remains skip f.remains }

body_found : {line : Line} {more : List Line} {fault : SourceFault} → IsInBody line → Found more Dropped fault
    → Found (line ∷ more) Dropped fault
body_found is f = record { literal = f.literal; is = f.is; remains = body_more is f.remains }

-- ---- a line and what continues it

further : {before after : Option OpenLiteral} {line : Line} {from : ℕ} {lines : List Line} {piece : List Character}
    {literal : OpenLiteral}
    → Gives line from before after piece → GoesOn after lines literal → ThenOpen before line from lines literal
further g (GoesOn.continues each goes (ThenOpen.this_one leaves)) =
    ThenOpen.this_one (Leaves.further g each goes leaves)
further {before} {line = line} {from = from} {literal = literal} g
    (GoesOn.continues {skipped = skipped} {next = next} each goes (ThenOpen.later {rest} {more} whole tail)) =
    subst (λ lines. ThenOpen before line from lines literal) (append_assoc skipped (next ∷ rest) more)
    (ThenOpen.later (Logical.continued g each goes whole) tail)

here : {before : Option OpenLiteral} {line : Line} {from : ℕ} {lines : List Line} {piece : List Character}
    {literal : OpenLiteral}
    → Gives line from before (Some literal) piece → StaysOpen lines → ThenOpen before line from lines literal
here g (StaysOpen.uncontinued each ends) = ThenOpen.this_one (Leaves.here g each ends)

join : {before : Option OpenLiteral} {line : Line} {from : ℕ} {lines : List Line} {piece : List Character}
    {literal : OpenLiteral} (after : Option OpenLiteral)
    → Gives line from before after piece → Remains lines (ending line after) literal
    → ThenOpen before line from lines literal
join None g (Remains.ended t) = ThenOpen.later (Logical.last g) t
join None g (Remains.line_goes_on o) = further g o
join (Some now) g (Remains.literal_goes_on o) = further g o
join (Some now) g (Remains.stays s) = here g s

-- ---- plain lines that begin a logical line or a dropped paragraph

heading_text : {line : Line} {first : ℕ} {more : List Line} {literal : OpenLiteral} → HasIndicator Plain line
    → BeginsAt line first → begins_dropped line first ≡ true
    → Remains more Dropped literal → LeavesOpen (line ∷ more) literal
heading_text is begins heading (Remains.paragraph (RestOfParagraph.paragraph each ends tail)) =
    LeavesOpen.paragraph is begins heading each ends tail

plain_text : {line : Line} {first : ℕ} {more : List Line} {literal : OpenLiteral} → HasIndicator Plain line
    → BeginsAt line first → begins_dropped line first ≡ false
    → ThenOpen None line 8 more literal → LeavesOpen (line ∷ more) literal
plain_text is begins heading (ThenOpen.this_one leaves) = LeavesOpen.this_one is begins heading leaves
plain_text is begins heading (ThenOpen.later whole tail) = LeavesOpen.logical is begins heading whole tail

-- what is left to find once a line from a column on was taken
record Took (before : Option OpenLiteral) (line : Line) (from : ℕ) (more : List Line) (fault : SourceFault) :
    Type 0 where
  literal : OpenLiteral
  is : fault ≡ unclosed_fault literal
  then_open : ThenOpen before line from more literal

record Began (line : Line) (more : List Line) (fault : SourceFault) : Type 0 where
  literal : OpenLiteral
  is : fault ≡ unclosed_fault literal
  text : LeavesOpen (line ∷ more) literal

module _ (fault : SourceFault) (told : fault.kind ≡ UnclosedLiteral) (more : List Line)
    (known : (so_far : List Character) (before : Before) → all_of more (reading so_far before) ≡ Err fault
    → Found more before fault) where
  wrong_continuation : {A : Type 0} (line : Line) (column : ℕ)
      → from_step more (refusal_step line WrongContinuation column) ≡ Err fault → A
  wrong_continuation line column e = absurd (continuation_not (same_kind e told))

  wrong_byte : {A : Type 0} (line : Line) (column : ℕ)
      → from_step more (refusal_step line ByteOutsideCharacterSet column) ≡ Err fault → A
  wrong_byte line column e = absurd (byte_not (same_kind e told))

  took : (line : Line) (from : ℕ) (before after : Option OpenLiteral) (so_far : List Character) (old : Before)
      → first_outside line ≡ None → open_at_end before line from ≡ after
      → from_step more (Ok (characters_through line from after (reading so_far old))) ≡ Err fault
      → Took before line from more fault
  took line from before after so_far old clean literal e =
      let piece : List Character = characters line from (past_end line after) in
      let f = known (so_far ++ piece) (ending line after)
      (ap (all_of more) (sym (through_is line from after (reading so_far old))) ∙ e) in
      let g : Gives line from before after piece =
      record { in_character_set = clean; literal = literal; counts = refl } in
      record { literal = f.literal; is = f.is; then_open = join after g f.remains }

  took_unless : (line : Line) (from : ℕ) (before : Option OpenLiteral) (so_far : List Character) (old : Before)
      (outside : Option ℕ)
      → first_outside line ≡ outside → from_step more (unless_outside line outside
      (characters_through line from (open_at_end before line from) (reading so_far old))) ≡ Err fault
      → Took before line from more fault
  took_unless line from before so_far old None clean e =
      took line from before (open_at_end before line from) so_far old clean refl e
  took_unless line from before so_far old (Some column) found e = wrong_byte line column e

  taken_found : (line : Line) (from : ℕ) (before : Option OpenLiteral) (so_far : List Character) (old : Before)
      → from_step more (line_step line from before (reading so_far old)) ≡ Err fault → Took before line from more fault
  unfolding line_step
  taken_found line from before so_far old e = took_unless line from before so_far old (first_outside line) refl e

  -- ---- plain lines

  begun_if : (line : Line) (first : ℕ) (so_far : List Character) (old : Before) (heading : Bool)
      → HasIndicator Plain line → BeginsAt line first
      → begins_dropped line first ≡ heading
      → from_step more (cond heading (Ok (reading so_far Dropped)) (line_step line 8 None (reading so_far old))) ≡ Err
      fault → Began line more fault
  begun_if line first so_far old true is begins heading e =
      let f = known so_far Dropped e in
      record { literal = f.literal; is = f.is; text = heading_text is begins heading f.remains }
  begun_if line first so_far old false is begins heading e =
      let t = taken_found line 8 None so_far old e in
      record { literal = t.literal; is = t.is; text = plain_text is begins heading t.then_open }

  begun_found : (line : Line) (first : ℕ) (so_far : List Character) (old : Before) → HasIndicator Plain line
      → BeginsAt line first
      → from_step more (plain_line_step line first (reading so_far old)) ≡ Err fault → Began line more fault
  unfolding plain_line_step
  begun_found line first so_far old is begins e =
      begun_if line first so_far old (begins_dropped line first) is begins refl e

  dropped_if : (line : Line) (first : ℕ) (so_far : List Character) (low : Bool) → HasIndicator Plain line
      → BeginsAt line first → nat_lt first 12 ≡ low
      → from_step more (cond low (plain_line_step line first (reading so_far Dropped)) (Ok (reading so_far Dropped)))
      ≡ Err fault → Found (line ∷ more) Dropped fault
  dropped_if line first so_far true is begins low e =
      let b = begun_found line first so_far Dropped is begins e in
      record {
        literal = b.literal;
        is = b.is;
        remains = Remains.paragraph
            (RestOfParagraph.paragraph Each.none (EndsParagraph.in_area_a is begins (below_area_b first low)) b.text);
      }
  dropped_if line first so_far false is begins low e =
      body_found (IsInBody.in_area_b is begins (above_area_a first low)) (known so_far Dropped e)

  plain_found : (line : Line) (first : ℕ) (so_far : List Character) (before : Before) → HasIndicator Plain line
      → BeginsAt line first
      → from_step more (plain_after before line first (reading so_far before)) ≡ Err fault
      → Found (line ∷ more) before fault
  plain_found line first so_far Nothing is begins e =
      let b = begun_found line first so_far Nothing is begins e in
      record { literal = b.literal; is = b.is; remains = Remains.text b.text }
  plain_found line first so_far (LineEnd end) is begins e =
      let b = begun_found line first (so_far ++ space_at end ∷ []) (LineEnd end) is begins e in
      record { literal = b.literal; is = b.is; remains = Remains.ended b.text }
  plain_found line first so_far (Open literal) is begins e =
      record {
        literal = literal;
        is = sym (same_fault e);
        remains = Remains.stays (StaysOpen.uncontinued Each.none (IsUncontinued.plain is begins));
      }
  plain_found line first so_far Dropped is begins e = dropped_if line first so_far (nat_lt first 12) is begins refl e

  plain_at_found : (line : Line) (so_far : List Character) (before : Before) (first : Option ℕ)
      → HasIndicator Plain line → first_nonblank line ≡ first
      → from_step more (plain_at first line (reading so_far before)) ≡ Err fault → Found (line ∷ more) before fault
  plain_at_found line so_far before None is none e = skip_found (IsSkipped.blank is none) (known so_far before e)
  plain_at_found line so_far before (Some first) is begins e = plain_found line first so_far before is begins e

  -- ---- continuations

  goes_on : {before : Option OpenLiteral} {line : Line} {begin : ℕ} {literal : OpenLiteral}
      → Continues before line begin → ThenOpen before line begin more literal → GoesOn before (line ∷ more) literal
  goes_on goes then = GoesOn.continues Each.none goes then

  word_if : (line : Line) (first : ℕ) (end : Place) (so_far : List Character) (wrong : Bool)
      → HasIndicator Continuation line → BeginsAt line first
      → (nat_lt first 12 && is_mark (byte line first)) ≡ wrong
      → from_step more (cond wrong (refusal_step line WrongContinuation first)
      (line_step line first None (reading so_far (LineEnd end)))) ≡ Err fault
      → Found (line ∷ more) (LineEnd end) fault
  word_if line first end so_far true is begins wrong e = wrong_continuation line first e
  word_if line first end so_far false is begins right e =
      let t = taken_found line first None so_far (LineEnd end) e in
      record {
        literal = t.literal;
        is = t.is;
        remains =
            Remains.line_goes_on (goes_on (Continues.word is begins (no_mark_in_area_a line first right)) t.then_open);
      }

  word_found : (line : Line) (end : Place) (so_far : List Character) (first : Option ℕ) → HasIndicator Continuation line
      → first_nonblank line ≡ first
      → from_step more (line_continued_at first line (reading so_far (LineEnd end))) ≡ Err fault
      → Found (line ∷ more) (LineEnd end) fault
  word_found line end so_far None is none e = wrong_continuation line 7 e
  word_found line end so_far (Some first) is begins e =
      word_if line first end so_far (nat_lt first 12 && is_mark (byte line first)) is begins refl e

  mark_if : (line : Line) (first : ℕ) (now : OpenLiteral) (so_far : List Character) (allowed wrong : Bool)
      → HasIndicator Continuation line → BeginsAt line first
      → is_in_character_set (byte line first) ≡ allowed → (nat_lt first 12 || not (byte line first == now.mark)) ≡ wrong
      → from_step more (cond (not allowed) (refusal_step line ByteOutsideCharacterSet first)
      (cond wrong (refusal_step line WrongContinuation first)
      (line_step line (first + 1) (Some now) (reading so_far (Open now))))) ≡ Err fault
      → Found (line ∷ more) (Open now) fault
  mark_if line first now so_far false wrong is begins outside w e = wrong_byte line first e
  mark_if line first now so_far true true is begins allowed w e = wrong_continuation line first e
  mark_if line first now so_far true false is begins allowed right e =
      let t = taken_found line (first + 1) (Some now) so_far (Open now) e in
      let low = either_false (nat_lt first 12) (byte line first == now.mark) right in
      let goes : Continues (Some now) line (first + 1) =
      Continues.mark is begins allowed (above_area_a first low.0) (same_byte (byte line first) now.mark low.1) in
      record { literal = t.literal; is = t.is; remains = Remains.literal_goes_on (goes_on goes t.then_open) }

  mark_found : (line : Line) (now : OpenLiteral) (so_far : List Character) (first : Option ℕ)
      → HasIndicator Continuation line → first_nonblank line ≡ first
      → from_step more (literal_continued_at first line now (reading so_far (Open now))) ≡ Err fault
      → Found (line ∷ more) (Open now) fault
  mark_found line now so_far None is none e = wrong_continuation line 7 e
  mark_found line now so_far (Some first) is begins e =
      mark_if line first now so_far (is_in_character_set (byte line first))
      (nat_lt first 12 || not (byte line first == now.mark)) is begins refl refl e

  continuation_found : (line : Line) (so_far : List Character) (before : Before) → HasIndicator Continuation line
      → from_step more (continuation_after before line (reading so_far before)) ≡ Err fault
      → Found (line ∷ more) before fault
  unfolding line_continued literal_continued
  continuation_found line so_far Nothing is e = wrong_continuation line 7 e
  continuation_found line so_far (LineEnd end) is e = word_found line end so_far (first_nonblank line) is refl e
  continuation_found line so_far (Open now) is e = mark_found line now so_far (first_nonblank line) is refl e
  continuation_found line so_far Dropped is e = body_found (IsInBody.continuation is) (known so_far Dropped e)

  -- ---- a line

  line_found : (line : Line) (so_far : List Character) (before : Before) (kind : Result Indicator FaultKind)
      → indicator_of (byte line 7) ≡ kind
      → from_step more (after_indicator kind line (reading so_far before)) ≡ Err fault
      → Found (line ∷ more) before fault
  unfolding after_plain after_continuation
  line_found line so_far before (Err kind) is e = absurd (indicator_not (byte line 7) is (same_kind e told))
  line_found line so_far before (Ok Plain) is e = plain_at_found line so_far before (first_nonblank line) is refl e
  line_found line so_far before (Ok Comment) is e = skip_found (IsSkipped.comment is) (known so_far before e)
  line_found line so_far before (Ok Continuation) is e = continuation_found line so_far before is e

-- ---- a text

ended_found : (so_far : List Character) (before : Before) (fault : SourceFault)
    → at_end (reading so_far before) ≡ Err fault → Found [] before fault
ended_found so_far Nothing fault e = absurd (answer_not e)
ended_found so_far (LineEnd end) fault e = absurd (answer_not e)
ended_found so_far (Open literal) fault e = record {
  literal = literal;
  is = sym (same_fault e);
  remains = Remains.stays (StaysOpen.uncontinued Each.none IsUncontinued.at_end);
}
ended_found so_far Dropped fault e = absurd (answer_not e)

all_found : (fault : SourceFault) → fault.kind ≡ UnclosedLiteral
    → (lines : List Line) (so_far : List Character) (before : Before)
    → all_of lines (reading so_far before) ≡ Err fault → Found lines before fault
all_found fault told [] so_far before e = ended_found so_far before fault (sym (no_lines (reading so_far before)) ∙ e)
all_found fault told (line ∷ more) so_far before e =
    line_found fault told more (all_found fault told more) line so_far before (indicator_of (byte line 7)) refl
    (sym (first_step line more (reading so_far before)) ∙ e)

whole_text : {lines : List Line} {literal : OpenLiteral} → Remains lines Nothing literal → LeavesOpen lines literal
whole_text (Remains.text t) = t

pub open_text_found : (lines : List Line) (fault : SourceFault) → fault.kind ≡ UnclosedLiteral
    → and_then (after_lines lines (reading [] Nothing)) at_end ≡ Err fault
    → (literal : OpenLiteral) × LeavesOpen lines literal × (fault ≡ unclosed_fault literal)
open_text_found lines fault told e = let f =
    all_found fault told lines [] Nothing e in (f.literal, whole_text f.remains, f.is)
