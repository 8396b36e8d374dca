-- What reading answers is in the reference format.
use Rattle.std.proofs.Common.{◌≡◌, ℕ, ◌+◌, ◌<◌, ◌≤◌, ◌==◌, ◌||◌, ◌&&◌, not, Bool, true, false, cond, nat_lt, List, []}
use Rattle.std.proofs.Common.{◌∷◌, ◌++◌, Option, None, Some, Result, Ok, Err, refl, sym, ap, ◌∙◌, subst, arith}
use Rattle.std.proofs.Common.{append_assoc}
use Rattle.std.proofs.lemmas.Bool.Decides.{nat_tests}
use Rattle.source_lines.specs.declared.fault.SourceFault.{SourceFault}
use Rattle.source_lines.specs.declared.fault.FaultKind.{FaultKind}
use Rattle.source_lines.specs.declared.fault.FaultKind.TheVariants.{ByteOutsideCharacterSet, WrongContinuation}
use Rattle.source_lines.specs.declared.indicator.Indicator.{Indicator}
use Rattle.source_lines.specs.declared.indicator.Indicator.TheVariants.{Plain, Comment, Continuation}
use Rattle.source_lines.specs.declared.line.Line.{Line}
use Rattle.source_lines.specs.declared.lines.Character.{Character}
use Rattle.source_lines.specs.declared.literal.OpenLiteral.{OpenLiteral}
use Rattle.lexical.specs.declared.place.Place.{Place}
use Rattle.source_lines.specs.declared.reader.Before.{Before}
use Rattle.source_lines.specs.declared.reader.Before.TheVariants.{Nothing, LineEnd, Open, Dropped}
use Rattle.source_lines.specs.declared.reader.Reader.{Reader}
use Rattle.source_lines.specs.Indicator.{indicator_of}
use Rattle.source_lines.specs.Line.{byte, characters, first_nonblank, first_outside, is_in_character_set}
use Rattle.source_lines.specs.Literal.{is_mark, open_at_end}
use Rattle.source_lines.specs.Paragraph.{begins_dropped}
use Rattle.source_lines.specs.Reading.{Step, after_indicator, after_line, after_lines, after_plain, after_continuation}
use Rattle.source_lines.specs.Reading.{and_then, at_end, plain_line_step, continuation_after, line_continued}
use Rattle.source_lines.specs.Reading.{line_continued_at, literal_continued, literal_continued_at, plain_after}
use Rattle.source_lines.specs.Reading.{plain_at, refusal_step, line_step, characters_through, unless_outside}
use Rattle.source_lines.specs.Format.{HasIndicator, BeginsAt, IsSkipped, IsInBody, Each, EndsParagraph, Gives}
use Rattle.source_lines.specs.Format.{Continues, Logical, Text, past_end, space_at}
use Rattle.source_lines.proofs.Written.{reading, ending, below_area_b, before_area_b, no_lines, through_is}

-- A line from a column on, with the lines that continue it, and the text after them.
record ThenText (before : Option OpenLiteral) (line : Line) (from : ℕ) (lines : List Line) (given : List Character) :
    Type 0 where
  rest : List Line
  more : List Line
  own : List Character
  others : List Character
  end : Place
  split : lines ≡ rest ++ more
  logical : Logical before line from rest own end
  text : Text more others
  gives : given ≡ own ++ space_at end ∷ others

-- A continuation comes, after comment lines and blank lines.
record GoesOn (before : Option OpenLiteral) (lines : List Line) (given : List Character) : Type 0 where
  skipped : List Line
  next : Line
  begin : ℕ
  tail : List Line
  split : lines ≡ skipped ++ next ∷ tail
  each : Each IsSkipped skipped
  continues : Continues before next begin
  then_text : ThenText before next begin tail given

record RestOfParagraph (lines : List Line) (given : List Character) : Type 0 where
  body : List Line
  more : List Line
  split : lines ≡ body ++ more
  each : Each IsInBody body
  ends : EndsParagraph more
  text : Text more given

-- what the lines from a place on give, by what stands before it
data Remains (lines : List Line) : Before → List Character → Type 0 where
  text : {given : List Character} → Text lines given → Remains lines Nothing given
  ended : {given : List Character} {end : Place} → Text lines given → Remains lines (LineEnd end) (space_at end ∷ given)
  line_goes_on : {given : List Character} {end : Place} → GoesOn None lines given → Remains lines (LineEnd end) given
  literal_goes_on : {given : List Character} {literal : OpenLiteral} → GoesOn (Some literal) lines given
      → Remains lines (Open literal) given
  paragraph : {given : List Character} → RestOfParagraph lines given → Remains lines Dropped given

record Found (lines : List Line) (so_far : List Character) (before : Before) (result : List Character) : Type 0 where
  given : List Character
  is : result ≡ so_far ++ given
  remains : Remains lines before given

abbrev pub all_of : List Line → Reader → Result (List Character) SourceFault
all_of lines reader = and_then (after_lines lines reader) at_end

abbrev pub from_step : List Line → Step → Result (List Character) SourceFault
from_step more step = and_then (and_then step (after_lines more)) at_end

refused_not : {f : SourceFault} {result : List Character}
    → (let r : Result (List Character) SourceFault = Err f in r) ≡ Ok result → ⊥
refused_not e = cc

same_result : {a b : List Character} → (let r : Result (List Character) SourceFault = Ok a in r) ≡ Ok b → b ≡ a
same_result e = cc

true_not_false : true ≡ false → ⊥
true_not_false e = cc

pub in_body : {line : Line} → IsSkipped line → IsInBody line
in_body (IsSkipped.comment is) = IsInBody.comment is
in_body (IsSkipped.blank is none) = IsInBody.blank is none

-- ---- a line that gives nothing

skip_goes_on : {before : Option OpenLiteral} {line : Line} {more : List Line} {given : List Character} → IsSkipped line
    → GoesOn before more given → GoesOn before (line ∷ more) given
skip_goes_on {line = line} skip g = record {
  skipped = line ∷ g.skipped;
  next = g.next;
  begin = g.begin;
  tail = g.tail;
  split = ap (λ xs. line ∷ xs) g.split;
  each = Each.one skip g.each;
  continues = g.continues;
  then_text = g.then_text;
}

one_in_body : {line : Line} {more : List Line} {given : List Character} → IsInBody line → RestOfParagraph more given
    → RestOfParagraph (line ∷ more) given
one_in_body {line} is p = record {
  body = line ∷ p.body;
  more = p.more;
  split = ap (λ xs. line ∷ xs) p.split;
  each = Each.one is p.each;
  ends = p.ends;
  text = p.text;
}

body_more : {line : Line} {more : List Line} {given : List Character} → IsInBody line → Remains more Dropped given
    → Remains (line ∷ more) Dropped given
body_more is (Remains.paragraph p) = Remains.paragraph (one_in_body is p)

pub above_area_a : (first : ℕ) → nat_lt first 12 ≡ false → 12 ≤ first
above_area_a first e = grind (arith, nat_tests)

pub same_byte : (a b : ℕ) → (a == b) ≡ true → a ≡ b
same_byte a b e = grind (arith, nat_tests)

pub either_false : (a b : Bool) → (a || not b) ≡ false → (a ≡ false) × (b ≡ true)
either_false true b e = absurd (true_not_false e)
either_false false true e = (refl, refl)
either_false false false e = absurd (true_not_false e)

no_mark : (a b : Bool) → (a && b) ≡ false → a ≡ true → b ≡ false
no_mark true b e f = e
no_mark false b e f = absurd (true_not_false (sym f))

pub no_mark_in_area_a : (line : Line) (first : ℕ) → (nat_lt first 12 && is_mark (byte line first)) ≡ false → first < 12
    → is_mark (byte line first) ≡ false
no_mark_in_area_a line first e low = no_mark (nat_lt first 12) (is_mark (byte line first)) e (before_area_b first low)

skip_remains : {line : Line} {more : List Line} {before : Before} {given : List Character} → IsSkipped line
    → Remains more before given → Remains (line ∷ more) before given
skip_remains skip (Remains.text t) = Remains.text (Text.skipped skip t)
skip_remains skip (Remains.ended t) = Remains.ended (Text.skipped skip t)
skip_remains skip (Remains.line_goes_on g) = Remains.line_goes_on (skip_goes_on skip g)
skip_remains skip (Remains.literal_goes_on g) = Remains.literal_goes_on (skip_goes_on skip g)
skip_remains skip (Remains.paragraph p) = Remains.paragraph (one_in_body (in_body skip) p)

skip_found : {line : Line} {more : List Line} {so_far : List Character} {before : Before} {result : List Character}
    → IsSkipped line
    → Found more so_far before result → Found (line ∷ more) so_far before result
skip_found skip f = record { given = f.given; is = f.is; remains = skip_remains skip f.remains }

-- ---- a line and what continues it

continue_text :
    {before after : Option OpenLiteral} {line : Line} {from : ℕ} {lines : List Line} {piece given : List Character}
    → Gives line from before after piece → GoesOn after lines given → ThenText before line from lines (piece ++ given)
continue_text {piece = piece} g o =
    let t = o.then_text in
    record {
      rest = o.skipped ++ o.next ∷ t.rest;
      more = t.more;
      own = piece ++ t.own;
      others = t.others;
      end = t.end;
      split =
          o.split ∙ ap (λ xs. o.skipped ++ o.next ∷ xs) t.split ∙ sym (append_assoc o.skipped (o.next ∷ t.rest) t.more);
      logical = Logical.continued g o.each o.continues t.logical;
      text = t.text;
      gives = ap (λ xs. piece ++ xs) t.gives ∙ sym (append_assoc piece t.own (space_at t.end ∷ t.others));
    }

join_text : {before : Option OpenLiteral} {line : Line} {from : ℕ} {lines : List Line} {piece given : List Character}
    (after : Option OpenLiteral)
    → Gives line from before after piece → Remains lines (ending line after) given
    → ThenText before line from lines (piece ++ given)
join_text {lines = lines} {piece = piece} None g (Remains.ended {given = given} {end = end} t) =
    record {
      rest = [];
      more = lines;
      own = piece;
      others = given;
      end = end;
      split = refl;
      logical = Logical.last g;
      text = t;
      gives = refl;
    }
join_text None g (Remains.line_goes_on o) = continue_text g o
join_text (Some literal) g (Remains.literal_goes_on o) = continue_text g o

-- what is left to find once a line from a column on was taken
record Took (before : Option OpenLiteral) (line : Line) (from : ℕ) (more : List Line) (so_far result : List Character) :
    Type 0 where
  given : List Character
  is : result ≡ so_far ++ given
  then_text : ThenText before line from more given

record Began (line : Line) (more : List Line) (so_far result : List Character) : Type 0 where
  given : List Character
  is : result ≡ so_far ++ given
  text : Text (line ∷ more) given

module _ (more : List Line) (known : (so_far : List Character) (before : Before) (result : List Character)
    → all_of more (reading so_far before) ≡ Ok result → Found more so_far before result) where
  took : (line : Line) (from : ℕ) (before after : Option OpenLiteral) (so_far : List Character) (old : Before)
      (result : List Character)
      → first_outside line ≡ None → open_at_end before line from ≡ after
      → from_step more (Ok (characters_through line from after (reading so_far old))) ≡ Ok result
      → Took before line from more so_far result
  took line from before after so_far old result clean literal e =
      let piece : List Character = characters line from (past_end line after) in
      let f = known (so_far ++ piece) (ending line after) result
      (ap (all_of more) (sym (through_is line from after (reading so_far old))) ∙ e) in
      let g : Gives line from before after piece =
      record { in_character_set = clean; literal = literal; counts = refl } in
      record {
        given = piece ++ f.given;
        is = f.is ∙ append_assoc so_far piece f.given;
        then_text = join_text after g f.remains;
      }

  took_unless : (line : Line) (from : ℕ) (before : Option OpenLiteral) (so_far : List Character) (old : Before)
      (result : List Character) (outside : Option ℕ)
      → first_outside line ≡ outside → from_step more (unless_outside line outside
      (characters_through line from (open_at_end before line from) (reading so_far old))) ≡ Ok result
      → Took before line from more so_far result
  took_unless line from before so_far old result None clean e =
      took line from before (open_at_end before line from) so_far old result clean refl e
  took_unless line from before so_far old result (Some column) found e = absurd (refused_not e)

  taken_found : (line : Line) (from : ℕ) (before : Option OpenLiteral) (so_far : List Character) (old : Before)
      (result : List Character)
      → from_step more (line_step line from before (reading so_far old)) ≡ Ok result
      → Took before line from more so_far result
  unfolding line_step
  taken_found line from before so_far old result e =
      took_unless line from before so_far old result (first_outside line) refl e

  -- ---- plain lines

  heading_text : (line : Line) (first : ℕ) {given : List Character} → HasIndicator Plain line → BeginsAt line first
      → begins_dropped line first ≡ true
      → Remains more Dropped given → Text (line ∷ more) given
  heading_text line first {given} is begins heading (Remains.paragraph p) =
      subst (λ lines. Text (line ∷ lines) given) (sym p.split) (Text.paragraph is begins heading p.each p.ends p.text)

  plain_text : (line : Line) (first : ℕ) {given : List Character} → HasIndicator Plain line → BeginsAt line first
      → begins_dropped line first ≡ false
      → ThenText None line 8 more given → Text (line ∷ more) given
  plain_text line first {given} is begins heading t =
      let whole : Text (line ∷ (t.rest ++ t.more)) (t.own ++ space_at t.end ∷ t.others) =
      Text.logical is begins heading t.logical t.text in
      subst (λ lines. Text (line ∷ lines) given) (sym t.split)
      (subst (λ xs. Text (line ∷ (t.rest ++ t.more)) xs) (sym t.gives) whole)

  begun_if : (line : Line) (first : ℕ) (so_far : List Character) (old : Before) (result : List Character)
      (heading : Bool) → HasIndicator Plain line → BeginsAt line first
      → begins_dropped line first ≡ heading
      → from_step more (cond heading (Ok (reading so_far Dropped)) (line_step line 8 None (reading so_far old))) ≡ Ok
      result → Began line more so_far result
  begun_if line first so_far old result true is begins heading e =
      let f = known so_far Dropped result e in
      record { given = f.given; is = f.is; text = heading_text line first is begins heading f.remains }
  begun_if line first so_far old result false is begins heading e =
      let t = taken_found line 8 None so_far old result e in
      record { given = t.given; is = t.is; text = plain_text line first is begins heading t.then_text }

  begun_found : (line : Line) (first : ℕ) (so_far : List Character) (old : Before) (result : List Character)
      → HasIndicator Plain line → BeginsAt line first
      → from_step more (plain_line_step line first (reading so_far old)) ≡ Ok result → Began line more so_far result
  unfolding plain_line_step
  begun_found line first so_far old result is begins e =
      begun_if line first so_far old result (begins_dropped line first) is begins refl e

  dropped_if : (line : Line) (first : ℕ) (so_far : List Character) (result : List Character) (low : Bool)
      → HasIndicator Plain line → BeginsAt line first
      → nat_lt first 12 ≡ low
      → from_step more (cond low (plain_line_step line first (reading so_far Dropped)) (Ok (reading so_far Dropped)))
      ≡ Ok result → Found (line ∷ more) so_far Dropped result
  dropped_if line first so_far result true is begins low e =
      let b = begun_found line first so_far Dropped result is begins e in
      record {
        given = b.given;
        is = b.is;
        remains = Remains.paragraph (record {
          body = [];
          more = line ∷ more;
          split = refl;
          each = Each.none;
          ends = EndsParagraph.in_area_a is begins (below_area_b first low);
          text = b.text;
        });
      }
  dropped_if line first so_far result false is begins low e =
      let f = known so_far Dropped result e in
      record {
        given = f.given;
        is = f.is;
        remains = body_more (IsInBody.in_area_b is begins (above_area_a first low)) f.remains;
      }

  plain_found : (line : Line) (first : ℕ) (so_far : List Character) (before : Before) (result : List Character)
      → HasIndicator Plain line → BeginsAt line first
      → from_step more (plain_after before line first (reading so_far before)) ≡ Ok result
      → Found (line ∷ more) so_far before result
  plain_found line first so_far Nothing result is begins e =
      let b = begun_found line first so_far Nothing result is begins e in
      record { given = b.given; is = b.is; remains = Remains.text b.text }
  plain_found line first so_far (LineEnd end) result is begins e =
      let b = begun_found line first (so_far ++ space_at end ∷ []) (LineEnd end) result is begins e in
      record {
        given = space_at end ∷ b.given;
        is = b.is ∙ append_assoc so_far (space_at end ∷ []) b.given;
        remains = Remains.ended b.text;
      }
  plain_found line first so_far (Open literal) result is begins e = absurd (refused_not e)
  plain_found line first so_far Dropped result is begins e =
      dropped_if line first so_far result (nat_lt first 12) is begins refl e

  plain_at_found : (line : Line) (so_far : List Character) (before : Before) (result : List Character)
      (first : Option ℕ) → HasIndicator Plain line → first_nonblank line ≡ first
      → from_step more (plain_at first line (reading so_far before)) ≡ Ok result
      → Found (line ∷ more) so_far before result
  plain_at_found line so_far before result None is none e =
      skip_found (IsSkipped.blank is none) (known so_far before result e)
  plain_at_found line so_far before result (Some first) is begins e =
      plain_found line first so_far before result is begins e

  -- ---- continuations

  goes_on : {before : Option OpenLiteral} {line : Line} {begin : ℕ} {given : List Character}
      → Continues before line begin → ThenText before line begin more given → GoesOn before (line ∷ more) given
  goes_on {line = line} {begin = begin} goes t = record {
    skipped = [];
    next = line;
    begin = begin;
    tail = more;
    split = refl;
    each = Each.none;
    continues = goes;
    then_text = t;
  }

  word_if : (line : Line) (first : ℕ) (end : Place) (so_far result : List Character) (wrong : Bool)
      → HasIndicator Continuation line → BeginsAt line first
      → (nat_lt first 12 && is_mark (byte line first)) ≡ wrong
      → from_step more (cond wrong (refusal_step line WrongContinuation first)
      (line_step line first None (reading so_far (LineEnd end)))) ≡ Ok result
      → Found (line ∷ more) so_far (LineEnd end) result
  word_if line first end so_far result true is begins wrong e = absurd (refused_not e)
  word_if line first end so_far result false is begins right e =
      let t = taken_found line first None so_far (LineEnd end) result e in
      record {
        given = t.given;
        is = t.is;
        remains =
            Remains.line_goes_on (goes_on (Continues.word is begins (no_mark_in_area_a line first right)) t.then_text);
      }

  word_found : (line : Line) (end : Place) (so_far result : List Character) (first : Option ℕ)
      → HasIndicator Continuation line → first_nonblank line ≡ first
      → from_step more (line_continued_at first line (reading so_far (LineEnd end))) ≡ Ok result
      → Found (line ∷ more) so_far (LineEnd end) result
  word_found line end so_far result None is none e = absurd (refused_not e)
  word_found line end so_far result (Some first) is begins e =
      word_if line first end so_far result (nat_lt first 12 && is_mark (byte line first)) is begins refl e

  mark_if : (line : Line) (first : ℕ) (literal : OpenLiteral) (so_far result : List Character) (allowed wrong : Bool)
      → HasIndicator Continuation line → BeginsAt line first
      → is_in_character_set (byte line first) ≡ allowed
      → (nat_lt first 12 || not (byte line first == literal.mark)) ≡ wrong
      → from_step more (cond (not allowed) (refusal_step line ByteOutsideCharacterSet first)
      (cond wrong (refusal_step line WrongContinuation first)
      (line_step line (first + 1) (Some literal) (reading so_far (Open literal))))) ≡ Ok result
      → Found (line ∷ more) so_far (Open literal) result
  mark_if line first literal so_far result false wrong is begins outside w e = absurd (refused_not e)
  mark_if line first literal so_far result true true is begins allowed w e = absurd (refused_not e)
  mark_if line first literal so_far result true false is begins allowed right e =
      let t = taken_found line (first + 1) (Some literal) so_far (Open literal) result e in
      let low = either_false (nat_lt first 12) (byte line first == literal.mark) right in
      let goes : Continues (Some literal) line (first + 1) =
      Continues.mark is begins allowed (above_area_a first low.0) (same_byte (byte line first) literal.mark low.1) in
      record { given = t.given; is = t.is; remains = Remains.literal_goes_on (goes_on goes t.then_text) }

  mark_found : (line : Line) (literal : OpenLiteral) (so_far result : List Character) (first : Option ℕ)
      → HasIndicator Continuation line → first_nonblank line ≡ first
      → from_step more (literal_continued_at first line literal (reading so_far (Open literal))) ≡ Ok result
      → Found (line ∷ more) so_far (Open literal) result
  mark_found line literal so_far result None is none e = absurd (refused_not e)
  mark_found line literal so_far result (Some first) is begins e =
      mark_if line first literal so_far result (is_in_character_set (byte line first))
      (nat_lt first 12 || not (byte line first == literal.mark)) is begins refl refl e

  continuation_found : (line : Line) (so_far : List Character) (before : Before) (result : List Character)
      → HasIndicator Continuation line
      → from_step more (continuation_after before line (reading so_far before)) ≡ Ok result
      → Found (line ∷ more) so_far before result
  unfolding line_continued literal_continued
  continuation_found line so_far Nothing result is e = absurd (refused_not e)
  continuation_found line so_far (LineEnd end) result is e =
      word_found line end so_far result (first_nonblank line) is refl e
  continuation_found line so_far (Open literal) result is e =
      mark_found line literal so_far result (first_nonblank line) is refl e
  continuation_found line so_far Dropped result is e =
      let f = known so_far Dropped result e in
      record { given = f.given; is = f.is; remains = body_more (IsInBody.continuation is) f.remains }

  -- ---- a line

  line_found : (line : Line) (so_far : List Character) (before : Before) (result : List Character)
      (kind : Result Indicator FaultKind) → indicator_of (byte line 7) ≡ kind
      → from_step more (after_indicator kind line (reading so_far before)) ≡ Ok result
      → Found (line ∷ more) so_far before result
  unfolding after_plain after_continuation
  line_found line so_far before result (Err kind) is e = absurd (refused_not e)
  line_found line so_far before result (Ok Plain) is e =
      plain_at_found line so_far before result (first_nonblank line) is refl e
  line_found line so_far before result (Ok Comment) is e =
      skip_found (IsSkipped.comment is) (known so_far before result e)
  line_found line so_far before result (Ok Continuation) is e = continuation_found line so_far before result is e

-- ---- a text

ended_found : (so_far : List Character) (before : Before) (result : List Character)
    → at_end (reading so_far before) ≡ Ok result → Found [] so_far before result
ended_found so_far Nothing result e = record { given = []; is = same_result e; remains = Remains.text Text.end }
ended_found so_far (LineEnd end) result e =
    record { given = space_at end ∷ []; is = same_result e; remains = Remains.ended Text.end }
ended_found so_far (Open literal) result e = absurd (refused_not e)
ended_found so_far Dropped result e = record {
  given = [];
  is = same_result e;
  remains = Remains.paragraph
      (record { body = []; more = []; split = refl; each = Each.none; ends = EndsParagraph.at_end; text = Text.end });
}

pub first_step : (line : Line) (more : List Line) (reader : Reader)
    → all_of (line ∷ more) reader ≡ from_step more (after_indicator (indicator_of (byte line 7)) line reader)
unfolding after_line after_lines
first_step line more reader = refl

all_found : (lines : List Line) (so_far : List Character) (before : Before) (result : List Character)
    → all_of lines (reading so_far before) ≡ Ok result → Found lines so_far before result
all_found [] so_far before result e = ended_found so_far before result (sym (no_lines (reading so_far before)) ∙ e)
all_found (line ∷ more) so_far before result e =
    line_found more (all_found more) line so_far before result (indicator_of (byte line 7)) refl
    (sym (first_step line more (reading so_far before)) ∙ e)

whole_text : {lines : List Line} {given result : List Character} → result ≡ given → Remains lines Nothing given
    → Text lines result
whole_text {lines} e (Remains.text t) = subst (Text lines) (sym e) t

pub text_found : (lines : List Line) (result : List Character)
    → and_then (after_lines lines (reading [] Nothing)) at_end ≡ Ok result → Text lines result
text_found lines result e = let f = all_found lines [] Nothing result e in whole_text f.is f.remains
