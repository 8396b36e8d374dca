-- What is in the reference format is what reading answers.
use Rattle.std.proofs.Common.{◌≡◌, ℕ, ◌+◌, ◌<◌, ◌≤◌, ◌==◌, ◌||◌, ◌&&◌, not, Bool, true, false, cond, nat_lt, List, []}
use Rattle.std.proofs.Common.{◌∷◌, ◌++◌, Option, None, Some, Result, Ok, refl, sym, ap, ◌∙◌, arith, append_assoc}
use Rattle.std.proofs.Common.{eq-eqb}
use Rattle.std.proofs.lemmas.Bool.Decides.{nat_tests}
use Rattle.std.proofs.lemmas.List.{append-nil}
use Rattle.source_lines.specs.declared.fault.SourceFault.{SourceFault}
use Rattle.source_lines.specs.declared.fault.FaultKind.{FaultKind}
use Rattle.source_lines.specs.declared.fault.FaultKind.TheVariants.{ByteOutsideCharacterSet, WrongContinuation}
use Rattle.source_lines.specs.declared.indicator.Indicator.{Indicator}
use Rattle.source_lines.specs.declared.indicator.Indicator.TheVariants.{Plain, Comment}
use Rattle.source_lines.specs.declared.line.Line.{Line}
use Rattle.source_lines.specs.declared.lines.Character.{Character}
use Rattle.source_lines.specs.declared.literal.OpenLiteral.{OpenLiteral}
use Rattle.lexical.specs.declared.place.Place.{Place}
use Rattle.source_lines.specs.declared.reader.Before.{Before}
use Rattle.source_lines.specs.declared.reader.Before.TheVariants.{Nothing, LineEnd, Open, Dropped}
use Rattle.source_lines.specs.declared.reader.Reader.{Reader}
use Rattle.source_lines.specs.Line.{byte, place_in_line, characters, last_nonblank}
use Rattle.source_lines.specs.Literal.{is_mark, open_at_end}
use Rattle.source_lines.specs.Paragraph.{begins_dropped}
use Rattle.source_lines.specs.Reading.{Step, after_indicator, after_line, after_lines, after_plain, after_continuation}
use Rattle.source_lines.specs.Reading.{and_then, at_end, plain_line_step, line_continued, line_continued_at}
use Rattle.source_lines.specs.Reading.{literal_continued, literal_continued_at, line_end, plain_after, plain_at}
use Rattle.source_lines.specs.Reading.{refusal_step, line_step, characters_through, unless_outside}
use Rattle.source_lines.specs.Format.{HasIndicator, BeginsAt, IsSkipped, IsInBody, Each, EndsParagraph, Gives}
use Rattle.source_lines.specs.Format.{Continues, Logical, Text, past_end, space_at}

abbrev pub reading : List Character → Before → Reader
reading given before = record { characters = given; before = before }

-- what stands before the line after this one
abbrev pub ending : Line → Option OpenLiteral → Before
ending line None = LineEnd (place_in_line line (last_nonblank line + 1))
ending line (Some literal) = Open literal

pub indicated : (line : Line) (reader : Reader) {kind : Indicator} → HasIndicator kind line
    → after_line line reader ≡ after_indicator (Ok kind) line reader
unfolding after_line
indicated line reader is = ap (λ kind. after_indicator kind line reader) is

pub one_more : (line : Line) (reader next : Reader) (more : List Line) → after_line line reader ≡ Ok next
    → after_lines (line ∷ more) reader ≡ after_lines more next
unfolding after_lines
one_more line reader next more e = ap (λ step. and_then step (after_lines more)) e

pub plain_begins : (line : Line) (reader : Reader) (first : ℕ) → HasIndicator Plain line → BeginsAt line first
    → after_line line reader ≡ plain_after reader.before line first reader
unfolding after_plain
plain_begins line reader first is begins = indicated line reader is ∙ ap (λ first. plain_at first line reader) begins

pub first_taken : (line : Line) (reader : Reader) (more : List Line) (step : Step) → after_line line reader ≡ step
    → after_lines (line ∷ more) reader ≡ and_then step (after_lines more)
unfolding after_lines
first_taken line reader more step e = ap (λ s. and_then s (after_lines more)) e

pub not_both : {x : Result Indicator FaultKind} → x ≡ Ok Comment → x ≡ Ok Plain → ⊥
not_both e f = cc

pub none_not : {A : Type 0} {a : A} → None ≡ Some a → ⊥
none_not e = cc

-- ---- comment lines, blank lines, dropped lines

pub skipped_read : {line : Line} (reader : Reader) → IsSkipped line → after_line line reader ≡ Ok reader
unfolding after_plain
skipped_read {line} reader (IsSkipped.comment is) = indicated line reader is
skipped_read {line} reader (IsSkipped.blank is none) =
    indicated line reader is ∙ ap (λ first. plain_at first line reader) none

pub skipped_lines_read : {skipped : List Line} → Each IsSkipped skipped → (rest : List Line) (reader : Reader)
    → after_lines (skipped ++ rest) reader ≡ after_lines rest reader
skipped_lines_read Each.none rest reader = refl
skipped_lines_read (Each.one {line} {more} is each) rest reader =
    one_more line reader reader (more ++ rest) (skipped_read reader is) ∙ skipped_lines_read each rest reader

past : (first : ℕ) → 12 ≤ first → nat_lt first 12 ≡ false
past first h = grind (arith, nat_tests)

pub before_area_b : (first : ℕ) → first < 12 → nat_lt first 12 ≡ true
before_area_b first h = grind (arith, nat_tests)

body_read : {line : Line} (given : List Character) → IsInBody line
    → after_line line (reading given Dropped) ≡ Ok (reading given Dropped)
unfolding after_plain after_continuation
body_read {line} given (IsInBody.comment is) = indicated line (reading given Dropped) is
body_read {line} given (IsInBody.continuation is) = indicated line (reading given Dropped) is
body_read {line} given (IsInBody.blank is none) =
    indicated line (reading given Dropped) is ∙ ap (λ first. plain_at first line (reading given Dropped)) none
body_read {line} given (IsInBody.in_area_b {first} is begins high) =
    plain_begins line (reading given Dropped) first is begins ∙ ap
    (λ b. cond b (plain_line_step line first (reading given Dropped)) (Ok (reading given Dropped))) (past first high)

pub bodies_read : {body : List Line} → Each IsInBody body → (rest : List Line) (given : List Character)
    → after_lines (body ++ rest) (reading given Dropped) ≡ after_lines rest (reading given Dropped)
bodies_read Each.none rest given = refl
bodies_read (Each.one {line} {more} is each) rest given =
    one_more line (reading given Dropped) (reading given Dropped) (more ++ rest) (body_read given is)
    ∙ bodies_read each rest given

-- ---- logical lines

pub through_is : (line : Line) (from : ℕ) (after : Option OpenLiteral) (reader : Reader)
    → characters_through line from after reader
    ≡ reading (reader.characters ++ characters line from (past_end line after)) (ending line after)
through_is line from None reader = refl
through_is line from (Some literal) reader = refl

pub taken_read : {line : Line} {from : ℕ} {before after : Option OpenLiteral} {given : List Character}
    → Gives line from before after given → (reader : Reader)
    → line_step line from before reader ≡ Ok (reading (reader.characters ++ given) (ending line after))
unfolding line_step
taken_read {line} {from} {before} {after} {given} g reader =
    ap (λ outside. unless_outside line outside (characters_through line from (open_at_end before line from) reader))
    g.in_character_set
    ∙ ap (λ literal. let s : Step = Ok (characters_through line from literal reader) in s) g.literal
    ∙ ap (λ r. let s : Step = Ok r in s) (through_is line from after reader)
    ∙ ap (λ xs. let s : Step = Ok (reading (reader.characters ++ xs) (ending line after)) in s) (sym g.counts)

pub below_area_b : (first : ℕ) → nat_lt first 12 ≡ true → first < 12
below_area_b first e = grind (arith, nat_tests)

and_when : (a b : Bool) → (a ≡ true → b ≡ false) → (a && b) ≡ false
and_when true b h = h refl
and_when false b h = refl

neither : (a b : Bool) → a ≡ false → b ≡ true → (a || not b) ≡ false
neither a b e f = ap (λ x. x || not b) e ∙ ap (λ y. false || not y) f

in_area_a_mark : (line : Line) (first : ℕ) → (first < 12 → is_mark (byte line first) ≡ false)
    → (nat_lt first 12 && is_mark (byte line first)) ≡ false
in_area_a_mark line first h = and_when (nat_lt first 12) (is_mark (byte line first)) (λ e. h (below_area_b first e))

pub continues_read : {after : Option OpenLiteral} {next : Line} {begin : ℕ} → Continues after next begin
    → (line : Line) (given : List Character)
    → after_line next (reading given (ending line after))
    ≡ line_step next begin after (reading given (ending line after))
unfolding after_continuation line_continued literal_continued
continues_read {next = next} (Continues.word {first = first} is begins free) line given =
    let reader : Reader = reading given (ending line None) in
    indicated next reader is ∙ ap (λ f. line_continued_at f next reader) begins
    ∙ ap (λ b. cond b (refusal_step next WrongContinuation first) (line_step next first None reader))
    (in_area_a_mark next first free)
continues_read {next =
    next} (Continues.mark {first = first} {literal = literal} is begins allowed high same) line given =
    let reader : Reader = reading given (Open literal) in
    let wrong : (nat_lt first 12 || not (byte next first == literal.mark)) ≡ false =
    neither (nat_lt first 12) (byte next first == literal.mark) (past first high)
    (eq-eqb (byte next first) literal.mark same) in
    indicated next reader is ∙ ap (λ f. literal_continued_at f next literal reader) begins
    ∙ ap (λ b. cond (not b) (refusal_step next ByteOutsideCharacterSet first)
    (cond (nat_lt first 12 || not (byte next first == literal.mark)) (refusal_step next WrongContinuation first)
    (line_step next (first + 1) (Some literal) reader))) allowed
    ∙ ap (λ b. cond b (refusal_step next WrongContinuation first) (line_step next (first + 1) (Some literal) reader))
    wrong

pub next_taken : {after : Option OpenLiteral} {next : Line} {begin : ℕ} → Continues after next begin
    → (line : Line) (given : List Character) (more : List Line)
    → after_lines (next ∷ more) (reading given (ending line after))
    ≡ and_then (line_step next begin after (reading given (ending line after))) (after_lines more)
unfolding after_lines
next_taken goes line given more = ap (λ step. and_then step (after_lines more)) (continues_read goes line given)

pub logical_read : {before : Option OpenLiteral} {line : Line} {from : ℕ} {rest : List Line} {given :
    List Character} {end : Place} → Logical before line from rest given end
    → (more : List Line) (reader : Reader)
    → and_then (line_step line from before reader) (after_lines (rest ++ more))
    ≡ after_lines more (reading (reader.characters ++ given) (LineEnd end))
logical_read (Logical.last g) more reader = ap (λ step. and_then step (after_lines more)) (taken_read g reader)
logical_read {line = line} (Logical.continued {after = after} {next = next} {begin = begin} {skipped = skipped} {rest =
    rest} {given = given} {others = others} {end = end} g each goes tail) more reader =
    let so_far : Reader = reading (reader.characters ++ given) (ending line after) in
    ap (λ step. and_then step (after_lines (skipped ++ next ∷ rest ++ more))) (taken_read g reader)
    ∙ ap (λ lines. after_lines lines so_far) (append_assoc skipped (next ∷ rest) more)
    ∙ skipped_lines_read each (next ∷ (rest ++ more)) so_far
    ∙ next_taken goes line (reader.characters ++ given) (rest ++ more)
    ∙ logical_read tail more so_far
    ∙ ap (λ xs. after_lines more (reading xs (LineEnd end))) (append_assoc reader.characters given others)

-- ---- texts

-- What may stand before a text's next part.
pub data Fresh (lines : List Line) : Before → Type 0 where
  nothing : Fresh lines Nothing
  ended : {end : Place} → Fresh lines (LineEnd end)
  dropped : EndsParagraph lines → Fresh lines Dropped

same_first : {a b : ℕ} → Some a ≡ Some b → a ≡ b
same_first e = cc

pub fresh_begins : (line : Line) (first : ℕ) (given : List Character) (before : Before) (more : List Line)
    → Fresh (line ∷ more) before → HasIndicator Plain line → BeginsAt line first
    → after_line line (reading given before) ≡ plain_line_step line first (reading (given ++ line_end before) before)
fresh_begins line first given Nothing more fresh is begins =
    plain_begins line (reading given Nothing) first is begins
    ∙ ap (λ xs. plain_line_step line first (reading xs Nothing)) (sym (append-nil given))
fresh_begins line first given (LineEnd end) more fresh is begins =
    plain_begins line (reading given (LineEnd end)) first is begins
fresh_begins line first given (Open literal) more fresh is begins = elim fresh [ ]
fresh_begins line first given Dropped more (Fresh.dropped (EndsParagraph.in_area_a {first = other} plain at low)) is
    begins =
    let same : other ≡ first = same_first (sym at ∙ begins) in
    plain_begins line (reading given Dropped) first is begins
    ∙ ap (λ b. cond b (plain_line_step line first (reading given Dropped)) (Ok (reading given Dropped)))
    (before_area_b first (omega arith))
    ∙ ap (λ xs. plain_line_step line first (reading xs Dropped)) (sym (append-nil given))

pub begun_heading : (line : Line) (first : ℕ) (reader : Reader) → begins_dropped line first ≡ true
    → plain_line_step line first reader ≡ Ok (reading reader.characters Dropped)
unfolding plain_line_step
begun_heading line first reader e =
    ap (λ b. cond b (Ok (reading reader.characters Dropped)) (line_step line 8 None reader)) e

pub begun_plain : (line : Line) (first : ℕ) (reader : Reader) → begins_dropped line first ≡ false
    → plain_line_step line first reader ≡ line_step line 8 None reader
unfolding plain_line_step
begun_plain line first reader e =
    ap (λ b. cond b (Ok (reading reader.characters Dropped)) (line_step line 8 None reader)) e

pub fresh_more : {line : Line} {more : List Line} {before : Before} → IsSkipped line → Fresh (line ∷ more) before
    → Fresh more before
fresh_more skip Fresh.nothing = Fresh.nothing
fresh_more skip Fresh.ended = Fresh.ended
fresh_more (IsSkipped.comment is) (Fresh.dropped (EndsParagraph.in_area_a plain at low)) = absurd (not_both is plain)
fresh_more (IsSkipped.blank is none) (Fresh.dropped (EndsParagraph.in_area_a plain at low)) =
    absurd (none_not (sym none ∙ at))

at_end_fresh : (given : List Character) (before : Before) → Fresh [] before
    → at_end (reading given before) ≡ Ok ((given ++ line_end before) ++ [])
at_end_fresh given Nothing fresh =
    ap (λ xs. let r : Result (List Character) SourceFault = Ok xs in r) (sym (append-nil (given ++ [])))
at_end_fresh given (LineEnd end) fresh = ap (λ xs. let r : Result (List Character) SourceFault =
    Ok xs in r) (sym (append-nil (given ++ line_end (LineEnd end))))
at_end_fresh given (Open literal) fresh = elim fresh [ ]
at_end_fresh given Dropped fresh =
    ap (λ xs. let r : Result (List Character) SourceFault = Ok xs in r) (sym (append-nil (given ++ [])))

pub no_lines : (reader : Reader) → and_then (after_lines [] reader) at_end ≡ at_end reader
unfolding after_lines
no_lines reader = refl

pub text_read : {lines : List Line} {text : List Character} → Text lines text
    → (given : List Character) (before : Before) → Fresh lines before
    → and_then (after_lines lines (reading given before)) at_end ≡ Ok ((given ++ line_end before) ++ text)
text_read Text.end given before fresh = no_lines (reading given before) ∙ at_end_fresh given before fresh
text_read (Text.skipped {line} {more} skip rest) given before fresh =
    ap (λ step. and_then step at_end)
    (one_more line (reading given before) (reading given before) more (skipped_read (reading given before) skip))
    ∙ text_read rest given before (fresh_more skip fresh)
text_read (Text.paragraph {line} {first} {body} {more} {given = text} is begins heading each ends rest) given before
    fresh =
    let now : List Character = given ++ line_end before in
    ap (λ step. and_then step at_end)
    (one_more line (reading given before) (reading now Dropped) (body ++ more)
    (fresh_begins line first given before (body ++ more) fresh is begins
    ∙ begun_heading line first (reading now before) heading)
    ∙ bodies_read each more now)
    ∙ text_read rest now Dropped (Fresh.dropped ends)
    ∙ ap (λ xs. let r : Result (List Character) SourceFault = Ok (xs ++ text) in r) (append-nil now)
text_read (Text.logical {line} {first} {rest} {more} {given = text} {others} {end} is begins heading lines after) given
    before fresh =
    let now : List Character = given ++ line_end before in
    ap (λ step. and_then step at_end)
    (first_taken line (reading given before) (rest ++ more) _ (fresh_begins line first given before (rest ++ more) fresh
    is begins ∙ begun_plain line first (reading now before) heading)
    ∙ logical_read lines more (reading now before))
    ∙ text_read after (now ++ text) (LineEnd end) Fresh.ended
    ∙ ap (λ xs. let r : Result (List Character) SourceFault = Ok xs in r)
    (append_assoc (now ++ text) (space_at end ∷ []) others ∙ append_assoc now text (space_at end ∷ others))
