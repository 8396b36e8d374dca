-- Programs and what they do.
use Rattle.std.proofs.Common.{◌≡◌, ℕ, Bool, true, false, List, [], ◌∷◌, ◌++◌, None, Some, refl}
use Rattle.std.specs.Prelude.{map, Ok}
use Rattle.station.specs.State.{Shown}
use Rattle.lexical.specs.declared.place.Place.{Place}
use Rattle.lexical.specs.declared.number.Sign.TheVariants as sign
use Rattle.source_tree.specs.declared.literal.Figurative.TheVariants.{Space, Quote}
use Rattle.source_tree.specs.declared.literal.LiteralValue.TheVariants.{Numeric, Nonnumeric, Figurative, All}
use Rattle.source_tree.specs.declared.literal.Literal.{Literal}
use Rattle.source_tree.specs.declared.expression.Operand.TheVariants as operand
use Rattle.source_tree.specs.declared.perform_statement.Performed.TheVariants.{Statements}
use Rattle.source_tree.specs.declared.perform_statement.Repetition.TheVariants.{Once, Times}
use Rattle.source_tree.specs.declared.text_statement.TextStatement.TheVariants as text_as
use Rattle.source_tree.specs.declared.control_statement.ControlStatement.TheVariants as ending
use Rattle.source_tree.specs.declared.statement.Verb.TheVariants as verb
use Rattle.source_tree.specs.declared.statement.Statement.{Statement, out-Statement, roll-Statement}
use Rattle.source_tree.specs.declared.program.Paragraph.{Paragraph}
use Rattle.source_tree.specs.declared.program.Program.{Program}
use Rattle.source_tree.specs.State.{Stopped, Budget, Done, Over}
use Rattle.source_tree.specs.Display.{shown_literal, line_feed}
use Rattle.source_tree.specs.Showing.{displayed_bytes}
use Rattle.source_tree.specs.Setting.{ProgramContext}
use Rattle.source_tree.specs.Given.{RunInput}
use Rattle.source_tree.specs.State.{State}
use Rattle.source_tree.specs.Performing.{turns_of}
use Rattle.source_tree.specs.Meaning as given
use Rattle.source_tree.specs.Meaning.{Run, exec}

abbrev pub at : ℕ → ℕ → Place
at line column = record { line = line; column = column }

abbrev pub text : List ℕ → Literal
text bytes = record { value = Nonnumeric bytes; place = at 5 20 }

abbrev pub number : List ℕ → List ℕ → Literal
number whole decimals =
    record { value = Numeric (record { sign = sign.Unsigned; whole = whole; decimals = decimals }); place = at 5 24 }

-- DISPLAY with these literals
abbrev pub display : Place → List Literal → Bool → Statement
display place literals advancing = roll-Statement
    (record { place = place; verb = verb.TextStatement (text_as.Display (map operand.Literal literals) advancing) })

abbrev pub stop_run : Place → Statement
stop_run place = roll-Statement (record { place = place; verb = verb.ControlStatement ending.StopRun })

-- PERFORM with these statements
abbrev pub perform : Place → List Statement → Statement
perform place inside = roll-Statement
    (record { place = place; verb = verb.PerformStatement (record { performed = Statements inside; turns = Once }) })

-- PERFORM these statements so many TIMES
abbrev pub perform_times : Place → List ℕ → List Statement → Statement
perform_times place digits inside =
    roll-Statement (record {
      place = place;
      verb = verb.PerformStatement
          (record { performed = Statements inside; turns = Times (record { digits = digits; place = place }) });
    })

-- with this budget, on 30 July 1926
abbrev with : ℕ → RunInput
with budget = record { budget = budget; day = 50 ∷ 54 ∷ 48 ∷ 55 ∷ 51 ∷ 48 ∷ []; lines = []; files = [] }

abbrev pub meaning : Program → ℕ → Run
meaning program budget = given.meaning program (with budget)

-- no items
abbrev nothing_declared : ProgramContext
nothing_declared = record { scope = record { items = []; files = []; procedures = [] }; paragraphs = [] }

-- of a program without items
abbrev empty : Program
empty = record {
  name = record { characters = 80 ∷ []; place = at 2 20 };
  selects = [];
  files = [];
  storage = [];
  sections = [];
}

abbrev start : ℕ → State
start budget = given.start empty (with budget)

-- HELLO
abbrev pub hello_bytes : List ℕ
hello_bytes = 72 ∷ 69 ∷ 76 ∷ 76 ∷ 79 ∷ []

-- IDENTIFICATION DIVISION. / PROGRAM-ID. HELLO. / PROCEDURE DIVISION. / MAIN-PARA. / DISPLAY "HELLO". / STOP RUN.
abbrev pub show_hello : Statement
show_hello = display (at 5 12) (text hello_bytes ∷ []) true

abbrev pub stop : Statement
stop = stop_run (at 6 12)

abbrev pub hello : Program
hello = record {
  name = record { characters = hello_bytes; place = at 2 20 };
  selects = [];
  files = [];
  storage = [];
  sections = record {
    name = None;
    paragraphs = record {
      name = Some (record { characters = 77 ∷ 65 ∷ 73 ∷ 78 ∷ 45 ∷ 80 ∷ 65 ∷ 82 ∷ 65 ∷ []; place = at 4 8 });
      sentences = record { statements = show_hello ∷ [] } ∷ record { statements = stop ∷ [] } ∷ [];
    } ∷ [];
  } ∷ [];
}

abbrev pub shows_hello : Run
shows_hello = record { events = map Shown (hello_bytes ++ line_feed ∷ []); end = Stopped; lines = []; files = [] ∷ [] }

-- with budget 2 all of it
hello_with_two : meaning hello 2 ≡ shows_hello
unfolding out-Statement roll-Statement denote.Hole.Carrier.out denote.Hole.Carrier.roll
hello_with_two = refl

-- with budget 1 STOP RUN has none left
hello_with_one : meaning hello 1 ≡ record shows_hello { end = Budget }
unfolding out-Statement roll-Statement denote.Hole.Carrier.out denote.Hole.Carrier.roll
hello_with_one = refl

-- with budget 0 nothing is shown
hello_with_none : meaning hello 0 ≡ record { events = []; end = Budget; lines = []; files = [] ∷ [] }
unfolding out-Statement roll-Statement denote.Hole.Carrier.out denote.Hole.Carrier.roll
hello_with_none = refl

-- paragraphs without names and STOP RUN, one statement each
abbrev pub plain : List (List Statement) → Program
plain all = record {
  name = record { characters = 80 ∷ []; place = at 2 20 };
  selects = [];
  files = [];
  storage = [];
  sections = record { name = None; paragraphs = each all } ∷ [];
}
  where
    each : List (List Statement) → List Paragraph
    each [] = []
    each (one ∷ more) = record { name = None; sentences = record { statements = one } ∷ [] } ∷ each more

-- the end of the last paragraph stops, and uses none of the budget
end_stops : meaning (plain ((show_hello ∷ []) ∷ [])) 1 ≡ shows_hello
unfolding out-Statement roll-Statement denote.Hole.Carrier.out denote.Hole.Carrier.roll
end_stops = refl

-- nothing runs after STOP RUN
stop_is_last : meaning (plain ((stop ∷ show_hello ∷ []) ∷ (show_hello ∷ []) ∷ [])) 9
    ≡ record { events = []; end = Stopped; lines = []; files = [] ∷ [] }
unfolding out-Statement roll-Statement denote.Hole.Carrier.out denote.Hole.Carrier.roll
stop_is_last = refl

-- paragraphs follow one another, and one without sentences uses none of the budget
in_order : meaning (plain ((display (at 1 12) (text (65 ∷ []) ∷ []) false ∷ []) ∷ []
    ∷ (display (at 3 12) (text (66 ∷ []) ∷ []) false ∷ []) ∷ [])) 2
    ≡ record { events = map Shown (65 ∷ 66 ∷ []); end = Stopped; lines = []; files = [] ∷ [] }
unfolding out-Statement roll-Statement denote.Hole.Carrier.out denote.Hole.Carrier.roll
in_order = refl

-- PERFORM DISPLAY "A" PERFORM DISPLAY "B" END-PERFORM END-PERFORM: each of the four uses one of the budget
abbrev pub nested : Program
nested = plain ((perform (at 1 12) (display (at 1 20) (text (65 ∷ []) ∷ []) false
    ∷ perform (at 2 12) (display (at 2 20) (text (66 ∷ []) ∷ []) false ∷ []) ∷ []) ∷ []) ∷ [])

nested_with_four : meaning nested 4
    ≡ record { events = map Shown (65 ∷ 66 ∷ []); end = Stopped; lines = []; files = [] ∷ [] }
unfolding out-Statement roll-Statement denote.Hole.Carrier.out denote.Hole.Carrier.roll
    Rattle.source_tree.specs.declared.statement.Statement.TheBlock.shown-the_row-Statement-0 denote.Hole.Carrier.shown
    denote.Hole.Carrier.hidden
nested_with_four = refl

-- the inner PERFORM has used the third, and none is left for what stands in it
nested_with_three : meaning nested 3
    ≡ record { events = map Shown (65 ∷ []); end = Budget; lines = []; files = [] ∷ [] }
unfolding out-Statement roll-Statement denote.Hole.Carrier.out denote.Hole.Carrier.roll
    Rattle.source_tree.specs.declared.statement.Statement.TheBlock.shown-the_row-Statement-0 denote.Hole.Carrier.shown
    denote.Hole.Carrier.hidden
nested_with_three = refl

-- PERFORM 2 TIMES PERFORM 3 TIMES DISPLAY "A" END-PERFORM END-PERFORM STOP RUN: the outer PERFORM uses one of the
-- budget, each of its two turns one, the inner PERFORM in each one, its three turns and their DISPLAY two each; and
-- STOP RUN one. That is 18.
abbrev pub two_by_three : Program
two_by_three = plain ((perform_times (at 1 12) (50 ∷ [])
    (perform_times (at 2 12) (51 ∷ []) (display (at 3 12) (text (65 ∷ []) ∷ []) false ∷ []) ∷ []) ∷ stop ∷ []) ∷ [])

two_by_three_with_18 : meaning two_by_three 18
    ≡ record { events = map Shown (65 ∷ 65 ∷ 65 ∷ 65 ∷ 65 ∷ 65 ∷ []); end = Stopped; lines = []; files = [] ∷ [] }
unfolding out-Statement roll-Statement denote.Hole.Carrier.out denote.Hole.Carrier.roll
    Rattle.source_tree.specs.declared.statement.Statement.TheBlock.shown-the_row-Statement-0 denote.Hole.Carrier.shown
    denote.Hole.Carrier.hidden
two_by_three_with_18 = refl

-- none is left for STOP RUN
two_by_three_with_17 : meaning two_by_three 17
    ≡ record { events = map Shown (65 ∷ 65 ∷ 65 ∷ 65 ∷ 65 ∷ 65 ∷ []); end = Budget; lines = []; files = [] ∷ [] }
unfolding out-Statement roll-Statement denote.Hole.Carrier.out denote.Hole.Carrier.roll
    Rattle.source_tree.specs.declared.statement.Statement.TheBlock.shown-the_row-Statement-0 denote.Hole.Carrier.shown
    denote.Hole.Carrier.hidden
two_by_three_with_17 = refl

-- the last turn of the inner PERFORM has used the sixteenth, at the line of that PERFORM, and none is left for what
-- stands in it
last_turn : exec nothing_declared 4
    (perform_times (at 2 12) (51 ∷ []) (display (at 3 12) (text (65 ∷ []) ∷ []) false ∷ [])) (start 6)
    ≡ Over Budget (record (start 0) { line = 2; events = map Shown (65 ∷ 65 ∷ []) })
unfolding out-Statement roll-Statement denote.Hole.Carrier.out denote.Hole.Carrier.roll
    Rattle.source_tree.specs.declared.statement.Statement.TheBlock.shown-the_row-Statement-0 denote.Hole.Carrier.shown
    denote.Hole.Carrier.hidden
last_turn = refl

-- PERFORM 0 TIMES uses one of the budget, and nothing that stands in it runs
no_turns : exec nothing_declared 1 (perform_times (at 1 12) (48 ∷ []) (stop ∷ [])) (start 1)
    ≡ Done (record (start 0) { line = 1 })
unfolding out-Statement roll-Statement denote.Hole.Carrier.out denote.Hole.Carrier.roll
    Rattle.source_tree.specs.declared.statement.Statement.TheBlock.shown-the_row-Statement-0 denote.Hole.Carrier.shown
    denote.Hole.Carrier.hidden
no_turns = refl

-- 007 says seven turns, and 18 nines as many as they say
leading_zeros_say_nothing : turns_of (record { digits = 48 ∷ 48 ∷ 55 ∷ []; place = at 1 20 }) ≡ 7
leading_zeros_say_nothing = refl

eighteen_digits : turns_of (record {
  digits = 57 ∷ 57 ∷ 57 ∷ 57 ∷ 57 ∷ 57 ∷ 57 ∷ 57 ∷ 57 ∷ 57 ∷ 57 ∷ 57 ∷ 57 ∷ 57 ∷ 57 ∷ 57 ∷ 57 ∷ 57 ∷ [];
  place = at 1 20;
}) ≡ 999999999999999999
eighteen_digits = refl

-- a program without paragraphs has stopped
nothing_to_do : meaning (plain []) 0 ≡ record { events = []; end = Stopped; lines = []; files = [] ∷ [] }
nothing_to_do = refl

-- DISPLAY "A" 12.50 'it''s' WITH NO ADVANCING
three_operands : displayed_bytes [] (map operand.Literal
    (text (65 ∷ []) ∷ number (49 ∷ 50 ∷ []) (53 ∷ 48 ∷ []) ∷ text (105 ∷ 116 ∷ 39 ∷ 115 ∷ []) ∷ [])) false []
    ≡ Ok (65 ∷ 49 ∷ 50 ∷ 46 ∷ 53 ∷ 48 ∷ 105 ∷ 116 ∷ 39 ∷ 115 ∷ [])
three_operands = refl

-- the same line ended
line_ended : displayed_bytes [] (map operand.Literal (text (65 ∷ []) ∷ [])) true [] ≡ Ok (65 ∷ 10 ∷ [])
line_ended = refl

-- -.50, +007 and 5 are shown as they were written
negative_fraction : shown_literal (Numeric (record { sign = sign.Minus; whole = []; decimals = 53 ∷ 48 ∷ [] }))
    ≡ 45 ∷ 46 ∷ 53 ∷ 48 ∷ []
negative_fraction = refl

leading_zeros : shown_literal (Numeric (record { sign = sign.Plus; whole = 48 ∷ 48 ∷ 55 ∷ []; decimals = [] }))
    ≡ 43 ∷ 48 ∷ 48 ∷ 55 ∷ []
leading_zeros = refl

-- the line of the statement that last used one of the budget
last_line : exec nothing_declared 1 show_hello (start 3)
    ≡ Done (record (start 2) { line = 5; events = map Shown (hello_bytes ++ line_feed ∷ []) })
unfolding out-Statement roll-Statement denote.Hole.Carrier.out denote.Hole.Carrier.roll
last_line = refl

-- DISPLAY SPACE ALL "AB" QUOTE
figurative_constants : displayed_bytes [] (map operand.Literal
    (record { value = Figurative Space; place = at 5 20 } ∷ record { value = All (65 ∷ 66 ∷ []); place = at 5 26 }
    ∷ record { value = Figurative Quote; place = at 5 35 } ∷ [])) false []
    ≡ Ok (32 ∷ 65 ∷ 66 ∷ 34 ∷ [])
figurative_constants = refl
