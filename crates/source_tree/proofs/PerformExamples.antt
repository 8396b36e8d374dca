-- PERFORM of procedures: paragraphs and sections by their names, the rules of those names, and what is performed.
use Rattle.std.proofs.Common.{◌≡◌, ℕ, zero, suc, false, List, [], ◌∷◌, None, Some, refl, ap, sym, subst, arith}
use Rattle.std.specs.Prelude.{codes, map, ◌<◌, Option, All}
use Rattle.station.specs.State.{Shown}
use Rattle.lexical.specs.declared.place.Place.{Place}
use Rattle.perform_graph.specs.declared.performed.PerformedRange.{PerformedRange}
use Rattle.perform_graph.specs.Order.{AllDecrease, rank_in}
use Rattle.source_tree.specs.declared.name.Name.{Name}
use Rattle.source_tree.specs.declared.perform_statement.Performed.TheVariants.{Procedures}
use Rattle.source_tree.specs.declared.perform_statement.Repetition.{Repetition}
use Rattle.source_tree.specs.declared.perform_statement.Repetition.TheVariants.{Once, Times}
use Rattle.source_tree.specs.declared.expression.Operand.TheVariants as operand
use Rattle.source_tree.specs.declared.text_statement.TextStatement.TheVariants as text_as
use Rattle.source_tree.specs.declared.control_statement.ControlStatement.TheVariants as ending
use Rattle.source_tree.specs.declared.statement.Verb.TheVariants as verb
use Rattle.source_tree.specs.declared.statement.Statement.{Statement, out-Statement, roll-Statement}
use Rattle.source_tree.specs.declared.statement.Statement.TheOpen.{Statement-F}
use Rattle.source_tree.specs.declared.statement.Statement.TheFolds.{map-Statement, fold-roll-Statement}
use Rattle.source_tree.specs.declared.program.Paragraph.{Paragraph}
use Rattle.source_tree.specs.declared.program.Section.{Section}
use Rattle.source_tree.specs.declared.program.Program.{Program}
use Rattle.source_tree.specs.Broken.{RuleBreach}
use Rattle.source_tree.specs.State.{Stopped, Budget}
use Rattle.source_tree.specs.Procedures.{Range, Procedure, procedures_of, range_of}
use Rattle.source_tree.specs.PerformRules.{procedure_name_rules, range_rules}
use Rattle.source_tree.specs.Rules.{all_permitted}
use Rattle.source_tree.specs.Recursion.{Performance, performs_layer, statement_performs, performs, HasOrder}
use Rattle.source_tree.proofs.Examples.{at, text, display, stop_run, meaning}

-- ---- programs of a few paragraphs

-- a name of a procedure, in area A of a line
abbrev given : ℕ → List ℕ → Name
given line called = record { characters = called; place = at line 8 }

-- a name after PERFORM, and one after THRU
abbrev first : List ℕ → Name
first called = record { characters = called; place = at 9 20 }

abbrev last : List ℕ → Name
last called = record { characters = called; place = at 9 30 }

-- a paragraph of one sentence
abbrev paragraph : ℕ → List ℕ → List Statement → Paragraph
paragraph line called statements =
    record { name = Some (given line called); sentences = record { statements = statements } ∷ [] }

abbrev section : ℕ → List ℕ → List Paragraph → Section
section line called paragraphs = record { name = Some (given line called); paragraphs = paragraphs }

-- paragraphs that belong to no section
abbrev outside : List Paragraph → Section
outside paragraphs = record { name = None; paragraphs = paragraphs }

-- ---- names: MAIN, which belongs to no section, section S without paragraphs, and section T with A and B

abbrev some_sections : List Section
some_sections =
    outside (paragraph 1 (codes "MAIN") [] ∷ [])
    ∷ section 2 (codes "S") []
    ∷ section 3 (codes "T") (paragraph 4 (codes "A") [] ∷ paragraph 5 (codes "B") [] ∷ [])
    ∷ []

abbrev range : ℕ → ℕ → Range
range from to = record { first = from; last = to }

abbrev procedure : Option Name → Range → Procedure
procedure name range = record { name = name; range = range }

-- Each section stands before its paragraphs. S has paragraph 1, without a name.
some_procedures : procedures_of some_sections
    ≡ procedure None (range 0 0) ∷ procedure (Some (given 1 (codes "MAIN"))) (range 0 0)
    ∷ procedure (Some (given 2 (codes "S"))) (range 1 1) ∷ procedure None (range 1 1)
    ∷ procedure (Some (given 3 (codes "T"))) (range 2 3) ∷ procedure (Some (given 4 (codes "A"))) (range 2 2)
    ∷ procedure (Some (given 5 (codes "B"))) (range 3 3)
    ∷ []
some_procedures = refl

abbrev found : List ℕ → Option (List ℕ) → Option Range
found called None = range_of (procedures_of some_sections) (first called) None
found called (Some other) = range_of (procedures_of some_sections) (first called) (Some (last other))

-- PERFORM A and PERFORM T
paragraph_alone : found (codes "A") None ≡ Some (range 2 2)
paragraph_alone = refl

whole_section : found (codes "T") None ≡ Some (range 2 3)
whole_section = refl

-- PERFORM MAIN THRU A and PERFORM S THRU T, of which the range ends where T does
thru_a_paragraph : found (codes "MAIN") (Some (codes "A")) ≡ Some (range 0 2)
thru_a_paragraph = refl

thru_a_section : found (codes "S") (Some (codes "T")) ≡ Some (range 1 3)
thru_a_section = refl

-- X names no procedure
no_first : found (codes "X") (Some (codes "A")) ≡ None
no_first = refl

no_last : found (codes "A") (Some (codes "X")) ≡ None
no_last = refl

-- ---- rules

abbrev broken : ℕ → Place → RuleBreach
broken rule place = record { rule = rule; place = place }

abbrev rules : List Section → List ℕ → Option Name → List RuleBreach
rules sections called to = range_rules all_permitted (procedures_of sections) (first called) to

-- MAIN THRU T breaks none, and neither do the names that are given
no_rule_is_broken : rules some_sections (codes "MAIN") (Some (last (codes "T"))) ≡ []
no_rule_is_broken = refl

each_name_is_one_procedure_s : procedure_name_rules some_sections ≡ []
each_name_is_one_procedure_s = refl

-- 40: a name that names none, before THRU and after it
unknown_first : rules some_sections (codes "X") None ≡ broken 40 (at 9 20) ∷ []
unknown_first = refl

unknown_last : rules some_sections (codes "A") (Some (last (codes "X"))) ≡ broken 40 (at 9 30) ∷ []
unknown_last = refl

-- 55: A THRU S leads backwards; told at S
backwards : rules some_sections (codes "A") (Some (last (codes "S"))) ≡ broken 55 (at 9 30) ∷ []
backwards = refl

-- 54: a range that may not be performed where the PERFORM stands; told at the first name
not_permitted : range_rules (λ range. false) (procedures_of some_sections) (first (codes "A")) None
    ≡ broken 54 (at 9 20) ∷ []
not_permitted = refl

-- section S, and P in it and in T
abbrev twice : List Section
twice = section 2 (codes "S") (paragraph 3 (codes "P") [] ∷ [])
    ∷ section 4 (codes "T") (paragraph 5 (codes "P") [] ∷ []) ∷ []

-- 42: P is given again in line 5; and 41: PERFORM P names two
given_twice : procedure_name_rules twice ≡ broken 42 (at 5 8) ∷ []
given_twice = refl

ambiguous : rules twice (codes "P") None ≡ broken 41 (at 9 20) ∷ []
ambiguous = refl

-- ---- runs

abbrev perform : ℕ → List ℕ → Option Name → Repetition → Statement
perform line called to often =
    roll-Statement (record {
      place = at line 12;
      verb = verb.PerformStatement (record { performed = Procedures (first called) to; turns = often });
    })

-- DISPLAY of a text with NO ADVANCING
abbrev show : ℕ → List ℕ → Statement
show line bytes = display (at line 12) (text bytes ∷ []) false

abbrev exit : ℕ → Statement
exit line = roll-Statement (record { place = at line 12; verb = verb.ControlStatement ending.Exit })

abbrev of_paragraphs : List Paragraph → Program
of_paragraphs paragraphs = record {
  name = given 0 (codes "CALLS");
  selects = [];
  files = [];
  storage = [];
  sections = outside paragraphs ∷ [];
}

-- MAIN performs A THRU C and stops; A shows A; B shows B and performs C; C shows C
abbrev calls : Program
calls = of_paragraphs (
    paragraph 1 (codes "MAIN") (perform 2 (codes "A") (Some (last (codes "C"))) Once ∷ stop_run (at 3 12) ∷ [])
    ∷ paragraph 4 (codes "A") (show 5 (codes "A") ∷ [])
    ∷ paragraph 6 (codes "B") (show 7 (codes "B") ∷ perform 8 (codes "C") None Once ∷ [])
    ∷ paragraph 9 (codes "C") (show 10 (codes "C") ∷ [])
    ∷ [])

-- two PERFORMs, four DISPLAYs and STOP RUN
calls_with_seven : meaning calls 7
    ≡ record { events = map Shown (codes "ABCC"); end = Stopped; lines = []; files = [] ∷ [] }
unfolding out-Statement roll-Statement denote.Hole.Carrier.out denote.Hole.Carrier.roll
    Rattle.source_tree.specs.declared.statement.Statement.TheBlock.shown-the_row-Statement-0 denote.Hole.Carrier.shown
    denote.Hole.Carrier.hidden
calls_with_seven = refl

-- the inner PERFORM has used the fourth, and none is left for what it performs
calls_with_four : meaning calls 4
    ≡ record { events = map Shown (codes "AB"); end = Budget; lines = []; files = [] ∷ [] }
unfolding out-Statement roll-Statement denote.Hole.Carrier.out denote.Hole.Carrier.roll
    Rattle.source_tree.specs.declared.statement.Statement.TheBlock.shown-the_row-Statement-0 denote.Hole.Carrier.shown
    denote.Hole.Carrier.hidden
calls_with_four = refl

-- PERFORM A 2 TIMES, and then control comes to A, which ends with EXIT: the PERFORM and each of its turns use one of
-- the budget, and each time A two
abbrev three_times : Program
three_times = of_paragraphs (
    paragraph 1 (codes "MAIN")
    (perform 2 (codes "A") None (Times (record { digits = codes "2"; place = at 2 22 })) ∷ [])
    ∷ paragraph 3 (codes "A") (show 4 (codes "A") ∷ exit 5 ∷ [])
    ∷ [])

three_times_with_nine : meaning three_times 9
    ≡ record { events = map Shown (codes "AAA"); end = Stopped; lines = []; files = [] ∷ [] }
unfolding out-Statement roll-Statement denote.Hole.Carrier.out denote.Hole.Carrier.roll
    Rattle.source_tree.specs.declared.statement.Statement.TheBlock.shown-the_row-Statement-0 denote.Hole.Carrier.shown
    denote.Hole.Carrier.hidden
three_times_with_nine = refl

three_times_with_eight : meaning three_times 8
    ≡ record { events = map Shown (codes "AAA"); end = Budget; lines = []; files = [] ∷ [] }
unfolding out-Statement roll-Statement denote.Hole.Carrier.out denote.Hole.Carrier.roll
    Rattle.source_tree.specs.declared.statement.Statement.TheBlock.shown-the_row-Statement-0 denote.Hole.Carrier.shown
    denote.Hole.Carrier.hidden
three_times_with_eight = refl

-- ---- who performs whom

performs_is : (procedures : List Procedure) (one : Statement-F Statement)
    → statement_performs procedures (roll-Statement one)
    ≡ performs_layer procedures (map-Statement Statement (List Performance) (statement_performs procedures) one)
unfolding statement_performs
performs_is procedures one = fold-roll-Statement (List Performance) (performs_layer procedures) one

abbrev performance : Place → Range → Performance
performance place range = record { place = place; range = range }

abbrev here : List Procedure
here = procedures_of calls.sections

main_performs : statement_performs here (perform 2 (codes "A") (Some (last (codes "C"))) Once)
    ≡ performance (at 9 20) (range 1 3) ∷ []
main_performs =
    performs_is here (record {
      place = at 2 12;
      verb = verb.PerformStatement
          (record { performed = Procedures (first (codes "A")) (Some (last (codes "C"))); turns = Once });
    })

b_performs : statement_performs here (perform 8 (codes "C") None Once) ≡ performance (at 9 20) (range 3 3) ∷ []
b_performs = performs_is here (record {
  place = at 8 12;
  verb = verb.PerformStatement (record { performed = Procedures (first (codes "C")) None; turns = Once });
})

stop_performs : statement_performs here (stop_run (at 3 12)) ≡ []
stop_performs = performs_is here (record { place = at 3 12; verb = verb.ControlStatement ending.StopRun })

show_performs : (line : ℕ) (bytes : List ℕ) → statement_performs here (show line bytes) ≡ []
show_performs line bytes =
    performs_is here (record {
      place = at line 12;
      verb = verb.TextStatement (text_as.Display (map operand.Literal (text bytes ∷ [])) false);
    })

abbrev performed_range : ℕ → ℕ → ℕ → PerformedRange
performed_range performer from to = record { performer = performer; first = from; last = to }

-- MAIN, which is paragraph 0, performs A to C, and B, which is paragraph 2, C
calls_perform : performs calls ≡ (at 9 20, performed_range 0 1 3) ∷ (at 9 20, performed_range 2 3 3) ∷ []
calls_perform =
    rw main_performs
    (rw stop_performs
    (rw (show_performs 5 (codes "A"))
    (rw (show_performs 7 (codes "B"))
    (rw b_performs
    (rw (show_performs 10 (codes "C")) refl)))))

-- none leads back: each paragraph is lower than those before it
abbrev steps : List ℕ
steps = 3 ∷ 2 ∷ 1 ∷ 0 ∷ []

low : All (λ (height : ℕ). height < 4) steps
low zero other within = omega arith
low (suc zero) other within = omega arith
low (suc (suc zero)) other within = omega arith
low (suc (suc (suc zero))) other within = omega arith
low (suc (suc (suc (suc more)))) other within = absurd (omega arith)

lower : AllDecrease (rank_in steps) (performed_range 0 1 3 ∷ performed_range 2 3 3 ∷ [])
lower zero other within zero is = let behind_main = is.first in absurd (omega arith)
lower zero other within (suc zero) is = omega arith
lower zero other within (suc (suc zero)) is = omega arith
lower zero other within (suc (suc (suc zero))) is = omega arith
lower zero other within (suc (suc (suc (suc more)))) is = omega arith
lower (suc zero) other within zero is = let at_c = is.first in absurd (omega arith)
lower (suc zero) other within (suc zero) is = let at_c = is.first in absurd (omega arith)
lower (suc zero) other within (suc (suc zero)) is = let at_c = is.first in absurd (omega arith)
lower (suc zero) other within (suc (suc (suc zero))) is = omega arith
lower (suc zero) other within (suc (suc (suc (suc more)))) is = omega arith
lower (suc (suc more)) other within paragraph is = absurd (omega arith)

calls_have_an_order : HasOrder calls
calls_have_an_order = (
  steps,
  record {
    one_each = refl;
    below = low;
    fall = subst (AllDecrease (rank_in steps)) (sym (ap (map (λ one. one.1)) calls_perform)) lower;
  },
)
