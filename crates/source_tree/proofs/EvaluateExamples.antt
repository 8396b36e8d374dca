-- EVALUATE: which statements are done, how subjects are taken, what isn't asked, and the rules of its objects. Expected
-- is what the manual says of it.
use Prim.Native.String.{String}
use Rattle.std.proofs.Common.{◌≡◌, ℕ, Bool, true, false, List, [], ◌∷◌, ◌++◌}
use Rattle.std.specs.Prelude.{codes, map, Option, Some, None}
use Rattle.station.specs.State.{Shown}
use Rattle.lexical.specs.declared.place.Place.{Place}
use Rattle.source_tree.specs.declared.entry.Entry.{Entry}
use Rattle.source_tree.specs.declared.expression.Expression.TheVariants as expression
use Rattle.source_tree.specs.declared.condition.Relation.TheVariants as relation
use Rattle.source_tree.specs.declared.condition.Side.{Side}
use Rattle.source_tree.specs.declared.condition.Side.TheVariants as side
use Rattle.source_tree.specs.declared.condition.Condition.{Condition}
use Rattle.source_tree.specs.declared.condition.Condition.TheVariants as tested
use Rattle.source_tree.specs.declared.evaluate_statement.Subject.{Subject}
use Rattle.source_tree.specs.declared.evaluate_statement.Subject.TheVariants as subject
use Rattle.source_tree.specs.declared.evaluate_statement.Choice.{Choice}
use Rattle.source_tree.specs.declared.evaluate_statement.Choice.TheVariants as choice
use Rattle.source_tree.specs.declared.evaluate_statement.When.{When}
use Rattle.source_tree.specs.declared.evaluate_statement.Selected.{Selected}
use Rattle.source_tree.specs.Places.{LocatedItem, items_of}
use Rattle.source_tree.specs.Evaluated as fault
use Rattle.source_tree.specs.Broken.{RuleBreach}
use Rattle.source_tree.specs.State.{State, Outcome, Done, Over, Faulted, state_after_output}
use Rattle.source_tree.specs.Evaluate.{evaluate_outcome}
use Rattle.source_tree.specs.EvaluateRules.{when_rules}
use Rattle.source_tree.proofs.Samples.{at, here, item, entries, one_value, condition, number, the_item, the_literal}
unfoldable use Rattle.source_tree.proofs.Computing.{computing}
use Rattle.source_tree.proofs.Folded.{told_by_form, ruled_by_form}

-- 77 A PIC 9. 88 SMALL VALUES 1 2. 77 B PIC 9. 77 N PIC 9V9. 77 X PIC X.
abbrev items : List LocatedItem
items = items_of declared
  where
    declared : List Entry
    declared =
        entries (item (codes "77") (codes "A") (codes "9") ∷ [])
        ++ condition (codes "SMALL") (one_value (number (codes "1")) ∷ one_value (number (codes "2")) ∷ [])
        ∷ entries (item (codes "77") (codes "B") (codes "9") ∷ item (codes "77") (codes "N") (codes "9V9")
        ∷ item (codes "77") (codes "X") (codes "X") ∷ [])

-- ---- subjects and objects

-- an item, or a condition name; and a number
abbrev named : String → Side
named called = side.Expression (expression.Operand (the_item (codes called)))

abbrev counted : String → Side
counted digits = side.Expression (expression.Operand (the_literal (number (codes digits))))

abbrev is_zero : String → Condition
is_zero called = tested.Relation (named called) relation.Equal (counted "0")

abbrev of : String → Subject
of called = subject.Value (named called)

abbrev is : Side → Choice
is one = choice.Value false one None

abbrev is_not : Side → Choice
is_not one = choice.Value true one None

-- 1 THRU 3, with NOT or without
abbrev one_to_three : Bool → Choice
one_to_three negated = choice.Value negated (counted "1") (Some (counted "3"))

-- where WHEN stands, and where an object begins; names and numbers stand at another place
abbrev at_when : Place
at_when = at 3 12

abbrev at_object : Place
at_object = at 3 17

-- WHEN with these objects
abbrev when : List Choice → When
when choices = record { place = at_when; objects = map (λ one. record { place = at_object; choice = one }) choices }

-- WHENs one after the other, and the bytes that are shown after them, each by a statement
abbrev whens : List (List Choice) → String → Selected ℕ
whens each shown = record { whens = map when each; statements = codes shown }

-- ---- what is done

-- these bytes in A and B, and these shown; EVALUATE stands at line 9
abbrev after : String → String → String → State
after a b shown =
    record {
      budget = 5;
      line = 9;
      day = [];
      lines = [];
      storage = codes a ∷ codes b ∷ codes "00" ∷ codes " " ∷ [];
      files = [];
      connectors = [];
      earlier = [];
      events = map Shown (codes shown);
    }

abbrev show : ℕ → State → Outcome
show byte s = Done (state_after_output (byte ∷ []) s)

abbrev evaluate : List Subject → List (Selected ℕ) → Option (List ℕ) → String → String → Outcome
evaluate subjects selected other a b =
    evaluate_outcome items show (record { subjects = subjects; selected = selected; other = other }) (after a b "")

-- rows of an EVALUATE, what A and B hold, and what is shown
abbrev Shows : List ((String → String → Outcome) × String × String × String) → Type 0
Shows [] = Unit {0}
Shows (row ∷ more) = (row.0 row.1 row.2 ≡ Done (after row.1 row.2 row.3)) × Shows more

-- EVALUATE A ALSO TRUE WHEN 1 THRU 3 ALSO B = 0 "P" WHEN NOT 5 ALSO ANY "Q" WHEN OTHER "R"
abbrev of_manual : String → String → Outcome
of_manual =
    evaluate (of "A" ∷ subject.Truth true ∷ [])
    (whens ((one_to_three false ∷ choice.Condition (is_zero "B") ∷ []) ∷ []) "P"
    ∷ whens ((is_not (counted "5") ∷ choice.Any ∷ []) ∷ []) "Q" ∷ []) (Some (codes "R"))

as_in_manual : Shows ((of_manual, "2", "0", "P") ∷ (of_manual, "2", "1", "Q") ∷ (of_manual, "5", "0", "R") ∷ [])
unfolding computing
as_in_manual = (simp told_by_form, (simp told_by_form, (simp told_by_form, tt)))

-- EVALUATE A WHEN 1 THRU 3 WHEN B "PQ" WHEN 3 "R"
abbrev two_groups : String → String → Outcome
two_groups = evaluate (of "A" ∷ []) (whens ((one_to_three false ∷ []) ∷ (is (named "B") ∷ []) ∷ []) "PQ"
    ∷ whens ((is (counted "3") ∷ []) ∷ []) "R" ∷ []) None

-- Of two groups that fit the first is taken; either of its WHENs will do; where nothing fits and OTHER is absent,
-- nothing is shown.
in_order : Shows ((two_groups, "3", "0", "PQ") ∷ (two_groups, "7", "7", "PQ") ∷ (two_groups, "7", "0", "") ∷ [])
unfolding computing
in_order = (simp told_by_form, (simp told_by_form, (simp told_by_form, tt)))

-- EVALUATE of one subject WHEN one object "P"
abbrev one_when : Subject → Choice → String → String → Outcome
one_when one object = evaluate (one ∷ []) (whens ((object ∷ []) ∷ []) "P" ∷ []) None

-- A WHEN NOT 1 THRU 3: both ends belong to the range. Then TRUE WHEN SMALL, TRUE WHEN NOT SMALL, SMALL WHEN FALSE, and
-- FALSE WHEN B = 0.
one_subject : Shows ((one_when (of "A") (one_to_three true), "0", "0", "P")
    ∷ (one_when (of "A") (one_to_three true), "1", "0", "")
    ∷ (one_when (of "A") (one_to_three true), "3", "0", "")
    ∷ (one_when (of "A") (one_to_three true), "4", "0", "P")
    ∷ (one_when (subject.Truth true) (is (named "SMALL")), "2", "0", "P")
    ∷ (one_when (subject.Truth true) (is (named "SMALL")), "3", "0", "")
    ∷ (one_when (subject.Truth true) (is_not (named "SMALL")), "3", "0", "P")
    ∷ (one_when (of "SMALL") (choice.Truth false), "2", "0", "")
    ∷ (one_when (of "SMALL") (choice.Truth false), "3", "0", "P")
    ∷ (one_when (subject.Truth false) (choice.Condition (is_zero "B")), "2", "1", "P")
    ∷ [])
unfolding computing
one_subject = (
  simp told_by_form,
  (
    simp told_by_form,
    (
      simp told_by_form,
      (
        simp told_by_form,
        (
          simp told_by_form,
          (simp told_by_form, (simp told_by_form, (simp told_by_form, (simp told_by_form, (simp told_by_form, tt))))),
        ),
      ),
    ),
  ),
)

-- SMALL WHEN B = 0: both are true, or neither is
abbrev alike : String → String → Outcome
alike = one_when (of "SMALL") (choice.Condition (is_zero "B"))

both_or_neither :
    Shows ((alike, "2", "0", "P") ∷ (alike, "2", "1", "") ∷ (alike, "3", "0", "") ∷ (alike, "3", "1", "P") ∷ [])
unfolding computing
both_or_neither = (simp told_by_form, (simp told_by_form, (simp told_by_form, (simp told_by_form, tt))))

-- ---- subjects are taken, objects are asked: B holds x, which is no number

-- EVALUATE A ALSO B WHEN 2 ALSO this object "P" WHEN OTHER "R"
abbrev beside_two : Choice → String → String → Outcome
beside_two object =
    evaluate (of "A" ∷ of "B" ∷ []) (whens ((is (counted "2") ∷ object ∷ []) ∷ []) "P" ∷ []) (Some (codes "R"))

-- B = 0 ALSO FALSE
abbrev zero_also_false : String → String → Outcome
zero_also_false =
    evaluate (subject.Condition (is_zero "B") ∷ subject.Truth false ∷ [])
    (whens ((choice.Any ∷ choice.Truth true ∷ []) ∷ []) "P" ∷ []) (Some (codes "R"))

-- rows of an EVALUATE and what A and B hold: a fault at the line of EVALUATE
abbrev Faults : List ((String → String → Outcome) × String × String) → Type 0
Faults [] = Unit {0}
Faults (row ∷ more) = (row.0 row.1 row.2 ≡ Over (Faulted fault.Data 9) (after row.1 row.2 "")) × Faults more

-- A subject is taken beside ANY, after an object that isn't met, where another one decides, and alone; and so is a
-- condition.
taken : Faults ((beside_two choice.Any, "2", "x")
    ∷ (beside_two (is (counted "1")), "3", "x")
    ∷ (beside_two (is (counted "1")), "2", "x")
    ∷ (one_when (of "B") choice.Any, "2", "x")
    ∷ (zero_also_false, "2", "x")
    ∷ [])
unfolding computing
taken = (simp told_by_form, (simp told_by_form, (simp told_by_form, (simp told_by_form, (simp told_by_form, tt)))))

-- The same with numbers; and an object that isn't asked, after a WHEN that is met, has no fault.
no_fault : Shows ((beside_two choice.Any, "2", "0", "P")
    ∷ (beside_two (is (counted "1")), "3", "0", "R")
    ∷ (zero_also_false, "2", "1", "R")
    ∷ (two_groups, "3", "x", "PQ")
    ∷ [])
unfolding computing
no_fault = (simp told_by_form, (simp told_by_form, (simp told_by_form, (simp told_by_form, tt))))

-- ---- rules

-- rows of subjects, the objects of a WHEN, and what is broken
abbrev Breaks : List (List Subject × List Choice × List RuleBreach) → Type 0
Breaks [] = Unit {0}
Breaks (row ∷ more) = (when_rules items row.0 (when row.1) ≡ row.2) × Breaks more

abbrev one_broken : ℕ → Place → List RuleBreach
one_broken rule place = record { rule = rule; place = place } ∷ []

-- A WHEN 1 ALSO 2; A ALSO B WHEN 1
other_count : Breaks ((of "A" ∷ [], is (counted "1") ∷ is (counted "2") ∷ [], one_broken 53 at_when)
    ∷ (of "A" ∷ of "B" ∷ [], is (counted "1") ∷ [], one_broken 53 at_when)
    ∷ [])
unfolding computing
other_count = (simp ruled_by_form, (simp ruled_by_form, tt))

-- TRUE WHEN 5; SMALL WHEN 1; B = 0 WHEN A; A WHEN B = 0; A WHEN SMALL; A WHEN TRUE
no_fit : Breaks ((subject.Truth true ∷ [], is (counted "5") ∷ [], one_broken 53 at_object)
    ∷ (of "SMALL" ∷ [], is (counted "1") ∷ [], one_broken 53 at_object)
    ∷ (subject.Condition (is_zero "B") ∷ [], is (named "A") ∷ [], one_broken 53 at_object)
    ∷ (of "A" ∷ [], choice.Condition (is_zero "B") ∷ [], one_broken 53 at_object)
    ∷ (of "A" ∷ [], is (named "SMALL") ∷ [], one_broken 53 at_object)
    ∷ (of "A" ∷ [], choice.Truth true ∷ [], one_broken 53 at_object)
    ∷ [])
unfolding computing
no_fit = (
  simp ruled_by_form,
  (simp ruled_by_form, (simp ruled_by_form, (simp ruled_by_form, (simp ruled_by_form, (simp ruled_by_form, tt))))),
)

abbrev one_of_each : List Subject
one_of_each = of "A" ∷ subject.Truth true ∷ subject.Condition (is_zero "B") ∷ of "SMALL" ∷ []

-- A ALSO TRUE ALSO B = 0 ALSO SMALL WHEN ANY ALSO ANY ALSO ANY ALSO ANY, and WHEN 1 THRU 3 ALSO SMALL ALSO NOT SMALL
-- ALSO TRUE
fit : Breaks ((one_of_each, choice.Any ∷ choice.Any ∷ choice.Any ∷ choice.Any ∷ [], [])
    ∷ (one_of_each, one_to_three false ∷ is (named "SMALL") ∷ is_not (named "SMALL") ∷ choice.Truth true ∷ [], [])
    ∷ [])
unfolding computing
fit = (simp ruled_by_form, (simp ruled_by_form, tt))

-- 52, at the object: N WHEN X, of which one has decimals and the other is of characters; 5 WHEN 5, two literals. A WHEN
-- X may be compared.
not_compared : Breaks ((of "N" ∷ [], is (named "X") ∷ [], one_broken 52 at_object)
    ∷ (subject.Value (counted "5") ∷ [], is (counted "5") ∷ [], one_broken 52 at_object)
    ∷ (of "A" ∷ [], is (named "X") ∷ [], [])
    ∷ [])
unfolding computing
not_compared = (simp ruled_by_form, (simp ruled_by_form, (simp ruled_by_form, tt)))

-- 40, at the name: A WHEN Z; TRUE WHEN Z = 0
unknown_name : Breaks ((of "A" ∷ [], is (named "Z") ∷ [], one_broken 40 here)
    ∷ (subject.Truth true ∷ [], choice.Condition (is_zero "Z") ∷ [], one_broken 40 here)
    ∷ [])
unfolding computing
unknown_name = (simp ruled_by_form, (simp ruled_by_form, tt))
