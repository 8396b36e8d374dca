-- As many turns as an item says, on an item of a digit after its sign. Expected is what the manual says of it.
use Prim.Native.String.{String}
use Rattle.std.proofs.Common.{◌≡◌, ℕ, true, List, [], ◌∷◌, refl}
use Rattle.std.specs.Prelude.{codes, map}
use Rattle.station.specs.State.{Shown}
use Rattle.source_tree.specs.declared.perform_statement.Repetition.TheVariants.{CountedBy}
use Rattle.source_tree.specs.declared.entry.SignPosition.TheVariants.{Leading}
use Rattle.source_tree.specs.Places.{LocatedItem, items_of}
use Rattle.source_tree.specs.Evaluated as fault
use Rattle.source_tree.specs.Broken.{RuleBreach}
use Rattle.source_tree.specs.State.{State, Outcome, Done, Over, Budget, Faulted, state_after_output}
use Rattle.source_tree.specs.Performing.{repeat}
use Rattle.source_tree.specs.Rules.{turns_rules}
use Rattle.source_tree.proofs.Samples.{here, item, signed, entries, plain}
unfoldable use Rattle.source_tree.proofs.Computing.{computing}

-- 77 N PIC S9 SIGN LEADING SEPARATE. 77 D PIC 9V9. 77 X PIC X.
abbrev items : List LocatedItem
items =
    items_of
    (entries (signed Leading true (item (codes "77") (codes "N") (codes "S9"))
    ∷ item (codes "77") (codes "D") (codes "9V9") ∷ item (codes "77") (codes "X") (codes "X") ∷ []))

-- so much of the budget left, what used it last, the bytes of N, and those that are shown
abbrev after : ℕ → ℕ → String → String → State
after budget line bytes shown =
    record {
      budget = budget;
      line = line;
      day = [];
      lines = [];
      storage = codes bytes ∷ codes "00" ∷ codes " " ∷ [];
      files = [];
      connectors = [];
      earlier = [];
      events = map Shown (codes shown);
    }

-- shows a P, and has +9 in N
abbrev show_and_change : State → Outcome
show_and_change s =
    Done (state_after_output (codes "P") (record s { storage = codes "+9" ∷ codes "00" ∷ codes " " ∷ [] }))

-- PERFORM .. N TIMES at line 9
abbrev perform : State → Outcome
perform s = repeat items 20 9 (CountedBy (plain (codes "N"))) show_and_change s

-- The item is read before the first turn alone: what the turns store in it changes nothing.
two_turns : perform (after 5 8 "+2" "") ≡ Done (after 3 9 "+9" "PP")
unfolding computing
two_turns = refl

-- zero or less: no turn, and none of the budget
no_turn : perform (after 5 8 "+0" "") ≡ Done (after 5 8 "+0" "")
unfolding computing
no_turn = refl

none_below_zero : perform (after 5 8 "-2" "") ≡ Done (after 5 8 "-2" "")
unfolding computing
none_below_zero = refl

-- each turn uses one
budget_ends : perform (after 1 8 "+2" "") ≡ Over Budget (after 0 9 "+9" "P")
unfolding computing
budget_ends = refl

-- bytes that are no number
no_number : perform (after 5 8 "+x" "") ≡ Over (Faulted fault.Data 8) (after 5 8 "+x" "")
unfolding computing
no_number = refl

abbrev rules : String → List RuleBreach
rules called = turns_rules items (CountedBy (plain (codes called)))

an_integer : rules "N" ≡ []
unfolding computing
an_integer = refl

with_decimals : rules "D" ≡ record { rule = 51; place = here } ∷ []
unfolding computing
with_decimals = refl

no_numeric : rules "X" ≡ record { rule = 51; place = here } ∷ []
unfolding computing
no_numeric = refl

unknown : rules "Q" ≡ record { rule = 40; place = here } ∷ []
unfolding computing
unknown = refl
