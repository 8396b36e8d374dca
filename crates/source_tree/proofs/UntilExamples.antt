-- Turns up to where a test is true, and the two ways of an IF, on an item of one byte.
use Rattle.std.proofs.Common.{◌≡◌, ℕ, ◌+◌, true, false, List, [], ◌∷◌, refl}
use Rattle.std.specs.Prelude.{◌==◌, map, Some, None, Ok}
use Rattle.station.specs.State.{Shown}
use Rattle.source_tree.specs.declared.until.TestTime.TheVariants.{Before, After}
use Rattle.source_tree.specs.Storage.{Storage}
use Rattle.source_tree.specs.Conditions.{ConditionValue}
use Rattle.source_tree.specs.State.{State, Outcome, Done, Over, Budget, state_after_output}
use Rattle.source_tree.specs.Until.{until_from}
use Rattle.source_tree.specs.Branching.{way}

-- the item's byte
abbrev held : Storage → ℕ
held ((byte ∷ more) ∷ areas) = byte
held _ = 0

-- so much of the budget left, this in the item, and these bytes shown, after a turn of the PERFORM at line 9
abbrev after_turns : ℕ → ℕ → List ℕ → State
after_turns budget byte shown = record {
  budget = budget;
  line = 9;
  day = [];
  lines = [];
  storage = (byte ∷ []) ∷ [];
  files = [];
  connectors = [];
  earlier = [];
  events = map Shown shown;
}

abbrev is_four : ConditionValue
is_four storage = Ok (held storage == 4)

abbrev show_item : State → Outcome
show_item s = Done (state_after_output (held s.storage ∷ []) s)

abbrev add_one : State → Outcome
add_one s = Done (record s { storage = ((held s.storage + 1) ∷ []) ∷ [] })

-- VARYING from 1 by 1: 1, 2 and 3 are shown, 4 is left, and each turn has used one
three_turns : until_from Before 9 20 is_four add_one show_item (after_turns 10 1 [])
    ≡ Done (after_turns 7 4 (1 ∷ 2 ∷ 3 ∷ []))
three_turns = refl

-- with the test after each turn 4 is shown too, and nothing is added after the last one
four_turns : until_from After 9 20 is_four add_one show_item (after_turns 10 1 [])
    ≡ Done (after_turns 6 4 (1 ∷ 2 ∷ 3 ∷ 4 ∷ []))
four_turns = refl

-- true at first: no turn, or one
no_turn : until_from Before 9 20 is_four add_one show_item (after_turns 10 4 []) ≡ Done (after_turns 10 4 [])
no_turn = refl

one_turn : until_from After 9 20 is_four add_one show_item (after_turns 10 4 []) ≡ Done (after_turns 9 4 (4 ∷ []))
one_turn = refl

-- the budget ends before the third turn, whose test was made
two_turns : until_from Before 9 20 is_four add_one show_item (after_turns 2 1 [])
    ≡ Over Budget (after_turns 0 3 (1 ∷ 2 ∷ []))
two_turns = refl

-- a statement that shows a byte
abbrev shows : ℕ → State → Outcome
shows byte s = Done (state_after_output (byte ∷ []) s)

first_way : way shows (1 ∷ 2 ∷ []) (Some (3 ∷ [])) true (after_turns 5 0 []) ≡ Done (after_turns 5 0 (1 ∷ 2 ∷ []))
first_way = refl

other_way : way shows (1 ∷ 2 ∷ []) (Some (3 ∷ [])) false (after_turns 5 0 []) ≡ Done (after_turns 5 0 (3 ∷ []))
other_way = refl

without_else : way shows (1 ∷ 2 ∷ []) None false (after_turns 5 0 []) ≡ Done (after_turns 5 0 [])
without_else = refl
