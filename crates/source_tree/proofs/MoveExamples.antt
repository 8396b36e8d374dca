-- References, MOVE, DISPLAY and ACCEPT.
use Rattle.std.proofs.Common.{◌≡◌, ℕ, true, false, List, [], ◌∷◌, ◌++◌, None, refl}
use Rattle.std.specs.Prelude.{codes, map, Ok, Err}
use Rattle.source_tree.specs.declared.literal.Figurative.TheVariants as figurative
use Rattle.lexical.specs.declared.number.Sign.TheVariants as sign
use Rattle.source_tree.specs.declared.entry.SignPosition.TheVariants as position
use Rattle.source_tree.specs.declared.entry.ItemEntry.{ItemEntry}
use Rattle.source_tree.specs.declared.entry.Entry.{Entry}
use Rattle.source_tree.specs.declared.reference.Subscript.{Subscript}
use Rattle.source_tree.specs.declared.reference.Reference.{Reference}
use Rattle.source_tree.specs.declared.expression.Operand.{Operand}
use Rattle.source_tree.specs.Broken.{RuleBreach}
use Rattle.source_tree.specs.Places.{items_of}
use Rattle.source_tree.specs.Starts.{areas_at_start}
use Rattle.source_tree.specs.Storage.{Storage}
use Rattle.source_tree.specs.Evaluated as fault
use Rattle.source_tree.specs.Evaluated.{Evaluation, ◌>>=◌}
use Rattle.source_tree.specs.LookUp.{conditions_named}
use Rattle.source_tree.specs.NameRules.{reference_rules, any_item}
use Rattle.source_tree.specs.MoveRules.{move_rules}
use Rattle.source_tree.specs.TextRules.{display_rules, accept_line_rules, accept_date_rules}
use Rattle.source_tree.specs.Moving.{move}
use Rattle.source_tree.specs.Showing.{displayed_bytes}
use Rattle.source_tree.specs.Accepting.{next_line, accept_line, accept_date}
use Rattle.source_tree.proofs.Samples.{group, item, unnamed, redefining, occurring, valued, binary, packed, signed}
use Rattle.source_tree.proofs.Samples.{justified, blank, entries, one_value, condition, number, minus, decimal}
use Rattle.source_tree.proofs.Samples.{signed_number, text, constant, all, qualified, reference, plain, counted}
use Rattle.source_tree.proofs.Samples.{by_item, the_item, the_literal}
unfoldable use Rattle.source_tree.proofs.Computing.{computing}

abbrev rules : List RuleBreach → List ℕ
rules = map (λ one. one.rule)

-- ---- names: G of A and of T OCCURS 3 with the condition name FULL, H of U of A, N PIC 9V9, M PIC 9, and L of C OCCURS
-- 2 with FULL

abbrev some_entries : List Entry
some_entries = entries (
    group (codes "01") (codes "G")
    ∷ item (codes "05") (codes "A") (codes "XX")
    ∷ occurring (codes "3") (item (codes "05") (codes "T") (codes "99"))
    ∷ []) ++ condition (codes "FULL") (one_value (number (codes "99")) ∷ []) ∷ entries (
    group (codes "01") (codes "H")
    ∷ group (codes "05") (codes "U")
    ∷ item (codes "10") (codes "A") (codes "XX")
    ∷ unnamed (item (codes "05") [] (codes "X"))
    ∷ item (codes "77") (codes "N") (codes "9V9")
    ∷ item (codes "77") (codes "M") (codes "9")
    ∷ [])

abbrev Broke : List (List ℕ × List (List ℕ) × List Subscript × List ℕ) → Type 0
Broke rows = map (λ row. rules (reference_rules (items_of some_entries) any_item
    (record { item = qualified row.0 row.1; subscripts = row.2; part = None }))) rows ≡ map (λ row. row.3) rows

-- 40 unknown, or a condition name; 41 ambiguous; 50 number of subscripts; 51 decimals in a subscript
names : Broke ((codes "Z", [], [], 40 ∷ [])
    ∷ (codes "FULL", [], [], 40 ∷ [])
    ∷ (codes "A", [], [], 41 ∷ [])
    ∷ (codes "A", codes "H" ∷ [], [], [])
    ∷ (codes "A", codes "U" ∷ [], [], [])
    ∷ (codes "A", codes "U" ∷ codes "H" ∷ [], [], [])
    ∷ (codes "A", codes "H" ∷ codes "U" ∷ [], [], 40 ∷ [])
    ∷ (codes "A", codes "G" ∷ [], [], [])
    ∷ (codes "A", codes "M" ∷ [], [], 40 ∷ [])
    ∷ (codes "T", [], [], 50 ∷ [])
    ∷ (codes "T", [], counted (codes "1") ∷ [], [])
    ∷ (codes "T", [], counted (codes "1") ∷ counted (codes "1") ∷ [], 50 ∷ [])
    ∷ (codes "M", [], counted (codes "1") ∷ [], 50 ∷ [])
    ∷ (codes "T", [], by_item (codes "M") ∷ [], [])
    ∷ (codes "T", [], by_item (codes "N") ∷ [], 51 ∷ [])
    ∷ (codes "T", [], by_item (codes "A") ∷ [], 41 ∷ [])
    ∷ (codes "T", [], by_item (codes "Z") ∷ [], 40 ∷ [])
    ∷ (codes "T", [], by_item (codes "T") ∷ [], 50 ∷ [])
    ∷ [])
unfolding computing
names = refl

-- a condition name is qualified by its item and that item's groups
abbrev condition_counts : List (List ℕ) → List ℕ
condition_counts groups =
    map (λ one. one.item.offset) (conditions_named (items_of some_entries) (qualified (codes "FULL") groups))

of_item_and_group : condition_counts (codes "T" ∷ codes "G" ∷ []) ≡ 2 ∷ []
unfolding computing
of_item_and_group = refl

of_other_group : condition_counts (codes "H" ∷ []) ≡ []
unfolding computing
of_other_group = refl

-- ---- 49: moves that aren't permitted

abbrev Refused : List (Operand × List ℕ × List ℕ) → Type 0
Refused rows =
    map (λ row. rules (move_rules (items_of senders) row.0 (plain row.1 ∷ []))) rows ≡ map (λ row. row.2) rows
  where
    senders : List Entry
    senders = entries (item (codes "77") (codes "X") (codes "X(20)") ∷ item (codes "77") (codes "Y") (codes "X(18)")
        ∷ item (codes "77") (codes "A") (codes "A(3)")
        ∷ item (codes "77") (codes "N") (codes "9V9") ∷ item (codes "77") (codes "I") (codes "S9(3)")
        ∷ item (codes "77") (codes "E") (codes "Z9.9") ∷ item (codes "77") (codes "B") (codes "XBX")
        ∷ group (codes "01") (codes "G") ∷ item (codes "05") (codes "C") (codes "X(40)") ∷ [])

permitted : Refused ((the_item (codes "A"), codes "X", [])
    ∷ (the_item (codes "A"), codes "I", 49 ∷ [])
    ∷ (the_item (codes "Y"), codes "I", [])
    ∷ (the_item (codes "X"), codes "I", 49 ∷ [])
    ∷ (the_item (codes "X"), codes "E", 49 ∷ [])
    ∷ (the_item (codes "B"), codes "I", 49 ∷ [])
    ∷ (the_item (codes "E"), codes "I", 49 ∷ [])
    ∷ (the_item (codes "E"), codes "X", [])
    ∷ (the_item (codes "E"), codes "A", 49 ∷ [])
    ∷ (the_item (codes "I"), codes "A", 49 ∷ [])
    ∷ (the_item (codes "I"), codes "B", [])
    ∷ (the_item (codes "N"), codes "X", 49 ∷ [])
    ∷ (the_item (codes "N"), codes "E", [])
    ∷ (the_item (codes "G"), codes "I", [])
    ∷ (the_item (codes "N"), codes "G", [])
    ∷ (the_literal (constant figurative.Zero), codes "I", [])
    ∷ (the_literal (constant figurative.Zero), codes "A", 49 ∷ [])
    ∷ (the_literal (constant figurative.Space), codes "I", 49 ∷ [])
    ∷ (the_literal (constant figurative.HighValue), codes "I", 49 ∷ [])
    ∷ (the_literal (all (codes "1")), codes "I", 49 ∷ [])
    ∷ (the_literal (decimal (codes "1") (codes "5")), codes "X", 49 ∷ [])
    ∷ (the_item (codes "Q"), codes "I", 40 ∷ [])
    ∷ (the_item (codes "I"), codes "Q", 40 ∷ [])
    ∷ [])
unfolding computing
permitted = refl

-- ---- MOVE: one item, a sender, and the item's bytes

abbrev after : List Entry → Operand → List Reference → Evaluation Storage
after all sender receivers = move (items_of all) sender receivers (areas_at_start all)

abbrev Moves : List (ItemEntry × Operand × List ℕ) → Type 0
Moves rows =
    map (λ row. after (entries (row.0 ∷ [])) row.1 (plain (codes "A") ∷ [])) rows ≡ map (λ row. Ok (row.2 ∷ [])) rows

-- the worked rows: 123.45 to 99V9 gives 23.4; "ABCDE" to X(3) ABC, JUSTIFIED CDE; -7 to X(3) 7 and two spaces; bytes of
-- numbers
moves :
    Moves ((item (codes "77") (codes "A") (codes "99V9"), the_literal (decimal (codes "123") (codes "45")), codes "234")
    ∷ (item (codes "77") (codes "A") (codes "X(3)"), the_literal (text (codes "ABCDE")), codes "ABC")
    ∷ (justified (item (codes "77") (codes "A") (codes "X(3)")), the_literal (text (codes "ABCDE")), codes "CDE")
    ∷ (item (codes "77") (codes "A") (codes "X(3)"), the_literal (minus (codes "7")), codes "7  ")
    ∷ (item (codes "77") (codes "A") (codes "S9(3)"), the_literal (minus (codes "12")), 48 ∷ 49 ∷ 114 ∷ [])
    ∷ (binary (item (codes "77") (codes "A") (codes "S9(4)")), the_literal (minus (codes "2")), 255 ∷ 254 ∷ [])
    ∷ (binary (item (codes "77") (codes "A") (codes "9(4)")), the_literal (number (codes "1234")), 4 ∷ 210 ∷ [])
    ∷ (packed (item (codes "77") (codes "A") (codes "S9(3)")), the_literal (minus (codes "12")), 1 ∷ 45 ∷ [])
    ∷ (packed (item (codes "77") (codes "A") (codes "9(4)")), the_literal (number (codes "1234")), 1 ∷ 35 ∷ 79 ∷ [])
    ∷ (
      signed position.Leading true (item (codes "77") (codes "A") (codes "S99")),
      the_literal (number (codes "5")),
      codes "+05",
    )
    ∷ (
      item (codes "77") (codes "A") (codes "$$,$$9.99"),
      the_literal (decimal (codes "1234") (codes "5")),
      codes "$1,234.50",
    )
    ∷ (item (codes "77") (codes "A") (codes "XXBX/X"), the_literal (text (codes "ABCD")), codes "AB C/D")
    ∷ (blank (item (codes "77") (codes "A") (codes "99")), the_literal (number (codes "0")), codes "  ")
    ∷ (blank (item (codes "77") (codes "A") (codes "99")), the_literal (number (codes "5")), codes "05")
    ∷ (item (codes "77") (codes "A") (codes "X(4)"), the_literal (constant figurative.Zero), codes "0000")
    ∷ (item (codes "77") (codes "A") (codes "X(5)"), the_literal (all (codes "AB")), codes "ABABA")
    ∷ [])
unfolding computing
moves = refl

-- G holds ABCD, Y is its last three bytes: MOVE G TO Y Z makes G AABC and Z ABCD.
taken_whole : after (entries (
    group (codes "01") (codes "G")
    ∷ valued (text (codes "A")) (item (codes "05") (codes "X") (codes "X"))
    ∷ valued (text (codes "BCD")) (item (codes "05") (codes "Y") (codes "X(3)"))
    ∷ item (codes "77") (codes "Z") (codes "X(4)") ∷ []))
    (the_item (codes "G")) (plain (codes "Y") ∷ plain (codes "Z") ∷ []) ≡ Ok (codes "AABC" ∷ codes "ABCD" ∷ [])
unfolding computing
taken_whole = refl

-- With I 1, MOVE 2 TO I T (I) sets T (2).
abbrev of_table : List Entry
of_table = entries (
    group (codes "01") (codes "G")
    ∷ occurring (codes "3") (item (codes "05") (codes "T") (codes "9"))
    ∷ valued (number (codes "1")) (item (codes "77") (codes "I") (codes "9")) ∷ [])

late_subscript : after of_table (the_literal (number (codes "2")))
    (plain (codes "I") ∷ reference (codes "T") (by_item (codes "I") ∷ []) ∷ []) ≡ Ok (codes "020" ∷ codes "2" ∷ [])
unfolding computing
late_subscript = refl

-- MOVE 4 TO I T (I) is fault 91
past_the_table : after of_table (the_literal (number (codes "4")))
    (plain (codes "I") ∷ reference (codes "T") (by_item (codes "I") ∷ []) ∷ []) ≡ Err fault.Subscript
unfolding computing
past_the_table = refl

-- ---- DISPLAY: A PIC 99 and B REDEFINES A PIC XX holding xy; B shows xy, A is fault 90, and then nothing is shown

abbrev under_redefines : List Entry
under_redefines = entries (item (codes "01") (codes "A") (codes "99")
    ∷ redefining (codes "A") (item (codes "01") (codes "B") (codes "XX")) ∷ [])

abbrev shows : List Operand → Evaluation (List ℕ)
shows operands = displayed_bytes (items_of under_redefines) operands true (codes "xy" ∷ [])

shows_bytes : shows (the_item (codes "B") ∷ []) ≡ Ok (codes "xy" ++ 10 ∷ [])
unfolding computing
shows_bytes = refl

bad_bytes : shows (the_item (codes "A") ∷ []) ≡ Err fault.Data
unfolding computing
bad_bytes = refl

bad_second : shows (the_item (codes "B") ∷ the_item (codes "A") ∷ []) ≡ Err fault.Data
unfolding computing
bad_second = refl

-- S9(3)V99 with -1.5, V99 with .5, 9(4) COMP with 7, a group of them as its bytes, and literals as written
abbrev Shows : List (List Entry × Operand × List ℕ) → Type 0
Shows rows = map (λ row. displayed_bytes (items_of row.0) (row.1 ∷ []) false (areas_at_start row.0)) rows
    ≡ map (λ row. Ok row.2) rows

shown_items : Shows ((
  entries (valued (signed_number sign.Minus (codes "1") (codes "5")) (item (codes "77") (codes "A") (codes "S9(3)V99"))
      ∷ []),
  the_item (codes "A"),
  codes "-001.50",
)
    ∷ (
      entries (valued (decimal [] (codes "5")) (item (codes "77") (codes "A") (codes "V99")) ∷ []),
      the_item (codes "A"),
      codes ".50",
    )
    ∷ (
      entries (valued (number (codes "7")) (binary (item (codes "77") (codes "A") (codes "9(4)"))) ∷ []),
      the_item (codes "A"),
      codes "0007",
    )
    ∷ (
      entries (group (codes "01") (codes "G") ∷ valued (minus (codes "1")) (item (codes "05") (codes "A") (codes "S9"))
          ∷ item (codes "05") (codes "B") (codes "X") ∷ []),
      the_item (codes "G"),
      113 ∷ 32 ∷ [],
    )
    ∷ (
      entries (valued (text (codes "1.50")) (item (codes "77") (codes "A") (codes "ZZ9.99")) ∷ []),
      the_item (codes "A"),
      codes "1.50  ",
    )
    ∷ ([], the_literal (minus (codes "0")), codes "-0")
    ∷ ([], the_literal (decimal (codes "007") (codes "50")), codes "007.50")
    ∷ [])
unfolding computing
shown_items = refl

-- ---- ACCEPT of X(4) from lines AB, ABCDEF and the end; FROM DATE of 850917 in 9(6), X(4), 9(4)

abbrev one_item : List ℕ → List Entry
one_item picture = entries (item (codes "77") (codes "A") picture ∷ [])

abbrev accepts : List (List ℕ) → Evaluation Storage
accepts lines =
    accept_line (items_of (one_item (codes "X(4)"))) (next_line lines) (plain (codes "A")) (codes "QQQQ" ∷ [])

shorter_line : accepts (codes "AB" ∷ codes "ABCDEF" ∷ []) ≡ Ok (codes "AB  " ∷ [])
unfolding computing
shorter_line = refl

longer_line : accepts (codes "ABCDEF" ∷ []) ≡ Ok (codes "ABCD" ∷ [])
unfolding computing
longer_line = refl

no_line : accepts [] ≡ Ok (codes "    " ∷ [])
unfolding computing
no_line = refl

-- as bytes, whatever the item is
line_as_bytes : accept_line (items_of (one_item (codes "9(3)"))) (codes "7") (plain (codes "A")) (codes "000" ∷ [])
    ≡ Ok (codes "7  " ∷ [])
unfolding computing
line_as_bytes = refl

abbrev dated : List ℕ → Evaluation Storage
dated picture =
    accept_date (items_of (one_item picture)) (codes "850917") (plain (codes "A")) (areas_at_start (one_item picture))

whole_date : dated (codes "9(6)") ≡ Ok (codes "850917" ∷ [])
unfolding computing
whole_date = refl

date_as_text : dated (codes "X(4)") ≡ Ok (codes "8509" ∷ [])
unfolding computing
date_as_text = refl

low_digits_of_date : dated (codes "9(4)") ≡ Ok (codes "0917" ∷ [])
unfolding computing
low_digits_of_date = refl

edited_date : dated (codes "99/99/99") ≡ Ok (codes "85/09/17" ∷ [])
unfolding computing
edited_date = refl

-- ---- rules of DISPLAY and ACCEPT

abbrev Shown : List (List Operand × List ℕ) → Type 0
Shown rows = map (λ row. rules (display_rules (items_of some_entries) row.0)) rows ≡ map (λ row. row.1) rows

-- a figurative constant is shown, ALL with a literal isn't; each operand's rules in turn
shown_operands_rules : Shown ((the_item (codes "M") ∷ the_literal (constant figurative.Space) ∷ [], [])
    ∷ (the_literal (all (codes "A")) ∷ the_item (codes "Z") ∷ [], 67 ∷ 40 ∷ [])
    ∷ (the_item (codes "T") ∷ [], 50 ∷ [])
    ∷ [])
unfolding computing
shown_operands_rules = refl

-- the date is an integer, which goes to no alphabetic item; a line goes to any
line_into_any_item : rules (accept_line_rules (items_of (entries (item (codes "77") (codes "A") (codes "A(6)") ∷ [])))
    (plain (codes "A"))) ≡ []
unfolding computing
line_into_any_item = refl

date_into_letters : rules (accept_date_rules (items_of (entries (item (codes "77") (codes "A") (codes "A(6)") ∷ [])))
    (plain (codes "A"))) ≡ 49 ∷ []
unfolding computing
date_into_letters = refl
