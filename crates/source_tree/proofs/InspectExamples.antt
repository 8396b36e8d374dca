-- INSPECT. Expected is what the manual says of it, and GnuCOBOL where the rule isn't our own.
use Rattle.std.proofs.Common.{◌≡◌, ℕ, Bool, true, false, List, [], ◌∷◌, refl}
use Rattle.std.specs.Prelude.{codes, map, Option, Some, None, Ok, Err}
use Rattle.source_tree.specs.declared.literal.Figurative.TheVariants as figurative
use Rattle.source_tree.specs.declared.entry.Entry.{Entry}
use Rattle.source_tree.specs.declared.expression.Operand.{Operand}
use Rattle.source_tree.specs.declared.expression.Operand.TheVariants as operand
use Rattle.source_tree.specs.declared.inspect_statement.Limits.{Limits}
use Rattle.source_tree.specs.declared.inspect_statement.Occurrences.{Occurrences}
use Rattle.source_tree.specs.declared.inspect_statement.Occurrences.TheVariants as how
use Rattle.source_tree.specs.declared.inspect_statement.Tallied.{Tallied}
use Rattle.source_tree.specs.declared.inspect_statement.Tallied.TheVariants as tallied
use Rattle.source_tree.specs.declared.inspect_statement.Tallying.{Tallying}
use Rattle.source_tree.specs.declared.inspect_statement.Replacing.{Replacing}
use Rattle.source_tree.specs.declared.inspect_statement.Replacing.TheVariants as replacing
use Rattle.source_tree.specs.declared.inspect_statement.InspectStatement.{InspectStatement}
use Rattle.source_tree.specs.declared.inspect_statement.Converting.{Converting}
use Rattle.source_tree.specs.Broken.{RuleBreach}
use Rattle.source_tree.specs.Places.{items_of}
use Rattle.source_tree.specs.Storage.{Storage}
use Rattle.source_tree.specs.Evaluated as fault
use Rattle.source_tree.specs.Evaluated.{Evaluation}
use Rattle.source_tree.specs.Inspecting.{inspect}
use Rattle.source_tree.specs.InspectRules.{inspect_rules}
use Rattle.source_tree.specs.Converting.{convert, convert_rules}
use Rattle.source_tree.proofs.Samples.{group, item, occurring, binary, packed, entries, number, text, constant}
use Rattle.source_tree.proofs.Samples.{reference, plain, by_item, the_item, the_literal}
unfoldable use Rattle.source_tree.proofs.Computing.{computing}
use Rattle.decimal18.specs.Arithmetic as arithmetic
use Rattle.decimal18.specs.Receiver as receivers
use Rattle.source_tree.specs.InspectWalk.{Pattern, AnyCharacter, Occurrence, TextEntry}
unfoldable use Rattle.source_tree.specs.InspectWalk.{tallies, replaced_subject, walk}

-- ---- entries

abbrev anywhere : Limits
anywhere = record { before = None; after = None; after_first = false }

abbrev before_text : List ℕ → Limits
before_text one = record anywhere { before = Some (the_literal (text one)) }

abbrev after_text : List ℕ → Limits
after_text one = record anywhere { after = Some (the_literal (text one)) }

abbrev counting : Occurrences → List ℕ → Limits → Tallied
counting occurrences one limits =
    tallied.Texts occurrences (record { text = the_literal (text one); limits = limits } ∷ [])

abbrev replacing_by : Occurrences → Operand → Operand → Limits → Replacing
replacing_by occurrences one by limits =
    replacing.Texts occurrences (record { text = one; by = by; limits = limits } ∷ [])

abbrev by_text : Occurrences → List ℕ → List ℕ → Limits → Replacing
by_text occurrences one by limits = replacing_by occurrences (the_literal (text one)) (the_literal (text by)) limits

abbrev counter : List ℕ → List Tallied → Tallying
counter called entries = record { counter = plain called; tallied = entries }

abbrev inspection : List ℕ → List Tallying → List Replacing → InspectStatement
inspection subject tallying replacing = record { subject = plain subject; tallying = tallying; replacing = replacing }

-- ---- T of six characters, N of one digit, and M of one with a decimal

abbrev six : List Entry
six = entries (item (codes "77") (codes "T") (codes "X(6)") ∷ item (codes "77") (codes "N") (codes "9")
    ∷ item (codes "77") (codes "M") (codes "9V9") ∷ [])

abbrev inspected : List ℕ → List ℕ → List Tallying → List Replacing → Evaluation Storage
inspected subject n tallying replacing =
    inspect (items_of six) (inspection (codes "T") tallying replacing) (subject ∷ n ∷ codes "98" ∷ [])

-- the subject, the counter, what is tallied and replaced, and what subject and counter become
abbrev Inspects : List (List ℕ × List ℕ × List Tallying × List Replacing × List ℕ × List ℕ) → Type 0
Inspects rows =
    map (λ row. inspected row.0 row.1 row.2 row.3) rows ≡ map (λ row. Ok (row.4 ∷ row.5 ∷ codes "98" ∷ [])) rows

abbrev for_n : List Tallied → List Tallying
for_n entries = counter (codes "N") entries ∷ []

worked_rows : Inspects
    ((codes "000120", codes "0", for_n (counting how.Leading (codes "0") anywhere ∷ []), [], codes "000120", codes "3")
    ∷ (
      codes "000120",
      codes "0",
      [],
      replacing_by how.Leading (the_literal (text (codes "0"))) (the_literal (constant figurative.Space)) anywhere ∷ [],
      codes "   120",
      codes "0",
    )
    ∷ (codes "AAAAA ", codes "0", for_n (counting how.All (codes "AA") anywhere ∷ []), [], codes "AAAAA ", codes "2")
    ∷ (
      codes "ABCABC",
      codes "0",
      [],
      by_text how.All (codes "A") (codes "X") (after_text (codes "B")) ∷ [],
      codes "ABCXBC",
      codes "0",
    )
    ∷ (
      codes "ABCABC",
      codes "0",
      [],
      by_text how.First (codes "C") (codes "-") anywhere ∷ [],
      codes "AB-ABC",
      codes "0",
    )
    ∷ (
      codes "ABCABC",
      codes "0",
      [],
      replacing.Characters (the_literal (text (codes "*"))) (before_text (codes "C")) ∷ [],
      codes "**CABC",
      codes "0",
    )
    ∷ (
      codes "ABCABC",
      codes "0",
      for_n (counting how.All (codes "B") anywhere ∷ counting how.All (codes "C") anywhere ∷ []),
      [],
      codes "ABCABC",
      codes "4",
    )
    ∷ [])
unfolding computing arithmetic.sum tallies replaced_subject walk receivers.fitted_decimal
worked_rows = refl

-- The tens are cut; both phrases look at the text as it was; ALL "AB" BY ZERO takes two zeros; the last "BC" before
-- "CA" doesn't end before it, so that its C is for the second entry.
more_rows : Inspects
    ((codes "ABABAB", codes "8", for_n (counting how.All (codes "A") anywhere ∷ []), [], codes "ABABAB", codes "1")
    ∷ (
      codes "ABCABC",
      codes "0",
      for_n (counting how.All (codes "A") anywhere ∷ []),
      by_text how.All (codes "A") (codes "B") anywhere ∷ [],
      codes "BBCBBC",
      codes "2",
    )
    ∷ (
      codes "ABCABC",
      codes "0",
      [],
      replacing_by how.All (the_literal (text (codes "AB"))) (the_literal (constant figurative.Zero)) anywhere ∷ [],
      codes "00C00C",
      codes "0",
    )
    ∷ (
      codes "ABCABC",
      codes "0",
      for_n (counting how.All (codes "B") anywhere ∷ []),
      by_text how.All (codes "BC") (codes "XY") (before_text (codes "CA"))
          ∷ by_text how.All (codes "C") (codes "Z") anywhere ∷ [],
      codes "ABZABZ",
      codes "2",
    ) ∷ [])
unfolding computing arithmetic.sum tallies replaced_subject walk receivers.fitted_decimal
more_rows = refl

-- One walk for both: what fits for M's entry isn't N's. M holds 9.8, and its tens are cut.
two_counters : inspected (codes "ABCABC") (codes "0") (counter (codes "M") (counting how.All (codes "AB") anywhere ∷ [])
    ∷ counter (codes "N") (tallied.Characters anywhere ∷ []) ∷ []) []
    ≡ Ok (codes "ABCABC" ∷ codes "2" ∷ codes "18" ∷ [])
unfolding computing arithmetic.sum tallies walk receivers.fitted_decimal
two_counters = refl

no_number : inspected (codes "ABCABC") (codes "x") (for_n (tallied.Characters anywhere ∷ [])) [] ≡ Err fault.Data
unfolding computing arithmetic.sum tallies walk
no_number = refl

-- ---- The walk alone: at each place the entries in order; a LEADING whose first place another entry took never fits,
-- and one that had its place goes on right after it; FIRST once; BEFORE without an occurrence means all places, AFTER
-- none.

abbrev sought : Pattern → TextEntry
sought pattern = record { pattern = pattern; by = []; before = None; after = None }

abbrev all_of : List ℕ → TextEntry
all_of one = sought (Occurrence how.All one)

abbrev leading : List ℕ → TextEntry
leading one = sought (Occurrence how.Leading one)

abbrev first_of : List ℕ → TextEntry
first_of one = sought (Occurrence how.First one)

tallies_alone : (tallies (all_of (codes "BA") ∷ all_of (codes "AB") ∷ []) (codes "ABAB") ≡ 0 ∷ 2 ∷ [])
    × (tallies (all_of (codes "X") ∷ leading (codes "A") ∷ []) (codes "XAA") ≡ 1 ∷ 0 ∷ [])
    × (tallies (leading (codes "A") ∷ []) (codes "AABA") ≡ 2 ∷ [])
    × (tallies (record (leading (codes "A")) { after = Some (codes "B") } ∷ []) (codes "ABAAB") ≡ 2 ∷ [])
    × (tallies (first_of (codes "A") ∷ all_of (codes "A") ∷ []) (codes "BAAA") ≡ 1 ∷ 2 ∷ [])
    × (tallies (record (sought AnyCharacter) { before = Some (codes "Q") } ∷ []) (codes "ABC") ≡ 3 ∷ [])
    × (tallies (record (sought AnyCharacter) { after = Some (codes "Q") } ∷ []) (codes "ABC") ≡ 0 ∷ [])
    × (tallies (record (all_of (codes "BC")) { before = Some (codes "C") } ∷ []) (codes "ABC") ≡ 0 ∷ [])
unfolding tallies walk
tallies_alone = (refl, refl, refl, refl, refl, refl, refl, refl)

replaced_alone :
    (replaced_subject (record (all_of (codes "AA")) { by = codes "XY" } ∷ []) (codes "AAAAA") ≡ codes "XYXYA")
    × (replaced_subject (record (all_of (codes "A")) { by = codes "B" } ∷ record (all_of (codes "B")) { by = codes "A" }
    ∷ []) (codes "ABBA") ≡ codes "BAAB")
    × (replaced_subject (record (first_of (codes "C")) { by = codes "-" } ∷ []) (codes "ABCABC") ≡ codes "AB-ABC")
unfolding replaced_subject walk
replaced_alone = (refl, refl, refl)

-- ---- C is a counter in T: what is replaced is T as it was, and the store comes last; without REPLACING nothing is
-- stored after C.

abbrev overlapping : List Entry
overlapping = entries (group (codes "01") (codes "T") ∷ item (codes "05") (codes "C") (codes "9")
    ∷ item (codes "05") (codes "R") (codes "XX") ∷ [])

abbrev inspects : List Replacing → Evaluation Storage
inspects replacing = inspect (items_of overlapping)
    (inspection (codes "T") (counter (codes "C") (tallied.Characters anywhere ∷ []) ∷ []) replacing) (codes "0AB" ∷ [])

counter_in_subject : (inspects [] ≡ Ok (codes "3AB" ∷ []))
    × (inspects (by_text how.All (codes "A") (codes "X") anywhere ∷ []) ≡ Ok (codes "0XB" ∷ []))
unfolding computing arithmetic.sum tallies replaced_subject walk receivers.fitted_decimal
counter_in_subject = (refl, refl)

-- ---- Faults come in the order of writing: I is no number, and 5 is past the table.

abbrev of_table : List Entry
of_table = entries (group (codes "01") (codes "G") ∷ occurring (codes "3") (item (codes "05") (codes "E") (codes "X"))
    ∷ item (codes "77") (codes "I") (codes "9") ∷ item (codes "77") (codes "J") (codes "9") ∷ [])

abbrev element : List ℕ → Option Operand
element called = Some (operand.Item (reference (codes "E") (by_item called ∷ [])))

abbrev by_two : Bool → Evaluation Storage
by_two after_first = inspect (items_of of_table)
    (inspection (codes "G") [] (replacing.Characters (the_literal (text (codes "X")))
    (record { before = element (codes "I"); after = element (codes "J"); after_first = after_first }) ∷ []))
    (codes "ABC" ∷ codes "x" ∷ codes "5" ∷ [])

order_of_limits : (by_two false ≡ Err fault.Data) × (by_two true ≡ Err fault.Subscript)
unfolding computing
order_of_limits = (refl, refl)

-- BEFORE C and AFTER A of ABC, in either order
abbrev between : Bool → Evaluation Storage
between after_first = inspect (items_of of_table)
    (inspection (codes "G") [] (replacing.Characters (the_literal (text (codes "X"))) (record {
      before = Some (the_literal (text (codes "C")));
      after = Some (the_literal (text (codes "A")));
      after_first = after_first;
    }) ∷ []))
    (codes "ABC" ∷ codes "1" ∷ codes "1" ∷ [])

either_order : (between false ≡ Ok (codes "AXC" ∷ codes "1" ∷ codes "1" ∷ []))
    × (between true ≡ Ok (codes "AXC" ∷ codes "1" ∷ codes "1" ∷ []))
unfolding computing replaced_subject walk
either_order = (refl, refl)

-- ---- the rules: each broken alone, and nearly broken

abbrev rules : List RuleBreach → List ℕ
rules = map (λ one. one.rule)

abbrev operands : List Entry
operands = entries (
    item (codes "77") (codes "X") (codes "X(8)")
    ∷ item (codes "77") (codes "Y") (codes "XX")
    ∷ item (codes "77") (codes "N") (codes "99")
    ∷ item (codes "77") (codes "S") (codes "S9")
    ∷ item (codes "77") (codes "V") (codes "9V9")
    ∷ binary (item (codes "77") (codes "B") (codes "9(4)"))
    ∷ packed (item (codes "77") (codes "P") (codes "9"))
    ∷ item (codes "77") (codes "E") (codes "Z9") ∷ [])

-- subject, counter, what is tallied and what replaces it
abbrev the_rules : List ℕ → List ℕ → Operand → Operand → List ℕ
the_rules subject called one by = rules (inspect_rules (items_of operands)
    (inspection subject (counter called (tallied.Characters anywhere ∷ []) ∷ [])
    (replacing_by how.All one by anywhere ∷ [])))

abbrev Broke : List (List ℕ × List ℕ × Operand × Operand × List ℕ) → Type 0
Broke rows = map (λ row. the_rules row.0 row.1 row.2 row.3) rows ≡ map (λ row. row.4) rows

rules_broken : Broke ((codes "X", codes "N", the_item (codes "Y"), the_item (codes "N"), [])
    ∷ (codes "E", codes "S", the_item (codes "V"), the_item (codes "E"), [])
    ∷ (codes "V", codes "V", the_item (codes "X"), the_literal (constant figurative.Space), [])
    ∷ (codes "N", codes "B", the_literal (constant figurative.Space), the_literal (text (codes "A")), [])
    ∷ (codes "N", codes "P", the_literal (text (codes "AB")), the_literal (text (codes "CD")), [])
    ∷ (codes "X", codes "E", the_item (codes "Y"), the_item (codes "N"), 64 ∷ [])
    ∷ (codes "X", codes "X", the_item (codes "Y"), the_item (codes "N"), 64 ∷ [])
    ∷ (codes "S", codes "N", the_item (codes "Y"), the_item (codes "N"), 64 ∷ [])
    ∷ (codes "B", codes "N", the_item (codes "Y"), the_item (codes "N"), 64 ∷ [])
    ∷ (codes "X", codes "N", the_item (codes "S"), the_literal (text (codes "A")), 64 ∷ [])
    ∷ (codes "X", codes "N", the_item (codes "P"), the_literal (text (codes "A")), 64 ∷ [])
    ∷ (codes "X", codes "N", the_literal (text (codes "A")), the_item (codes "S"), 64 ∷ [])
    ∷ (codes "X", codes "N", the_literal (number (codes "1")), the_literal (text (codes "A")), 64 ∷ [])
    ∷ (codes "X", codes "N", the_item (codes "Y"), the_item (codes "X"), 64 ∷ [])
    ∷ (codes "X", codes "N", the_literal (text (codes "A")), the_literal (text (codes "AB")), 64 ∷ [])
    ∷ (codes "X", codes "N", the_literal (constant figurative.Space), the_literal (text (codes "AB")), 64 ∷ [])
    ∷ (codes "Q", codes "Q", the_item (codes "Q"), the_item (codes "X"), 40 ∷ 40 ∷ 40 ∷ [])
    ∷ [])
unfolding computing
rules_broken = refl

-- CHARACTERS BY one character, a figurative constant or two; BEFORE and AFTER a number
abbrev one_for_each : Operand → Limits → List ℕ
one_for_each by limits =
    rules (inspect_rules (items_of operands) (inspection (codes "X") [] (replacing.Characters by limits ∷ [])))

characters_broken : (one_for_each (the_literal (text (codes "A"))) anywhere ≡ [])
    × (one_for_each (the_literal (constant figurative.Quote)) anywhere ≡ [])
    × (one_for_each (the_literal (text (codes "AB"))) anywhere ≡ 64 ∷ [])
    × (one_for_each (the_item (codes "Y")) anywhere ≡ 64 ∷ [])
    × (one_for_each (the_literal (text (codes "A")))
    (record anywhere { before = Some (the_literal (number (codes "1"))) }) ≡ 64 ∷ [])
    × (one_for_each (the_literal (text (codes "A")))
    (record anywhere { before = Some (the_item (codes "S")); after = Some (the_item (codes "Q")) }) ≡ 64 ∷ 40 ∷ [])
    × (one_for_each (the_literal (text (codes "A")))
    (record { before = Some (the_item (codes "S")); after = Some (the_item (codes "Q")); after_first = true })
    ≡ 40 ∷ 64 ∷ [])
unfolding computing
characters_broken = (refl, refl, refl, refl, refl, refl, refl)

-- ---- CONVERTING

abbrev conversion_of : List ℕ → Operand → Operand → Limits → Converting
conversion_of subject from by limits =
    record { subject = plain subject; texts = record { text = from; by = by; limits = limits } }

abbrev seven : List Entry
seven = entries (item (codes "77") (codes "T") (codes "X(7)") ∷ [])

abbrev converted : List ℕ → Operand → Operand → Limits → Evaluation Storage
converted subject from by limits = convert (items_of seven) (conversion_of (codes "T") from by limits) (subject ∷ [])

-- "ABC" TO "123", the same AFTER INITIAL "A", the same BEFORE INITIAL "G"; "AA" TO "12"; "AB" TO SPACE
conversions :
    (converted (codes "CABBAGE") (the_literal (text (codes "ABC"))) (the_literal (text (codes "123"))) anywhere
    ≡ Ok (codes "31221GE" ∷ []))
    × (converted (codes "CABBAGE") (the_literal (text (codes "ABC"))) (the_literal (text (codes "123")))
    (after_text (codes "A")) ≡ Ok (codes "CA221GE" ∷ []))
    × (converted (codes "CABBAGE") (the_literal (text (codes "EG"))) (the_literal (text (codes "12")))
    (before_text (codes "G")) ≡ Ok (codes "CABBAGE" ∷ []))
    × (converted (codes "CABBAGE") (the_literal (text (codes "AA"))) (the_literal (text (codes "12"))) anywhere
    ≡ Ok (codes "C1BB1GE" ∷ []))
    × (converted (codes "CABBAGE") (the_literal (text (codes "AB"))) (the_literal (constant figurative.Space)) anywhere
    ≡ Ok (codes "C    GE" ∷ []))
unfolding computing replaced_subject walk
conversions = (refl, refl, refl, refl, refl)

abbrev conversion_rules : List ℕ → Operand → Operand → List ℕ
conversion_rules subject from by = rules (convert_rules (items_of operands) (conversion_of subject from by anywhere))

conversions_broken :
    (conversion_rules (codes "X") (the_literal (text (codes "AB"))) (the_literal (text (codes "CD"))) ≡ [])
    × (conversion_rules (codes "X") (the_item (codes "Y")) (the_literal (constant figurative.Zero)) ≡ [])
    × (conversion_rules (codes "X") (the_literal (text (codes "AB"))) (the_literal (text (codes "C"))) ≡ 64 ∷ [])
    × (conversion_rules (codes "S") (the_literal (text (codes "AB"))) (the_literal (text (codes "CD"))) ≡ 64 ∷ [])
    × (conversion_rules (codes "Q") (the_literal (text (codes "AB"))) (the_literal (text (codes "CD"))) ≡ 40 ∷ [])
unfolding computing
conversions_broken = (refl, refl, refl, refl, refl)
