-- Where items stand, and what storage holds at the start.
use Rattle.std.proofs.Common.{◌≡◌, ℕ, true, false, List, [], ◌∷◌, refl}
use Rattle.std.specs.Prelude.{codes, map, Ok, Err}
use Rattle.source_tree.specs.declared.entry.SignPosition.TheVariants as position
use Rattle.source_tree.specs.declared.literal.Figurative.TheVariants as figurative
use Rattle.source_tree.specs.declared.reference.Subscript.{Subscript}
use Rattle.source_tree.specs.declared.entry.Entry.{Entry}
use Rattle.source_tree.specs.Places.{LocatedItem, items_of}
use Rattle.source_tree.specs.Evaluated as fault
use Rattle.source_tree.specs.Evaluated.{Evaluation, ◌>>=◌}
use Rattle.source_tree.specs.References.{place_of}
use Rattle.source_tree.specs.Starts.{areas_at_start}
use Rattle.source_tree.proofs.Samples.{group, item, unnamed, redefining, occurring, valued, binary, packed, signed}
use Rattle.source_tree.proofs.Samples.{justified, blank, entries, number, minus, decimal, text, constant, all}
use Rattle.source_tree.proofs.Samples.{reference, counted, by_item, by_item_less, by_item_more}
unfoldable use Rattle.source_tree.proofs.Computing.{computing}

-- its area, its offset, its length
abbrev seen : LocatedItem → ℕ × ℕ × ℕ
seen one = (one.area, one.offset, one.item.length)

abbrev places : List Entry → List (ℕ × ℕ × ℕ)
places all = map seen (items_of all)

-- A PIC X(3), B PIC S9(5) COMP, C PIC S9(4) PACKED-DECIMAL, D PIC S99 LEADING SEPARATE in one group
mixed_places : places (entries (
    group (codes "01") (codes "G")
    ∷ item (codes "05") (codes "A") (codes "X(3)")
    ∷ binary (item (codes "05") (codes "B") (codes "S9(5)"))
    ∷ packed (item (codes "05") (codes "C") (codes "S9(4)"))
    ∷ signed position.Leading true (item (codes "05") (codes "D") (codes "S99"))
    ∷ [])) ≡ (0, 0, 13) ∷ (0, 0, 3) ∷ (0, 3, 4) ∷ (0, 7, 3) ∷ (0, 10, 3) ∷ []
unfolding computing
mixed_places = refl

-- groups in a group, an item without a name, and a 77 after
nested_places : places (entries (
    group (codes "01") (codes "G")
    ∷ group (codes "02") (codes "H")
    ∷ item (codes "03") (codes "A") (codes "99V99")
    ∷ unnamed (item (codes "03") [] (codes "X"))
    ∷ group (codes "02") (codes "I")
    ∷ item (codes "49") (codes "B") (codes "A(2)")
    ∷ item (codes "77") (codes "K") (codes "S9(18)")
    ∷ [])) ≡ (0, 0, 7) ∷ (0, 0, 5) ∷ (0, 0, 4) ∷ (0, 4, 1) ∷ (0, 5, 2) ∷ (0, 5, 2) ∷ (1, 0, 18) ∷ []
unfolding computing
nested_places = refl

-- USAGE and SIGN of a group apply to its numeric items, an item's own SIGN goes before
inherited_places : places (entries (
    signed position.Trailing true (group (codes "01") (codes "G"))
    ∷ item (codes "05") (codes "A") (codes "S9")
    ∷ item (codes "05") (codes "B") (codes "9")
    ∷ signed position.Leading false (item (codes "05") (codes "C") (codes "S9"))
    ∷ binary (group (codes "05") (codes "H"))
    ∷ item (codes "10") (codes "D") (codes "S9(9)")
    ∷ item (codes "10") (codes "E") (codes "9(10)")
    ∷ [])) ≡ (0, 0, 16) ∷ (0, 0, 2) ∷ (0, 2, 1) ∷ (0, 3, 1) ∷ (0, 4, 12) ∷ (0, 4, 4) ∷ (0, 8, 8) ∷ []
unfolding computing
inherited_places = refl

-- edited items are as long as their pictures: CR takes two places, V none
edited_places : places (entries (
    group (codes "01") (codes "G")
    ∷ item (codes "05") (codes "A") (codes "$$,$$9.99CR")
    ∷ item (codes "05") (codes "B") (codes "XXBX/X")
    ∷ blank (item (codes "05") (codes "C") (codes "9(3)V9"))
    ∷ [])) ≡ (0, 0, 21) ∷ (0, 0, 11) ∷ (0, 11, 6) ∷ (0, 17, 4) ∷ []
unfolding computing
edited_places = refl

-- ---- tables: R OCCURS 3 with C PIC 99 OCCURS 4, and I PIC 9 VALUE 2

abbrev table : List Entry
table = entries (
    group (codes "01") (codes "T")
    ∷ occurring (codes "3") (group (codes "05") (codes "R"))
    ∷ occurring (codes "4") (item (codes "10") (codes "C") (codes "99"))
    ∷ valued (number (codes "2")) (item (codes "77") (codes "I") (codes "9"))
    ∷ [])

abbrev dimensions : LocatedItem → List (ℕ × ℕ)
dimensions one = map (λ d. (d.stride, d.count)) one.dimensions

-- 24 bytes; of C from one row to the next 8, from one column to the next 2
table_places : places table ≡ (0, 0, 24) ∷ (0, 0, 8) ∷ (0, 0, 2) ∷ (1, 0, 1) ∷ []
unfolding computing
table_places = refl

table_dimensions : map dimensions (items_of table) ≡ [] ∷ ((8, 3) ∷ []) ∷ ((8, 3) ∷ (2, 4) ∷ []) ∷ [] ∷ []
unfolding computing
table_dimensions = refl

abbrev offset_of : List ℕ → List Subscript → Evaluation (ℕ × ℕ)
offset_of called subscripts =
    place_of (items_of table) (reference called subscripts) (areas_at_start table) >>=
    (λ place. Ok (place.offset, place.item.length))

-- C (2 3) is at 12, R (3) at 16; C (4 1), C (1 5) and C (0 1) are fault 91
two_three : offset_of (codes "C") (counted (codes "2") ∷ counted (codes "3") ∷ []) ≡ Ok (12, 2)
unfolding computing
two_three = refl

third_row : offset_of (codes "R") (counted (codes "003") ∷ []) ≡ Ok (16, 8)
unfolding computing
third_row = refl

four_one : offset_of (codes "C") (counted (codes "4") ∷ counted (codes "1") ∷ []) ≡ Err fault.Subscript
unfolding computing
four_one = refl

one_five : offset_of (codes "C") (counted (codes "1") ∷ counted (codes "5") ∷ []) ≡ Err fault.Subscript
unfolding computing
one_five = refl

none_one : offset_of (codes "C") (counted (codes "0") ∷ counted (codes "1") ∷ []) ≡ Err fault.Subscript
unfolding computing
none_one = refl

-- C (I, I - 1), C (I + 1, I); C (I - 2, I) is fault 91, C (I - 3, I) too
by_items : offset_of (codes "C") (by_item (codes "I") ∷ by_item_less (codes "I") (codes "1") ∷ []) ≡ Ok (8, 2)
unfolding computing
by_items = refl

last_row : offset_of (codes "C") (by_item_more (codes "I") (codes "1") ∷ by_item (codes "I") ∷ []) ≡ Ok (18, 2)
unfolding computing
last_row = refl

before_first : offset_of (codes "C") (by_item_less (codes "I") (codes "2") ∷ by_item (codes "I") ∷ [])
    ≡ Err fault.Subscript
unfolding computing
before_first = refl

below_zero : offset_of (codes "C") (by_item_less (codes "I") (codes "3") ∷ by_item (codes "I") ∷ [])
    ≡ Err fault.Subscript
unfolding computing
below_zero = refl

-- a subscript whose bytes are no number is fault 90, where an earlier one isn't out of range
bad_subscript : (place_of (items_of table) (reference (codes "C") (counted (codes "1") ∷ by_item (codes "I") ∷ []))
    (codes "" ∷ codes "x" ∷ []) >>= (λ place. Ok place.offset)) ≡ Err fault.Data
unfolding computing
bad_subscript = refl

bad_second_subscript :
    (place_of (items_of table) (reference (codes "C") (counted (codes "9") ∷ by_item (codes "I") ∷ []))
    (codes "" ∷ codes "x" ∷ []) >>= (λ place. Ok place.offset)) ≡ Err fault.Subscript
unfolding computing
bad_second_subscript = refl

-- ---- REDEFINES: A PIC 99, B REDEFINES A PIC XX, D REDEFINES A of two items, C PIC X(5) in one group, and a 01 that
-- redefines it

abbrev redefined : List Entry
redefined = entries (
    group (codes "01") (codes "G")
    ∷ item (codes "05") (codes "A") (codes "99")
    ∷ redefining (codes "A") (item (codes "05") (codes "B") (codes "XX"))
    ∷ redefining (codes "A") (group (codes "05") (codes "D"))
    ∷ item (codes "10") (codes "E") (codes "X")
    ∷ item (codes "10") (codes "F") (codes "9")
    ∷ valued (text (codes "XY")) (item (codes "05") (codes "C") (codes "X(5)"))
    ∷ redefining (codes "G") (item (codes "01") (codes "H") (codes "X(9)"))
    ∷ item (codes "77") (codes "K") (codes "X")
    ∷ [])

redefined_places : places redefined
    ≡ (0, 0, 7) ∷ (0, 0, 2) ∷ (0, 0, 2) ∷ (0, 0, 2) ∷ (0, 0, 1) ∷ (0, 1, 1) ∷ (0, 2, 5) ∷ (0, 0, 9) ∷ (1, 0, 1) ∷ []
unfolding computing
redefined_places = refl

-- ---- storage at the start

-- zeros for numbers, VALUE
table_start : areas_at_start table ≡ codes "000000000000000000000000" ∷ codes "2" ∷ []
unfolding computing
table_start = refl

-- the area is as long as the longest; what redefines sets nothing
redefined_start : areas_at_start redefined ≡ codes "00XY     " ∷ codes " " ∷ []
unfolding computing
redefined_start = refl

-- a row: an item, and its bytes at the start
abbrev Starts : List (List Entry × List ℕ) → Type 0
Starts [] = Unit {0}
Starts (row ∷ more) = (areas_at_start row.0 ≡ row.1 ∷ []) × Starts more

starts : Starts
    ((entries (valued (minus (codes "12")) (item (codes "77") (codes "A") (codes "S9(3)")) ∷ []), 48 ∷ 49 ∷ 114 ∷ [])
    ∷ (
      entries (valued (decimal (codes "1") (codes "5")) (item (codes "77") (codes "A") (codes "99V99")) ∷ []),
      codes "0150",
    )
    ∷ (
      entries (valued (number (codes "1234")) (binary (item (codes "77") (codes "A") (codes "9(4)"))) ∷ []),
      4 ∷ 210 ∷ [],
    )
    ∷ (entries (packed (item (codes "77") (codes "A") (codes "9(4)")) ∷ []), 0 ∷ 0 ∷ 15 ∷ [])
    ∷ (
      entries (valued (text (codes "AB")) (justified (item (codes "77") (codes "A") (codes "X(4)"))) ∷ []),
      codes "AB  ",
    )
    ∷ (entries (valued (text (codes "1.5")) (item (codes "77") (codes "A") (codes "ZZ9.99")) ∷ []), codes "1.5   ")
    ∷ (entries (item (codes "77") (codes "A") (codes "ZZ9.99") ∷ []), codes "      ")
    ∷ (entries (valued (all (codes "AB")) (item (codes "77") (codes "A") (codes "X(5)")) ∷ []), codes "ABABA")
    ∷ (
      entries (valued (constant figurative.HighValue) (item (codes "77") (codes "A") (codes "XX")) ∷ []),
      255 ∷ 255 ∷ [],
    )
    ∷ (entries (valued (constant figurative.Zero) (item (codes "77") (codes "A") (codes "S9V9")) ∷ []), codes "00")
    -- the value of a group; its items set nothing
    ∷ (
      entries (valued (text (codes "A1")) (group (codes "01") (codes "G")) ∷ item (codes "05") (codes "A") (codes "X")
          ∷ item (codes "05") (codes "B") (codes "9(3)") ∷ []),
      codes "A1  ",
    )
    -- each occurrence has the value
    ∷ (
      entries (group (codes "01") (codes "G") ∷ occurring (codes "2") (group (codes "05") (codes "R"))
          ∷ valued (text (codes "Q")) (item (codes "10") (codes "A") (codes "X"))
          ∷ occurring (codes "2") (item (codes "10") (codes "B") (codes "9")) ∷ []),
      codes "Q00Q00",
    )
    ∷ [])
unfolding computing
starts = (refl, (refl, (refl, (refl, (refl, (refl, (refl, (refl, (refl, (refl, (refl, (refl, tt))))))))))))
