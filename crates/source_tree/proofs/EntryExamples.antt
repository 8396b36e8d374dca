-- Rules of entries, each broken alone, and entries that nearly break them.
use Rattle.std.proofs.Common.{◌≡◌, ℕ, true, List, [], ◌∷◌, ◌++◌, refl}
use Rattle.std.specs.Prelude.{codes, map, replicate}
use Rattle.source_tree.specs.declared.entry.SignPosition.TheVariants as position
use Rattle.source_tree.specs.declared.literal.Figurative.TheVariants as figurative
use Rattle.source_tree.specs.declared.entry.ItemEntry.{ItemEntry}
use Rattle.source_tree.specs.declared.entry.ValueRange.{ValueRange}
use Rattle.source_tree.specs.declared.entry.Entry.{Entry}
use Rattle.source_tree.specs.declared.entry.Entry.TheVariants as entry
use Rattle.source_tree.specs.Broken.{RuleBreach}
use Rattle.source_tree.specs.EntryRules.{entry_rules, storage_rules}
use Rattle.source_tree.specs.Levels.{forest_of}
use Rattle.source_tree.proofs.Samples.{group, item, redefining, occurring, valued, binary, packed, displayed, signed}
use Rattle.source_tree.proofs.Samples.{justified, blank, entries, one_value, range, condition, number, minus, decimal}
use Rattle.source_tree.proofs.Samples.{text, constant, all}
unfoldable use Rattle.source_tree.proofs.Computing.{computing}

abbrev rules : List RuleBreach → List ℕ
rules = map (λ one. one.rule)

-- rows: entries, and the rules that they break
abbrev Break : List (List Entry × List ℕ) → Type 0
Break rows = map (λ row. rules (entry_rules row.0)) rows ≡ map (λ row. row.1) rows

-- in a group of that name
abbrev in_group : List ItemEntry → List Entry
in_group all = entries (group (codes "01") (codes "G") ∷ all)

-- ---- 43: 05 and 03 in one group; 02 outermost; 50 in a group; an item in a 77; a condition name before all items;
-- levels of three digits are the same

levels :
    Break ((in_group (item (codes "05") (codes "A") (codes "X") ∷ item (codes "05") (codes "B") (codes "X") ∷ []), [])
    ∷ (in_group (item (codes "05") (codes "A") (codes "X") ∷ item (codes "03") (codes "B") (codes "X") ∷ []), 43 ∷ [])
    ∷ (in_group (item (codes "49") (codes "A") (codes "X") ∷ item (codes "049") (codes "B") (codes "X") ∷ []), [])
    ∷ (in_group (item (codes "50") (codes "A") (codes "X") ∷ []), 43 ∷ [])
    ∷ (entries (item (codes "2") (codes "A") (codes "X") ∷ []), 43 ∷ [])
    ∷ (entries (item (codes "1") (codes "A") (codes "X") ∷ item (codes "77") (codes "B") (codes "X") ∷ []), [])
    ∷ (entries (group (codes "77") (codes "A") ∷ item (codes "78") (codes "B") (codes "X") ∷ []), 43 ∷ 43 ∷ [])
    ∷ (entries (group (codes "77") (codes "A") ∷ item (codes "02") (codes "B") (codes "X") ∷ []), 43 ∷ [])
    ∷ (
      condition (codes "C") (one_value (text (codes "A")) ∷ [])
          ∷ entries (item (codes "01") (codes "A") (codes "X") ∷ []),
      43 ∷ [],
    )
    ∷ (
      entry.Item (item (codes "01") (codes "A") (codes "X")) ∷ condition (codes "C") (one_value (text (codes "A")) ∷ [])
          ∷ entries (item (codes "90") (codes "B") (codes "X") ∷ []),
      43 ∷ 45 ∷ [],
    )
    ∷ [])
unfolding computing
levels = refl

-- ---- 44 and 69

occurs : Break ((entries (occurring (codes "3") (item (codes "01") (codes "A") (codes "X")) ∷ []), 44 ∷ [])
    ∷ (entries (occurring (codes "3") (item (codes "77") (codes "A") (codes "X")) ∷ []), 44 ∷ [])
    ∷ (in_group (occurring (codes "3") (item (codes "02") (codes "A") (codes "X")) ∷ []), [])
    ∷ (in_group (occurring (codes "0") (item (codes "02") (codes "A") (codes "X")) ∷ []), 44 ∷ [])
    ∷ (in_group (occurring (codes "65535") (item (codes "02") (codes "A") (codes "X")) ∷ []), [])
    ∷ (in_group (occurring (codes "65536") (item (codes "02") (codes "A") (codes "X")) ∷ []), 69 ∷ 48 ∷ [])
    ∷ (
      in_group (occurring (codes "1") (group (codes "02") (codes "A")) ∷ occurring (codes "1")
          (group (codes "03") (codes "B")) ∷ occurring (codes "1") (group (codes "04") (codes "C"))
          ∷ occurring (codes "1") (group (codes "05") (codes "D")) ∷ occurring (codes "1")
          (group (codes "06") (codes "E")) ∷ occurring (codes "1") (group (codes "07") (codes "F"))
          ∷ occurring (codes "1") (group (codes "08") (codes "H")) ∷ item (codes "09") (codes "I") (codes "X") ∷ []),
      [],
    )
    ∷ (
      in_group (occurring (codes "1") (group (codes "02") (codes "A")) ∷ occurring (codes "1")
          (group (codes "03") (codes "B")) ∷ occurring (codes "1") (group (codes "04") (codes "C"))
          ∷ occurring (codes "1") (group (codes "05") (codes "D")) ∷ occurring (codes "1")
          (group (codes "06") (codes "E")) ∷ occurring (codes "1") (group (codes "07") (codes "F"))
          ∷ occurring (codes "1") (group (codes "08") (codes "H"))
          ∷ occurring (codes "1") (item (codes "09") (codes "I") (codes "X")) ∷ []),
      44 ∷ [],
    )
    ∷ [])
unfolding computing
occurs = refl

-- JUSTIFIED, BLANK WHEN ZERO
alignment : Break ((
  entries (justified (item (codes "77") (codes "A") (codes "X")) ∷ justified (item (codes "77") (codes "B") (codes "A"))
      ∷ []),
  [],
)
    ∷ (entries (justified (item (codes "77") (codes "A") (codes "9")) ∷ []), 44 ∷ [])
    ∷ (entries (justified (item (codes "77") (codes "A") (codes "XBX")) ∷ []), 44 ∷ [])
    ∷ (entries (justified (group (codes "01") (codes "A")) ∷ item (codes "02") (codes "B") (codes "X") ∷ []), 44 ∷ [])
    ∷ (
      entries (blank (item (codes "77") (codes "A") (codes "99V9")) ∷ blank
          (item (codes "77") (codes "B") (codes "Z9.9")) ∷ blank (item (codes "77") (codes "C") (codes "+9")) ∷ []),
      [],
    )
    ∷ (entries (blank (item (codes "77") (codes "A") (codes "**9")) ∷ []), 44 ∷ [])
    ∷ (entries (blank (item (codes "77") (codes "A") (codes "S9")) ∷ []), 44 ∷ [])
    ∷ (entries (blank (item (codes "77") (codes "A") (codes "X")) ∷ []), 44 ∷ [])
    ∷ (entries (blank (binary (item (codes "77") (codes "A") (codes "9"))) ∷ []), 44 ∷ [])
    ∷ (entries (blank (group (codes "01") (codes "A")) ∷ item (codes "02") (codes "B") (codes "9") ∷ []), 44 ∷ [])
    ∷ [])
unfolding computing
alignment = refl

-- SIGN and USAGE
usages : Break ((entries (signed position.Leading true (item (codes "77") (codes "A") (codes "S9")) ∷ []), [])
    ∷ (entries (signed position.Leading true (item (codes "77") (codes "A") (codes "9")) ∷ []), 44 ∷ [])
    ∷ (entries (signed position.Leading true (binary (item (codes "77") (codes "A") (codes "S9"))) ∷ []), 44 ∷ [])
    ∷ (entries (signed position.Leading true (item (codes "77") (codes "A") (codes "+9")) ∷ []), 44 ∷ [])
    -- on a group it is of those with S
    ∷ (
      entries (signed position.Leading true (group (codes "01") (codes "G")) ∷ item (codes "02") (codes "A") (codes "9")
          ∷ item (codes "02") (codes "B") (codes "X") ∷ []),
      [],
    )
    ∷ (entries (binary (item (codes "77") (codes "A") (codes "X")) ∷ []), 44 ∷ [])
    ∷ (entries (packed (item (codes "77") (codes "A") (codes "Z9")) ∷ []), 44 ∷ [])
    ∷ (entries (displayed (item (codes "77") (codes "A") (codes "X")) ∷ []), [])
    ∷ (entries (binary (group (codes "01") (codes "G")) ∷ item (codes "02") (codes "A") (codes "X") ∷ []), 44 ∷ [])
    ∷ (entries (binary (group (codes "01") (codes "G")) ∷ binary (item (codes "02") (codes "A") (codes "9")) ∷ []), [])
    ∷ (
      entries (binary (group (codes "01") (codes "G")) ∷ displayed (item (codes "02") (codes "A") (codes "9")) ∷ []),
      44 ∷ [],
    )
    ∷ (
      entries (packed (group (codes "01") (codes "G")) ∷ group (codes "02") (codes "H")
          ∷ binary (item (codes "03") (codes "A") (codes "9")) ∷ []),
      44 ∷ [],
    )
    ∷ [])
unfolding computing
usages = refl

-- ---- 45: no picture; one on a group; one without a form

pictures : Break ((entries (group (codes "01") (codes "A") ∷ []), 45 ∷ [])
    ∷ (entries (item (codes "01") (codes "A") (codes "X") ∷ item (codes "02") (codes "B") (codes "X") ∷ []), 45 ∷ [])
    ∷ (entries (item (codes "01") (codes "A") (codes "9(19)") ∷ []), 45 ∷ [])
    ∷ (entries (item (codes "01") (codes "A") (codes "9(18)") ∷ []), [])
    ∷ [])
unfolding computing
pictures = refl

-- ---- 46

redefinitions : Break ((
  in_group (item (codes "05") (codes "A") (codes "XX") ∷ redefining (codes "A") (item (codes "05") (codes "B")
      (codes "99")) ∷ redefining (codes "A") (item (codes "05") (codes "C") (codes "X")) ∷ []),
  [],
)
    -- longer, all occurrences counted; another name; the redefining one's name; nothing before; of a table; a 01 may be
    -- longer, a 77 may not, nor has a 77 the level of a 01
    ∷ (
      in_group (item (codes "05") (codes "A") (codes "XX")
          ∷ redefining (codes "A") (item (codes "05") (codes "B") (codes "X(3)")) ∷ []),
      46 ∷ [],
    )
    ∷ (
      in_group (item (codes "05") (codes "A") (codes "X(4)")
          ∷ redefining (codes "A") (occurring (codes "2") (item (codes "05") (codes "B") (codes "XX"))) ∷ []),
      [],
    )
    ∷ (
      in_group (item (codes "05") (codes "A") (codes "X(4)")
          ∷ redefining (codes "A") (occurring (codes "3") (item (codes "05") (codes "B") (codes "XX"))) ∷ []),
      46 ∷ [],
    )
    ∷ (
      in_group (item (codes "05") (codes "A") (codes "XX")
          ∷ redefining (codes "X") (item (codes "05") (codes "B") (codes "XX")) ∷ []),
      46 ∷ [],
    )
    ∷ (
      in_group (item (codes "05") (codes "A") (codes "XX") ∷ redefining (codes "A") (item (codes "05") (codes "B")
          (codes "XX")) ∷ redefining (codes "B") (item (codes "05") (codes "C") (codes "XX")) ∷ []),
      46 ∷ [],
    )
    ∷ (in_group (redefining (codes "A") (item (codes "05") (codes "B") (codes "XX")) ∷ []), 46 ∷ [])
    ∷ (
      in_group (occurring (codes "2") (item (codes "05") (codes "A") (codes "X"))
          ∷ redefining (codes "A") (item (codes "05") (codes "B") (codes "XX")) ∷ []),
      46 ∷ [],
    )
    ∷ (
      entries (item (codes "01") (codes "A") (codes "XX")
          ∷ redefining (codes "A") (item (codes "01") (codes "B") (codes "X(3)")) ∷ []),
      [],
    )
    ∷ (
      entries (item (codes "77") (codes "A") (codes "XX")
          ∷ redefining (codes "A") (item (codes "77") (codes "B") (codes "X(3)")) ∷ []),
      46 ∷ [],
    )
    ∷ (
      entries (item (codes "77") (codes "A") (codes "XX")
          ∷ redefining (codes "A") (item (codes "01") (codes "B") (codes "XX")) ∷ []),
      46 ∷ [],
    )
    ∷ [])
unfolding computing
redefinitions = refl

-- ---- 47

values : Break ((
  entries (valued (number (codes "1")) (item (codes "77") (codes "A") (codes "9"))
      ∷ valued (number (codes "12")) (item (codes "77") (codes "B") (codes "9")) ∷ []),
  47 ∷ [],
)
    -- zeros in front and after aren't cut
    ∷ (entries (valued (decimal (codes "001") (codes "500")) (item (codes "77") (codes "A") (codes "9V9")) ∷ []), [])
    ∷ (entries (valued (decimal (codes "1") (codes "55")) (item (codes "77") (codes "A") (codes "9V9")) ∷ []), 47 ∷ [])
    ∷ (
      entries (valued (minus (codes "1")) (item (codes "77") (codes "A") (codes "S9"))
          ∷ valued (minus (codes "0")) (item (codes "77") (codes "B") (codes "9")) ∷ []),
      [],
    )
    ∷ (entries (valued (minus (codes "1")) (item (codes "77") (codes "A") (codes "9")) ∷ []), 47 ∷ [])
    ∷ (entries (valued (text (codes "1")) (item (codes "77") (codes "A") (codes "9")) ∷ []), 47 ∷ [])
    ∷ (
      entries (valued (constant figurative.Zero) (item (codes "77") (codes "A") (codes "9"))
          ∷ valued (constant figurative.Zero) (item (codes "77") (codes "B") (codes "X")) ∷ []),
      [],
    )
    ∷ (entries (valued (constant figurative.Space) (item (codes "77") (codes "A") (codes "9")) ∷ []), 47 ∷ [])
    ∷ (
      entries (valued (text (codes "AB")) (item (codes "77") (codes "A") (codes "XX"))
          ∷ valued (text (codes "ABC")) (item (codes "77") (codes "B") (codes "XX")) ∷ []),
      47 ∷ [],
    )
    ∷ (entries (valued (number (codes "1")) (item (codes "77") (codes "A") (codes "XX")) ∷ []), 47 ∷ [])
    ∷ (entries (valued (number (codes "1")) (item (codes "77") (codes "A") (codes "Z9")) ∷ []), 47 ∷ [])
    ∷ (entries (valued (all (codes "ABC")) (item (codes "77") (codes "A") (codes "XX")) ∷ []), [])
    -- no text, and a number of 19 digits: no source text has such a literal
    ∷ (entries (valued (text []) (item (codes "77") (codes "A") (codes "XX")) ∷ []), 47 ∷ [])
    ∷ (
      entries (valued (number (codes "0999999999999999999")) (item (codes "77") (codes "A") (codes "9(18)")) ∷ []),
      47 ∷ [],
    )
    -- under REDEFINES, and in a group with VALUE
    ∷ (
      in_group (item (codes "05") (codes "A") (codes "X")
          ∷ redefining (codes "A") (valued (text (codes "Q")) (item (codes "05") (codes "B") (codes "X"))) ∷ []),
      47 ∷ [],
    )
    ∷ (
      in_group (item (codes "05") (codes "A") (codes "X") ∷ redefining (codes "A") (group (codes "05") (codes "B"))
          ∷ valued (text (codes "Q")) (item (codes "10") (codes "C") (codes "X")) ∷ []),
      47 ∷ [],
    )
    ∷ (
      entries (valued (text (codes "Q")) (group (codes "01") (codes "G"))
          ∷ valued (text (codes "Q")) (item (codes "05") (codes "A") (codes "X")) ∷ []),
      47 ∷ [],
    )
    ∷ (
      entries (valued (text (codes "QQ")) (group (codes "01") (codes "G")) ∷ item (codes "05") (codes "A") (codes "X")
          ∷ []),
      47 ∷ [],
    )
    ∷ [])
unfolding computing
values = refl

-- ---- condition names: 47 of each value, 55 of ranges

abbrev of_item : List ℕ → List ValueRange → List Entry
of_item picture ranges = entry.Item (item (codes "77") (codes "A") picture) ∷ condition (codes "C") ranges ∷ []

conditions : Break
    ((of_item (codes "9") (one_value (number (codes "1")) ∷ range (number (codes "3")) (number (codes "5")) ∷ []), [])
    ∷ (of_item (codes "9") (range (number (codes "5")) (number (codes "3")) ∷ []), 55 ∷ [])
    ∷ (of_item (codes "9") (range (number (codes "5")) (number (codes "5")) ∷ []), [])
    ∷ (of_item (codes "9V9") (range (decimal (codes "1") (codes "5")) (decimal (codes "1") (codes "50")) ∷ []), [])
    ∷ (of_item (codes "9") (one_value (number (codes "12")) ∷ []), 47 ∷ [])
    ∷ (of_item (codes "9") (range (number (codes "1")) (number (codes "12")) ∷ []), 47 ∷ [])
    ∷ (of_item (codes "9") (one_value (text (codes "1")) ∷ []), 47 ∷ [])
    ∷ (of_item (codes "X") (one_value (number (codes "1")) ∷ []), 47 ∷ [])
    ∷ (
      of_item (codes "XX") (range (text (codes "A")) (text (codes "BB"))
          ∷ range (text (codes "B")) (constant figurative.HighValue) ∷ []),
      [],
    )
    ∷ (of_item (codes "XX") (range (text (codes "B")) (text (codes "AB")) ∷ []), 55 ∷ [])
    ∷ (of_item (codes "XX") (range (constant figurative.HighValue) (constant figurative.LowValue) ∷ []), 55 ∷ [])
    ∷ (of_item (codes "XX") (range (constant figurative.LowValue) (constant figurative.HighValue) ∷ []), [])
    -- under REDEFINES too
    ∷ (
      entries (item (codes "01") (codes "A") (codes "X")
          ∷ redefining (codes "A") (item (codes "01") (codes "B") (codes "9")) ∷ [])
          ++ condition (codes "C") (one_value (number (codes "1")) ∷ []) ∷ [],
      [],
    )
    -- of a group
    ∷ (
      entry.Item (group (codes "01") (codes "G")) ∷ condition (codes "C") (one_value (text (codes "AB")) ∷ [])
          ∷ entries (item (codes "02") (codes "A") (codes "XX") ∷ []),
      [],
    )
    ∷ [])
unfolding computing
conditions = refl

-- ---- 48: 65,535 bytes and one more; 1,000,000 bytes of storage in several 01s, and one more

sizes : Break ((entries (item (codes "01") (codes "A") (codes "X(65535)") ∷ []), [])
    ∷ (entries (item (codes "01") (codes "A") (codes "X(65536)") ∷ []), 48 ∷ [])
    ∷ (
      in_group (occurring (codes "2") (item (codes "05") (codes "A") (codes "X(32767)"))
          ∷ item (codes "05") (codes "B") (codes "X") ∷ []),
      [],
    )
    ∷ (in_group (occurring (codes "2") (item (codes "05") (codes "A") (codes "X(32768)")) ∷ []), 48 ∷ [])
    ∷ [])
unfolding computing
sizes = refl

abbrev sixteen : List ItemEntry
sixteen = replicate 16 (item (codes "01") (codes "A") (codes "X(62500)"))

full_storage : rules (storage_rules 0 (forest_of (entries sixteen))) ≡ []
unfolding computing
full_storage = refl

too_much_storage :
    rules (storage_rules 0 (forest_of (entries (sixteen ++ item (codes "77") (codes "B") (codes "X") ∷ [])))) ≡ 48 ∷ []
unfolding computing
too_much_storage = refl

-- what redefines takes none
shared_storage : rules (storage_rules 0
    (forest_of (entries (sixteen ++ redefining (codes "A") (item (codes "01") (codes "B") (codes "X")) ∷ [])))) ≡ []
unfolding computing
shared_storage = refl
