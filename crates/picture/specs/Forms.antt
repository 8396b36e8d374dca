-- The forms of pictures, a category each (COBOL-85, Nucleus, the PICTURE clause: categories of data, and editing by simple,
-- special, fixed and floating insertion and by zero suppression).
--
-- One principle divides a picture into its parts: each part takes all that it can. An optional symbol is left out only
-- where none stands, and a stretch of symbols ends only where no more of them comes.
use Rattle.std.specs.Prelude.{◌≡◌, ℕ, ◌+◌, ◌-◌, ◌≤◌, Bool, true, false, ◌⊎◌, List, [], ◌∷◌, ◌++◌, nat_lt, nat_le, if◌then◌else◌}
use Rattle.picture.specs.declared.run.Run.{Run}
use Rattle.picture.specs.declared.class.Class.{Class}
use Rattle.picture.specs.declared.class.Class.TheVariants as c
use Rattle.picture.specs.declared.symbol.Suppression.{Suppression}
use Rattle.picture.specs.declared.symbol.Suppression.TheVariants as z
use Rattle.picture.specs.Symbols.{class_has, is_floating, is_floating_sign, least_count}
use Rattle.picture.specs.Runs.{is_one, from_first, occurrences, ends_in, size_of}

-- A part of a picture, by the runs from where it begins and the runs after it.
abbrev pub Part : Type 1
Part = List Run → List Run → Type 0

infixr 20 ◌then◌
abbrev pub ◌then◌ : Part → Part → Part
p then q = λ from rest. (middle : List Run) × p from middle × q middle rest

-- The part is the whole picture.
abbrev pub whole_picture : Part → List Run → Type 0
whole_picture p runs = p runs []

abbrev pub begins_with_run : (Run → Bool) → List Run → Bool
begins_with_run test [] = false
begins_with_run test (run ∷ more) = test run

abbrev pub is_in_class : Class → Run → Bool
is_in_class class run = class_has class run.symbol

abbrev pub Each : Class → List Run → Type 0
Each class [] = Unit {0}
Each class (run ∷ more) = (is_in_class class run ≡ true) × Each class more

-- Symbols of the class, as far as they go.
abbrev pub stretch : Class → Part
stretch class = λ from rest. (front : List Run) × (from ≡ front ++ rest) × Each class front × (begins_with_run (is_in_class class) rest ≡ false)

abbrev pub one : Class → Part
one class = λ from rest. (run : Run) × (from ≡ run ∷ rest) × (is_one class run ≡ true)

-- One symbol of the class, left out only where none stands.
abbrev pub optional : Class → Part
optional class = λ from rest. one class from rest ⊎ ((from ≡ rest) × (begins_with_run (is_one class) rest ≡ false))

-- The same without the principle: as many symbols of the class as you like, and an optional one left out at will.
abbrev pub some_of : Class → Part
some_of class = λ from rest. (front : List Run) × (from ≡ front ++ rest) × Each class front

abbrev pub perhaps : Class → Part
perhaps class = λ from rest. one class from rest ⊎ (from ≡ rest)

-- ---- numeric

-- S where there is a sign, nines, and V with nines.
abbrev pub numeric_arrangement : Part
numeric_arrangement =
    optional c.OperationalSign then stretch (c.Digits z.Nothing) then optional c.AssumedPoint then stretch (c.Digits z.Nothing)

-- The same without the principle.
abbrev pub any_numeric_arrangement : Part
any_numeric_arrangement =
    perhaps c.OperationalSign then some_of (c.Digits z.Nothing) then perhaps c.AssumedPoint then some_of (c.Digits z.Nothing)

-- ---- digit places

abbrev pub most_digits : ℕ
most_digits = 18

abbrev pub most_places : ℕ
most_places = 160

-- The digit places: each 9, and each symbol that suppresses zeros, except for the first of a floating one.
abbrev pub digit_places : Suppression → List Run → ℕ
digit_places by runs = occurrences (c.Digits by) runs - (if is_floating by then 1 else 0)

abbrev pub HasDigitPlaceCount : Suppression → List Run → Type 0
HasDigitPlaceCount by runs = (1 ≤ digit_places by runs) × (digit_places by runs ≤ most_digits)

-- ---- numeric editing

-- The symbol that suppresses zeros. A currency sign, a plus or a minus floats where it stands at least twice.
unfoldable pub suppression_of : List Run → Suppression
suppression_of runs =
    if nat_le 2 (occurrences (c.Suppressed z.FloatingCurrency) runs) then z.FloatingCurrency
    else if nat_le 2 (occurrences (c.Suppressed z.FloatingPlus) runs) then z.FloatingPlus
    else if nat_le 2 (occurrences (c.Suppressed z.FloatingMinus) runs) then z.FloatingMinus
    else if nat_le 1 (occurrences (c.Suppressed z.Spaces) runs) then z.Spaces
    else if nat_le 1 (occurrences (c.Suppressed z.Asterisks) runs) then z.Asterisks
    else z.Nothing

-- The symbols after the point: 9 and insertions; in a picture without a 9 the suppressing symbol and insertions.
abbrev pub decimals : Suppression → List Run → Class
decimals by runs = if nat_lt 0 (occurrences (c.Digits z.Nothing) runs) then c.NinesAndInsertions else c.SuppressedAndInsertions by

-- A sign and a currency sign in front, then the core: suppressed or floating places and insertions, nines and insertions, a
-- point and decimals; then a sign at the end. Without suppression the first stretch is of insertions alone.
abbrev pub arrangement : Suppression → List Run → Part
arrangement by runs =
    optional (c.LeadingSign by) then optional (c.FixedCurrency by)
    then stretch (c.SuppressedAndInsertions by) then stretch c.NinesAndInsertions
    then optional c.Points then stretch (decimals by runs)
    then optional (c.TrailingSign by)

-- The same without the principle.
abbrev pub any_arrangement : Suppression → List Run → Part
any_arrangement by runs =
    perhaps (c.LeadingSign by) then perhaps (c.FixedCurrency by)
    then some_of (c.SuppressedAndInsertions by) then some_of c.NinesAndInsertions
    then perhaps c.Points then some_of (decimals by runs)
    then perhaps (c.TrailingSign by)

pub record IsEdited (by : Suppression) (runs : List Run) : Type 0 where
  pub arranged : whole_picture (arrangement by runs) runs
  -- at most one sign over front, float and end: beside a floating one the arrangement has no other
  pub one_sign : is_floating_sign by ≡ false → occurrences c.Signs runs ≤ 1
  -- zero suppression begins before the point, and so do two places of a floating symbol
  pub before_point : least_count by + occurrences (c.Suppressed by) (from_first c.Points runs) ≤ occurrences (c.Suppressed by) runs
  pub digits : HasDigitPlaceCount by runs
  pub fits : size_of runs ≤ most_places
  pub last : ends_in c.NeverLast runs ≡ false
