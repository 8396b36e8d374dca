-- Which category a picture is of, and its form.
use Rattle.std.specs.Prelude.{◌≡◌, Bool, true, false, List, [], ◌∷◌, nat_lt, if◌then◌else◌}
use Rattle.picture.specs.declared.run.Run.{Run}
use Rattle.picture.specs.declared.category.Category.{Category}
use Rattle.picture.specs.declared.category.Category.TheVariants as k
use Rattle.picture.specs.declared.class.Class.{Class}
use Rattle.picture.specs.declared.class.Class.TheVariants as c
use Rattle.picture.specs.declared.symbol.Suppression.TheVariants as z
use Rattle.picture.specs.Runs.{runs_past, occurrences}
use Rattle.picture.specs.Forms.{whole_picture, stretch, numeric_arrangement, HasDigitPlaceCount, IsEdited, suppression_of}

abbrev pub contains_class : Class → List Run → Bool
contains_class class runs = nat_lt 0 (occurrences class runs)

abbrev pub is_empty : List Run → Bool
is_empty [] = true
is_empty (run ∷ more) = false

-- The category, by which symbols stand in a picture. With an A or X: alphanumeric edited with a B, 0 or /, else alphanumeric with an X or
-- 9, else alphabetic. Without one: numeric where only S, 9 and V stand there, else numeric edited.
unfoldable pub kind_of : List Run → Category
kind_of runs =
    if contains_class c.LettersAndCharacters runs then
    (if contains_class c.SimpleInsertions runs then k.AlphanumericEdited else if contains_class c.CharactersAndNines runs then k.Alphanumeric else k.Alphabetic)
    else if is_empty (runs_past c.Numeric runs) then k.Numeric else k.NumericEdited

pub record IsNumeric (runs : List Run) : Type 0 where
  pub arranged : whole_picture numeric_arrangement runs
  pub digits : HasDigitPlaceCount z.Nothing runs

-- A line for each category.
abbrev pub IsArranged : Category → List Run → Type 0
IsArranged k.Alphabetic runs = whole_picture (stretch c.Letters) runs
IsArranged k.Alphanumeric runs = whole_picture (stretch c.Alphanumeric) runs
IsArranged k.AlphanumericEdited runs = whole_picture (stretch c.AlphanumericEdited) runs
IsArranged k.Numeric runs = IsNumeric runs
IsArranged k.NumericEdited runs = IsEdited (suppression_of runs) runs

pub record HasForm (category : Category) (runs : List Run) : Type 0 where
  pub kind : kind_of runs ≡ category
  pub arranged : IsArranged category runs
