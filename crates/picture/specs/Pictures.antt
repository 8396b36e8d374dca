-- A picture: its form, and what a text is read as.
use Rattle.std.specs.Prelude.{◌≡◌, ℕ, ◌≤◌, false, List, [], length, Option, Some, None, Result, Ok, Err, if◌then◌else◌}
use Rattle.picture.specs.declared.run.Run.{Run}
use Rattle.picture.specs.declared.category.Category.{Category}
use Rattle.picture.specs.declared.category.Category.TheVariants as k
use Rattle.picture.specs.declared.class.Class.TheVariants as c
use Rattle.picture.specs.declared.symbol.Suppression.{Suppression}
use Rattle.picture.specs.declared.symbol.Suppression.TheVariants as z
use Rattle.picture.specs.declared.description.Description.{Description}
use Rattle.picture.specs.declared.fault.PictureError.{PictureError}
use Rattle.picture.specs.declared.fault.PictureError.TheVariants as errors
use Rattle.picture.specs.Runs.{from_first, occurrences, size_of, symbol_count}
use Rattle.picture.specs.Forms.{digit_places, most_digits, most_places, suppression_of}
use Rattle.picture.specs.Categories.{contains_class, HasForm}
use Rattle.picture.specs.Deciding.{category_of}
use Rattle.picture.specs.Places.{places_of, region_of}
use Rattle.picture.specs.Text.{SpellsRuns, most_characters, runs_of}
use Rattle.picture.specs.Spelling.{are_spelled}

-- the digit places after the point
unfoldable pub scale_of : Suppression → List Run → ℕ
scale_of by runs = occurrences (c.Digits by) (from_first c.Points runs)

-- a picture of digits, with zeros suppressed in that way
unfoldable pub of_digits : Category → Suppression → List Run → Description
of_digits category by runs = record {
  category = category;
  runs = runs;
  size = size_of runs;
  digits = digit_places by runs;
  scale = scale_of by runs;
  signed = contains_class c.Signs runs;
  places = places_of by runs;
  region = region_of by runs;
}

-- a picture of characters
unfoldable pub of_characters : Category → List Run → Description
of_characters category runs = record {
  category = category;
  runs = runs;
  size = size_of runs;
  digits = 0;
  scale = 0;
  signed = false;
  places = [];
  region = None;
}

-- What a form of that category says.
abbrev pub description_of : Category → List Run → Description
description_of k.Numeric runs = of_digits k.Numeric z.Nothing runs
description_of k.NumericEdited runs = of_digits k.NumericEdited (suppression_of runs) runs
description_of category runs = of_characters category runs

-- The picture that a text is: it spells the runs, these have a form, and the rest is what the form says.
pub record IsPicture (text : List ℕ) (picture : Description) : Type 0 where
  pub short : length text ≤ most_characters
  pub spelled : SpellsRuns picture.runs text
  pub form : HasForm picture.category picture.runs
  pub told : picture ≡ description_of picture.category picture.runs

-- It is the picture of some text.
abbrev pub IsAnyPicture : Description → Type 0
IsAnyPicture picture = (text : List ℕ) × IsPicture text picture

-- It is a picture, and these are its runs.
pub record IsOfRuns (given : List Run) (picture : Description) : Type 0 where
  pub read : IsAnyPicture picture
  pub same : picture.runs ≡ given

-- Digit places from 1 to 18, of which the scale stands after the point, and a place for each character.
abbrev pub HasDigitPlaces : Description → Type 0
HasDigitPlaces picture = (1 ≤ picture.digits) × (picture.digits ≤ most_digits) × (picture.scale ≤ picture.digits) × (length picture.places ≡ picture.size)

-- What each category bounds: a numeric edited picture has at most 160 places. A picture of characters has a place for each symbol.
abbrev pub IsWithinBounds : Category → Description → Type 0
IsWithinBounds k.Numeric picture = HasDigitPlaces picture
IsWithinBounds k.NumericEdited picture = HasDigitPlaces picture × (picture.size ≤ most_places)
IsWithinBounds category picture = (picture.digits ≡ 0) × (picture.scale ≡ 0) × (picture.size ≡ symbol_count picture.runs)

abbrev pub IsBounded : Description → Type 0
IsBounded picture = IsWithinBounds picture.category picture

-- ---- reading, as a function

abbrev pub of_category : List Run → Option Category → Option Description
of_category runs None = None
of_category runs (Some category) = Some (description_of category runs)

-- the picture of runs with a form
unfoldable pub of_form : List Run → Option Description
of_form runs = of_category runs (category_of runs)

abbrev pub of_runs : Option (List Run) → Option Description
of_runs None = None
of_runs (Some runs) = of_form runs

unfoldable pub picture_of : List ℕ → Option Description
picture_of text = of_runs (runs_of text)

-- the picture with these runs, if a text can spell them
unfoldable pub picture_from : List Run → Option Description
picture_from runs = if are_spelled runs then of_form runs else None

-- What may be answered where that is the picture.
abbrev pub IsAnswer : {A : Type 0} → A → Result A PictureError → Type 0
IsAnswer picture (Ok answer) = answer ≡ picture
IsAnswer picture (Err errors.Memory) = Unit {0}
IsAnswer picture (Err (errors.Refused fault)) = ⊥
