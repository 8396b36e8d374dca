-- What editing rests on: digit places are numbered from the right, and a region holds no point and one symbol that floats
-- (COBOL-85, Nucleus, the PICTURE clause, editing rules).
use Rattle.std.specs.Prelude.{◌≡◌, ℕ, ◌+◌, ◌≤◌, ◌<◌, ◌==◌, Bool, true, false, ◌&&◌, List, [], ◌∷◌, length, slice_index_or, Option, Some, None, if◌then◌else◌}
use Rattle.picture.specs.declared.place.Place.{Place}
use Rattle.picture.specs.declared.place.Place.TheVariants as p
use Rattle.picture.specs.declared.place.Region.{Region}
use Rattle.picture.specs.declared.description.Description.{Description}
use Rattle.picture.specs.Symbols.{is_floating}

abbrev pub is_digit_place : Place → Bool
is_digit_place p.Digit = true
is_digit_place p.Suppressed = true
is_digit_place p.Floating = true
is_digit_place _ = false

abbrev pub is_first_floating : Place → Bool
is_first_floating p.FirstFloating = true
is_first_floating _ = false

abbrev pub is_point_place : Place → Bool
is_point_place p.Point = true
is_point_place _ = false

-- The digit places among places: of the places to the right of one, the digits to its right.
unfoldable pub digits_in : List Place → ℕ
digits_in [] = 0
digits_in (place ∷ right) = (if is_digit_place place then 1 else 0) + digits_in right

-- The place is the first of a floating region.
abbrev pub begins_at : Option Region → ℕ → Bool
begins_at None at = false
begins_at (Some region) at = is_floating region.by && (at == region.begin)

-- The region is a stretch of the places, without the point.
abbrev pub IsStretch : Option Region → List Place → Type 0
IsStretch None places = Unit {0}
IsStretch (Some region) places =
    (region.begin ≤ region.end) × (region.end ≤ length places)
    × ((at : ℕ) → region.begin ≤ at → at < region.end → is_point_place (slice_index_or places at p.Digit) ≡ false)

pub record IsEditingPicture (picture : Description) : Type 0 where
  pub numbered : digits_in picture.places ≡ picture.digits
  pub region : IsStretch picture.region picture.places
  -- the symbol that floats stands first at the begin of its region, and nowhere else
  pub first : (at : ℕ) → at < length picture.places → is_first_floating (slice_index_or picture.places at p.Digit) ≡ begins_at picture.region at
