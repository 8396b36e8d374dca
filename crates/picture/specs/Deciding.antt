-- The forms of pictures as tests, by which the reader decides.
use Rattle.std.specs.Prelude.{◌+◌, Bool, not, ◌&&◌, ◌||◌, List, Option, Some, None, nat_le, if◌then◌else◌}
use Rattle.picture.specs.declared.run.Run.{Run}
use Rattle.picture.specs.declared.category.Category.{Category}
use Rattle.picture.specs.declared.category.Category.TheVariants as k
use Rattle.picture.specs.declared.class.Class.{Class}
use Rattle.picture.specs.declared.class.Class.TheVariants as c
use Rattle.picture.specs.declared.symbol.Suppression.{Suppression}
use Rattle.picture.specs.declared.symbol.Suppression.TheVariants as z
use Rattle.picture.specs.Symbols.{is_floating_sign, least_count}
use Rattle.picture.specs.Runs.{runs_past, past_one, from_first, occurrences, ends_in, size_of}
use Rattle.picture.specs.Forms.{digit_places, most_digits, most_places, decimals, suppression_of}
use Rattle.picture.specs.Categories.{is_empty, kind_of}

unfoldable pub has_digits : Suppression → List Run → Bool
has_digits by runs = nat_le 1 (digit_places by runs) && nat_le (digit_places by runs) most_digits

unfoldable pub is_only : Class → List Run → Bool
is_only class runs = is_empty (runs_past class runs)

unfoldable pub is_numeric_picture : List Run → Bool
is_numeric_picture runs =
    is_only (c.Digits z.Nothing) (past_one c.AssumedPoint (runs_past (c.Digits z.Nothing) (past_one c.OperationalSign runs)))
    && has_digits z.Nothing runs

-- what is left after the decimals of an edited picture: the sign at its end, if any
unfoldable pub past_core : Suppression → List Run → List Run
past_core by runs =
    runs_past (decimals by runs) (past_one c.Points (runs_past c.NinesAndInsertions (runs_past (c.SuppressedAndInsertions by)
    (past_one (c.FixedCurrency by) (past_one (c.LeadingSign by) runs)))))

unfoldable pub is_arranged : Suppression → List Run → Bool
is_arranged by runs = is_empty (past_one (c.TrailingSign by) (past_core by runs))

unfoldable pub has_one_sign : Suppression → List Run → Bool
has_one_sign by runs = is_floating_sign by || nat_le (occurrences c.Signs runs) 1

unfoldable pub begins_before_point : Suppression → List Run → Bool
begins_before_point by runs = nat_le (least_count by + occurrences (c.Suppressed by) (from_first c.Points runs)) (occurrences (c.Suppressed by) runs)

unfoldable pub is_edited : Suppression → List Run → Bool
is_edited by runs =
    is_arranged by runs && has_one_sign by runs && begins_before_point by runs && has_digits by runs
    && nat_le (size_of runs) most_places && not (ends_in c.NeverLast runs)

unfoldable pub is_of : Category → List Run → Bool
is_of k.Alphabetic runs = is_only c.Letters runs
is_of k.Alphanumeric runs = is_only c.Alphanumeric runs
is_of k.AlphanumericEdited runs = is_only c.AlphanumericEdited runs
is_of k.Numeric runs = is_numeric_picture runs
is_of k.NumericEdited runs = is_edited (suppression_of runs) runs

-- The category, of those with a form.
unfoldable pub category_of : List Run → Option Category
category_of runs = if is_of (kind_of runs) runs then Some (kind_of runs) else None
