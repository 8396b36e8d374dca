-- Worked examples of the definitions.
use Rattle.std.proofs.Common.{◌≡◌, ℕ, List, [], ◌∷◌, Option, Some, None, refl}
use Rattle.std.specs.Prelude.{codes, map}
use Rattle.picture.specs.declared.place.Place.{Place}
use Rattle.picture.specs.declared.place.Place.TheVariants as p
use Rattle.picture.specs.declared.place.Region.{Region}
use Rattle.picture.specs.declared.category.Category.{Category}
use Rattle.picture.specs.declared.category.Category.TheVariants as k
use Rattle.picture.specs.declared.description.Description.{Description}
use Rattle.picture.specs.declared.symbol.Suppression.TheVariants as z
use Rattle.picture.specs.Symbols.{class_has}
use Rattle.picture.specs.Runs.{runs_past, past_one, from_first, occurrences, ends_in, size_of}
use Rattle.picture.specs.Forms.{suppression_of}
use Rattle.picture.specs.Categories.{kind_of}
use Rattle.picture.specs.Deciding as d
use Rattle.picture.specs.Places.{repeated_places, each_place, region_from}
use Rattle.picture.specs.Text.{symbol_of, number_at, count_before_parenthesis, count_at, character_at, pair_at}
use Rattle.picture.specs.Text.{run_from, run_at, runs_from, runs_of}
use Rattle.picture.specs.Pictures.{of_digits, of_characters, of_form, picture_of, scale_of}

record Summary : Type 0 where
  category : Category
  size : ℕ
  digits : ℕ
  scale : ℕ

told : Option Description → Option Summary
told None = None
told (Some picture) =
    Some (record { category = picture.category; size = picture.size; digits = picture.digits; scale = picture.scale })

-- each of these texts is read so
abbrev Holds : List (List ℕ × Option Summary) → Type 0
Holds rows = map (λ row. told (picture_of row.0)) rows ≡ map (λ row. row.1) rows

-- a row: the text, its category, its size in characters, its digit places, and how many of them stand after the point
abbrev row : List ℕ → Category → ℕ → ℕ → ℕ → List ℕ × Option Summary
row text category size digits scale =
    (text, Some (record { category = category; size = size; digits = digits; scale = scale }))

abbrev refused : List ℕ → List ℕ × Option Summary
refused text = (text, None)

-- numeric edited
edited : Holds (
    row (codes "$$,$$9.99") k.NumericEdited 9 6 2
    ∷ row (codes "ZZZ.ZZ") k.NumericEdited 6 5 2
    ∷ row (codes "***.**") k.NumericEdited 6 5 2
    ∷ row (codes "ZZ9CR") k.NumericEdited 5 3 0
    ∷ row (codes "+++9.99") k.NumericEdited 7 5 2
    ∷ row (codes "ZZ,ZZ9") k.NumericEdited 6 5 0
    ∷ row (codes "$**9.99DB") k.NumericEdited 9 5 2
    ∷ row (codes "-9.99") k.NumericEdited 5 3 2
    ∷ row (codes "99/99/99") k.NumericEdited 8 6 0
    ∷ row (codes "**,***.**") k.NumericEdited 9 7 2
    ∷ row (codes "$(4)9.99") k.NumericEdited 8 6 2
    ∷ row (codes "-(5)9") k.NumericEdited 6 5 0
    ∷ row (codes "9.CR") k.NumericEdited 4 1 0
    ∷ row (codes "9c(1)R") k.NumericEdited 3 1 0
    ∷ row (codes "9B9/9") k.NumericEdited 5 3 0
    ∷ row (codes "$++9") k.NumericEdited 4 2 0
    ∷ row (codes "+$$9") k.NumericEdited 4 2 0
    ∷ row (codes "ZZV99") k.NumericEdited 4 4 2
    ∷ row (codes "B(159)9") k.NumericEdited 160 1 0
    ∷ [])
unfolding told picture_of of_form runs_of runs_from run_at run_from pair_at
    character_at count_at count_before_parenthesis number_at symbol_of d.category_of d.is_of d.is_edited d.is_arranged
    d.past_core d.has_one_sign d.begins_before_point d.has_digits d.is_numeric_picture d.is_only kind_of suppression_of
    class_has runs_past past_one from_first occurrences ends_in size_of of_digits of_characters scale_of each_place
    repeated_places region_from
edited = refl

-- the other categories
plain : Holds (
    row (codes "99") k.Numeric 2 2 0
    ∷ row (codes "S9(9)V9(9)") k.Numeric 18 18 9
    ∷ row (codes "V99") k.Numeric 2 2 2
    ∷ row (codes "s9(003)v99") k.Numeric 5 5 2
    ∷ row (codes "A(160)") k.Alphabetic 160 0 0
    ∷ row (codes "X(161)") k.Alphanumeric 161 0 0
    ∷ row (codes "X9(20)") k.Alphanumeric 21 0 0
    ∷ row (codes "X(9999999999)") k.Alphanumeric 9999999999 0 0
    ∷ row (codes "X(999999999999999999999999999)") k.Alphanumeric 999999999999999999999999999 0 0
    ∷ row (codes "x(3)") k.Alphanumeric 3 0 0
    ∷ row (codes "AX") k.Alphanumeric 2 0 0
    ∷ row (codes "A9") k.Alphanumeric 2 0 0
    ∷ row (codes "AB") k.AlphanumericEdited 2 0 0
    ∷ row (codes "XXBXX/X") k.AlphanumericEdited 7 0 0
    ∷ row (codes "X(9999999999)B") k.AlphanumericEdited 10000000000 0 0
    ∷ [])
unfolding told picture_of of_form runs_of runs_from run_at run_from pair_at
    character_at count_at count_before_parenthesis number_at symbol_of d.category_of d.is_of d.is_edited d.is_arranged
    d.past_core d.has_one_sign d.begins_before_point d.has_digits d.is_numeric_picture d.is_only kind_of suppression_of
    class_has runs_past past_one from_first occurrences ends_in size_of of_digits of_characters scale_of each_place
    repeated_places region_from
plain = refl

-- texts without a form
without_form : Holds (
    refused (codes "9(19)")
    ∷ refused (codes "$9$")
    ∷ refused (codes "ZZ9Z")
    ∷ refused (codes "Z9.Z")
    ∷ refused (codes "+9CR")
    ∷ refused (codes ".ZZ")
    ∷ refused (codes "++9+")
    ∷ refused (codes "9(0)")
    ∷ refused (codes "X(")
    ∷ refused (codes "()")
    ∷ refused (codes "9(1)(1)")
    ∷ refused (codes "XXXXXXXXXXXXXXXXXXXXXXXXXXXXXXX")
    ∷ refused (codes "")
    ∷ refused (codes "C(1)R")
    ∷ refused (codes "9C(2)R")
    ∷ refused (codes "9DBB")
    ∷ refused (codes "ZZ*9")
    ∷ refused (codes "9.9.9")
    ∷ refused (codes "9.")
    ∷ refused (codes "ZZ,")
    ∷ refused (codes "S9V9V9")
    ∷ refused (codes "S")
    ∷ refused (codes "9S")
    ∷ refused (codes "SX")
    ∷ refused (codes "PP9")
    ∷ refused (codes "+$")
    ∷ refused (codes "B(160)9")
    ∷ refused (codes "Z(19)")
    ∷ refused (codes "X,X")
    ∷ refused (codes "$9$9")
    ∷ [])
unfolding told picture_of of_form runs_of runs_from run_at run_from pair_at
    character_at count_at count_before_parenthesis number_at symbol_of d.category_of d.is_of d.is_edited d.is_arranged
    d.past_core d.has_one_sign d.begins_before_point d.has_digits d.is_numeric_picture d.is_only kind_of suppression_of
    class_has runs_past past_one from_first occurrences ends_in size_of of_digits of_characters scale_of each_place
    repeated_places region_from
without_form = refl

-- The places of an edited picture, and the region of its floating symbol.
places : Option Description → List Place
places None = []
places (Some picture) = picture.places

region : Option Description → Option Region
region None = None
region (Some picture) = picture.region

shown : places (picture_of (codes "$$,$9.9CR")) ≡ p.FirstFloating ∷ p.Floating ∷ p.Insertion 44 ∷ p.Floating ∷ p.Digit
    ∷ p.Point ∷ p.Digit ∷ p.Negative 67 ∷ p.Negative 82 ∷ []
unfolding places picture_of of_form runs_of runs_from run_at run_from pair_at
    character_at count_at count_before_parenthesis number_at symbol_of d.category_of d.is_of d.is_edited d.is_arranged
    d.past_core d.has_one_sign d.begins_before_point d.has_digits d.is_numeric_picture d.is_only kind_of suppression_of
    class_has runs_past past_one from_first occurrences ends_in size_of of_digits of_characters scale_of each_place
    repeated_places region_from
shown = refl

suppressed : region (picture_of (codes "$**9.99DB")) ≡ Some (record { by = z.Asterisks; begin = 1; end = 3 })
unfolding region picture_of of_form runs_of runs_from run_at run_from pair_at
    character_at count_at count_before_parenthesis number_at symbol_of d.category_of d.is_of d.is_edited d.is_arranged
    d.past_core d.has_one_sign d.begins_before_point d.has_digits d.is_numeric_picture d.is_only kind_of suppression_of
    class_has runs_past past_one from_first occurrences ends_in size_of of_digits of_characters scale_of each_place
    repeated_places region_from
suppressed = refl
