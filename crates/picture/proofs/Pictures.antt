-- A picture that is read is the picture of the text, and the only one; what its form bounds.
use Rattle.std.proofs.Common.{◌≡◌, ◌≤◌, ◌+◌, ◌*◌, ◌==◌, ℕ, Bool, true, false, not, ◌||◌, if◌then◌else◌, List, [], ◌∷◌}
use Rattle.std.proofs.Common.{length, Option, Some, None, Result, Ok, Err, IfOk, refl, sym, ap, ◌∙◌, subst, arith, lit≤}
use Rattle.std.specs.declared.alloc.AllocError.{AllocError}
use Rattle.answers.specs.Answer.{Gives}
use Rattle.picture.specs.declared.run.Run.{Run}
use Rattle.picture.specs.declared.description.Description.{Description}
use Rattle.picture.specs.declared.category.Category.{Category}
use Rattle.picture.specs.declared.category.Category.TheVariants as k
use Rattle.picture.specs.declared.class.Class.{Class}
use Rattle.picture.specs.declared.class.Class.TheVariants as c
use Rattle.picture.specs.declared.symbol.Symbol.{Symbol}
use Rattle.picture.specs.declared.symbol.Symbol.TheVariants as s
use Rattle.picture.specs.declared.symbol.Suppression.{Suppression}
use Rattle.picture.specs.declared.symbol.Suppression.TheVariants as z
use Rattle.picture.specs.declared.fault.PictureError.{PictureError}
use Rattle.picture.specs.declared.fault.PictureError.TheVariants as errors
use Rattle.picture.specs.Faults.{fault_of, or_no_form}
use Rattle.picture.specs.Symbols.{class_has, width, is_nine, is_by, is_floating, least_count}
use Rattle.picture.specs.Runs.{from_first, occurrences, size_of, symbol_count}
use Rattle.picture.specs.Forms.{Each, whole_picture, stretch, IsEdited, digit_places, suppression_of}
use Rattle.picture.specs.Categories.{HasForm}
use Rattle.picture.specs.Deciding.{category_of}
use Rattle.picture.specs.Text.{SpellsRuns, runs_of}
use Rattle.picture.specs.Pictures.{IsPicture, IsAnswer, IsAnyPicture, IsOfRuns, IsWithinBounds, IsBounded}
use Rattle.picture.specs.Pictures.{description_of, of_digits, of_characters, of_category, of_runs, of_form}
use Rattle.picture.specs.Pictures.{picture_from, picture_of, scale_of}
use Rattle.std.proofs.lemmas.Bool.{eqb-true}
use Rattle.std.proofs.lemmas.List.{append-nil}
use Rattle.picture.proofs.Divisions.{every_symbol, symbol_holds}
use Rattle.picture.proofs.Counts.{scale_within}
use Rattle.picture.proofs.Forms.{category_found, category_only}
use Rattle.picture.proofs.Places.{length-places}
use Rattle.picture.specs.Spelling.{are_spelled, spelling_of}
use Rattle.picture.proofs.Fitting.{spelled, spells_fit}
use Rattle.picture.proofs.Texts.{runs_spelled, runs_answered}

-- ---- exact both ways

is_described : (text : List ℕ) (category : Category) (runs : List Run) → length text ≤ 30 → SpellsRuns runs text
    → HasForm category runs → IsPicture text (description_of category runs)
unfolding of_digits of_characters
is_described text k.Alphabetic runs short spelled form =
    record { short = short; spelled = spelled; form = form; told = refl }
is_described text k.Alphanumeric runs short spelled form =
    record { short = short; spelled = spelled; form = form; told = refl }
is_described text k.AlphanumericEdited runs short spelled form =
    record { short = short; spelled = spelled; form = form; told = refl }
is_described text k.Numeric runs short spelled form =
    record { short = short; spelled = spelled; form = form; told = refl }
is_described text k.NumericEdited runs short spelled form =
    record { short = short; spelled = spelled; form = form; told = refl }

some_is : {A : Type 0} {a b : A} → Some a ≡ Some b → a ≡ b
some_is e = cc

picture_found : (text : List ℕ) (picture : Description) → picture_of text ≡ Some picture → IsPicture text picture
unfolding picture_of of_form
picture_found text picture e = go (runs_of text) refl e
  where
    inner : (runs : List Run) → runs_of text ≡ Some runs → (o : Option Category) → category_of runs ≡ o
        → of_category runs o ≡ Some picture → IsPicture text picture
    inner runs read None is e = cc
    inner runs read (Some category) is e =
        let spelled = runs_spelled text runs read in
        subst (IsPicture text) (some_is e)
        (is_described text category runs spelled.1 spelled.0 (category_found runs category is))

    go : (o : Option (List Run)) → runs_of text ≡ o → of_runs o ≡ Some picture → IsPicture text picture
    go None is e = cc
    go (Some runs) is e = inner runs is (category_of runs) refl e

picture_answered : (text : List ℕ) (picture : Description) → IsPicture text picture → picture_of text ≡ Some picture
unfolding picture_of of_form
picture_answered text picture h =
    ap of_runs (runs_answered text picture.runs h.spelled h.short)
    ∙ ap (of_category picture.runs) (category_only picture.runs picture.category h.form) ∙ ap Some (sym h.told)

-- Each text has at most one form.
pub one_form : (text : List ℕ) (one other : Description) → IsPicture text one → IsPicture text other → one ≡ other
one_form text one other h g = some_is (sym (picture_answered text one h) ∙ picture_answered text other g)

found_is : (o : Option Description) (picture : Description) → or_no_form o ≡ Ok picture → o ≡ Some picture
found_is None picture e = cc
found_is (Some p) picture e = cc

pub answer_form : (text : List ℕ) (result : Result Description PictureError)
    → Gives (λ p. p) fault_of result (or_no_form (picture_of text)) → IfOk result (λ picture. IsPicture text picture)
answer_form text (Ok picture) g = picture_found text picture (found_is (picture_of text) picture g)
answer_form text (Err e) g = tt

pub answer_only : (text : List ℕ) (result : Result Description PictureError)
    → Gives (λ p. p) fault_of result (or_no_form (picture_of text))
    → (picture : Description) → IsPicture text picture → IsAnswer picture result
answer_only text (Ok answer) g picture h = let e = picture_answered text picture h in let f =
    found_is (picture_of text) answer g in some_is (sym f ∙ e)
answer_only text (Err errors.Memory) g picture h = tt
answer_only text (Err (errors.Refused fault)) g picture h = let e =
    ap or_no_form (picture_answered text picture h) in cc

-- ---- bounds

split_digit : (by : Suppression) (x : Symbol) (n : ℕ)
    → (if is_nine x || is_by by x then n else 0) ≡ (if is_nine x then n else 0) + (if is_by by x then n else 0)
split_digit by s.Nine n = nine by
  where
    nine : (by : Suppression) → n ≡ n + (if is_by by s.Nine then n else 0)
    nine z.Nothing = omega arith
    nine z.Spaces = omega arith
    nine z.Asterisks = omega arith
    nine z.FloatingCurrency = omega arith
    nine z.FloatingPlus = omega arith
    nine z.FloatingMinus = omega arith
split_digit by s.A n = omega arith
split_digit by s.X n = omega arith
split_digit by s.S n = omega arith
split_digit by s.V n = omega arith
split_digit by s.B n = omega arith
split_digit by s.Zero n = omega arith
split_digit by s.Slash n = omega arith
split_digit by s.Comma n = omega arith
split_digit by s.Point n = omega arith
split_digit by s.Z n = omega arith
split_digit by s.Star n = omega arith
split_digit by s.Plus n = omega arith
split_digit by s.Minus n = omega arith
split_digit by s.Currency n = omega arith
split_digit by s.Cr n = omega arith
split_digit by s.Db n = omega arith

nines : List Run → ℕ
nines [] = 0
nines (run ∷ more) = (if is_nine run.symbol then run.count else 0) + nines more

split_digits : (by : Suppression) (runs : List Run)
    → occurrences (c.Digits by) runs ≡ nines runs + occurrences (c.Suppressed by) runs
unfolding occurrences class_has nines
split_digits by [] = refl
split_digits by (run ∷ more) = let one = split_digit by run.symbol run.count in let h =
    split_digits by more in omega arith

nines_rest : (runs : List Run) → nines (from_first c.Points runs) ≤ nines runs
unfolding from_first nines
nines_rest [] = omega arith
nines_rest (run ∷ more) = go (class_has c.Points run.symbol) (nines_rest more)
  where
    go : (b : Bool) → nines (from_first c.Points more) ≤ nines more
        → nines (if b then run ∷ more else from_first c.Points more) ≤ nines (run ∷ more)
    go true h = omega arith
    go false h = omega arith

floats_two : (by : Suppression) → (if is_floating by then 1 else 0) ≤ least_count by
floats_two z.Nothing = omega arith
floats_two z.Spaces = omega arith
floats_two z.Asterisks = omega arith
floats_two z.FloatingCurrency = omega arith
floats_two z.FloatingPlus = omega arith
floats_two z.FloatingMinus = omega arith

scale_edited : (by : Suppression) (runs : List Run) → IsEdited by runs → scale_of by runs ≤ digit_places by runs
unfolding scale_of
scale_edited by runs h =
    let all = split_digits by runs in let after = split_digits by (from_first c.Points runs) in
    let fewer = nines_rest runs in let two = floats_two by in let before = h.before_point in
    omega arith

scale_numeric : (runs : List Run) → scale_of z.Nothing runs ≤ digit_places z.Nothing runs
scale_numeric runs = let h = scale_within z.Nothing runs in omega arith

abbrev HasWidth : Class → Type 0
HasWidth class = (x : Symbol) → class_has class x ≡ true → width x ≡ 1

width_test : Class → Symbol → Bool
width_test class x = not (class_has class x) || (width x == 1)

tested : (a : Bool) (n : ℕ) → (not a || (n == 1)) ≡ true → a ≡ true → n ≡ 1
tested true n e h = eqb-true n 1 e
tested false n e h = cc

all_width : (class : Class) → every_symbol (width_test class) ≡ true → HasWidth class
unfolding width_test
all_width class h = λ x e. tested (class_has class x) (width x) (symbol_holds (width_test class) h x) e

letters_width : HasWidth c.Letters
unfolding every_symbol width_test class_has
letters_width = all_width c.Letters refl

alphanumeric_width : HasWidth c.Alphanumeric
unfolding every_symbol width_test class_has
alphanumeric_width = all_width c.Alphanumeric refl

edited_width : HasWidth c.AlphanumericEdited
unfolding every_symbol width_test class_has
edited_width = all_width c.AlphanumericEdited refl

front_size : (class : Class) → HasWidth class → (front : List Run) → Each class front
    → size_of front ≡ symbol_count front
unfolding size_of symbol_count
front_size class wide [] each = refl
front_size class wide (run ∷ more) each =
    let one = ap (λ w. w * run.count) (wide run.symbol each.0) in let rest =
    front_size class wide more each.1 in omega arith

-- a picture of characters has a place for each symbol
characters_size : (class : Class) → HasWidth class → (runs : List Run) → whole_picture (stretch class) runs
    → size_of runs ≡ symbol_count runs
characters_size class wide runs (front, e, each, stops) =
    let is = e ∙ append-nil front in ap size_of is ∙ front_size class wide front each ∙ sym (ap symbol_count is)

within : (category : Category) (runs : List Run) → HasForm category runs → IsBounded (description_of category runs)
unfolding of_digits of_characters
within k.Alphabetic runs h = (refl, refl, characters_size c.Letters letters_width runs h.arranged)
within k.Alphanumeric runs h = (refl, refl, characters_size c.Alphanumeric alphanumeric_width runs h.arranged)
within k.AlphanumericEdited runs h = (refl, refl, characters_size c.AlphanumericEdited edited_width runs h.arranged)
within k.Numeric runs h =
    (h.arranged.digits.0, h.arranged.digits.1, scale_numeric runs, length-places z.Nothing runs)
within k.NumericEdited runs h =
    let by = suppression_of runs in (
      (h.arranged.digits.0, h.arranged.digits.1, scale_edited by runs h.arranged, length-places by runs),
      h.arranged.fits,
    )

pub bounds : (text : List ℕ) (picture : Description) → IsPicture text picture → IsBounded picture
bounds text picture h = subst IsBounded (sym h.told) (within picture.category picture.runs h.form)

-- ---- from runs

runs_of_described : (category : Category) (runs : List Run) → (description_of category runs).runs ≡ runs
unfolding of_digits of_characters
runs_of_described k.Alphabetic runs = refl
runs_of_described k.Alphanumeric runs = refl
runs_of_described k.AlphanumericEdited runs = refl
runs_of_described k.Numeric runs = refl
runs_of_described k.NumericEdited runs = refl

runs_of_form : (runs : List Run) (picture : Description) → of_form runs ≡ Some picture → picture.runs ≡ runs
unfolding of_form
runs_of_form runs picture e = go (category_of runs) e
  where
    go : (o : Option Category) → of_category runs o ≡ Some picture → picture.runs ≡ runs
    go None e = cc
    go (Some category) e = sym (ap (λ (p : Description). p.runs) (some_is e)) ∙ runs_of_described category runs

from_found : (runs : List Run) (picture : Description) → picture_from runs ≡ Some picture → IsOfRuns runs picture
unfolding picture_from picture_of
from_found runs picture e = go (are_spelled runs) refl e
  where
    go : (b : Bool) → are_spelled runs ≡ b → (if b then of_form runs else None) ≡ Some picture → IsOfRuns runs picture
    go false is e = cc
    go true is e =
        let text = spelled 30 runs is in
        record {
          read = (
            spelling_of runs,
            picture_found (spelling_of runs) picture (ap of_runs (runs_answered (spelling_of runs) runs text.0 text.1)
                ∙ e),
          );
          same = runs_of_form runs picture e;
        }

from_answered : (runs : List Run) (picture : Description) → IsAnyPicture picture → picture.runs ≡ runs
    → picture_from runs ≡ Some picture
unfolding picture_from picture_of
from_answered runs picture h same =
    let fits = ap are_spelled (sym same) ∙ spells_fit 30 picture.runs h.0 (lit≤ tt) h.1.spelled h.1.short in
    let read = runs_answered h.0 picture.runs h.1.spelled h.1.short in
    let is : of_form picture.runs ≡ Some picture = sym (ap of_runs read) ∙ picture_answered h.0 picture h.1 in
    rw fits (ap of_form (sym same) ∙ is)

pub from_form : (runs : List Run) (result : Result Description PictureError)
    → Gives (λ p. p) fault_of result (or_no_form (picture_from runs))
    → IfOk result (IsOfRuns runs)
from_form runs (Ok picture) g = from_found runs picture (found_is (picture_from runs) picture g)
from_form runs (Err e) g = tt

pub from_only : (runs : List Run) (result : Result Description PictureError)
    → Gives (λ p. p) fault_of result (or_no_form (picture_from runs))
    → (picture : Description) → IsOfRuns runs picture → IsAnswer picture result
from_only runs (Ok answer) g picture h =
    let e = from_answered runs picture h.read h.same in let f =
    found_is (picture_from runs) answer g in some_is (sym f ∙ e)
from_only runs (Err errors.Memory) g picture h = tt
from_only runs (Err (errors.Refused fault)) g picture h = let e =
    ap or_no_form (from_answered runs picture h.read h.same) in cc

pub any_bounded : (picture : Description) → IsAnyPicture picture → IsBounded picture
any_bounded picture h = bounds h.0 picture h.1

bounded_digits : (category : Category) (picture : Description) → IsWithinBounds category picture
    → (picture.digits ≤ 18) × (picture.scale ≤ picture.digits)
bounded_digits k.Alphabetic picture h = (omega arith, omega arith)
bounded_digits k.Alphanumeric picture h = (omega arith, omega arith)
bounded_digits k.AlphanumericEdited picture h = (omega arith, omega arith)
bounded_digits k.Numeric picture h = (h.1, h.2)
bounded_digits k.NumericEdited picture h = (h.0.1, h.0.2)

pub any_digits : (picture : Description) → IsAnyPicture picture
    → (picture.digits ≤ 18) × (picture.scale ≤ picture.digits)
any_digits picture h = bounded_digits picture.category picture (any_bounded picture h)

-- A picture is that of the text of its runs, and no other picture has that text.
pub any_spelled : (picture : Description) → IsAnyPicture picture → IsPicture (spelling_of picture.runs) picture
any_spelled picture h =
    let fits = spells_fit 30 picture.runs h.0 (lit≤ tt) h.1.spelled h.1.short in
    let text = spelled 30 picture.runs fits in
    record { short = text.1; spelled = text.0; form = h.1.form; told = h.1.told }

pub one_spelling : (one other : Description) → IsAnyPicture one → IsAnyPicture other
    → spelling_of one.runs ≡ spelling_of other.runs → one ≡ other
one_spelling one other h g e =
    one_form (spelling_of other.runs) one other (subst (λ (text : List ℕ). IsPicture text one) e (any_spelled one h))
    (any_spelled other g)

pub read_again : (result : Result (List ℕ) AllocError) (given : List Run) (picture shown : Description)
    → given ≡ picture.runs → picture ≡ shown → IsAnyPicture picture
    → IfOk result (λ text. text ≡ spelling_of given) → IfOk result (λ text. IsPicture text shown)
read_again (Ok text) given picture shown same view h e =
    subst (λ (t : List ℕ). IsPicture t shown) (sym (e ∙ ap spelling_of same))
    (subst (λ (p : Description). IsPicture (spelling_of picture.runs) p) view (any_spelled picture h))
read_again (Err fault) given picture shown same view h e = tt
