-- The tests by which the reader decides are the forms.
use Rattle.std.proofs.Common.{◌≡◌, ◌≤◌, ◌+◌, Bool, true, false, ◌&&◌, ◌||◌, nat_le, if◌then◌else◌, List, [], ◌∷◌, Some}
use Rattle.std.proofs.Common.{None, refl, ap, ◌∙◌, subst}
use Rattle.std.specs.Bool.{Decides}
use Rattle.std.specs.Cmp.Derive.{both_true}
use Rattle.std.proofs.lemmas.Bool.{leb-true, le-leb, not-true, not_from_false}
use Rattle.picture.specs.declared.run.Run.{Run}
use Rattle.picture.specs.declared.category.Category.{Category}
use Rattle.picture.specs.declared.category.Category.TheVariants as k
use Rattle.picture.specs.declared.class.Class.{Class}
use Rattle.picture.specs.declared.class.Class.TheVariants as c
use Rattle.picture.specs.declared.symbol.Suppression.{Suppression}
use Rattle.picture.specs.declared.symbol.Suppression.TheVariants as z
use Rattle.picture.specs.Symbols.{is_floating_sign, least_count}
use Rattle.picture.specs.Runs.{runs_past, past_one, from_first, occurrences}
use Rattle.picture.specs.Forms.{Part, ◌then◌, whole_picture, stretch, numeric_arrangement, arrangement, decimals}
use Rattle.picture.specs.Forms.{HasDigitPlaceCount, IsEdited, digit_places, suppression_of}
use Rattle.picture.specs.Categories.{is_empty, kind_of, IsNumeric, IsArranged, HasForm}
use Rattle.picture.specs.Deciding as d
use Rattle.picture.proofs.Parts.{Steps, steps_then, steps_stretch, steps_optional}

-- ---- tests

split : (a b : Bool) → (a && b) ≡ true → (a ≡ true) × (b ≡ true)
split true b e = (refl, e)
split false b e = cc

empty_is : (runs : List Run) → is_empty runs ≡ true → runs ≡ []
empty_is [] e = refl
empty_is (run ∷ more) e = cc

decides_whole : {p : Part} {f : List Run → List Run} → Steps p f → (runs : List Run)
    → Decides (is_empty (f runs)) (whole_picture p runs)
decides_whole {p = p} {f = f} steps runs =
    ((λ e. subst (p runs) (empty_is (f runs) e) (steps.does runs)), (λ h. ap is_empty (steps.only runs [] h)))

-- ---- digits

decides_digits : (by : Suppression) (runs : List Run) → Decides (d.has_digits by runs) (HasDigitPlaceCount by runs)
unfolding d.has_digits
decides_digits by runs = (
  (λ e. let h = split (nat_le 1 (digit_places by runs)) (nat_le (digit_places by runs) 18) e in
      (leb-true 1 (digit_places by runs) h.0, leb-true (digit_places by runs) 18 h.1)),
  (λ h. both_true (le-leb 1 (digit_places by runs) h.0) (le-leb (digit_places by runs) 18 h.1)),
)

-- ---- the categories that are one stretch

decides_only : (class : Class) (runs : List Run) → Decides (d.is_only class runs) (whole_picture (stretch class) runs)
unfolding d.is_only
decides_only class runs = decides_whole (steps_stretch class) runs

-- ---- numeric

pub numeric_steps : Steps numeric_arrangement
    (λ runs. runs_past (c.Digits z.Nothing)
    (past_one c.AssumedPoint (runs_past (c.Digits z.Nothing) (past_one c.OperationalSign runs))))
numeric_steps = steps_then (steps_optional c.OperationalSign) (steps_then (steps_stretch (c.Digits z.Nothing))
    (steps_then (steps_optional c.AssumedPoint) (steps_stretch (c.Digits z.Nothing))))

decides_numeric : (runs : List Run) → Decides (d.is_numeric_picture runs) (IsNumeric runs)
unfolding d.is_numeric_picture d.is_only
decides_numeric runs =
    let arranged = decides_whole numeric_steps runs in let digits = decides_digits z.Nothing runs in (
      (λ e. let h =
          split _ (d.has_digits z.Nothing runs) e in record { arranged = arranged.0 h.0; digits = digits.0 h.1 }),
      (λ h. both_true (arranged.1 h.arranged) (digits.1 h.digits)),
    )

-- ---- numeric edited

pub edited_steps : (by : Suppression) (runs : List Run) → Steps (arrangement by runs)
    (λ from. past_one (c.TrailingSign by) (runs_past (decimals by runs)
    (past_one c.Points (runs_past c.NinesAndInsertions (runs_past (c.SuppressedAndInsertions by)
    (past_one (c.FixedCurrency by) (past_one (c.LeadingSign by) from)))))))
edited_steps by runs =
    steps_then (steps_optional (c.LeadingSign by)) (steps_then (steps_optional (c.FixedCurrency by))
    (steps_then (steps_stretch (c.SuppressedAndInsertions by)) (steps_then (steps_stretch c.NinesAndInsertions)
    (steps_then (steps_optional c.Points)
    (steps_then (steps_stretch (decimals by runs)) (steps_optional (c.TrailingSign by)))))))

decides_arranged : (by : Suppression) (runs : List Run)
    → Decides (d.is_arranged by runs) (whole_picture (arrangement by runs) runs)
unfolding d.is_arranged d.past_core
decides_arranged by runs = decides_whole (edited_steps by runs) runs

or_first : (a b : Bool) → (a || b) ≡ true → a ≡ false → b ≡ true
or_first true b e f = cc
or_first false b e f = e

or_second : (a b : Bool) → (a ≡ false → b ≡ true) → (a || b) ≡ true
or_second true b h = refl
or_second false b h = h refl

decides_one_sign : (by : Suppression) (runs : List Run)
    → Decides (d.has_one_sign by runs) (is_floating_sign by ≡ false → occurrences c.Signs runs ≤ 1)
unfolding d.has_one_sign
decides_one_sign by runs = (
  (λ e f. leb-true _ _ (or_first (is_floating_sign by) (nat_le (occurrences c.Signs runs) 1) e f)),
  (λ h. or_second (is_floating_sign by) (nat_le (occurrences c.Signs runs) 1) (λ f. le-leb _ _ (h f))),
)

decides_before_point : (by : Suppression) (runs : List Run)
    → Decides (d.begins_before_point by runs)
    (least_count by + occurrences (c.Suppressed by) (from_first c.Points runs) ≤ occurrences (c.Suppressed by) runs)
unfolding d.begins_before_point
decides_before_point by runs = ((λ e. leb-true _ _ e), (λ h. le-leb _ _ h))

pub decides_edited : (by : Suppression) (runs : List Run) → Decides (d.is_edited by runs) (IsEdited by runs)
unfolding d.is_edited
decides_edited by runs =
    let a = decides_arranged by runs in let o = decides_one_sign by runs in let b =
    decides_before_point by runs in let g = decides_digits by runs in (
      (λ e.
          let e1 = split _ _ e in let e2 = split _ _ e1.0 in let e3 = split _ _ e2.0 in let e4 =
          split _ _ e3.0 in let e5 = split _ _ e4.0 in
          record {
            arranged = a.0 e5.0;
            one_sign = o.0 e5.1;
            before_point = b.0 e4.1;
            digits = g.0 e3.1;
            fits = leb-true _ _ e2.1;
            last = not-true _ e1.1;
          }),
      (λ h. both_true (both_true (both_true (both_true (both_true (a.1 h.arranged) (o.1 h.one_sign))
          (b.1 h.before_point)) (g.1 h.digits)) (le-leb _ _ h.fits)) (not_from_false _ h.last)),
    )

-- ---- all categories

decides_of : (category : Category) (runs : List Run) → Decides (d.is_of category runs) (IsArranged category runs)
unfolding d.is_of
decides_of k.Alphabetic runs = decides_only c.Letters runs
decides_of k.Alphanumeric runs = decides_only c.Alphanumeric runs
decides_of k.AlphanumericEdited runs = decides_only c.AlphanumericEdited runs
decides_of k.Numeric runs = decides_numeric runs
decides_of k.NumericEdited runs = decides_edited (suppression_of runs) runs

-- what is answered has that form
pub category_found : (runs : List Run) (category : Category) → d.category_of runs ≡ Some category
    → HasForm category runs
unfolding d.category_of
category_found runs category e = go (d.is_of (kind_of runs) runs) refl e
  where
    go : (b : Bool) → d.is_of (kind_of runs) runs ≡ b → (if b then Some (kind_of runs) else None) ≡ Some category
        → HasForm category runs
    go true t e =
        let same : kind_of runs ≡ category = cc in
        record { kind = same; arranged = subst (λ k. IsArranged k runs) same ((decides_of (kind_of runs) runs).0 t) }
    go false t e = cc

-- what has a form is answered
pub category_only : (runs : List Run) (category : Category) → HasForm category runs → d.category_of runs ≡ Some category
unfolding d.category_of
category_only runs category h =
    let arranged = (decides_of category runs).1 h.arranged in
    let same : d.is_of (kind_of runs) runs ≡ true = ap (λ k. d.is_of k runs) h.kind ∙ arranged in
    rw same (ap Some h.kind)
