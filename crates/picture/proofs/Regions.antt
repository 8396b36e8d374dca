-- Editing's laws of every picture: what runs of a form show.
use Rattle.std.proofs.Common.{◌≡◌, ◌≤◌, ◌<◌, ◌+◌, ◌-◌, ◌==◌, ℕ, zero, suc, Bool, true, false, not, ◌&&◌, ◌||◌, nat_le}
use Rattle.std.proofs.Common.{nat_lt, if◌then◌else◌, List, [], ◌∷◌, ◌++◌, length, set, slice_index_or, Option, Some}
use Rattle.std.proofs.Common.{inl, inr, refl, sym, ap, ◌∙◌, subst, append_assoc, arith, lit≤}
use Rattle.std.specs.Cmp.Derive.{both_true}
use Rattle.std.proofs.lemmas.Bool.{leb-true}
use Rattle.std.proofs.lemmas.Bool.Decides.{nat_tests}
use Rattle.std.proofs.lemmas.List.{get_or_append_left, length-set}
use Rattle.std.proofs.Math.Seq.{get_or-append_seam, get_or-append_right, set-append_seam}
use Rattle.picture.specs.declared.run.Run.{Run}
use Rattle.picture.specs.declared.class.Class.{Class}
use Rattle.picture.specs.declared.class.Class.TheVariants as c
use Rattle.picture.specs.declared.category.Category.{Category}
use Rattle.picture.specs.declared.category.Category.TheVariants as k
use Rattle.picture.specs.declared.symbol.Symbol.{Symbol}
use Rattle.picture.specs.declared.symbol.Suppression.{Suppression}
use Rattle.picture.specs.declared.symbol.Suppression.TheVariants as z
use Rattle.picture.specs.declared.place.Place.{Place}
use Rattle.picture.specs.declared.place.Place.TheVariants as p
use Rattle.picture.specs.declared.place.Region.{Region}
use Rattle.picture.specs.declared.description.Description.{Description}
use Rattle.picture.specs.Symbols.{class_has, is_floating, least_count}
use Rattle.picture.specs.Runs.{from_first, occurrences, size_of}
use Rattle.picture.specs.Forms.{whole_picture, Each, one, stretch, optional, numeric_arrangement, arrangement, decimals}
use Rattle.picture.specs.Forms.{digit_places, suppression_of, IsEdited}
use Rattle.picture.specs.Categories.{HasForm}
use Rattle.picture.specs.Places.{symbol_places, repeated_places, each_place, region_from}
use Rattle.picture.specs.Spelling.{fit_in, can_repeat, run_text}
use Rattle.picture.specs.Regions.{is_first_floating, is_point_place, digits_in, begins_at, IsStretch, IsEditingPicture}
use Rattle.picture.specs.Pictures.{IsAnyPicture, description_of, of_digits, of_characters}
use Rattle.picture.proofs.Counts.{from_rest}
use Rattle.picture.proofs.Places.{length-each}
use Rattle.picture.proofs.Divisions.{every_symbol, every_suppression, symbol_holds, suppression_holds}
use Rattle.picture.proofs.Fitting.{spells_fit}

split : (a b : Bool) → (a && b) ≡ true → (a ≡ true) × (b ≡ true)
split true b e = (refl, e)
split false b e = cc

is_not : (b : Bool) → not b ≡ true → b ≡ false
is_not true e = cc
is_not false e = refl

implied : (a b : Bool) → (not a || b) ≡ true → a ≡ true → b ≡ true
implied true b e h = e
implied false b e h = cc

-- ---- facts of every symbol, whatever suppresses zeros

every : (test : Suppression → Symbol → Bool) → every_suppression (λ by. every_symbol (test by)) ≡ true
    → (by : Suppression) (x : Symbol) → test by x ≡ true
every test h by x = symbol_holds (test by) (suppression_holds (λ by. every_symbol (test by)) h by) x

-- the symbols of an arrangement
may_stand : Suppression → Symbol → Bool
may_stand by x =
    class_has (c.LeadingSign by) x || class_has (c.FixedCurrency by) x || class_has (c.SuppressedAndInsertions by) x
    || class_has c.NinesAndInsertions x
    || class_has c.Points x || class_has (c.TrailingSign by) x || class_has c.OperationalSign x

shown_digits : Suppression → Symbol → Bool
shown_digits by x =
    not (may_stand by x) || (digits_in (symbol_places by x) == (if class_has (c.Digits by) x then 1 else 0))

every_digits : (by : Suppression) (x : Symbol) → shown_digits by x ≡ true
unfolding every_suppression every_symbol shown_digits may_stand class_has digits_in
every_digits = every shown_digits refl

abbrev no_place : (Place → Bool) → List Place → Bool
no_place test [] = true
no_place test (place ∷ more) = not (test place) && no_place test more

every_first : (by : Suppression) (x : Symbol) → no_place is_first_floating (symbol_places by x) ≡ true
unfolding every_suppression every_symbol
every_first = every (λ by x. no_place is_first_floating (symbol_places by x)) refl

no_point : Suppression → Symbol → Bool
no_point by x = class_has c.NinesAndPoints x || no_place is_point_place (symbol_places by x)

every_no_point : (by : Suppression) (x : Symbol) → no_point by x ≡ true
unfolding every_suppression every_symbol no_point class_has
every_no_point = every no_point refl

is_one_floating : List Place → Bool
is_one_floating (p.Floating ∷ []) = true
is_one_floating _ = false

one_floating : (places : List Place) → is_one_floating places ≡ true → places ≡ p.Floating ∷ []
unfolding is_one_floating
one_floating [] e = cc
one_floating (p.Floating ∷ []) e = refl
one_floating (p.Floating ∷ place ∷ more) e = cc
one_floating (p.Digit ∷ more) e = cc
one_floating (p.Suppressed ∷ more) e = cc
one_floating (p.FirstFloating ∷ more) e = cc
one_floating (p.Insertion n ∷ more) e = cc
one_floating (p.Point ∷ more) e = cc
one_floating (p.Plus ∷ more) e = cc
one_floating (p.Minus ∷ more) e = cc
one_floating (p.Currency ∷ more) e = cc
one_floating (p.Negative n ∷ more) e = cc

floats : Suppression → Symbol → Bool
floats by x = not (is_floating by && class_has (c.Suppressed by) x) || is_one_floating (symbol_places by x)

every_floats : (by : Suppression) (x : Symbol) → floats by x ≡ true
unfolding every_suppression every_symbol floats is_one_floating class_has
every_floats = every floats refl

-- ---- each run

abbrev Counted : List Run → Type 0
Counted [] = Unit {0}
Counted (run ∷ more) = (1 ≤ run.count) × Counted more

fit_counted : (room : ℕ) (runs : List Run) → fit_in room runs ≡ true → Counted runs
unfolding fit_in
fit_counted room [] e = tt
fit_counted room (run ∷ more) e =
    let both = split (can_repeat run.symbol run.count && nat_le (length (run_text run)) room) _ e in
    let each = split (can_repeat run.symbol run.count) (nat_le (length (run_text run)) room) both.0 in
    let one = split (nat_le 1 run.count) _ each.0 in
    (leb-true 1 run.count one.0, fit_counted (room - length (run_text run)) more both.1)

abbrev Allowed : (Symbol → Bool) → List Run → Type 0
Allowed test [] = Unit {0}
Allowed test (run ∷ more) = (test run.symbol ≡ true) × Allowed test more

abbrev Within : Class → (Symbol → Bool) → Type 0
Within class test = (x : Symbol) → class_has class x ≡ true → test x ≡ true

over_front : (test : Symbol → Bool) (class : Class) (front rest : List Run) → Within class test → Each class front
    → Allowed test rest → Allowed test (front ++ rest)
over_front test class [] rest h each more = more
over_front test class (run ∷ front) rest h each more =
    (h run.symbol each.0, over_front test class front rest h each.1 more)

over_stretch : (test : Symbol → Bool) (class : Class) → Within class test → (from rest : List Run)
    → stretch class from rest → Allowed test rest → Allowed test from
over_stretch test class h from rest (front, e, each, stops) more =
    subst (Allowed test) (sym e) (over_front test class front rest h each more)

one_in : (a b : Bool) → (a && b) ≡ true → a ≡ true
one_in true b e = refl
one_in false b e = e

over_optional : (test : Symbol → Bool) (class : Class) → Within class test → (from rest : List Run)
    → optional class from rest → Allowed test rest → Allowed test from
over_optional test class h from rest (inl (run, e, is)) more =
    subst (Allowed test) (sym e) (h run.symbol (one_in (class_has class run.symbol) _ is), more)
over_optional test class h from rest (inr (e, none)) more = subst (Allowed test) (sym e) more

every_within : (class : Suppression → Class) (test : Suppression → Symbol → Bool)
    → every_suppression (λ by. every_symbol (λ x. not (class_has (class by) x) || test by x)) ≡ true
    → (by : Suppression) → Within (class by) (test by)
every_within class test h by x e =
    implied (class_has (class by) x) (test by x) (every (λ by x. not (class_has (class by) x) || test by x) h by x) e

none_stands : (test : Symbol → Bool) → Allowed test []
none_stands test = tt

decimals_within : (test : Symbol → Bool) (by : Suppression) (runs : List Run) → Within c.NinesAndInsertions test
    → Within (c.SuppressedAndInsertions by) test → Within (decimals by runs) test
decimals_within test by runs nines zeros = go (nat_lt 0 (occurrences (c.Digits z.Nothing) runs))
  where
    go : (b : Bool) → Within (if b then c.NinesAndInsertions else c.SuppressedAndInsertions by) test
    go true = nines
    go false = zeros

nines_stand : (by : Suppression) → Within c.NinesAndInsertions (may_stand by)
unfolding every_suppression every_symbol may_stand class_has
nines_stand = every_within (λ _. c.NinesAndInsertions) may_stand refl

zeros_stand : (by : Suppression) → Within (c.SuppressedAndInsertions by) (may_stand by)
unfolding every_suppression every_symbol may_stand class_has
zeros_stand = every_within c.SuppressedAndInsertions may_stand refl

lead_stands : (by : Suppression) → Within (c.LeadingSign by) (may_stand by)
unfolding every_suppression every_symbol may_stand class_has
lead_stands = every_within c.LeadingSign may_stand refl

currency_stands : (by : Suppression) → Within (c.FixedCurrency by) (may_stand by)
unfolding every_suppression every_symbol may_stand class_has
currency_stands = every_within c.FixedCurrency may_stand refl

point_stands : (by : Suppression) → Within c.Points (may_stand by)
unfolding every_suppression every_symbol may_stand class_has
point_stands = every_within (λ _. c.Points) may_stand refl

end_stands : (by : Suppression) → Within (c.TrailingSign by) (may_stand by)
unfolding every_suppression every_symbol may_stand class_has
end_stands = every_within c.TrailingSign may_stand refl

sign_stands : (by : Suppression) → Within c.OperationalSign (may_stand by)
unfolding every_suppression every_symbol may_stand class_has
sign_stands = every_within (λ _. c.OperationalSign) may_stand refl

digits_stand : (by : Suppression) → Within (c.Digits z.Nothing) (may_stand by)
unfolding every_suppression every_symbol may_stand class_has
digits_stand = every_within (λ _. c.Digits z.Nothing) may_stand refl

assumed_stands : (by : Suppression) → Within c.AssumedPoint (may_stand by)
unfolding every_suppression every_symbol may_stand class_has
assumed_stands = every_within (λ _. c.AssumedPoint) may_stand refl

edited_stands : (by : Suppression) (runs : List Run) → whole_picture (arrangement by runs) runs
    → Allowed (may_stand by) runs
edited_stands by runs (m1, o1, (m2, o2, (m3, s3, (m4, s4, (m5, o5, (m6, s6, o7)))))) =
    let t = may_stand by in
    over_optional t (c.LeadingSign by) (lead_stands by) runs m1 o1
    (over_optional t (c.FixedCurrency by) (currency_stands by) m1 m2 o2
    (over_stretch t (c.SuppressedAndInsertions by) (zeros_stand by) m2 m3 s3
    (over_stretch t c.NinesAndInsertions (nines_stand by) m3 m4 s4
    (over_optional t c.Points (point_stands by) m4 m5 o5
    (over_stretch t (decimals by runs) (decimals_within t by runs (nines_stand by) (zeros_stand by)) m5 m6 s6
    (over_optional t (c.TrailingSign by) (end_stands by) m6 [] o7 (none_stands t)))))))

numeric_stands : (by : Suppression) (runs : List Run) → whole_picture numeric_arrangement runs
    → Allowed (may_stand by) runs
numeric_stands by runs (m1, o1, (m2, s2, (m3, o3, s4))) =
    let t = may_stand by in
    over_optional t c.OperationalSign (sign_stands by) runs m1 o1
    (over_stretch t (c.Digits z.Nothing) (digits_stand by) m1 m2 s2
    (over_optional t c.AssumedPoint (assumed_stands by) m2 m3 o3
    (over_stretch t (c.Digits z.Nothing) (digits_stand by) m3 [] s4 (none_stands t))))

-- ---- digits

digits_append : (front back : List Place) → digits_in (front ++ back) ≡ digits_in front + digits_in back
unfolding digits_in
digits_append [] back = omega arith
digits_append (place ∷ front) back = let h = digits_append front back in omega arith

digits_repeated : (b : Bool) (n : ℕ) (places : List Place) → digits_in places ≡ (if b then 1 else 0)
    → digits_in (repeated_places n places) ≡ (if b then n else 0)
unfolding repeated_places digits_in
digits_repeated true zero places e = refl
digits_repeated false zero places e = refl
digits_repeated true (suc n) places e = let h = digits_repeated true n places e in let a =
    digits_append places (repeated_places n places) in omega arith
digits_repeated false (suc n) places e = let h = digits_repeated false n places e in let a =
    digits_append places (repeated_places n places) in omega arith

digits_shown : (by : Suppression) (x : Symbol) → may_stand by x ≡ true
    → digits_in (symbol_places by x) ≡ (if class_has (c.Digits by) x then 1 else 0)
unfolding shown_digits
digits_shown by x e =
    eq_true (digits_in (symbol_places by x)) (if class_has (c.Digits by) x then 1 else 0)
    (implied (may_stand by x) (digits_in (symbol_places by x) == (if class_has (c.Digits by) x then 1 else 0))
    (every_digits by x) e)
  where
    eq_true : (a b : ℕ) → (a == b) ≡ true → a ≡ b
    eq_true a b e = grind (arith, nat_tests)

digits_each : (by : Suppression) (runs : List Run) → Allowed (may_stand by) runs
    → digits_in (each_place by runs) ≡ occurrences (c.Digits by) runs
unfolding each_place occurrences digits_in
digits_each by [] h = refl
digits_each by (run ∷ more) h =
    digits_append (repeated_places run.count (symbol_places by run.symbol)) (each_place by more)
    ∙ ap (λ n. n + digits_in (each_place by more)) (digits_repeated (class_has (c.Digits by) run.symbol) run.count
    (symbol_places by run.symbol) (digits_shown by run.symbol h.0))
    ∙ ap (λ n. (if class_has (c.Digits by) run.symbol then run.count else 0) + n) (digits_each by more h.1)

-- ---- places that no run shows

none_append : (test : Place → Bool) (front back : List Place) → no_place test front ≡ true → no_place test back ≡ true
    → no_place test (front ++ back) ≡ true
none_append test [] back f b = b
none_append test (place ∷ front) back f b = let h =
    split (not (test place)) (no_place test front) f in both_true h.0 (none_append test front back h.1 b)

none_repeated : (test : Place → Bool) (n : ℕ) (places : List Place) → no_place test places ≡ true
    → no_place test (repeated_places n places) ≡ true
unfolding repeated_places
none_repeated test zero places h = refl
none_repeated test (suc n) places h =
    none_append test places (repeated_places n places) h (none_repeated test n places h)

none_first : (by : Suppression) (runs : List Run) → no_place is_first_floating (each_place by runs) ≡ true
unfolding each_place
none_first by [] = refl
none_first by (run ∷ more) =
    none_append is_first_floating (repeated_places run.count (symbol_places by run.symbol)) (each_place by more)
    (none_repeated is_first_floating run.count (symbol_places by run.symbol) (every_first by run.symbol))
    (none_first by more)

abbrev NoneOf : Class → List Run → Type 0
NoneOf class runs = Allowed (λ x. not (class_has class x)) runs

none_point : (by : Suppression) (runs : List Run) → NoneOf c.NinesAndPoints runs
    → no_place is_point_place (each_place by runs) ≡ true
unfolding each_place no_point
none_point by [] h = refl
none_point by (run ∷ more) h =
    none_append is_point_place (repeated_places run.count (symbol_places by run.symbol)) (each_place by more)
    (none_repeated is_point_place run.count (symbol_places by run.symbol)
    (either (class_has c.NinesAndPoints run.symbol) (no_place is_point_place (symbol_places by run.symbol))
    (every_no_point by run.symbol) (is_not (class_has c.NinesAndPoints run.symbol) h.0)))
    (none_point by more h.1)
  where
    either : (a b : Bool) → (a || b) ≡ true → a ≡ false → b ≡ true
    either true b e f = cc
    either false b e f = e

none_at : (test : Place → Bool) (places : List Place) (at : ℕ) (d : Place) → no_place test places ≡ true
    → test d ≡ false → test (slice_index_or places at d) ≡ false
none_at test [] at d h e = e
none_at test (place ∷ more) zero d h e = is_not _ (split (not (test place)) (no_place test more) h).0
none_at test (place ∷ more) (suc at) d h e =
    none_at test more at d (split (not (test place)) (no_place test more) h).1 e

-- ---- up to the first of a class

record Front (class : Class) (runs : List Run) : Type 0 where
  front : List Run
  is : runs ≡ front ++ from_first class runs
  none : NoneOf class front

front_of : (class : Class) (runs : List Run) → Front class runs
unfolding from_first
front_of class [] = record { front = []; is = refl; none = tt }
front_of class (run ∷ more) = go (front_of class more) (class_has class run.symbol) refl
  where
    go : Front class more → (b : Bool) → class_has class run.symbol ≡ b → Front class (run ∷ more)
    go h true e = record { front = []; is = rw e refl; none = tt }
    go h false e = record { front = run ∷ h.front; is = rw e (ap (λ l. run ∷ l) h.is); none = (rw e refl, h.none) }

size_append : (front back : List Run) → size_of (front ++ back) ≡ size_of front + size_of back
unfolding size_of
size_append [] back = omega arith
size_append (run ∷ front) back = let h = size_append front back in omega arith

each_append : (by : Suppression) (front back : List Run)
    → each_place by (front ++ back) ≡ each_place by front ++ each_place by back
unfolding each_place
each_append by [] back = refl
each_append by (run ∷ front) back =
    ap (λ l. repeated_places run.count (symbol_places by run.symbol) ++ l) (each_append by front back)
    ∙ sym
    (append_assoc (repeated_places run.count (symbol_places by run.symbol)) (each_place by front) (each_place by back))

-- where the first of the class begins
begin_is : (by : Suppression) (class : Class) (runs : List Run)
    → size_of runs - size_of (from_first class runs) ≡ length (each_place by (front_of class runs).front)
begin_is by class runs =
    let h = front_of class runs in
    let s = ap size_of h.is ∙ size_append h.front (from_first class runs) in
    let l = length-each by h.front in omega arith

record Starts (class : Class) (runs : List Run) : Type 0 where
  run : Run
  more : List Run
  is : from_first class runs ≡ run ∷ more
  first : class_has class run.symbol ≡ true

starts : (class : Class) (runs : List Run) → 1 ≤ occurrences class runs → Starts class runs
unfolding from_first occurrences
starts class [] h = absurd (omega arith)
starts class (run ∷ more) h = go (λ h. starts class more h) (class_has class run.symbol) refl h
  where
    go : (1 ≤ occurrences class more → Starts class more) → (b : Bool) → class_has class run.symbol ≡ b
        → 1 ≤ (if b then run.count else 0) + occurrences class more → Starts class (run ∷ more)
    go less true e h = record { run = run; more = more; is = rw e refl; first = e }
    go less false e h = let s =
        less (omega arith) in record { run = s.run; more = s.more; is = rw e s.is; first = s.first }

counted_append : (front back : List Run) → Counted (front ++ back) → Counted back
counted_append [] back h = h
counted_append (run ∷ front) back h = counted_append front back h.1

-- ---- begin before end

size_drops : (class : Class) (runs : List Run) → size_of (from_first class runs) ≤ size_of runs
size_drops class runs = let h = front_of class runs in let s =
    ap size_of h.is ∙ size_append h.front (from_first class runs) in omega arith

late : (one : Class) (run : Run) (more rest : List Run) (a : Bool) → size_of rest ≤ size_of more
    → (occurrences one rest < occurrences one more → size_of rest ≤ size_of (from_first one more))
    → occurrences one rest < (if a then run.count else 0) + occurrences one more
    → size_of rest ≤ size_of (if a then run ∷ more else from_first one more)
unfolding size_of
late one run more rest true small less h = omega arith
late one run more rest false small less h = less (omega arith)

comes_first : (one other : Class) (runs : List Run) → occurrences one (from_first other runs) < occurrences one runs
    → size_of (from_first other runs) ≤ size_of (from_first one runs)
unfolding from_first occurrences
comes_first one other [] h = absurd (omega arith)
comes_first one other (run ∷ more) h =
    go (class_has other run.symbol) (λ h. comes_first one other more h) (size_drops other more) h
  where
    go : (b : Bool) → (occurrences one (from_first other more) < occurrences one more
        → size_of (from_first other more) ≤ size_of (from_first one more))
        → size_of (from_first other more) ≤ size_of more
        → occurrences one (if b then run ∷ more else from_first other more)
        < (if class_has one run.symbol then run.count else 0) + occurrences one more
        → size_of (if b then run ∷ more else from_first other more)
        ≤ size_of (if class_has one run.symbol then run ∷ more else from_first one more)
    go true less small h = absurd (omega arith)
    go false less small h = late one run more (from_first other more) (class_has one run.symbol) small less h

none_occur : (class : Class) (runs : List Run) → NoneOf class runs → occurrences class runs ≡ 0
unfolding occurrences
none_occur class [] h = refl
none_occur class (run ∷ more) h =
    rw (is_not (class_has class run.symbol) h.0) (let e = none_occur class more h.1 in omega arith)

skip_front : (class : Class) (front rest : List Run) → NoneOf class front
    → from_first class (front ++ rest) ≡ from_first class rest
unfolding from_first
skip_front class [] rest h = refl
skip_front class (run ∷ front) rest h = rw (is_not (class_has class run.symbol) h.0) (skip_front class front rest h.1)

abbrev Apart : Class → Class → Type 0
Apart one other = (x : Symbol) → class_has one x ≡ true → not (class_has other x) ≡ true

each_apart : (one other : Class) → Apart one other → (front : List Run) → Each one front → NoneOf other front
each_apart one other h [] each = tt
each_apart one other h (run ∷ front) each = (h run.symbol each.0, each_apart one other h front each.1)

skip_stretch : (one other : Class) → Apart one other → (from rest : List Run) → stretch one from rest
    → from_first other from ≡ from_first other rest
skip_stretch one other h from rest (front, e, each, stops) =
    ap (from_first other) e ∙ skip_front other front rest (each_apart one other h front each)

skip_optional : (one other : Class) → Apart one other → (from rest : List Run) → optional one from rest
    → from_first other from ≡ from_first other rest
skip_optional one other h from rest (inl (run, e, is)) = ap (from_first other) e
    ∙ skip_front other (run ∷ []) rest (h run.symbol (one_in (class_has one run.symbol) _ is), tt)
skip_optional one other h from rest (inr (e, none)) = ap (from_first other) e

every_apart : (one other : Suppression → Class)
    → every_suppression (λ by. every_symbol (λ x. not (class_has (one by) x) || not (class_has (other by) x))) ≡ true
    → (by : Suppression) → Apart (one by) (other by)
every_apart one other h by x e = implied (class_has (one by) x) _
    (every (λ by x. not (class_has (one by) x) || not (class_has (other by) x)) h by x) e

lead_point : (by : Suppression) → Apart (c.LeadingSign by) c.NinesAndPoints
unfolding every_suppression every_symbol class_has
lead_point = every_apart c.LeadingSign (λ _. c.NinesAndPoints) refl

currency_point : (by : Suppression) → Apart (c.FixedCurrency by) c.NinesAndPoints
unfolding every_suppression every_symbol class_has
currency_point = every_apart c.FixedCurrency (λ _. c.NinesAndPoints) refl

zeros_point : (by : Suppression) → Apart (c.SuppressedAndInsertions by) c.NinesAndPoints
unfolding every_suppression every_symbol class_has
zeros_point = every_apart c.SuppressedAndInsertions (λ _. c.NinesAndPoints) refl

nines_zero : (by : Suppression) → Apart c.NinesAndInsertions (c.Suppressed by)
unfolding every_suppression every_symbol class_has
nines_zero = every_apart (λ _. c.NinesAndInsertions) c.Suppressed refl

points_zero : (by : Suppression) → Apart c.Points (c.Suppressed by)
unfolding every_suppression every_symbol class_has
points_zero = every_apart (λ _. c.Points) c.Suppressed refl

end_zero : (by : Suppression) → Apart (c.TrailingSign by) (c.Suppressed by)
unfolding every_suppression every_symbol class_has
end_zero = every_apart c.TrailingSign c.Suppressed refl

within_of : (one other : Class) → Apart one other → Within one (λ x. not (class_has other x))
within_of one other h = h

nine_within : (test : Symbol → Bool) (by : Suppression) → Within c.NinesAndInsertions test → (b : Bool) → b ≡ true
    → Within (if b then c.NinesAndInsertions else c.SuppressedAndInsertions by) test
nine_within test by h true e = h
nine_within test by h false e = absurd (no e)
  where
    no : false ≡ true → ⊥
    no e = cc

-- after a 9 nothing is suppressed
none_after : (by : Suppression) (runs : List Run) → nat_lt 0 (occurrences (c.Digits z.Nothing) runs) ≡ true
    → whole_picture (arrangement by runs) runs
    → occurrences (c.Suppressed by) (from_first c.NinesAndPoints runs) ≡ 0
none_after by runs nine (m1, o1, (m2, o2, (m3, s3, (m4, s4, (m5, o5, (m6, s6, o7)))))) =
    let t : Symbol → Bool = λ x. not (class_has (c.Suppressed by) x) in
    let decimal : Within (decimals by runs) t =
    nine_within t by (within_of c.NinesAndInsertions (c.Suppressed by) (nines_zero by))
    (nat_lt 0 (occurrences (c.Digits z.Nothing) runs)) nine in
    let none =
    over_stretch t c.NinesAndInsertions (within_of c.NinesAndInsertions (c.Suppressed by) (nines_zero by)) m3 m4 s4
    (over_optional t c.Points (within_of c.Points (c.Suppressed by) (points_zero by)) m4 m5 o5
    (over_stretch t (decimals by runs) decimal m5 m6 s6
    (over_optional t (c.TrailingSign by) (within_of (c.TrailingSign by) (c.Suppressed by) (end_zero by)) m6 [] o7
    (none_stands t)))) in
    let skipped =
    skip_optional (c.LeadingSign by) c.NinesAndPoints (lead_point by) runs m1 o1
    ∙ skip_optional (c.FixedCurrency by) c.NinesAndPoints (currency_point by) m1 m2 o2
    ∙ skip_stretch (c.SuppressedAndInsertions by) c.NinesAndPoints (zeros_point by) m2 m3 s3 in
    let zeros = none_occur (c.Suppressed by) m3 none in
    let fewer = from_rest (c.Suppressed by) c.NinesAndPoints m3 in
    let same = ap (occurrences (c.Suppressed by)) skipped in omega arith

same_point : Suppression → Symbol → Bool
same_point by x = class_has (c.Digits z.Nothing) x
    || (if class_has c.Points x then class_has c.NinesAndPoints x else not (class_has c.NinesAndPoints x))

every_same_point : (by : Suppression) (x : Symbol) → same_point by x ≡ true
unfolding every_suppression every_symbol same_point class_has
every_same_point = every same_point refl

pick : (a b d : Bool) → (a || (if b then d else not d)) ≡ true → a ≡ false → d ≡ b
pick true b d e f = cc
pick false true d e f = e
pick false false d e f = is_not d e

is_same_point : (x : Symbol) → class_has (c.Digits z.Nothing) x ≡ false
    → class_has c.NinesAndPoints x ≡ class_has c.Points x
unfolding same_point
is_same_point x e = pick (class_has (c.Digits z.Nothing) x) (class_has c.Points x) (class_has c.NinesAndPoints x)
    (every_same_point z.Nothing x) e

-- without a 9 the first of them is the point
points_first : (runs : List Run) → Counted runs → occurrences (c.Digits z.Nothing) runs ≡ 0
    → from_first c.NinesAndPoints runs ≡ from_first c.Points runs
unfolding from_first occurrences
points_first [] h e = refl
points_first (run ∷ more) h e =
    let no_nine : class_has (c.Digits z.Nothing) run.symbol ≡ false =
    none (class_has (c.Digits z.Nothing) run.symbol) e h.0 in
    let same = is_same_point run.symbol no_nine in
    rw same (ap (λ l. if class_has c.Points run.symbol then run ∷ more else l) (points_first more h.1 (omega arith)))
  where
    none : (b : Bool) → (if b then run.count else 0) + occurrences (c.Digits z.Nothing) more ≡ 0 → 1 ≤ run.count
        → b ≡ false
    none true e h = absurd (omega arith)
    none false e h = refl

begins_first : (by : Suppression) (runs : List Run) → Counted runs → 1 ≤ least_count by → IsEdited by runs
    → size_of (from_first c.NinesAndPoints runs) ≤ size_of (from_first (c.Suppressed by) runs)
begins_first by runs counted some h =
    comes_first (c.Suppressed by) c.NinesAndPoints runs (go (nat_lt 0 (occurrences (c.Digits z.Nothing) runs)) refl)
  where
    go : (b : Bool) → nat_lt 0 (occurrences (c.Digits z.Nothing) runs) ≡ b
        → occurrences (c.Suppressed by) (from_first c.NinesAndPoints runs) < occurrences (c.Suppressed by) runs
    go true e = let none = none_after by runs e h.arranged in let before = h.before_point in omega arith
    go false e =
        let none : occurrences (c.Digits z.Nothing) runs ≡ 0 = grind (arith, nat_tests) in
        let same = ap (occurrences (c.Suppressed by)) (points_first runs counted none) in
        let before = h.before_point in omega arith

-- ---- the laws

stretched : (by : Suppression) (runs : List Run) → Counted runs → 1 ≤ least_count by → IsEdited by runs
    → IsStretch (Some (region_from by runs)) (each_place by runs)
unfolding region_from
stretched by runs counted some h =
    let first = begins_first by runs counted some h in
    let all = length-each by runs in
    let front = front_of c.NinesAndPoints runs in
    let ends = begin_is by c.NinesAndPoints runs in
    let none = none_point by front.front front.none in
    let same = ap (each_place by) front.is ∙ each_append by front.front (from_first c.NinesAndPoints runs) in (
      omega arith,
      omega arith,
      λ at from to. ap (λ l. is_point_place (slice_index_or l at p.Digit)) same
          ∙ ap is_point_place (get_or_append_left (each_place by front.front)
          (each_place by (from_first c.NinesAndPoints runs)) p.Digit at (omega arith))
          ∙ none_at is_point_place (each_place by front.front) at p.Digit none refl,
    )

record Marked (by : Suppression) (runs : List Run) : Type 0 where
  front : List Place
  back : List Place
  places : each_place by runs ≡ front ++ p.Floating ∷ back
  begin : (region_from by runs).begin ≡ length front

repeats : (n : ℕ) (places : List Place) → 1 ≤ n → repeated_places n places ≡ places ++ repeated_places (n - 1) places
unfolding repeated_places
repeats zero places h = absurd (omega arith)
repeats (suc n) places h = ap (λ m. places ++ repeated_places m places) (let e : n ≡ suc n - 1 = omega arith in e)

floating_run : (by : Suppression) (x : Symbol) → is_floating by ≡ true → class_has (c.Suppressed by) x ≡ true
    → symbol_places by x ≡ p.Floating ∷ []
unfolding floats
floating_run by x f h = one_floating (symbol_places by x) (implied (is_floating by && class_has (c.Suppressed by) x)
    (is_one_floating (symbol_places by x)) (every_floats by x) (both_true f h))

marked_at : (by : Suppression) (runs : List Run) → Counted runs → is_floating by ≡ true
    → 1 ≤ occurrences (c.Suppressed by) runs → Marked by runs
unfolding region_from each_place
marked_at by runs counted f some =
    let front = front_of (c.Suppressed by) runs in
    let begins = begin_is by (c.Suppressed by) runs in
    let s = starts (c.Suppressed by) runs some in
    let is : runs ≡ front.front ++ s.run ∷ s.more = front.is ∙ ap (λ l. front.front ++ l) s.is in
    let one = (counted_append front.front (s.run ∷ s.more) (subst Counted is counted)).0 in
    let shows = floating_run by s.run.symbol f s.first in
    let first : each_place by (s.run ∷ s.more)
    ≡ p.Floating ∷ (repeated_places (s.run.count - 1) (symbol_places by s.run.symbol) ++ each_place by s.more) =
    ap (λ l. l ++ each_place by s.more) (repeats s.run.count (symbol_places by s.run.symbol) one
    ∙ ap (λ l. l ++ repeated_places (s.run.count - 1) (symbol_places by s.run.symbol)) shows) in
    record {
      front = each_place by front.front;
      back = repeated_places (s.run.count - 1) (symbol_places by s.run.symbol) ++ each_place by s.more;
      places = ap (each_place by) is ∙ each_append by front.front (s.run ∷ s.more)
          ∙ ap (λ l. each_place by front.front ++ l) first;
      begin = begins;
    }

none_front : (test : Place → Bool) (front back : List Place) → no_place test (front ++ back) ≡ true
    → (no_place test front ≡ true) × (no_place test back ≡ true)
none_front test [] back h = (refl, h)
none_front test (place ∷ front) back h =
    let s = split (not (test place)) (no_place test (front ++ back)) h in let r =
    none_front test front back s.1 in (both_true s.0 r.0, r.1)

tail_none : (back : List Place) → no_place is_first_floating (p.Floating ∷ back) ≡ true
    → no_place is_first_floating back ≡ true
tail_none back e = e

behind_first : (back : List Place) (n : ℕ) → no_place is_first_floating back ≡ true → 1 ≤ n
    → is_first_floating (slice_index_or (p.FirstFloating ∷ back) n p.Digit) ≡ false
behind_first back zero b h = absurd (omega arith)
behind_first back (suc n) b h = none_at is_first_floating back n p.Digit b refl

first_at : (front back : List Place) (at : ℕ) → no_place is_first_floating front ≡ true
    → no_place is_first_floating back ≡ true
    → is_first_floating (slice_index_or (front ++ p.FirstFloating ∷ back) at p.Digit) ≡ (at == length front)
first_at front back at f b = go (nat_lt at (length front)) refl (at == length front) refl
  where
    go : (before : Bool) → nat_lt at (length front) ≡ before → (here : Bool) → (at == length front) ≡ here
        → is_first_floating (slice_index_or (front ++ p.FirstFloating ∷ back) at p.Digit) ≡ here
    go true e true h = let less : at < length front = grind (arith, nat_tests) in let same : at ≡ length front =
        grind (arith, nat_tests) in absurd (omega arith)
    go true e false h =
        let less : at < length front = grind (arith, nat_tests) in
        ap is_first_floating (get_or_append_left front (p.FirstFloating ∷ back) p.Digit at less)
        ∙ none_at is_first_floating front at p.Digit f refl
    go false e true h =
        let same : at ≡ length front = grind (arith, nat_tests) in
        ap (λ n. is_first_floating (slice_index_or (front ++ p.FirstFloating ∷ back) n p.Digit)) same
        ∙ ap is_first_floating (get_or-append_seam front p.FirstFloating back p.Digit)
    go false e false h =
        let more : length front < at = grind (arith, nat_tests) in
        ap is_first_floating (get_or-append_right front (p.FirstFloating ∷ back) at p.Digit (omega arith))
        ∙ behind_first back (at - length front) b (omega arith)

point_kept : (places : List Place) (begin at : ℕ) → is_point_place (slice_index_or places at p.Digit) ≡ false
    → is_point_place (slice_index_or (set places begin p.FirstFloating) at p.Digit) ≡ false
point_kept [] begin at h = h
point_kept (place ∷ more) zero zero h = refl
point_kept (place ∷ more) zero (suc at) h = h
point_kept (place ∷ more) (suc begin) zero h = h
point_kept (place ∷ more) (suc begin) (suc at) h = point_kept more begin at h

record Laws (places : List Place) (region : Option Region) (digits : ℕ) : Type 0 where
  numbered : digits_in places ≡ digits
  stretch : IsStretch region places
  first : (at : ℕ) → at < length places → is_first_floating (slice_index_or places at p.Digit) ≡ begins_at region at

suppressed_laws : (by : Suppression) (runs : List Run) → Counted runs → 1 ≤ least_count by → is_floating by ≡ false
    → IsEdited by runs
    → Laws (each_place by runs) (Some (region_from by runs)) (digit_places by runs)
unfolding region_from
suppressed_laws by runs counted some f h = record {
  numbered = digits_each by runs (edited_stands by runs h.arranged)
      ∙ (let e : occurrences (c.Digits by) runs ≡ occurrences (c.Digits by) runs - 0 = omega arith in e)
      ∙ ap (λ b. occurrences (c.Digits by) runs - (if b then 1 else 0)) (sym f);
  stretch = stretched by runs counted some h;
  first = λ at _. none_at is_first_floating (each_place by runs) at p.Digit (none_first by runs) refl
      ∙ sym (ap (λ b. b && (at == (size_of runs - size_of (from_first (c.Suppressed by) runs)))) f);
}

floating_laws : (by : Suppression) (runs : List Run) → Counted runs → 1 ≤ least_count by → is_floating by ≡ true
    → IsEdited by runs
    → Laws (set (each_place by runs) (region_from by runs).begin p.FirstFloating) (Some (region_from by runs))
    (digit_places by runs)
unfolding region_from digits_in
floating_laws by runs counted some f h =
    let before = h.before_point in
    let m = marked_at by runs counted f (omega arith) in
    let begin = (region_from by runs).begin in
    let is : set (each_place by runs) begin p.FirstFloating ≡ m.front ++ p.FirstFloating ∷ m.back =
    ap (λ l. set l begin p.FirstFloating) m.places
    ∙ ap (λ n. set (m.front ++ p.Floating ∷ m.back) n p.FirstFloating) m.begin
    ∙ set-append_seam m.front p.Floating m.back p.FirstFloating in
    let all = digits_each by runs (edited_stands by runs h.arranged) in
    let parts = ap digits_in m.places ∙ digits_append m.front (p.Floating ∷ m.back) in
    let marked = ap digits_in is ∙ digits_append m.front (p.FirstFloating ∷ m.back) in
    let one_less : digit_places by runs ≡ occurrences (c.Digits by) runs - 1 =
    ap (λ b. occurrences (c.Digits by) runs - (if b then 1 else 0)) f in
    let st = stretched by runs counted some h in
    let none = none_front is_first_floating m.front (p.Floating ∷ m.back)
    (ap (no_place is_first_floating) (sym m.places) ∙ none_first by runs) in
    let none_back = tail_none m.back none.1 in
    record {
      numbered = omega arith;
      stretch = (
        st.0,
        (let l = length-set (each_place by runs) begin p.FirstFloating in let e = st.1 in omega arith),
        λ at from to. point_kept (each_place by runs) begin at (st.2 at from to),
      );
      first = λ at _. ap (λ l. is_first_floating (slice_index_or l at p.Digit)) is
          ∙ first_at m.front m.back at none.0 none_back
          ∙ ap (λ n. at == n) (sym m.begin) ∙ sym (ap (λ b. b && (at == begin)) f);
    }

plain_laws : (category : Category) (runs : List Run) → Allowed (may_stand z.Nothing) runs
    → IsEditingPicture (of_digits category z.Nothing runs)
unfolding of_digits
plain_laws category runs h = record {
  numbered = digits_each z.Nothing runs h
      ∙ (let e : occurrences (c.Digits z.Nothing) runs ≡ occurrences (c.Digits z.Nothing) runs - 0 = omega arith in e);
  region = tt;
  first = λ at _. none_at is_first_floating (each_place z.Nothing runs) at p.Digit (none_first z.Nothing runs) refl;
}

edited_laws : (by : Suppression) (runs : List Run) → Counted runs → IsEdited by runs
    → IsEditingPicture (of_digits k.NumericEdited by runs)
unfolding of_digits region_from
edited_laws z.Nothing runs counted h = plain_laws k.NumericEdited runs (edited_stands z.Nothing runs h.arranged)
edited_laws z.Spaces runs counted h =
    let l = suppressed_laws z.Spaces runs counted (omega arith) refl h in
    record { numbered = l.numbered; region = l.stretch; first = l.first }
edited_laws z.Asterisks runs counted h =
    let l = suppressed_laws z.Asterisks runs counted (omega arith) refl h in
    record { numbered = l.numbered; region = l.stretch; first = l.first }
edited_laws z.FloatingCurrency runs counted h =
    let l = floating_laws z.FloatingCurrency runs counted (omega arith) refl h in
    record { numbered = l.numbered; region = l.stretch; first = l.first }
edited_laws z.FloatingPlus runs counted h =
    let l = floating_laws z.FloatingPlus runs counted (omega arith) refl h in
    record { numbered = l.numbered; region = l.stretch; first = l.first }
edited_laws z.FloatingMinus runs counted h =
    let l = floating_laws z.FloatingMinus runs counted (omega arith) refl h in
    record { numbered = l.numbered; region = l.stretch; first = l.first }

character_laws : (category : Category) (runs : List Run) → IsEditingPicture (of_characters category runs)
unfolding of_characters digits_in
character_laws category runs = record { numbered = refl; region = tt; first = λ at h. absurd (omega arith) }

form_laws : (category : Category) (runs : List Run) → Counted runs → HasForm category runs
    → IsEditingPicture (description_of category runs)
form_laws k.Alphabetic runs counted h = character_laws k.Alphabetic runs
form_laws k.Alphanumeric runs counted h = character_laws k.Alphanumeric runs
form_laws k.AlphanumericEdited runs counted h = character_laws k.AlphanumericEdited runs
form_laws k.Numeric runs counted h = plain_laws k.Numeric runs (numeric_stands z.Nothing runs h.arranged.arranged)
form_laws k.NumericEdited runs counted h = edited_laws (suppression_of runs) runs counted h.arranged

pub any_editing : (picture : Description) → IsAnyPicture picture → IsEditingPicture picture
any_editing picture (text, h) =
    let counted = fit_counted 30 picture.runs (spells_fit 30 picture.runs text (lit≤ tt) h.spelled h.short) in
    subst IsEditingPicture (sym h.told) (form_laws picture.category picture.runs counted h.form)
