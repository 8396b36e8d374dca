-- The principle that divides a picture loses none: however a picture is divided, the reader passes it.
use Rattle.std.proofs.Common.{◌≡◌, ℕ, zero, suc, Bool, true, false, not, ◌&&◌, if◌then◌else◌, nat_lt, List, [], ◌∷◌}
use Rattle.std.proofs.Common.{◌++◌, None, Some, inl, inr, refl, sym, ap, ◌∙◌, subst}
use Rattle.std.specs.Prelude.{slice_get}
use Rattle.picture.specs.declared.run.Run.{Run}
use Rattle.picture.specs.declared.class.Class.{Class}
use Rattle.picture.specs.declared.class.Class.TheVariants as c
use Rattle.picture.specs.declared.symbol.Symbol.{Symbol}
use Rattle.picture.specs.declared.symbol.Symbol.TheVariants as s
use Rattle.picture.specs.declared.symbol.Suppression.{Suppression}
use Rattle.picture.specs.declared.symbol.Suppression.TheVariants as z
use Rattle.picture.specs.Symbols.{class_has}
use Rattle.picture.specs.Runs.{runs_past, past_one, is_one, occurrences}
use Rattle.picture.specs.Forms.{Part, ◌then◌, whole_picture, Each, one, stretch, some_of, perhaps, numeric_arrangement}
use Rattle.picture.specs.Forms.{any_numeric_arrangement, arrangement, any_arrangement, decimals}
use Rattle.picture.proofs.Parts.{none_passed, passed_one}
use Rattle.picture.proofs.Forms.{numeric_steps, edited_steps}

-- ---- classes without a common symbol

Apart : Class → Class → Type 0
Apart one other = (x : Symbol) → class_has one x ≡ true → class_has other x ≡ true → ⊥

apart : Class → Class → Symbol → Bool
apart one other x = not (class_has one x && class_has other x)

abbrev every_of : {X : Type 0} → List X → (X → Bool) → Bool
every_of [] test = true
every_of (x ∷ more) test = test x && every_of more test

abbrev symbols : List Symbol
symbols =
    s.A ∷ s.X ∷ s.Nine ∷ s.S ∷ s.V ∷ s.B ∷ s.Zero ∷ s.Slash ∷ s.Comma ∷ s.Point ∷ s.Z ∷ s.Star ∷ s.Plus ∷ s.Minus
    ∷ s.Currency ∷ s.Cr ∷ s.Db ∷ []

abbrev suppressions : List Suppression
suppressions =
    z.Nothing ∷ z.Spaces ∷ z.Asterisks ∷ z.FloatingCurrency ∷ z.FloatingPlus ∷ z.FloatingMinus ∷ []

unfoldable pub every_symbol : (Symbol → Bool) → Bool
every_symbol test = every_of symbols test

unfoldable pub every_suppression : (Suppression → Bool) → Bool
every_suppression test = every_of suppressions test

left : (a b : Bool) → (a && b) ≡ true → a ≡ true
left true b e = refl
left false b e = e

right : (a b : Bool) → (a && b) ≡ true → b ≡ true
right true b e = e
right false true e = refl
right false false e = e

some_is : {X : Type 0} (x y : X) → Some x ≡ Some y → x ≡ y
some_is x y e = cc

none_is : {A X : Type 0} (x : X) → None ≡ Some x → A
none_is x e = cc

holds_at : {X : Type 0} (test : X → Bool) (all : List X) → every_of all test ≡ true → (n : ℕ) (x : X)
    → slice_get all n ≡ Some x → test x ≡ true
holds_at test [] h n x e = none_is x e
holds_at test (y ∷ all) h zero x e =
    subst (λ value. test value ≡ true) (some_is y x e) (left (test y) (every_of all test) h)
holds_at test (y ∷ all) h (suc n) x e = holds_at test all (right (test y) (every_of all test) h) n x e

pub symbol_holds : (test : Symbol → Bool) → every_symbol test ≡ true → (x : Symbol) → test x ≡ true
unfolding every_symbol
symbol_holds test h s.A = holds_at test symbols h 0 s.A refl
symbol_holds test h s.X = holds_at test symbols h 1 s.X refl
symbol_holds test h s.Nine = holds_at test symbols h 2 s.Nine refl
symbol_holds test h s.S = holds_at test symbols h 3 s.S refl
symbol_holds test h s.V = holds_at test symbols h 4 s.V refl
symbol_holds test h s.B = holds_at test symbols h 5 s.B refl
symbol_holds test h s.Zero = holds_at test symbols h 6 s.Zero refl
symbol_holds test h s.Slash = holds_at test symbols h 7 s.Slash refl
symbol_holds test h s.Comma = holds_at test symbols h 8 s.Comma refl
symbol_holds test h s.Point = holds_at test symbols h 9 s.Point refl
symbol_holds test h s.Z = holds_at test symbols h 10 s.Z refl
symbol_holds test h s.Star = holds_at test symbols h 11 s.Star refl
symbol_holds test h s.Plus = holds_at test symbols h 12 s.Plus refl
symbol_holds test h s.Minus = holds_at test symbols h 13 s.Minus refl
symbol_holds test h s.Currency = holds_at test symbols h 14 s.Currency refl
symbol_holds test h s.Cr = holds_at test symbols h 15 s.Cr refl
symbol_holds test h s.Db = holds_at test symbols h 16 s.Db refl

pub suppression_holds : (test : Suppression → Bool) → every_suppression test ≡ true → (by : Suppression)
    → test by ≡ true
unfolding every_suppression
suppression_holds test h z.Nothing = holds_at test suppressions h 0 z.Nothing refl
suppression_holds test h z.Spaces = holds_at test suppressions h 1 z.Spaces refl
suppression_holds test h z.Asterisks = holds_at test suppressions h 2 z.Asterisks refl
suppression_holds test h z.FloatingCurrency = holds_at test suppressions h 3 z.FloatingCurrency refl
suppression_holds test h z.FloatingPlus = holds_at test suppressions h 4 z.FloatingPlus refl
suppression_holds test h z.FloatingMinus = holds_at test suppressions h 5 z.FloatingMinus refl

both : (a b : Bool) → not (a && b) ≡ true → a ≡ true → b ≡ true → ⊥
both true true e f g = cc
both true false e f g = cc
both false b e f g = cc

are_apart : (one other : Class) → every_symbol (apart one other) ≡ true → Apart one other
unfolding apart Apart
are_apart one other h = λ x. both (class_has one x) (class_has other x) (symbol_holds (apart one other) h x)

-- whatever suppresses zeros
always_apart : (one other : Suppression → Class)
    → every_suppression (λ by. every_symbol (apart (one by) (other by))) ≡ true
    → (by : Suppression) → Apart (one by) (other by)
always_apart one other h by =
    are_apart (one by) (other by) (suppression_holds (λ by. every_symbol (apart (one by) (other by))) h by)

nines_end : (by : Suppression) → Apart c.NinesAndInsertions (c.TrailingSign by)
unfolding every_suppression every_symbol apart class_has
nines_end = always_apart (λ _. c.NinesAndInsertions) c.TrailingSign refl

zeros_end : (by : Suppression) → Apart (c.SuppressedAndInsertions by) (c.TrailingSign by)
unfolding every_suppression every_symbol apart class_has
zeros_end = always_apart c.SuppressedAndInsertions c.TrailingSign refl

nines_point : (by : Suppression) → Apart c.NinesAndInsertions c.Points
unfolding every_suppression every_symbol apart class_has
nines_point = always_apart (λ _. c.NinesAndInsertions) (λ _. c.Points) refl

zeros_point : (by : Suppression) → Apart (c.SuppressedAndInsertions by) c.Points
unfolding every_suppression every_symbol apart class_has
zeros_point = always_apart c.SuppressedAndInsertions (λ _. c.Points) refl

point_end : (by : Suppression) → Apart c.Points (c.TrailingSign by)
unfolding every_suppression every_symbol apart class_has
point_end = always_apart (λ _. c.Points) c.TrailingSign refl

currency_zeros : (by : Suppression) → Apart (c.FixedCurrency by) (c.SuppressedAndInsertions by)
unfolding every_suppression every_symbol apart class_has
currency_zeros = always_apart c.FixedCurrency c.SuppressedAndInsertions refl

currency_nines : (by : Suppression) → Apart (c.FixedCurrency by) c.NinesAndInsertions
unfolding every_suppression every_symbol apart class_has
currency_nines = always_apart c.FixedCurrency (λ _. c.NinesAndInsertions) refl

currency_point : (by : Suppression) → Apart (c.FixedCurrency by) c.Points
unfolding every_suppression every_symbol apart class_has
currency_point = always_apart c.FixedCurrency (λ _. c.Points) refl

currency_end : (by : Suppression) → Apart (c.FixedCurrency by) (c.TrailingSign by)
unfolding every_suppression every_symbol apart class_has
currency_end = always_apart c.FixedCurrency c.TrailingSign refl

sign_currency : (by : Suppression) → Apart (c.LeadingSign by) (c.FixedCurrency by)
unfolding every_suppression every_symbol apart class_has
sign_currency = always_apart c.LeadingSign c.FixedCurrency refl

sign_zeros : (by : Suppression) → Apart (c.LeadingSign by) (c.SuppressedAndInsertions by)
unfolding every_suppression every_symbol apart class_has
sign_zeros = always_apart c.LeadingSign c.SuppressedAndInsertions refl

sign_nines : (by : Suppression) → Apart (c.LeadingSign by) c.NinesAndInsertions
unfolding every_suppression every_symbol apart class_has
sign_nines = always_apart c.LeadingSign (λ _. c.NinesAndInsertions) refl

sign_point : (by : Suppression) → Apart (c.LeadingSign by) c.Points
unfolding every_suppression every_symbol apart class_has
sign_point = always_apart c.LeadingSign (λ _. c.Points) refl

swap : (one other : Class) → Apart one other → Apart other one
unfolding Apart
swap one other h = λ x e f. h x f e

-- decimals are nines or suppressed places, and insertions
decimals_apart : (by : Suppression) (runs : List Run) (other : Class) → Apart c.NinesAndInsertions other
    → Apart (c.SuppressedAndInsertions by) other → Apart (decimals by runs) other
decimals_apart by runs other nines zeros = go (nat_lt 0 (occurrences (c.Digits z.Nothing) runs))
  where
    go : (b : Bool) → Apart (if b then c.NinesAndInsertions else c.SuppressedAndInsertions by) other
    go true = nines
    go false = zeros

-- ---- what passing leaves of a part

-- whatever is passed of the class, what is left can still be the part up to the end
Closed : Class → Part → Type 0
Closed class p = (runs : List Run) → p runs [] → p (runs_past class runs) []

past_it : (class : Class) (run : Run) (more : List Run) → class_has class run.symbol ≡ true
    → runs_past class (run ∷ more) ≡ runs_past class more
unfolding runs_past
past_it class run more h = rw h refl

past_stops : (class : Class) (run : Run) (more : List Run) → class_has class run.symbol ≡ false
    → runs_past class (run ∷ more) ≡ run ∷ more
unfolding runs_past
past_stops class run more h = rw h refl

past_nothing : (class : Class) → runs_past class [] ≡ []
unfolding runs_past
past_nothing class = refl

not_in : (a : Bool) → (a ≡ true → ⊥) → a ≡ false
not_in true h = absurd (h refl)
not_in false h = refl

one_in : (a b : Bool) → (a && b) ≡ true → a ≡ true
one_in true b e = refl
one_in false b e = e

in_class : (class : Class) (run : Run) → is_one class run ≡ true → class_has class run.symbol ≡ true
in_class class run h = one_in (class_has class run.symbol) _ h

stays : (class other : Class) → Apart class other → (run : Run) (more : List Run) → is_one other run ≡ true
    → runs_past class (run ∷ more) ≡ run ∷ more
unfolding Apart
stays class other separate run more h =
    past_stops class run more (not_in (class_has class run.symbol) (λ e. separate run.symbol e (in_class other run h)))

closed_stretch : (class other : Class) (q : Part) → Closed class q → Closed class (some_of other then q)
unfolding Closed
closed_stretch class other q closed runs (middle, (front, e, each), h) =
    subst (λ l. (some_of other then q) (runs_past class l) []) (sym e) (go front each)
  where
    in_or_out : (run : Run) (front : List Run) → Each other (run ∷ front)
        → (some_of other then q) (runs_past class (front ++ middle)) []
        → (b : Bool) → class_has class run.symbol ≡ b
        → (some_of other then q) (runs_past class (run ∷ (front ++ middle))) []
    in_or_out run front each after true e =
        subst (λ l. (some_of other then q) l []) (sym (past_it class run (front ++ middle) e)) after
    in_or_out run front each after false e = subst (λ l. (some_of other then q) l [])
        (sym (past_stops class run (front ++ middle) e)) (middle, (run ∷ front, refl, each), h)

    go : (front : List Run) → Each other front → (some_of other then q) (runs_past class (front ++ middle)) []
    go [] each = (runs_past class middle, ([], refl, tt), closed middle h)
    go (run ∷ front) each = in_or_out run front each (go front each.1) (class_has class run.symbol) refl

closed_perhaps : (class other : Class) (q : Part) → Apart class other → Closed class q
    → Closed class (perhaps other then q)
unfolding Closed
closed_perhaps class other q separate closed runs (middle, inl (run, e, is), h) =
    subst (λ l. (perhaps other then q) l []) (sym (ap (runs_past class) e ∙ stays class other separate run middle is))
    (middle, (inl (run, refl, is)), h)
closed_perhaps class other q separate closed runs (middle, inr e, h) =
    (runs_past class runs, inr refl, closed runs (subst (λ l. q l []) (sym e) h))

closed_end : (class other : Class) → Apart class other → Closed class (perhaps other)
unfolding Closed
closed_end class other separate runs (inl (run, e, is)) =
    subst (λ l. perhaps other l []) (sym (ap (runs_past class) e ∙ stays class other separate run [] is))
    (inl (run, refl, is))
closed_end class other separate runs (inr e) = inr (ap (runs_past class) e ∙ past_nothing class)

-- ---- what the reader passes of each part

-- however the part is divided, the reader comes to the end
Passes : Part → (List Run → List Run) → Type 0
Passes p pass = (runs : List Run) → p runs [] → pass runs ≡ []

past_front : (class : Class) (front rest : List Run) → Each class front
    → runs_past class (front ++ rest) ≡ runs_past class rest
past_front class [] rest each = refl
past_front class (run ∷ front) rest each = past_it class run (front ++ rest) each.0 ∙ past_front class front rest each.1

passes_stretch : (class : Class) (q : Part) (pass : List Run → List Run) → Closed class q → Passes q pass
    → Passes (some_of class then q) (λ runs. pass (runs_past class runs))
unfolding Closed Passes
passes_stretch class q pass closed passes runs (middle, (front, e, each), h) =
    ap (λ l. pass (runs_past class l)) e ∙ ap pass (past_front class front middle each)
    ∙ passes (runs_past class middle) (closed middle h)

-- a part that begins with one symbol of the class may only be that symbol
Avoids : Class → Part → (List Run → List Run) → Type 0
Avoids class q pass = (run : Run) (more : List Run) → is_one class run ≡ true → q (run ∷ more) [] → pass more ≡ []

passes_perhaps : (class : Class) (q : Part) (pass : List Run → List Run) → Avoids class q pass → Passes q pass
    → Passes (perhaps class then q) (λ runs. pass (past_one class runs))
unfolding Avoids Passes
passes_perhaps class q pass avoids passes runs (middle, inl (run, e, is), h) =
    ap (λ l. pass (past_one class l)) e ∙ ap pass (passed_one class run middle is) ∙ passes middle h
passes_perhaps class q pass avoids passes runs (middle, inr e, h) = go runs (subst (λ l. q l []) (sym e) h)
  where
    inner : (run : Run) (more : List Run) (b : Bool) → is_one class run ≡ b → q (run ∷ more) []
        → pass (past_one class (run ∷ more)) ≡ []
    inner run more true is h = ap pass (passed_one class run more is) ∙ avoids run more is h
    inner run more false is h = ap pass (none_passed class (run ∷ more) is) ∙ passes (run ∷ more) h

    go : (runs : List Run) → q runs [] → pass (past_one class runs) ≡ []
    go [] h = ap pass (none_passed class [] refl) ∙ passes [] h
    go (run ∷ more) h = inner run more (is_one class run) refl h

passes_end : (class : Class) → Passes (perhaps class) (past_one class)
unfolding Passes
passes_end class runs (inl (run, e, is)) = ap (past_one class) e ∙ passed_one class run [] is
passes_end class runs (inr e) = ap (past_one class) e ∙ none_passed class [] refl

avoids_stretch : (class other : Class) (q : Part) (pass : List Run → List Run) → Apart class other → Avoids class q pass
    → Avoids class (some_of other then q) pass
unfolding Avoids Apart
avoids_stretch class other q pass separate avoids run more is (middle, ([], e, each), h) =
    avoids run more is (subst (λ l. q l []) (sym e) h)
avoids_stretch class other q pass separate avoids run more is (middle, (first ∷ front, e, each), h) =
    let same : run ≡ first = cc in
    absurd (separate run.symbol (in_class class run is) (ap (λ r. class_has other r.symbol) same ∙ each.0))

avoids_perhaps : (class other : Class) (q : Part) (pass : List Run → List Run) → Apart class other → Avoids class q pass
    → Avoids class (perhaps other then q) pass
unfolding Avoids Apart
avoids_perhaps class other q pass separate avoids run more is (middle, inr e, h) =
    avoids run more is (subst (λ l. q l []) (sym e) h)
avoids_perhaps class other q pass separate avoids run more is (middle, inl (first, e, one_is), h) =
    let same : run ≡ first = cc in
    absurd (separate run.symbol (in_class class run is) (ap (λ r. class_has other r.symbol) same
    ∙ in_class other first one_is))

avoids_end : (class other : Class) (pass : List Run → List Run) → Apart class other → Avoids class (perhaps other) pass
unfolding Avoids Apart
avoids_end class other pass separate run more is (inr e) = cc
avoids_end class other pass separate run more is (inl (first, e, one_is)) =
    let same : run ≡ first = cc in
    absurd (separate run.symbol (in_class class run is) (ap (λ r. class_has other r.symbol) same
    ∙ in_class other first one_is))

-- a sign in front may be the sign at the end, where nothing else stands
sign_at_end : (class other : Class) (pass : List Run → List Run) → pass [] ≡ [] → Avoids class (perhaps other) pass
unfolding Avoids
sign_at_end class other pass none run more is (inr e) = cc
sign_at_end class other pass none run more is (inl (first, e, one_is)) = let same : more ≡ [] =
    cc in ap pass same ∙ none

nothing_passed : (class : Class) → past_one class [] ≡ []
nothing_passed class = none_passed class [] refl

-- ---- pictures of characters, which are one stretch

-- However such a picture is divided, the principle divides it too.
pub characters_divide : (class : Class) (runs : List Run) → whole_picture (some_of class) runs
    → whole_picture (stretch class) runs
characters_divide class runs (front, e, each) = (front, e, each, refl)

-- ---- the numeric picture

digits_point : Apart (c.Digits z.Nothing) c.AssumedPoint
unfolding every_symbol apart class_has
digits_point = are_apart (c.Digits z.Nothing) c.AssumedPoint refl

sign_digits : Apart c.OperationalSign (c.Digits z.Nothing)
unfolding every_symbol apart class_has
sign_digits = are_apart c.OperationalSign (c.Digits z.Nothing) refl

sign_assumed : Apart c.OperationalSign c.AssumedPoint
unfolding every_symbol apart class_has
sign_assumed = are_apart c.OperationalSign c.AssumedPoint refl

point_digits : Apart c.AssumedPoint (c.Digits z.Nothing)
point_digits = swap (c.Digits z.Nothing) c.AssumedPoint digits_point

closed_last : (class other : Class) → Closed class (some_of other)
unfolding Closed
closed_last class other runs (front, e, each) =
    subst (λ l. some_of other (runs_past class l) []) (sym e) (go front each)
  where
    in_or_out : (run : Run) (front : List Run) → Each other (run ∷ front)
        → some_of other (runs_past class (front ++ [])) []
        → (b : Bool) → class_has class run.symbol ≡ b → some_of other (runs_past class (run ∷ (front ++ []))) []
    in_or_out run front each after true is =
        subst (λ l. some_of other l []) (sym (past_it class run (front ++ []) is)) after
    in_or_out run front each after false is =
        subst (λ l. some_of other l []) (sym (past_stops class run (front ++ []) is)) (run ∷ front, refl, each)

    go : (front : List Run) → Each other front → some_of other (runs_past class (front ++ [])) []
    go [] each = ([], past_nothing class, tt)
    go (run ∷ front) each = in_or_out run front each (go front each.1) (class_has class run.symbol) refl

passes_last : (class : Class) → Passes (some_of class) (runs_past class)
unfolding Passes
passes_last class runs (front, e, each) = ap (runs_past class) e ∙ past_front class front [] each ∙ past_nothing class

avoids_last : (class other : Class) (pass : List Run → List Run) → Apart class other → Avoids class (some_of other) pass
unfolding Avoids Apart
avoids_last class other pass separate run more is ([], e, each) = cc
avoids_last class other pass separate run more is (first ∷ front, e, each) =
    let same : run ≡ first = cc in
    absurd (separate run.symbol (in_class class run is) (ap (λ r. class_has other r.symbol) same ∙ each.0))

abbrev nines : Class
nines = c.Digits z.Nothing

pass_decimals : Passes (perhaps c.AssumedPoint then some_of nines) (λ r. runs_past nines (past_one c.AssumedPoint r))
pass_decimals = passes_perhaps c.AssumedPoint (some_of nines) (runs_past nines)
    (avoids_last c.AssumedPoint nines (runs_past nines) point_digits) (passes_last nines)

pass_nines : Passes (some_of nines then perhaps c.AssumedPoint then some_of nines)
    (λ r. runs_past nines (past_one c.AssumedPoint (runs_past nines r)))
pass_nines =
    passes_stretch nines (perhaps c.AssumedPoint then some_of nines) (λ r. runs_past nines (past_one c.AssumedPoint r))
    (closed_perhaps nines c.AssumedPoint (some_of nines) digits_point (closed_last nines nines)) pass_decimals

pass_numeric : Passes any_numeric_arrangement
    (λ r. runs_past nines (past_one c.AssumedPoint (runs_past nines (past_one c.OperationalSign r))))
pass_numeric =
    let pass : List Run → List Run = λ r. runs_past nines (past_one c.AssumedPoint (runs_past nines r)) in
    passes_perhaps c.OperationalSign (some_of nines then perhaps c.AssumedPoint then some_of nines) pass
    (avoids_stretch c.OperationalSign nines (perhaps c.AssumedPoint then some_of nines) pass sign_digits
    (avoids_perhaps c.OperationalSign c.AssumedPoint (some_of nines) pass sign_assumed
    (avoids_last c.OperationalSign nines pass sign_digits)))
    pass_nines

-- However a numeric picture is divided into its parts, the principle divides it too.
pub numeric_divides : (runs : List Run) → whole_picture any_numeric_arrangement runs
    → whole_picture numeric_arrangement runs
unfolding Passes
numeric_divides runs h = subst (numeric_arrangement runs) (pass_numeric runs h) (numeric_steps.does runs)

-- ---- the numeric edited picture

module _ (by : Suppression) (runs : List Run) where
  d_end : Apart (decimals by runs) (c.TrailingSign by)
  d_end = decimals_apart by runs (c.TrailingSign by) (nines_end by) (zeros_end by)

  pass6 : Passes (perhaps (c.TrailingSign by)) (past_one (c.TrailingSign by))
  pass6 = passes_end (c.TrailingSign by)

  pass5 : Passes (some_of (decimals by runs) then perhaps (c.TrailingSign by))
      (λ r. past_one (c.TrailingSign by) (runs_past (decimals by runs) r))
  pass5 = passes_stretch (decimals by runs) (perhaps (c.TrailingSign by)) (past_one (c.TrailingSign by))
      (closed_end (decimals by runs) (c.TrailingSign by) d_end) pass6

  closed5 : (class : Class) → Apart class (c.TrailingSign by)
      → Closed class (some_of (decimals by runs) then perhaps (c.TrailingSign by))
  closed5 = λ class separate. closed_stretch class (decimals by runs) (perhaps (c.TrailingSign by))
      (closed_end class (c.TrailingSign by) separate)

  closed4 : (class : Class) → Apart class c.Points → Apart class (c.TrailingSign by)
      → Closed class (perhaps c.Points then some_of (decimals by runs) then perhaps (c.TrailingSign by))
  closed4 = λ class point end. closed_perhaps class c.Points
      (some_of (decimals by runs) then perhaps (c.TrailingSign by)) point (closed5 class end)

  closed3 : (class : Class) → Apart class c.Points → Apart class (c.TrailingSign by)
      → Closed class (some_of c.NinesAndInsertions then perhaps c.Points then some_of (decimals by runs)
      then perhaps (c.TrailingSign by))
  closed3 = λ class point end. closed_stretch class c.NinesAndInsertions
      (perhaps c.Points then some_of (decimals by runs) then perhaps (c.TrailingSign by)) (closed4 class point end)

  avoid5 : (class : Class) (pass : List Run → List Run)
      → Apart class (decimals by runs) → Avoids class (perhaps (c.TrailingSign by)) pass
      → Avoids class (some_of (decimals by runs) then perhaps (c.TrailingSign by)) pass
  avoid5 =
      λ class pass digits end. avoids_stretch class (decimals by runs) (perhaps (c.TrailingSign by)) pass digits end

  pass4 : Passes (perhaps c.Points then some_of (decimals by runs) then perhaps (c.TrailingSign by))
      (λ r. past_one (c.TrailingSign by) (runs_past (decimals by runs) (past_one c.Points r)))
  pass4 = passes_perhaps c.Points (some_of (decimals by runs) then perhaps (c.TrailingSign by))
      (λ r. past_one (c.TrailingSign by) (runs_past (decimals by runs) r))
      (avoid5 c.Points (λ r. past_one (c.TrailingSign by) (runs_past (decimals by runs) r)) (swap (decimals by runs)
      c.Points (decimals_apart by runs c.Points (nines_point by) (zeros_point by))) (avoids_end c.Points
      (c.TrailingSign by) (λ r. past_one (c.TrailingSign by) (runs_past (decimals by runs) r)) (point_end by))) pass5

  pass3 : Passes (some_of c.NinesAndInsertions then perhaps c.Points
      then some_of (decimals by runs) then perhaps (c.TrailingSign by)) (λ r. past_one (c.TrailingSign by)
      (runs_past (decimals by runs) (past_one c.Points (runs_past c.NinesAndInsertions r))))
  pass3 = passes_stretch c.NinesAndInsertions (perhaps c.Points then some_of (decimals by runs) then perhaps
      (c.TrailingSign by)) (λ r. past_one (c.TrailingSign by) (runs_past (decimals by runs) (past_one c.Points r)))
      (closed4 c.NinesAndInsertions (nines_point by) (nines_end by)) pass4

  pass2 : Passes (some_of (c.SuppressedAndInsertions by) then some_of c.NinesAndInsertions
      then perhaps c.Points then some_of (decimals by runs) then perhaps (c.TrailingSign by))
      (λ r. past_one (c.TrailingSign by) (runs_past (decimals by runs)
      (past_one c.Points (runs_past c.NinesAndInsertions (runs_past (c.SuppressedAndInsertions by) r)))))
  pass2 = passes_stretch (c.SuppressedAndInsertions by) (some_of c.NinesAndInsertions
      then perhaps c.Points then some_of (decimals by runs) then perhaps (c.TrailingSign by)) (λ r. past_one
      (c.TrailingSign by) (runs_past (decimals by runs) (past_one c.Points (runs_past c.NinesAndInsertions r))))
      (closed3 (c.SuppressedAndInsertions by) (zeros_point by) (zeros_end by)) pass3

  avoid2 : (class : Class) (pass : List Run → List Run) → Apart class (c.SuppressedAndInsertions by)
      → Apart class c.NinesAndInsertions → Apart class c.Points → Avoids class (perhaps (c.TrailingSign by)) pass
      → Avoids class (some_of (c.SuppressedAndInsertions by) then some_of c.NinesAndInsertions then perhaps c.Points
      then some_of (decimals by runs) then perhaps (c.TrailingSign by)) pass
  avoid2 = λ class pass zeros nines point end. avoids_stretch class (c.SuppressedAndInsertions by) (some_of
      c.NinesAndInsertions then perhaps c.Points then some_of (decimals by runs) then perhaps (c.TrailingSign by))
      pass zeros (avoids_stretch class c.NinesAndInsertions (perhaps c.Points then some_of (decimals by runs)
      then perhaps (c.TrailingSign by)) pass nines (avoids_perhaps class c.Points (some_of (decimals by runs)
      then perhaps (c.TrailingSign by)) pass point (avoid5 class pass (swap (decimals by runs) class (decimals_apart by
      runs class (swap class c.NinesAndInsertions nines) (swap class (c.SuppressedAndInsertions by) zeros))) end)))

  pass1 : Passes (perhaps (c.FixedCurrency by) then some_of (c.SuppressedAndInsertions by) then some_of
      c.NinesAndInsertions then perhaps c.Points then some_of (decimals by runs) then perhaps (c.TrailingSign by))
      (λ r. past_one (c.TrailingSign by) (runs_past (decimals by runs) (past_one c.Points
      (runs_past c.NinesAndInsertions (runs_past (c.SuppressedAndInsertions by) (past_one (c.FixedCurrency by) r))))))
  pass1 = passes_perhaps (c.FixedCurrency by) (some_of (c.SuppressedAndInsertions by) then some_of c.NinesAndInsertions
      then perhaps c.Points then some_of (decimals by runs) then perhaps (c.TrailingSign by))
      (λ r. past_one (c.TrailingSign by) (runs_past (decimals by runs)
      (past_one c.Points (runs_past c.NinesAndInsertions (runs_past (c.SuppressedAndInsertions by) r)))))
      (avoid2 (c.FixedCurrency by) (λ r. past_one (c.TrailingSign by) (runs_past (decimals by runs)
      (past_one c.Points (runs_past c.NinesAndInsertions (runs_past (c.SuppressedAndInsertions by) r)))))
      (currency_zeros by) (currency_nines by) (currency_point by) (avoids_end (c.FixedCurrency by)
      (c.TrailingSign by) (λ r. past_one (c.TrailingSign by) (runs_past (decimals by runs) (past_one c.Points
      (runs_past c.NinesAndInsertions (runs_past (c.SuppressedAndInsertions by) r))))) (currency_end by))) pass2

  none_left : past_one (c.TrailingSign by) (runs_past (decimals by runs) (past_one c.Points (runs_past
      c.NinesAndInsertions (runs_past (c.SuppressedAndInsertions by) (past_one (c.FixedCurrency by) []))))) ≡ []
  none_left = ap (λ r. past_one (c.TrailingSign by) (runs_past (decimals by runs)
      (past_one c.Points (runs_past c.NinesAndInsertions (runs_past (c.SuppressedAndInsertions by) r)))))
      (nothing_passed (c.FixedCurrency by)) ∙ ap (λ r. past_one (c.TrailingSign by) (runs_past (decimals by runs)
      (past_one c.Points (runs_past c.NinesAndInsertions r)))) (past_nothing (c.SuppressedAndInsertions by))
      ∙ ap (λ r. past_one (c.TrailingSign by) (runs_past (decimals by runs) (past_one c.Points r)))
      (past_nothing c.NinesAndInsertions)
      ∙ ap (λ r. past_one (c.TrailingSign by) (runs_past (decimals by runs) r)) (nothing_passed c.Points)
      ∙ ap (past_one (c.TrailingSign by)) (past_nothing (decimals by runs)) ∙ nothing_passed (c.TrailingSign by)

  pass0 : Passes (any_arrangement by runs) (λ r.
      past_one (c.TrailingSign by) (runs_past (decimals by runs) (past_one c.Points (runs_past c.NinesAndInsertions
      (runs_past (c.SuppressedAndInsertions by) (past_one (c.FixedCurrency by) (past_one (c.LeadingSign by) r)))))))
  pass0 = passes_perhaps (c.LeadingSign by) (perhaps (c.FixedCurrency by) then some_of (c.SuppressedAndInsertions by)
      then some_of c.NinesAndInsertions then perhaps c.Points then some_of (decimals by runs) then perhaps
      (c.TrailingSign by)) (λ r. past_one (c.TrailingSign by) (runs_past (decimals by runs) (past_one c.Points
      (runs_past c.NinesAndInsertions (runs_past (c.SuppressedAndInsertions by) (past_one (c.FixedCurrency by) r))))))
      (avoids_perhaps (c.LeadingSign by) (c.FixedCurrency by) (some_of (c.SuppressedAndInsertions by) then some_of
      c.NinesAndInsertions then perhaps c.Points then some_of (decimals by runs) then perhaps (c.TrailingSign by)) (λ r.
      past_one (c.TrailingSign by) (runs_past (decimals by runs) (past_one c.Points (runs_past c.NinesAndInsertions
      (runs_past (c.SuppressedAndInsertions by) (past_one (c.FixedCurrency by) r)))))) (sign_currency by)
      (avoid2 (c.LeadingSign by) (λ r. past_one (c.TrailingSign by) (runs_past (decimals by runs) (past_one c.Points
      (runs_past c.NinesAndInsertions (runs_past (c.SuppressedAndInsertions by) (past_one (c.FixedCurrency by) r))))))
      (sign_zeros by) (sign_nines by) (sign_point by) (sign_at_end (c.LeadingSign by) (c.TrailingSign by) (λ r.
      past_one (c.TrailingSign by) (runs_past (decimals by runs) (past_one c.Points (runs_past c.NinesAndInsertions
      (runs_past (c.SuppressedAndInsertions by) (past_one (c.FixedCurrency by) r)))))) none_left))) pass1

-- However an edited picture is divided into its parts, the principle divides it too.
pub edited_divides : (by : Suppression) (runs : List Run) → whole_picture (any_arrangement by runs) runs
    → whole_picture (arrangement by runs) runs
unfolding Passes
edited_divides by runs h =
    let steps = edited_steps by runs in
    subst (arrangement by runs runs) (pass0 by runs runs h) (steps.does runs)
