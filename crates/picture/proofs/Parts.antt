-- Each part of a picture is what the reader passes, and nothing else.
use Rattle.std.proofs.Common.{◌≡◌, Bool, true, false, if◌then◌else◌, List, [], ◌∷◌, ◌++◌, inl, inr, refl, ap, ◌∙◌}
use Rattle.picture.specs.declared.run.Run.{Run}
use Rattle.picture.specs.declared.class.Class.{Class}
use Rattle.picture.specs.Symbols.{class_has}
use Rattle.picture.specs.Runs.{runs_past, past_one, is_one}
use Rattle.picture.specs.Forms.{Part, ◌then◌, begins_with_run, is_in_class, Each, stretch, optional}

pub record Steps (p : Part) (pass : List Run → List Run) : Type 0 where
  -- what is passed is the part
  pub does : (from : List Run) → p from (pass from)
  -- the part is what is passed
  pub only : (from rest : List Run) → p from rest → pass from ≡ rest

pub steps_then : {p q : Part} {f g : List Run → List Run} → Steps p f → Steps q g
    → Steps (p then q) (λ runs. g (f runs))
steps_then {f = f} {g = g} first second = record {
  does = λ from. (f from, first.does from, second.does (f from));
  only = λ from rest h. ap g (first.only from h.0 h.1) ∙ second.only h.0 rest h.2;
}

-- ---- stretches

past_stretch : (class : Class) (runs : List Run) → stretch class runs (runs_past class runs)
unfolding runs_past
past_stretch class [] = ([], refl, tt, refl)
past_stretch class (run ∷ more) = go (class_has class run.symbol) refl (past_stretch class more)
  where
    go : (b : Bool) → class_has class run.symbol ≡ b → stretch class more (runs_past class more)
        → stretch class (run ∷ more) (if b then runs_past class more else run ∷ more)
    go true e h = (run ∷ h.0, ap (λ l. run ∷ l) h.1, (e, h.2), h.3)
    go false e h = ([], refl, tt, e)

past_rest : (class : Class) (rest : List Run) → begins_with_run (is_in_class class) rest ≡ false
    → runs_past class rest ≡ rest
unfolding runs_past
past_rest class [] h = refl
past_rest class (run ∷ more) h = rw h refl

past_front : (class : Class) (front rest : List Run) → Each class front
    → begins_with_run (is_in_class class) rest ≡ false → runs_past class (front ++ rest) ≡ rest
unfolding runs_past
past_front class [] rest each stops = past_rest class rest stops
past_front class (run ∷ front) rest each stops = rw each.0 (past_front class front rest each.1 stops)

pub steps_stretch : (class : Class) → Steps (stretch class) (runs_past class)
steps_stretch class = record {
  does = past_stretch class;
  only = λ from rest h. ap (runs_past class) h.1 ∙ past_front class h.0 rest h.2 h.3;
}

-- ---- optional symbols

one_passed : (class : Class) (runs : List Run) → optional class runs (past_one class runs)
unfolding past_one
one_passed class [] = inr (refl, refl)
one_passed class (run ∷ more) = go (is_one class run) refl
  where
    go : (b : Bool) → is_one class run ≡ b → optional class (run ∷ more) (if b then more else run ∷ more)
    go true e = inl (run, refl, e)
    go false e = inr (refl, e)

pub none_passed : (class : Class) (rest : List Run) → begins_with_run (is_one class) rest ≡ false
    → past_one class rest ≡ rest
unfolding past_one
none_passed class [] h = refl
none_passed class (run ∷ more) h = rw h refl

pub passed_one : (class : Class) (run : Run) (rest : List Run) → is_one class run ≡ true
    → past_one class (run ∷ rest) ≡ rest
unfolding past_one
passed_one class run rest h = rw h refl

pass_optional : (class : Class) (from rest : List Run) → optional class from rest → past_one class from ≡ rest
pass_optional class from rest (inl h) = ap (past_one class) h.1 ∙ passed_one class h.0 rest h.2
pass_optional class from rest (inr h) = ap (past_one class) h.0 ∙ none_passed class rest h.1

pub steps_optional : (class : Class) → Steps (optional class) (past_one class)
steps_optional class = record { does = one_passed class; only = pass_optional class }
