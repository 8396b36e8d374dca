-- A rule that is broken, and where.
use Rattle.std.specs.Prelude.{ℕ, Bool, if◌then◌else◌, List, [], ◌∷◌, ◌++◌}
use Rattle.lexical.specs.declared.place.Place.{Place}

pub record RuleBreach : Type 0 where
  -- the fault's number
  pub rule : ℕ
  pub place : Place

-- a rule at a place that a test breaks
abbrev pub where_so : Bool → ℕ → Place → List RuleBreach
where_so test rule place = if test then record { rule = rule; place = place } ∷ [] else []

-- those of each
abbrev pub each : {A : Type 0} → (A → List RuleBreach) → List A → List RuleBreach
each rules [] = []
each rules (one ∷ more) = rules one ++ each rules more
