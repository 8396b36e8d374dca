-- A sector that is marked as used is a root or is named.
use Rattle.std.proofs.Common.{◌≡◌, ◌≢◌, ◌⊎◌, inl, inr, ⊎_elim, ◌<◌, ◌≤◌, Bool, true, false, ℕ, zero, suc, List, [], ◌∷◌}
use Rattle.std.proofs.Common.{get_or, sym, ◌∙◌, arith}
use Rattle.std.specs.Prelude.{Contains}
use Rattle.std.proofs.lemmas.Bool.{cases_Bool, cases_eq, cases_lt, false≢true}
use Rattle.pages.specs.Use.{IsUse}

absent_more : (x : ℕ) (named : List ℕ) (s : ℕ) → x ≢ s → (Contains named s → ⊥) → Contains (x ∷ named) s → ⊥
absent_more x named s other absent (zero, lt, is) = other is
absent_more x named s other absent (suc k, lt, is) = absent (k, omega (arith, lt), is)

is_named_or_not : (named : List ℕ) (s : ℕ) → Contains named s ⊎ (Contains named s → ⊥)
is_named_or_not [] s = inr (λ has. omega (arith, has.1))
is_named_or_not (x ∷ named) s = ⊎_elim (λ at. inl (0, omega arith, at))
    (λ other. ⊎_elim (λ has. inl (suc has.0, omega (arith, has.1), has.2))
    (λ absent. inr (absent_more x named s other absent)) (is_named_or_not named s)) (cases_eq x s)

pub root_or_named : (n : ℕ) (named : List ℕ) (used : List Bool) → IsUse n named used → (s : ℕ) → s < n
    → get_or used s false ≡ true → (s < 2) ⊎ Contains named s
root_or_named n named used right s lt is = ⊎_elim (λ root. inl root)
    (λ high. ⊎_elim (λ has. inr has)
    (λ absent. absurd (false≢true (sym (right.unnamed s lt high absent) ∙ is))) (is_named_or_not named s))
    (cases_lt s 2)

-- where only roots and what is named are marked, another sector isn't
pub not_marked : (named : List ℕ) (used : List Bool) (s : ℕ)
    → (get_or used s false ≡ true → (s < 2) ⊎ Contains named s)
    → 2 ≤ s → (Contains named s → ⊥) → get_or used s false ≡ false
not_marked named used s taken high absent = ⊎_elim
    (λ is. ⊎_elim (λ root. absurd (omega (arith, root, high))) (λ has. absurd (absent has)) (taken is)) (λ no. no)
    (cases_Bool (get_or used s false))
