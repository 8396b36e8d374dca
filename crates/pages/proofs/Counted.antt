-- The free sectors are counted by their use.
use Rattle.std.proofs.Common.{◌≡◌, ◌⊎◌, inl, inr, ⊎_elim, ◌<◌, ◌≤◌, ◌+◌, ◌==◌, Bool, true, false, not, ℕ, zero, suc}
use Rattle.std.proofs.Common.{List, [], ◌∷◌, length, take, take_all, get_or, refl, sym, ◌∙◌, ap, arith, add-zero}
use Rattle.std.specs.Prelude.{Contains, nat_lt, count_by}
use Rattle.std.specs.List.{list_any}
use Rattle.std.proofs.lemmas.Bool.{cases_Bool, cond-true, cond-false, or_left, or_right, or_from, eq-eqb, ne_eqb}
use Rattle.std.proofs.lemmas.Bool.{lt-ltb, le-ltb}
use Rattle.std.proofs.lemmas.List.Sums.{count_by_more_yes, count_by_more_no}
use Rattle.pages.specs.Use.{IsUse, is_used, free_below}
use Rattle.pages.proofs.Uses.{root_or_named}

any_true : (named : List ℕ) (s : ℕ) → Contains named s → list_any (λ t. t == s) named ≡ true
any_true [] s has = absurd (omega (arith, has.1))
any_true (x ∷ named) s (zero, lt, is) = or_left (x == s) (list_any (λ t. t == s) named) (eq-eqb x s is)
any_true (x ∷ named) s (suc k, lt, is) =
    or_right (x == s) (list_any (λ t. t == s) named) (any_true named s (k, omega (arith, lt), is))

any_false : (named : List ℕ) (s : ℕ) → (Contains named s → ⊥) → list_any (λ t. t == s) named ≡ false
any_false [] s absent = refl
any_false (x ∷ named) s absent =
    or_from (x == s) (list_any (λ t. t == s) named) (ne_eqb x s (λ e. absent (0, omega arith, e)))
    (any_false named s (λ has. absent (suc has.0, omega (arith, has.1), has.2)))

used_there : (named : List ℕ) (s : ℕ) → (s < 2) ⊎ Contains named s → is_used named s ≡ true
used_there named s (inl root) = or_left (nat_lt s 2) (list_any (λ t. t == s) named) (lt-ltb s 2 root)
used_there named s (inr has) = or_right (nat_lt s 2) (list_any (λ t. t == s) named) (any_true named s has)

free_there : (named : List ℕ) (s : ℕ) → 2 ≤ s → (Contains named s → ⊥) → is_used named s ≡ false
free_there named s high absent =
    or_from (nat_lt s 2) (list_any (λ t. t == s) named) (le-ltb s 2 high) (any_false named s absent)

counted_below : (n : ℕ) (named : List ℕ) (used : List Bool) → IsUse n named used → (k : ℕ) → k ≤ n
    → count_by (λ u. not u) (take k used) ≡ free_below named k
counted_below n named used right zero le = refl
counted_below n named used right (suc k) le =
    let lt : k < length used = omega (arith, le, right.count) in
    let next : suc k ≡ k + 1 = omega arith in
    let before = counted_below n named used right k (omega (arith, le)) in
    ap (λ (m : ℕ). count_by (λ u. not u) (take m used)) next
    ∙ ⊎_elim
    (λ is. count_by_more_no (λ u. not u) used k false lt (ap not is) ∙ before
    ∙ sym (ap (λ (m : ℕ). free_below named k + m) (cond-true (is_used named k) 0 1
    (used_there named k (root_or_named n named used right k (omega (arith, le)) is))) ∙ add-zero (free_below named k)))
    (λ is. let free = right.free k (omega (arith, le)) is in
    count_by_more_yes (λ u. not u) used k false lt (ap not is) ∙ ap (λ (m : ℕ). m + 1) before
    ∙ sym
    (ap (λ (m : ℕ). free_below named k + m) (cond-false (is_used named k) 0 1 (free_there named k free.0 free.1))))
    (cases_Bool (get_or used k false))

-- as many sectors aren't marked as are free
pub counted : (n : ℕ) (named : List ℕ) (used : List Bool) → IsUse n named used
    → count_by (λ u. not u) used ≡ free_below named n
counted n named used right = ap (count_by (λ u. not u)) (sym (take_all n used (omega (arith, right.count))))
    ∙ counted_below n named used right n (omega arith)
