-- The first of rules that are looked for in order.
use Rattle.std.proofs.Common.{◌≡◌, ℕ, ◌<◌, ◌+◌, List, [], ◌∷◌, ◌++◌, None, Some, length, drop, get_or, refl, sym, ap}
use Rattle.std.proofs.Common.{◌∙◌, subst, add-one, drop-cons}
use Rattle.std.specs.Prelude.{Option, Result, Ok, Err}
use Rattle.source_tree.specs.Broken.{RuleBreach, each}
use Rattle.source_tree.specs.LookUp.{first}
use Rattle.entry_rules.specs.Checks.{IsFirst, IsFirstBreach, IsFirstFault}
use Rattle.entry_rules.specs.declared.rule.BrokenRule.{BrokenRule}
use Rattle.entry_rules.specs.declared.rule.CheckError.{CheckError}

pub first_front : (xs ys : List RuleBreach) (one : RuleBreach) → first xs ≡ Some one → first (xs ++ ys) ≡ Some one
first_front [] ys one e = cc
first_front (x ∷ xs) ys one e = e

pub front_none : (xs ys : List RuleBreach) → xs ≡ [] → xs ++ ys ≡ ys
front_none xs ys e = ap (λ l. l ++ ys) e

pub left_none : (xs ys : List RuleBreach) → xs ++ ys ≡ [] → xs ≡ []
left_none [] ys e = refl
left_none (x ∷ xs) ys e = absurd cc

pub right_none : (xs ys : List RuleBreach) → xs ++ ys ≡ [] → ys ≡ []
right_none [] ys e = e
right_none (x ∷ xs) ys e = absurd cc

pub first_back : (xs ys : List RuleBreach) (one : RuleBreach) → xs ≡ [] → first ys ≡ Some one
    → first (xs ++ ys) ≡ Some one
first_back xs ys one e h = ap first (front_none xs ys e) ∙ h

-- What was found of one rule is the first of all.
pub finds_first : {A : Type 0} (result : Result A BrokenRule) (one : RuleBreach) (all : List RuleBreach)
    → IsFirstBreach result (one ∷ []) → first all ≡ Some one → IsFirstBreach result all
finds_first (Ok value) one all h e = absurd cc
finds_first (Err broken) one all h e = e ∙ h

each_at : {A : Type 0} (rules : A → List RuleBreach) (xs : List A) (i : ℕ) (d : A) → i < length xs
    → each rules (drop i xs) ≡ rules (get_or xs i d) ++ each rules (drop (i + 1) xs)
each_at rules xs i d h =
    ap (each rules) (drop-cons xs i d h) ∙ ap (λ k. rules (get_or xs i d) ++ each rules (drop k xs)) (sym (add-one i))

pub each_found : {A : Type 0} (rules : A → List RuleBreach) (xs : List A) (i : ℕ) (d : A) (all : List RuleBreach)
    (one : RuleBreach) → i < length xs → all ≡ each rules (drop i xs) → first (rules (get_or xs i d)) ≡ Some one
    → first all ≡ Some one
each_found rules xs i d all one h e found =
    ap first (e ∙ each_at rules xs i d h) ∙ first_front (rules (get_or xs i d)) (each rules (drop (i + 1) xs)) one found

-- What the rules in front tell is told of all.
pub is_first_front : (fault : Option RuleBreach) (xs ys : List RuleBreach) → IsFirst fault xs → IsFirst fault (xs ++ ys)
is_first_front None xs ys h = tt
is_first_front (Some one) xs ys h = first_front xs ys one h

-- What is found of one element is found of all from it on.
pub each_first : {A : Type 0} (rules : A → List RuleBreach) (xs : List A) (i : ℕ) (one : A) (all : List RuleBreach)
    (fault : Option RuleBreach) → i < length xs → all ≡ each rules (drop i xs) → one ≡ get_or xs i one
    → IsFirst fault (rules one) → IsFirst fault all
each_first rules xs i one all fault h e is found =
    subst (IsFirst fault) (sym (e ∙ each_at rules xs i one h))
    (is_first_front fault (rules (get_or xs i one)) (each rules (drop (i + 1) xs))
    (subst (IsFirst fault) (ap rules is) found))

-- What is looked for after rules that are kept is the first of all.
pub is_first_behind : (fault : Option RuleBreach) (xs ys : List RuleBreach) → xs ≡ [] → IsFirst fault ys
    → IsFirst fault (xs ++ ys)
is_first_behind fault xs ys e h = subst (IsFirst fault) (sym (front_none xs ys e)) h

-- The same of a check.
pub fault_behind : {A : Type 0} (result : Result A CheckError) (xs ys : List RuleBreach) → xs ≡ []
    → IsFirstFault result ys → IsFirstFault result (xs ++ ys)
fault_behind result xs ys e h = subst (IsFirstFault result) (sym (front_none xs ys e)) h

pub both_none : {A : Type 0} (xs ys : List A) → xs ≡ [] → ys ≡ [] → xs ++ ys ≡ []
both_none xs ys e f = ap (λ l. l ++ ys) e ∙ f
