-- The first of rules that are looked for in order.
use Rattle.std.proofs.Common.{◌≡◌, ℕ, ◌<◌, ◌+◌, List, [], ◌∷◌, ◌++◌, None, Some, length, drop, get_or, refl, sym, ap}
use Rattle.std.proofs.Common.{subst, ◌∙◌, add-one, drop-cons, ◌≤◌}
use Rattle.std.specs.Prelude.{Option}
use Rattle.std.proofs.lemmas.List.{drop_all}
use Rattle.source_tree.specs.Broken.{RuleBreach, each}
use Rattle.source_tree.specs.LookUp.{first}
use Rattle.entry_rules.specs.Checks.{IsFirst}

pub first_front : (xs ys : List RuleBreach) (one : RuleBreach) → first xs ≡ Some one → first (xs ++ ys) ≡ Some one
first_front [] ys one e = cc
first_front (x ∷ xs) ys one e = e

pub front_none : (xs ys : List RuleBreach) → xs ≡ [] → xs ++ ys ≡ ys
front_none xs ys e = ap (λ l. l ++ ys) e

pub front_back : (xs ys : List RuleBreach) → xs ≡ [] → ys ≡ [] → xs ++ ys ≡ []
front_back xs ys e f = front_none xs ys e ∙ f

pub same_front : (o : Option RuleBreach) (xs ys : List RuleBreach) → IsFirst o xs → IsFirst o (xs ++ ys)
same_front None xs ys h = tt
same_front (Some one) xs ys h = first_front xs ys one h

pub same_back : (o : Option RuleBreach) (xs ys : List RuleBreach) → xs ≡ [] → IsFirst o ys → IsFirst o (xs ++ ys)
same_back o xs ys none h = subst (IsFirst o) (sym (front_none xs ys none)) h

pub same_along : (o : Option RuleBreach) (xs ys : List RuleBreach) → ys ≡ xs → IsFirst o xs → IsFirst o ys
same_along o xs ys e h = subst (IsFirst o) (sym e) h

pub none_first : (xs : List RuleBreach) → first xs ≡ None → xs ≡ []
none_first [] e = refl
none_first (x ∷ xs) e = cc

-- ---- rules of each of a list, as a loop goes along it

pub each_at : {A : Type 0} (rules : A → List RuleBreach) (xs : List A) (i : ℕ) (d : A) → i < length xs
    → each rules (drop i xs) ≡ rules (get_or xs i d) ++ each rules (drop (i + 1) xs)
each_at rules xs i d h =
    ap (each rules) (drop-cons xs i d h) ∙ ap (λ k. rules (get_or xs i d) ++ each rules (drop k xs)) (sym (add-one i))

pub each_next : {A : Type 0} (rules : A → List RuleBreach) (xs : List A) (i : ℕ) (d : A) (all : List RuleBreach)
    → i < length xs → all ≡ each rules (drop i xs) → rules (get_or xs i d) ≡ [] → all ≡ each rules (drop (i + 1) xs)
each_next rules xs i d all h e none =
    e ∙ each_at rules xs i d h ∙ front_none (rules (get_or xs i d)) (each rules (drop (i + 1) xs)) none

pub each_found : {A : Type 0} (rules : A → List RuleBreach) (xs : List A) (i : ℕ) (d : A) (all : List RuleBreach)
    (one : RuleBreach) → i < length xs → all ≡ each rules (drop i xs) → first (rules (get_or xs i d)) ≡ Some one
    → first all ≡ Some one
each_found rules xs i d all one h e found =
    ap first (e ∙ each_at rules xs i d h) ∙ first_front (rules (get_or xs i d)) (each rules (drop (i + 1) xs)) one found

-- the same of an error that may be want of memory
pub each_first : {A : Type 0} (rules : A → List RuleBreach) (xs : List A) (i : ℕ) (x : A) (all : List RuleBreach)
    (o : Option RuleBreach) → i < length xs → x ≡ get_or xs i x → all ≡ each rules (drop i xs) → IsFirst o (rules x)
    → IsFirst o all
each_first rules xs i x all None h is e found = tt
each_first {A} rules xs i x all (Some one) h is e found =
    each_found rules xs i x all one h e (subst (λ (y : A). first (rules y) ≡ Some one) is found)

-- none of each is broken, after the last of them
pub each_none : {A : Type 0} (rules : A → List RuleBreach) (xs : List A) (i : ℕ) (all : List RuleBreach)
    → length xs ≤ i → all ≡ each rules (drop i xs) → all ≡ []
each_none rules xs i all past e = e ∙ ap (each rules) (drop_all i xs past)
