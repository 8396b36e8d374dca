-- What is so of each of some items, and that they ascend, found from the last one on.
use Rattle.std.proofs.Common.{◌≡◌, ⊎_elim, ◌<◌, ◌≤◌, ◌+◌, ◌-◌, ℕ, zero, suc, List, [], ◌∷◌, length, map, drop, get_or}
use Rattle.std.proofs.Common.{refl}
use Rattle.std.proofs.Common.{sym, ◌∙◌, ap, subst, arith}
use Rattle.std.specs.List.{AllByRecursion}
use Rattle.std.specs.List.Sorted.{IsStrictlySortedBy}
use Rattle.std.specs.Cmp.{IsTotalOrder}
use Rattle.std.specs.declared.cmp.Ordering.{Ordering}
use Rattle.std.specs.declared.cmp.Ordering.TheVariants.{Less}
use Rattle.std.proofs.lemmas.Bool.{cases_lt}
use Rattle.std.proofs.lemmas.List.{drop_more, drop_all}
use Rattle.std.proofs.lemmas.Map.Keys.{sorted_head, sorted_tail}

-- the items after a place, through a function
module _ {A B : Type 0} (f : A → B) (P : B → Type 0) (items : List A) where
  pub all_behind : (k : ℕ) (d : A) → k < length items → P (f (get_or items k d))
      → AllByRecursion P (map f (drop (k + 1) items)) → AllByRecursion P (map f (drop k items))
  all_behind k d lt here all =
      subst (λ (l : List A). AllByRecursion P (map f l)) (sym (drop_more items k d lt)) (here, all)

  pub all_none : (k : ℕ) → length items ≤ k → AllByRecursion P (map f (drop k items))
  all_none k le = subst (λ (l : List A). AllByRecursion P (map f l)) (sym (drop_all k items le)) tt

pub all_there : {A B : Type 0} (f : A → B) (P : B → Type 0) (items : List A) (k : ℕ) (d : A) → k < length items
    → AllByRecursion P (map f items) → P (f (get_or items k d))
all_there f P [] k d lt all = absurd (omega (arith, lt))
all_there f P (one ∷ items) zero d lt all = all.0
all_there f P (one ∷ items) (suc k) d lt all = all_there f P items k d (omega (arith, lt)) all.1

module _ {A K : Type 0} (c : K → K → Ordering) (total : IsTotalOrder c) (f : A → K) where
  both : (key : K) (keys : List K) → AllByRecursion (λ other. c key other ≡ Less) keys → IsStrictlySortedBy c keys
      → IsStrictlySortedBy c (key ∷ keys)
  unfolding IsStrictlySortedBy
  both key keys below sorted = (below, sorted)

  none : IsStrictlySortedBy c []
  unfolding IsStrictlySortedBy
  none = tt

  lower : (one two : K) (keys : List K) → c one two ≡ Less → AllByRecursion (λ other. c two other ≡ Less) keys
      → AllByRecursion (λ other. c one other ≡ Less) keys
  lower one two [] less all = tt
  lower one two (key ∷ keys) less all = (total.trans one two key less all.0, lower one two keys less all.1)

  pub sorted_none : (items : List A) (k : ℕ) → length items ≤ k → IsStrictlySortedBy c (map f (drop k items))
  sorted_none items k le = subst (λ (l : List A). IsStrictlySortedBy c (map f l)) (sym (drop_all k items le)) none

  pub sorted_behind : (items : List A) (k : ℕ) (d : A) → k < length items
      → (k + 1 < length items → c (f (get_or items k d)) (f (get_or items (k + 1) d)) ≡ Less)
      → IsStrictlySortedBy c (map f (drop (k + 1) items)) → IsStrictlySortedBy c (map f (drop k items))
  sorted_behind items k d lt less sorted = subst (λ (l : List A). IsStrictlySortedBy c (map f l))
      (sym (drop_more items k d lt)) (⊎_elim more last (cases_lt (k + 1) (length items)))
    where
      more : k + 1 < length items → IsStrictlySortedBy c (map f (get_or items k d ∷ drop (k + 1) items))
      more there =
          let next : drop (k + 1) items ≡ get_or items (k + 1) d ∷ drop (k + 1 + 1) items =
          drop_more items (k + 1) d there in
          let rest = subst (λ (l : List A). IsStrictlySortedBy c (map f l)) next sorted in
          let below = sorted_head c (f (get_or items (k + 1) d)) (map f (drop (k + 1 + 1) items)) rest in
          both (f (get_or items k d)) (map f (drop (k + 1) items))
          (subst (λ (l : List A). AllByRecursion (λ other. c (f (get_or items k d)) other ≡ Less) (map f l))
          (sym next) (
            less there,
            lower (f (get_or items k d)) (f (get_or items (k + 1) d)) (map f (drop (k + 1 + 1) items)) (less there)
                below,
          )) sorted

      last : length items ≤ k + 1 → IsStrictlySortedBy c (map f (get_or items k d ∷ drop (k + 1) items))
      last le = both (f (get_or items k d)) (map f (drop (k + 1) items)) (subst (λ (l : List A). AllByRecursion
          (λ other. c (f (get_or items k d)) other ≡ Less) (map f l)) (sym (drop_all (k + 1) items le)) tt) sorted

  pub sorted_there : (items : List A) (k : ℕ) (d : A) → k + 1 < length items → IsStrictlySortedBy c (map f items)
      → c (f (get_or items k d)) (f (get_or items (k + 1) d)) ≡ Less
  sorted_there [] k d lt sorted = absurd (omega (arith, lt))
  sorted_there (one ∷ []) k d lt sorted = absurd (omega (arith, lt))
  sorted_there (one ∷ two ∷ items) zero d lt sorted = (sorted_head c (f one) (f two ∷ map f items) sorted).0
  sorted_there (one ∷ two ∷ items) (suc k) d lt sorted =
      ap (λ (n : ℕ). c (f (get_or (two ∷ items) k d)) (f (get_or (one ∷ two ∷ items) n d)))
      (let e : suc k + 1 ≡ suc (k + 1) = omega arith in e)
      ∙ sorted_there (two ∷ items) k d (omega (arith, lt)) (sorted_tail c (f one) (f two ∷ map f items) sorted)

pub map_twice : {A B C : Type 0} (f : A → B) (g : B → C) (items : List A)
    → map g (map f items) ≡ map (λ x. g (f x)) items
map_twice f g [] = refl
map_twice f g (one ∷ items) = ap (λ l. g (f one) ∷ l) (map_twice f g items)

-- one more item from the last one on: those from a place on become those from the place before
module _ {A B : Type 0} (f : A → B) (items : List A) (back : ℕ) (lt : back < length items) (one : A)
    (here : get_or items (length items - 1 - back) one ≡ one) where
  place_before : length items - 1 - back ≡ length items - (back + 1)
  place_before = omega (arith, lt)

  place_of_last : length items - back ≡ length items - 1 - back + 1
  place_of_last = omega (arith, lt)

  pub all_more : (P : B → Type 0) → P (f one) → AllByRecursion P (map f (drop (length items - back) items))
      → AllByRecursion P (map f (drop (length items - (back + 1)) items))
  all_more P good all = subst (λ (n : ℕ). AllByRecursion P (map f (drop n items))) place_before
      (all_behind f P items (length items - 1 - back) one (omega (arith, lt))
      (subst (λ (x : A). P (f x)) (sym here) good)
      (subst (λ (n : ℕ). AllByRecursion P (map f (drop n items))) place_of_last all))

  pub sorted_more : {K : Type 0} (c : K → K → Ordering) (total : IsTotalOrder c) (g : B → K)
      → (length items - 1 - back + 1 < length items
      → c (g (f (get_or items (length items - 1 - back) one))) (g (f (get_or items (length items - 1 - back + 1) one)))
      ≡ Less)
      → IsStrictlySortedBy c (map g (map f (drop (length items - back) items)))
      → IsStrictlySortedBy c (map g (map f (drop (length items - (back + 1)) items)))
  sorted_more c total g less sorted =
      subst (λ (n : ℕ). IsStrictlySortedBy c (map g (map f (drop n items)))) place_before
      (subst (IsStrictlySortedBy c) (sym (map_twice f g (drop (length items - 1 - back) items)))
      (sorted_behind c total (λ x. g (f x)) items (length items - 1 - back) one (omega (arith, lt)) less
      (subst (IsStrictlySortedBy c) (map_twice f g (drop (length items - 1 - back + 1) items))
      (subst (λ (n : ℕ). IsStrictlySortedBy c (map g (map f (drop n items)))) place_of_last sorted))))
