-- Entries that were passed on the way through a tree.
use Rattle.std.proofs.Common.{◌≡◌, ◌+◌, ◌++◌, ⊎_elim, ℕ, zero, suc, List, [], ◌∷◌, take, sym, ap, subst, ◌∙◌, arith}
use Rattle.std.specs.Prelude.{Some, None, Contains, map}
use Rattle.std.specs.List.{AllByRecursion}
use Rattle.std.proofs.lemmas.List.{take_all}
use Rattle.btree.specs.Entries.{Entry}
use Rattle.btree.proofs.Ascending.{entry_at}
use Rattle.btree.proofs.Runs.{in_head, in_tail}
use Rattle.volume_format.proofs.Comes.{in_cons}
use Rattle.file_recovery.proofs.Entered.{all_behind as with_last}

-- the first so many, and one more
taken_one : (entries : List Entry) (n : ℕ) (e : Entry) → entry_at n entries ≡ Some e
    → take (suc n) entries ≡ take n entries ++ e ∷ []
taken_one [] n e is = cc
taken_one (a ∷ more) zero e is = let same : a ≡ e = cc in ap (λ (x : Entry). x ∷ []) same
taken_one (a ∷ more) (suc n) e is = ap (λ (l : List Entry). a ∷ l) (taken_one more n e is)

pub taken_more : (entries : List Entry) (n : ℕ) (e : Entry) → entry_at n entries ≡ Some e
    → take (n + 1) entries ≡ take n entries ++ e ∷ []
taken_more entries n e is =
    ap (λ (k : ℕ). take k entries) (let e : n + 1 ≡ suc n = omega arith in e) ∙ taken_one entries n e is

pub taken_all : (entries : List Entry) (n : ℕ) → entry_at n entries ≡ None → take n entries ≡ entries
taken_all [] n is = take_all n [] (omega arith)
taken_all (a ∷ more) zero is = cc
taken_all (a ∷ more) (suc n) is = ap (λ (l : List Entry). a ∷ l) (taken_all more n is)

-- the item that an entry is of
pub record IsOf {X : Type 0} (f : X → Entry) (P : X → Type 0) (e : Entry) : Type 0 where
  pub item : X
  pub is : P item
  pub of : f item ≡ e

pub item_at : {X : Type 0} (f : X → Entry) (P : X → Type 0) (items : List X) (n : ℕ) (e : Entry)
    → AllByRecursion P items → entry_at n (map f items) ≡ Some e → IsOf f P e
item_at f P [] n e all is = cc
item_at f P (x ∷ items) zero e all is = record { item = x; is = all.0; of = cc }
item_at f P (x ∷ items) (suc n) e all is = item_at f P items n e all.1 is

-- what is so of each entry that was passed
pub entry_in : (entries : List Entry) (n : ℕ) (e : Entry) → entry_at n entries ≡ Some e → Contains entries e
entry_in [] n e is = cc
entry_in (a ∷ more) zero e is = let same : a ≡ e =
    cc in subst (λ (x : Entry). Contains (a ∷ more) x) same (in_head a more)
entry_in (a ∷ more) (suc n) e is = in_tail a more e (entry_in more n e is)

pub none_passed : (P : Entry → Type 0) (entries : List Entry) → AllByRecursion P (take 0 entries)
none_passed P [] = tt
none_passed P (e ∷ more) = tt

pub one_passed : (P : Entry → Type 0) (entries : List Entry) (n : ℕ) (e : Entry) → entry_at n entries ≡ Some e
    → AllByRecursion P (take n entries) → P e → AllByRecursion P (take (n + 1) entries)
one_passed P entries n e at all is = subst (λ (l : List Entry). AllByRecursion P l) (sym (taken_more entries n e at))
    (with_last P (take n entries) e all is)

pub each_passed : (P : Entry → Type 0) (entries : List Entry) → AllByRecursion P entries → (e : Entry)
    → Contains entries e → P e
each_passed P [] all e has = absurd (let low = has.1 in omega (arith, low))
each_passed P (a ∷ more) all e has = ⊎_elim (λ (same : e ≡ a). subst P (sym same) all.0)
    (λ later. each_passed P more all.1 e later) (in_cons a more e has)
