-- Going through ascending entries.
use Rattle.std.proofs.Common.{◌≡◌, ◌≤◌, ◌+◌, ℕ, zero, suc, List, [], ◌∷◌, length, refl, sym, ap, ◌∙◌, arith}
use Rattle.std.specs.Prelude.{Option, Some, None, if◌then◌else◌}
use Rattle.std.specs.List.{AllByRecursion}
use Rattle.std.specs.Ordering.{is_gt, ordering_reverse}
use Rattle.std.specs.declared.cmp.Ordering.{Ordering}
use Rattle.std.specs.declared.cmp.Ordering.TheVariants.{Less}
use Rattle.std.proofs.lemmas.Cmp.{nat_list_cmp_total, tied_itself}
use Rattle.std.proofs.lemmas.Map.Keys.{sorted_head, sorted_tail}
use Rattle.btree_pages.specs.Keys.{key_cmp, Ascend}
use Rattle.btree.specs.Entries.{Entry, first_entry, first_entry_after}
use Rattle.btree.specs.Laws.{keys_listed}

-- the entry at a place
abbrev pub entry_at : ℕ → List Entry → Option Entry
entry_at n [] = None
entry_at zero (e ∷ more) = Some e
entry_at (suc n) (e ∷ more) = entry_at n more

pub first_at : (entries : List Entry) → first_entry entries ≡ entry_at 0 entries
first_at [] = refl
first_at (e ∷ more) = refl

-- the first of those that are all after a key
all_behind : (key : List ℕ) (more : List Entry) → AllByRecursion (λ (k : List ℕ). key_cmp key k ≡ Less)
    (keys_listed more) → first_entry_after more key ≡ entry_at 0 more
all_behind key [] all = refl
all_behind key (e ∷ more) all =
    ap (λ (o : Ordering). if is_gt o then Some e else first_entry_after more key)
    (nat_list_cmp_total.antisymm e.key key ∙ ap ordering_reverse all.0)

behind_at : (key : List ℕ) (more : List Entry) (n : ℕ) (e : Entry)
    → AllByRecursion (λ (k : List ℕ). key_cmp key k ≡ Less) (keys_listed more) → entry_at n more ≡ Some e
    → key_cmp key e.key ≡ Less
behind_at key [] n e all is = cc
behind_at key (a ∷ more) zero e all is = let same : a ≡ e =
    cc in ap (λ (x : Entry). key_cmp key x.key) (sym same) ∙ all.0
behind_at key (a ∷ more) (suc n) e all is = behind_at key more n e all.1 is

pub next_at : (entries : List Entry) (n : ℕ) (e : Entry) → Ascend (keys_listed entries) → entry_at n entries ≡ Some e
    → first_entry_after entries e.key ≡ entry_at (suc n) entries
next_at [] n e up is = cc
next_at (a ∷ more) zero e up is =
    let same : a ≡ e = cc in
    let here : first_entry_after (a ∷ more) a.key ≡ entry_at 0 more =
    ap (λ (o : Ordering). if is_gt o then Some a else first_entry_after more a.key)
    (tied_itself nat_list_cmp_total a.key) ∙ all_behind a.key more (sorted_head key_cmp a.key (keys_listed more) up) in
    ap (λ (x : Entry). first_entry_after (a ∷ more) x.key) (sym same) ∙ here
next_at (a ∷ more) (suc n) e up is =
    let less = behind_at a.key more n e (sorted_head key_cmp a.key (keys_listed more) up) is in
    ap (λ (o : Ordering). if is_gt o then Some a else first_entry_after more e.key) less
    ∙ next_at more n e (sorted_tail key_cmp a.key (keys_listed more) up) is

-- how many there are
pub none_at : (entries : List Entry) (n : ℕ) → entry_at n entries ≡ None → length entries ≤ n
none_at [] n is = omega arith
none_at (e ∷ more) zero is = cc
none_at (e ∷ more) (suc n) is = let rest = none_at more n is in omega (arith, rest)

pub some_at : (entries : List Entry) (n : ℕ) (e : Entry) → entry_at n entries ≡ Some e → n + 1 ≤ length entries
some_at [] n e is = cc
some_at (a ∷ more) zero e is = omega arith
some_at (a ∷ more) (suc n) e is = let rest = some_at more n e is in omega (arith, rest)
