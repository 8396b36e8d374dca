-- Entries that are exactly the pairs of rows: each is the pair of a row, and there are as many.
use Rattle.std.proofs.Common.{◌≡◌, ◌≤◌, ◌⊎◌, inl, inr, ⊎_elim, ◌==◌, Bool, true, false, ℕ, suc, List, [], ◌∷◌, length}
use Rattle.std.proofs.Common.{refl, sym, ap, subst, ◌∙◌, arith}
use Rattle.std.specs.Prelude.{map, Contains, Option, Some, None, if◌then◌else◌}
use Rattle.std.specs.List.{AllByRecursion}
use Rattle.std.specs.Ordering.{is_eq}
use Rattle.std.specs.declared.cmp.Ordering.TheVariants.{Less, Equal}
use Rattle.std.proofs.lemmas.Bool.{eqb-true}
use Rattle.std.proofs.lemmas.Cmp.{nat_list_cmp_total, tied_itself}
use Rattle.std.proofs.lemmas.List.{length-map}
use Rattle.std.proofs.lemmas.Map.Keys.{sorted_head, sorted_tail}
use Rattle.btree_pages.specs.Keys.{key_cmp, Ascend}
use Rattle.btree.specs.Entries.{Entry, entry_with}
use Rattle.btree.specs.Laws.{keys_listed}
use Rattle.btree.proofs.Runs.{in_head, in_tail}
use Rattle.btree.proofs.There.{entry_there}
use Rattle.records.specs.declared.file_spec.AlternateKey.{AlternateKey}
use Rattle.records.specs.declared.file_spec.Organization.{Organization}
use Rattle.records.specs.declared.file_spec.Organization.TheVariants.{Sequential, Relative, Indexed}
use Rattle.records.specs.declared.key.KeyOfReference.TheVariants.{Alternate}
use Rattle.records.specs.Spec.{Spec, is_spec, are_keys}
use Rattle.records.specs.Rows.{Row, Pair, part, prime_pair, prime_place, pair_cmp, same_bytes}
use Rattle.records.specs.Laws.{RowsAscend}
use Rattle.records.specs.Stores.{IsKey}
use Rattle.records.proofs.Ascending.{pair_total}
use Rattle.records.proofs.Maps.{bytes_same, same_itself}
use Rattle.volume_format.specs.Trees.{entry_under, AreOf}
use Rattle.volume_format.proofs.Comes.{in_cons}
use Rattle.records.proofs.Places.{spec as spec_with}
use Rattle.volume_format.proofs.Small.{spec_keys}
use Rattle.file_recovery.specs.Rows.{IsPairOf}
use Rattle.file_recovery.proofs.Entered.{entry_made}

-- no item stands twice
abbrev pub Distinct : {X : Type 0} → List X → Type 0
Distinct [] = Unit {0}
Distinct (x ∷ xs) = (Contains xs x → ⊥) × Distinct xs

-- a list without one of its items
module _ {X : Type 0} where
  pub record Without (xs : List X) (x : X) : Type 0 where
    pub rest : List X
    pub fewer : length xs ≡ suc (length rest)
    pub others : (y : X) → Contains xs y → (y ≡ x) ⊎ Contains rest y

  without : (xs : List X) (x : X) → Contains xs x → Without xs x
  without [] x has = absurd (let low = has.1 in omega (arith, low))
  without (a ∷ xs) x has = ⊎_elim
      (λ (same : x ≡ a). record {
        rest = xs;
        fewer = refl;
        others = λ y is. ⊎_elim (λ (e : y ≡ a). inl (e ∙ sym same)) (λ later. inr later) (in_cons a xs y is);
      })
      (λ later.
      let w = without xs x later in
      record {
        rest = a ∷ w.rest;
        fewer = ap suc w.fewer;
        others = λ y is. ⊎_elim (λ (e : y ≡ a). inr (subst (λ z. Contains (a ∷ w.rest) z) (sym e) (in_head a w.rest)))
            (λ here. ⊎_elim (λ e. inl e) (λ there. inr (in_tail a w.rest y there)) (w.others y here))
            (in_cons a xs y is);
      })
      (in_cons a xs x has)

  -- items that are all among others are no more than they, if none of them stands twice
  pub no_more : (ys xs : List X) → Distinct ys → ((y : X) → Contains ys y → Contains xs y) → length ys ≤ length xs
  no_more [] xs distinct all = omega arith
  no_more (y ∷ ys) xs distinct all =
      let w = without xs y (all y (in_head y ys)) in
      let few = no_more ys w.rest distinct.1
      (λ z has. ⊎_elim (λ (e : z ≡ y). absurd (distinct.0 (subst (λ v. Contains ys v) e has))) (λ there. there)
      (w.others z (all z (in_tail y ys z has)))) in
      let fewer = w.fewer in
      omega (arith, few, fewer)

-- entries with ascending keys stand once
behind_not : (key : List ℕ) (more : List Entry)
    → AllByRecursion (λ (k : List ℕ). key_cmp key k ≡ Less) (keys_listed more) → (e : Entry) → Contains more e
    → key_cmp key e.key ≡ Less
behind_not key [] all e has = absurd (let low = has.1 in omega (arith, low))
behind_not key (a ∷ more) all e has = ⊎_elim (λ (same : e ≡ a). ap (λ (x : Entry). key_cmp key x.key) same ∙ all.0)
    (λ later. behind_not key more all.1 e later) (in_cons a more e has)

pub entries_distinct : (entries : List Entry) → Ascend (keys_listed entries) → Distinct entries
entries_distinct [] up = tt
entries_distinct (e ∷ more) up = (
  λ has.
      let less = behind_not e.key more (sorted_head key_cmp e.key (keys_listed more) up) e has in
      let clash : Equal ≡ Less = sym (tied_itself nat_list_cmp_total e.key) ∙ less in
      cc,
  entries_distinct more (sorted_tail key_cmp e.key (keys_listed more) up),
)

pair_with : List ℕ → ℕ → Pair
pair_with value number = record { value = value; number = number }

pair_same : (one two : Pair) → one.value ≡ two.value → one.number ≡ two.number → one ≡ two
unfolding pair_with
pair_same one two value number = ap (λ v. pair_with v one.number) value ∙ ap (pair_with two.value) number

-- rows of an indexed file have different pairs
module _ (spec : Spec) (i : ℕ) where
  f : Row → Entry
  f row = entry_under spec (Alternate i) row

  behind_row : (o : Organization) (pair : Pair) (rows : List Row)
      → AllByRecursion (λ (p : Pair). pair_cmp pair p ≡ Less) (map (prime_pair o) rows) → (row : Row)
      → Contains rows row → pair_cmp pair (prime_pair o row) ≡ Less
  behind_row o pair [] all row has = absurd (let low = has.1 in omega (arith, low))
  behind_row o pair (a ∷ rows) all row has =
      ⊎_elim (λ (same : row ≡ a). ap (λ (r : Row). pair_cmp pair (prime_pair o r)) same ∙ all.0)
      (λ later. behind_row o pair rows all.1 row later) (in_cons a rows row has)

  pub row_in : (rows : List Row) (e : Entry) → Contains (map (entry_under spec (Alternate i)) rows) e
      → (row : Row) × Contains rows row × (entry_under spec (Alternate i) row ≡ e)
  row_in [] e has = absurd (let low = has.1 in omega (arith, low))
  row_in (a ∷ rows) e has = ⊎_elim (λ (same : e ≡ entry_under spec (Alternate i) a). (a, in_head a rows, sym same))
      (λ later. let r = row_in rows e later in (r.0, in_tail a rows r.0 r.1, r.2))
      (in_cons (entry_under spec (Alternate i) a) (map (entry_under spec (Alternate i)) rows) e has)

  pub entry_in : (rows : List Row) (row : Row) → Contains rows row
      → Contains (map (entry_under spec (Alternate i)) rows) (entry_under spec (Alternate i) row)
  entry_in [] row has = absurd (let low = has.1 in omega (arith, low))
  entry_in (a ∷ rows) row has = ⊎_elim (λ (same : row ≡ a).
      subst (λ (r : Row). Contains (map (entry_under spec (Alternate i)) (a ∷ rows)) (entry_under spec (Alternate i) r))
      (sym same) (in_head (entry_under spec (Alternate i) a) (map (entry_under spec (Alternate i)) rows)))
      (λ later. in_tail (entry_under spec (Alternate i) a) (map (entry_under spec (Alternate i)) rows)
      (entry_under spec (Alternate i) row) (entry_in rows row later)) (in_cons a rows row has)

  rows_distinct : (place_is : (row : Row)
      → part (prime_place spec.organization) row.bytes ≡ (prime_pair spec.organization row).value) (number_is :
      (one two : Row) → (prime_pair spec.organization one).number ≡ (prime_pair spec.organization two).number)
      (rows : List Row) → RowsAscend spec.organization rows → Distinct (map (entry_under spec (Alternate i)) rows)
  rows_distinct place_is number_is [] up = tt
  rows_distinct place_is number_is (a ∷ rows) up = (
    λ has.
        let r = row_in rows (entry_under spec (Alternate i) a) has in
        let less = behind_row spec.organization (prime_pair spec.organization a) rows
        (sorted_head pair_cmp (prime_pair spec.organization a) (map (prime_pair spec.organization) rows) up) r.0 r.1 in
        let value : (prime_pair spec.organization r.0).value ≡ (prime_pair spec.organization a).value =
        sym (place_is r.0) ∙ ap (λ (e : Entry). e.value) r.2 ∙ place_is a in
        let number = number_is r.0 a in
        let pair : prime_pair spec.organization r.0 ≡ prime_pair spec.organization a =
        pair_same (prime_pair spec.organization r.0) (prime_pair spec.organization a) value number in
        let clash : Equal ≡ Less = sym (tied_itself pair_total (prime_pair spec.organization a))
        ∙ ap (pair_cmp (prime_pair spec.organization a)) (sym pair) ∙ less in
        cc,
    rows_distinct place_is number_is rows
        (sorted_tail pair_cmp (prime_pair spec.organization a) (map (prime_pair spec.organization) rows) up),
  )

pub no_alternates : (n : ℕ) (keys : List AlternateKey) (i : ℕ) {A : Type 0} → (length keys == 0) ≡ true
    → suc i ≤ length keys → A
no_alternates n keys i none lt = absurd (let e : length keys ≡ 0 = eqb-true _ _ none in omega (arith, e, lt))

distinct_by : (n : ℕ) (o : Organization) (keys : List AlternateKey) (i : ℕ) (rows : List Row) → are_keys n o keys ≡ true
    → IsKey (spec_with n o keys) (Alternate i) → RowsAscend o rows →
    Distinct (map (entry_under (spec_with n o keys) (Alternate i)) rows)
distinct_by n Sequential keys i rows are within up = no_alternates n keys i are within
distinct_by n Relative keys i rows are within up = no_alternates n keys i are within
distinct_by n (Indexed place) keys i rows are within up =
    rows_distinct (spec_with n (Indexed place) keys) i (λ row. refl) (λ one two. refl) rows up

pairs_distinct : (spec : Spec) (i : ℕ) (rows : List Row) → is_spec spec ≡ true → IsKey spec (Alternate i)
    → RowsAscend spec.organization rows → Distinct (map (entry_under spec (Alternate i)) rows)
pairs_distinct spec i rows is within up =
    distinct_by spec.record_length spec.organization spec.alternates i rows (spec_keys spec is) within up

-- the entry of a key, in any list
module _ (key : List ℕ) where
  pub record IsThere (entries : List Entry) (e : Entry) : Type 0 where
    pub has : Contains entries e
    pub key_is : e.key ≡ key

  found_by : (b : Bool) (a e : Entry) (more : List Entry) → is_eq (key_cmp a.key key) ≡ b
      → (if b then Some a else entry_with more key) ≡ Some e → (entry_with more key ≡ Some e → IsThere more e)
      → IsThere (a ∷ more) e
  found_by true a e more test is rest =
      let same : a ≡ e = cc in
      record {
        has = subst (λ (x : Entry). Contains (a ∷ more) x) same (in_head a more);
        key_is = ap (λ (x : Entry). x.key) (sym same) ∙ bytes_same a.key key test;
      }
  found_by false a e more test is rest = let later =
      rest is in record { has = in_tail a more e later.has; key_is = later.key_is }

  pub found_there : (entries : List Entry) (e : Entry) → entry_with entries key ≡ Some e → IsThere entries e
  found_there [] e is = cc
  found_there (a ∷ more) e is = found_by (is_eq (key_cmp a.key key)) a e more refl is (found_there more e)

  none_by : (b : Bool) (a : Entry) (more : List Entry) → is_eq (key_cmp a.key key) ≡ b
      → (if b then Some a else entry_with more key) ≡ None → (b ≡ false) × (entry_with more key ≡ None)
  none_by true a more test is = cc
  none_by false a more test is = (refl, is)

  pub none_there : (entries : List Entry) (e : Entry) → entry_with entries key ≡ None → Contains entries e → e.key ≡ key
      → ⊥
  none_there [] e is has same = let low = has.1 in omega (arith, low)
  none_there (a ∷ more) e is has same =
      let none = none_by (is_eq (key_cmp a.key key)) a more refl is in
      ⊎_elim
      (λ (here : e ≡ a).
      let equal : is_eq (key_cmp a.key key) ≡ true =
      ap (λ (k : List ℕ). is_eq (key_cmp k key)) (ap (λ (x : Entry). x.key) (sym here) ∙ same) ∙ same_itself key in
      let clash : true ≡ false = sym equal ∙ none.0 in
      absurd {0} cc)
      (λ later. none_there more e none.1 later same) (in_cons a more e has)

module _ (spec : Spec) (i : ℕ) (rows : List Row) (entries : List Entry) (is : is_spec spec ≡ true) (within :
    IsKey spec (Alternate i)) (up : RowsAscend spec.organization rows) (ascend : Ascend (keys_listed entries)) where
  abbrev own : List Entry
  own = map (entry_under spec (Alternate i)) rows

  many : length own ≡ length rows
  many = length-map rows (entry_under spec (Alternate i))

  in_own : ((e : Entry) → Contains entries e → IsPairOf spec i rows e) → (e : Entry) → Contains entries e
      → Contains own e
  in_own all e has = let r = all e has in subst (λ (x : Entry). Contains own x) r.2 (entry_in spec i rows r.0 r.1)

  -- a row without an entry is one row too many
  not_missing : ((e : Entry) → Contains entries e → IsPairOf spec i rows e) → length entries ≡ length rows → (e : Entry)
      → Contains own e → (Contains entries e → ⊥) → ⊥
  not_missing all count e has never =
      let few = no_more (e ∷ entries) own (never, entries_distinct entries ascend)
      (λ y in_both. ⊎_elim (λ (same : y ≡ e). subst (λ (x : Entry). Contains own x) (sym same) has)
      (λ later. in_own all y later) (in_cons e entries y in_both)) in
      let m = many in
      omega (arith, few, m, count)

  by_value : (b : Bool) (y e : Entry) → same_bytes y.value e.value ≡ b → y.key ≡ e.key → Contains entries y
      → entry_with entries e.key ≡ Some y →
      ((Contains entries e → ⊥) → ⊥) → Contains entries e
  by_value true y e test key has found never =
      subst (λ (x : Entry). Contains entries x) (entry_made y e key (bytes_same y.value e.value test)) has
  by_value false y e test key has found never = absurd (never (λ there.
      let both : Some y ≡ Some e = sym found ∙ entry_there entries e ascend there in
      let same : y ≡ e = cc in
      let clash : true ≡ false =
      sym (same_itself e.value) ∙ ap (λ (x : Entry). same_bytes x.value e.value) (sym same) ∙ test in
      absurd {0} cc))

  by_found : (found : Option Entry) (e : Entry) → ((Contains entries e → ⊥) → ⊥) → entry_with entries e.key ≡ found
      → Contains entries e
  by_found None e never found = absurd (never (λ there. none_there e.key entries e found there refl))
  by_found (Some y) e never found =
      let there = found_there e.key entries y found in
      by_value (same_bytes y.value e.value) y e refl there.key_is there.has found never

  pub are_pairs : ((e : Entry) → Contains entries e → IsPairOf spec i rows e) → length entries ≡ length rows
      → AreOf spec (Alternate i) rows entries
  are_pairs all count = record {
    each = λ row has.
        let e : Entry = entry_under spec (Alternate i) row in
        by_found (entry_with entries e.key) e (not_missing all count e (entry_in spec i rows row has)) refl;
    only = all;
  }

  own_there : AreOf spec (Alternate i) rows entries → (e : Entry) → Contains own e → Contains entries e
  own_there are e has = let r =
      row_in spec i rows e has in subst (λ (x : Entry). Contains entries x) r.2 (are.each r.0 r.1)

  pub as_many : AreOf spec (Alternate i) rows entries → length entries ≡ length rows
  as_many are =
      let one = no_more entries own (entries_distinct entries ascend) (in_own are.only) in
      let two = no_more own entries (pairs_distinct spec i rows is within up) (own_there are) in
      let m = many in
      omega (arith, one, two, m)
