-- What a row that leaves, or gets another record, does to the trees of a file.
use Rattle.std.proofs.Common.{◌≡◌, ◌⊎◌, inl, inr, ⊎_elim, ℕ, Bool, true, false, not, List, [], ◌∷◌, refl, sym, ap}
use Rattle.std.proofs.Common.{subst, ◌∙◌}
use Rattle.std.specs.Prelude.{map, Contains, Some, if◌then◌else◌}
use Rattle.std.specs.Option.{option_map}
use Rattle.std.specs.List.{All, AllByRecursion}
use Rattle.std.specs.Ordering.{is_eq, ordering_reverse}
use Rattle.std.specs.declared.cmp.Ordering.TheVariants.{Less}
use Rattle.std.proofs.lemmas.List.Elements.{All-head, All-tail}
use Rattle.std.proofs.lemmas.Map.Keys.{sorted_head, sorted_tail}
use Rattle.btree_pages.specs.Keys.{key_cmp}
use Rattle.btree.specs.Entries.{Entry, entry_with, with_value, without_entry}
use Rattle.btree.proofs.Runs.{in_head, in_tail, in_none}
use Rattle.records.specs.declared.file_spec.Organization.{Organization}
use Rattle.records.specs.declared.key.KeyOfReference.TheVariants.{Prime}
use Rattle.records.specs.Spec.{Spec}
use Rattle.records.specs.Rows.{Row, Pair, pair_cmp, prime_pair, pair_under}
use Rattle.records.specs.Changes as rows
use Rattle.records.specs.Changes.{is_at, row_at, in_place}
use Rattle.records.specs.Laws.{RowsAscend}
use Rattle.records.proofs.Ascending.{pair_total}
use Rattle.records.proofs.Changed.{pair_same}
use Rattle.volume_format.specs.Trees.{entry_under, key_under}
use Rattle.volume_format.specs.Pairs.{IsPair, IsUnder}
use Rattle.volume_format.proofs.Comes.{in_cons}
use Rattle.volume_format.proofs.Order.{keys_in_order}

-- Of rows that ascend one alone is at a pair.
module _ (o : Organization) (pair : Pair) where
  apart_from : (row : Row) → pair_cmp pair (prime_pair o row) ≡ Less → is_at o pair row ≡ false
  apart_from row less = ap is_eq (pair_total.antisymm (prime_pair o row) pair ∙ ap ordering_reverse less)

  behind : (other : Pair) (all : List Row) → AllByRecursion (λ (p : Pair). pair_cmp other p ≡ Less)
      (map (prime_pair o) all) → AllByRecursion (λ (r : Row). pair_cmp other (prime_pair o r) ≡ Less) all
  behind other [] up = tt
  behind other (row ∷ all) up = (up.0, behind other all up.1)

  none_later : (all : List Row) → AllByRecursion (λ (r : Row). pair_cmp pair (prime_pair o r) ≡ Less) all
      → AllByRecursion (λ (r : Row). is_at o pair r ≡ false) all
  none_later [] up = tt
  none_later (row ∷ all) up = (apart_from row up.0, none_later all up.1)

  -- after the row at it no row is at it
  pub alone : (row : Row) (all : List Row) → RowsAscend o (row ∷ all) → is_at o pair row ≡ true
      → AllByRecursion (λ (r : Row). is_at o pair r ≡ false) all
  alone row all up at =
      let same : prime_pair o row ≡ pair = pair_same (prime_pair o row) pair at in
      let later = behind (prime_pair o row) all (sorted_head pair_cmp (prime_pair o row) (map (prime_pair o) all) up) in
      none_later all
      (subst (λ (p : Pair). AllByRecursion (λ (r : Row). pair_cmp p (prime_pair o r) ≡ Less) all) same later)

  pub later : (row : Row) (all : List Row) → RowsAscend o (row ∷ all) → RowsAscend o all
  later row all up = sorted_tail pair_cmp (prime_pair o row) (map (prime_pair o) all) up

  -- where no row is at it, none leaves
  pub all_stay : (all : List Row) → AllByRecursion (λ (r : Row). is_at o pair r ≡ false) all
      → rows.without_pair o pair all ≡ all
  all_stay [] none = refl
  all_stay (row ∷ all) none =
      ap (λ (b : Bool). if not b then row ∷ rows.without_pair o pair all else rows.without_pair o pair all) none.0
      ∙ ap (λ (l : List Row). row ∷ l) (all_stay all none.1)

  none_changes : (new : Row) (all : List Row) → AllByRecursion (λ (r : Row). is_at o pair r ≡ false) all
      → in_place o pair new all ≡ all
  none_changes new [] none = refl
  none_changes new (row ∷ all) none =
      ap (λ (b : Bool). (if b then new else row) ∷ in_place o pair new all) none.0
      ∙ ap (λ (l : List Row). row ∷ l) (none_changes new all none.1)

  -- the row at it
  at_by : (b : Bool) (row old : Row) (all : List Row)
      → is_at o pair row ≡ b → (if b then Some row else row_at o pair all) ≡ Some old
      → (row_at o pair all ≡ Some old → Contains all old × (is_at o pair old ≡ true)) →
      Contains (row ∷ all) old × (is_at o pair old ≡ true)
  at_by true row old all at is rest = let same : row ≡ old =
      cc in (subst (λ (r : Row). Contains (row ∷ all) r) same (in_head row all), ap (is_at o pair) (sym same) ∙ at)
  at_by false row old all at is rest = let found = rest is in (in_tail row all old found.0, found.1)

  pub row_there : (old : Row) (all : List Row) → row_at o pair all ≡ Some old
      → Contains all old × (is_at o pair old ≡ true)
  row_there old [] is = absurd cc
  row_there old (row ∷ all) is = at_by (is_at o pair row) row old all refl is (row_there old all)

  none_of : (all : List Row) (row : Row) → AllByRecursion (λ (r : Row). is_at o pair r ≡ false) all → Contains all row
      → is_at o pair row ≡ false
  none_of [] row none has = absurd (in_none row has)
  none_of (r ∷ all) row none has =
      ⊎_elim (λ same. ap (is_at o pair) same ∙ none.0) (λ more. none_of all row none.1 more) (in_cons r all row has)

  at_one : (b : Bool) (r row old : Row) (all : List Row) → is_at o pair r ≡ b → RowsAscend o (r ∷ all)
      → (if b then Some r else row_at o pair all) ≡ Some old → (row ≡ r) ⊎ Contains all row → is_at o pair row ≡ true →
      (row_at o pair all ≡ Some old → Contains all row → row ≡ old) → row ≡ old
  at_one true r row old all at up is (inl same) own rest = let first : r ≡ old = cc in same ∙ first
  at_one true r row old all at up is (inr has) own rest =
      absurd (let clash : true ≡ false = sym own ∙ none_of all row (alone r all up at) has in cc)
  at_one false r row old all at up is (inl same) own rest =
      absurd (let clash : true ≡ false = sym own ∙ ap (is_at o pair) same ∙ at in cc)
  at_one false r row old all at up is (inr has) own rest = rest is has

  pub one_at : (old row : Row) (all : List Row) → RowsAscend o all → row_at o pair all ≡ Some old → Contains all row
      → is_at o pair row ≡ true → row ≡ old
  one_at old row [] up is has own = absurd (in_none row has)
  one_at old row (r ∷ all) up is has own = at_one (is_at o pair r) r row old all refl up is (in_cons r all row has) own
      (λ more there. one_at old row all (later r all up) more there own)

  -- which rows are left
  left_by : (b : Bool) (r row : Row) (all : List Row) → is_at o pair r ≡ b
      → Contains (if not b then r ∷ rows.without_pair o pair all else rows.without_pair o pair all) row
      → (Contains (rows.without_pair o pair all) row → Contains all row × (is_at o pair row ≡ false)) →
      Contains (r ∷ all) row × (is_at o pair row ≡ false)
  left_by true r row all at has rest = let found = rest has in (in_tail r all row found.0, found.1)
  left_by false r row all at has rest =
      ⊎_elim (λ same.
      (subst (λ (x : Row). Contains (r ∷ all) x) (sym same) (in_head r all), ap (is_at o pair) same ∙ at)) (λ more.
      let found = rest more in (in_tail r all row found.0, found.1)) (in_cons r (rows.without_pair o pair all) row has)

  pub left_of : (row : Row) (all : List Row) → Contains (rows.without_pair o pair all) row
      → Contains all row × (is_at o pair row ≡ false)
  left_of row [] has = absurd (in_none row has)
  left_of row (r ∷ all) has = left_by (is_at o pair r) r row all refl has (left_of row all)

  stay_by : (b : Bool) (r row : Row) (all : List Row) → is_at o pair r ≡ b → (row ≡ r) ⊎ Contains all row
      → is_at o pair row ≡ false → (Contains all row → Contains (rows.without_pair o pair all) row) →
      Contains (if not b then r ∷ rows.without_pair o pair all else rows.without_pair o pair all) row
  stay_by true r row all at (inl same) other rest =
      absurd (let clash : true ≡ false = sym at ∙ ap (is_at o pair) (sym same) ∙ other in cc)
  stay_by true r row all at (inr has) other rest = rest has
  stay_by false r row all at (inl same) other rest = subst (λ (x : Row). Contains (r ∷ rows.without_pair o pair all) x)
      (sym same) (in_head r (rows.without_pair o pair all))
  stay_by false r row all at (inr has) other rest = in_tail r (rows.without_pair o pair all) row (rest has)

  pub stays : (row : Row) (all : List Row) → Contains all row → is_at o pair row ≡ false
      → Contains (rows.without_pair o pair all) row
  stays row [] has other = absurd (in_none row has)
  stays row (r ∷ all) has other =
      stay_by (is_at o pair r) r row all refl (in_cons r all row has) other (λ more. stays row all more other)

  -- and with another in place of the one at it
  put_by : (b : Bool) (new r row : Row) (all : List Row) → is_at o pair r ≡ b
      → (row ≡ (if b then new else r)) ⊎ Contains (in_place o pair new all) row
      → (Contains (in_place o pair new all) row → (row ≡ new) ⊎ Contains (rows.without_pair o pair all) row) →
      (row ≡ new) ⊎ Contains (if not b then r ∷ rows.without_pair o pair all else rows.without_pair o pair all) row
  put_by true new r row all at (inl same) rest = inl same
  put_by true new r row all at (inr has) rest = rest has
  put_by false new r row all at (inl same) rest = inr (subst (λ (x : Row).
      Contains (r ∷ rows.without_pair o pair all) x) (sym same) (in_head r (rows.without_pair o pair all)))
  put_by false new r row all at (inr has) rest =
      ⊎_elim (λ same. inl same) (λ more. inr (in_tail r (rows.without_pair o pair all) row more)) (rest has)

  pub in_its_place : (new row : Row) (all : List Row) → Contains (in_place o pair new all) row
      → (row ≡ new) ⊎ Contains (rows.without_pair o pair all) row
  in_its_place new row [] has = absurd (in_none row has)
  in_its_place new row (r ∷ all) has =
      put_by (is_at o pair r) new r row all refl
      (in_cons (if is_at o pair r then new else r) (in_place o pair new all) row has) (in_its_place new row all)

  kept_by : (b : Bool) (new r row : Row) (all : List Row)
      → Contains (if not b then r ∷ rows.without_pair o pair all else rows.without_pair o pair all) row
      → (Contains (rows.without_pair o pair all) row → Contains (in_place o pair new all) row) →
      Contains ((if b then new else r) ∷ in_place o pair new all) row
  kept_by true new r row all has rest = in_tail new (in_place o pair new all) row (rest has)
  kept_by false new r row all has rest =
      ⊎_elim (λ same.
      subst (λ (x : Row). Contains (r ∷ in_place o pair new all) x) (sym same) (in_head r (in_place o pair new all)))
      (λ more. in_tail r (in_place o pair new all) row (rest more)) (in_cons r (rows.without_pair o pair all) row has)

  pub kept_in_place : (new row : Row) (all : List Row) → Contains (rows.without_pair o pair all) row
      → Contains (in_place o pair new all) row
  kept_in_place new row [] has = has
  kept_in_place new row (r ∷ all) has = kept_by (is_at o pair r) new r row all has (kept_in_place new row all)

  came_by : (b : Bool) (new r old : Row) (all : List Row) → (if b then Some r else row_at o pair all) ≡ Some old
      → (row_at o pair all ≡ Some old → Contains (in_place o pair new all) new)
      → Contains ((if b then new else r) ∷ in_place o pair new all) new
  came_by true new r old all is rest = in_head new (in_place o pair new all)
  came_by false new r old all is rest = in_tail r (in_place o pair new all) new (rest is)

  pub came_in_place : (new old : Row) (all : List Row) → row_at o pair all ≡ Some old
      → Contains (in_place o pair new all) new
  came_in_place new old [] is = absurd cc
  came_in_place new old (r ∷ all) is = came_by (is_at o pair r) new r old all is (came_in_place new old all)

-- The tree of rows.
module _ (spec : Spec) (pair : Pair) (is : IsPair spec Prime pair) where
  abbrev own : Row → Entry
  own row = entry_under spec Prime row

  test : (row : Row) → IsUnder spec Prime row
      → is_eq (key_cmp (own row).key (key_under spec Prime pair)) ≡ is_at spec.organization pair row
  test row under = ap is_eq (keys_in_order spec Prime (pair_under spec Prime row) pair under.pair is)

  leaves_by : (b : Bool) (row : Row) (all : List Row) → (b ≡ true → rows.without_pair spec.organization pair all ≡ all)
      → without_entry (map own all) (key_under spec Prime pair) ≡ map own (rows.without_pair spec.organization pair all)
      →
      (if b then map own all else own row ∷ without_entry (map own all) (key_under spec Prime pair)) ≡ map own (if not b
      then row ∷ rows.without_pair spec.organization pair all else rows.without_pair spec.organization pair all)
  leaves_by true row all whole rest = ap (map own) (sym (whole refl))
  leaves_by false row all whole rest = ap (λ (es : List Entry). own row ∷ es) rest

  pub row_leaves : (all : List Row) → All (IsUnder spec Prime) all → RowsAscend spec.organization all
      → without_entry (map own all) (key_under spec Prime pair) ≡ map own (rows.without_pair spec.organization pair all)
  row_leaves [] under up = refl
  row_leaves (row ∷ all) under up =
      ap (λ (b : Bool). if b then map own all else own row ∷ without_entry (map own all) (key_under spec Prime pair))
      (test row (All-head (IsUnder spec Prime) row all under))
      ∙ leaves_by (is_at spec.organization pair row) row all
      (λ at. all_stay spec.organization pair all (alone spec.organization pair row all up at))
      (row_leaves all (All-tail (IsUnder spec Prime) row all under) (later spec.organization pair row all up))

  changes_by : (b : Bool) (row new : Row) (all : List Row) → (b ≡ true → in_place spec.organization pair new all ≡ all)
      → with_value (map own all) (own new) ≡ map own (in_place spec.organization pair new all) →
      (if b then own new ∷ map own all else own row ∷ with_value (map own all) (own new))
      ≡ map own ((if b then new else row) ∷ in_place spec.organization pair new all)
  changes_by true row new all whole rest = ap (λ (l : List Row). own new ∷ map own l) (sym (whole refl))
  changes_by false row new all whole rest = ap (λ (es : List Entry). own row ∷ es) rest

  pub row_changes : (new : Row) (all : List Row)
      → prime_pair spec.organization new ≡ pair → All (IsUnder spec Prime) all → RowsAscend spec.organization all
      → with_value (map own all) (own new) ≡ map own (in_place spec.organization pair new all)
  row_changes new [] same under up = refl
  row_changes new (row ∷ all) same under up =
      let key : (own new).key ≡ key_under spec Prime pair = ap (key_under spec Prime) same in
      ap (λ (k : List ℕ). if is_eq (key_cmp (own row).key k) then own new ∷ map own all
      else own row ∷ with_value (map own all) (own new)) key
      ∙ ap (λ (b : Bool). if b then own new ∷ map own all else own row ∷ with_value (map own all) (own new))
      (test row (All-head (IsUnder spec Prime) row all under))
      ∙ changes_by (is_at spec.organization pair row) row new all
      (λ at. none_changes spec.organization pair new all (alone spec.organization pair row all up at))
      (row_changes new all same (All-tail (IsUnder spec Prime) row all under) (later spec.organization pair row all up))

  found_by : (b : Bool) (row : Row) (all : List Row)
      → entry_with (map own all) (key_under spec Prime pair) ≡ option_map own (row_at spec.organization pair all) →
      (if b then Some (own row) else entry_with (map own all) (key_under spec Prime pair))
      ≡ option_map own (if b then Some row else row_at spec.organization pair all)
  found_by true row all rest = refl
  found_by false row all rest = rest

  pub row_found : (all : List Row) → All (IsUnder spec Prime) all
      → entry_with (map own all) (key_under spec Prime pair) ≡ option_map own (row_at spec.organization pair all)
  row_found [] under = refl
  row_found (row ∷ all) under =
      ap (λ (b : Bool). if b then Some (own row) else entry_with (map own all) (key_under spec Prime pair))
      (test row (All-head (IsUnder spec Prime) row all under))
      ∙ found_by (is_at spec.organization pair row) row all
      (row_found all (All-tail (IsUnder spec Prime) row all under))
