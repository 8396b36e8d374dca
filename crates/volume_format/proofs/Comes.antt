-- What a new row does to the trees of a file.
use Rattle.std.proofs.Common.{◌≡◌, ◌⊎◌, inl, inr, ⊎_elim, zero, suc, Bool, true, false, List, [], ◌∷◌, refl, sym, ap}
use Rattle.std.proofs.Common.{subst, ◌∙◌, arith}
use Rattle.std.specs.Prelude.{map, Contains, if◌then◌else◌}
use Rattle.std.specs.List.{All}
use Rattle.std.specs.Ordering.{is_lt}
use Rattle.std.proofs.lemmas.List.Elements.{All-head, All-tail}
use Rattle.btree_pages.specs.Keys.{key_cmp}
use Rattle.btree.specs.Entries.{Entry, with_new_entry}
use Rattle.records.specs.declared.file_spec.Organization.{Organization}
use Rattle.records.specs.declared.key.KeyOfReference.{KeyOfReference}
use Rattle.records.specs.declared.key.KeyOfReference.TheVariants.{Prime}
use Rattle.records.specs.Spec.{Spec}
use Rattle.records.specs.Rows.{Row, pair_cmp, pair_under, prime_pair}
use Rattle.records.specs.Changes.{with_row}
use Rattle.volume_format.specs.Trees.{entry_under, AreOf}
use Rattle.volume_format.specs.Pairs.{IsUnder}
use Rattle.btree.proofs.Runs.{in_head, in_tail}
use Rattle.volume_format.proofs.Order.{keys_in_order}

pub in_cons : {X : Type 0} (x : X) (xs : List X) (y : X) → Contains (x ∷ xs) y → (y ≡ x) ⊎ Contains xs y
in_cons x xs y (zero, lt, is) = inl (sym is)
in_cons x xs y (suc k, lt, is) = inr (k, omega (arith, lt), is)

comes_by : (c : Bool) (spec : Spec) (row new : Row) (rows : List Row)
    → with_new_entry (map (entry_under spec Prime) rows) (entry_under spec Prime new) ≡ map (entry_under spec Prime)
    (with_row spec.organization new rows) →
    (if c then entry_under spec Prime row ∷ with_new_entry (map (entry_under spec Prime) rows) (entry_under spec Prime
    new) else entry_under spec Prime new ∷ entry_under spec Prime row ∷ map (entry_under spec Prime) rows)
    ≡ map (entry_under spec Prime) (if c then row ∷ with_row spec.organization new rows else new ∷ row ∷ rows)
comes_by true spec row new rows rest = ap (λ (es : List Entry). entry_under spec Prime row ∷ es) rest
comes_by false spec row new rows rest = refl

pub row_comes : (spec : Spec) (rows : List Row) (new : Row) → All (IsUnder spec Prime) rows → IsUnder spec Prime new →
    with_new_entry (map (entry_under spec Prime) rows) (entry_under spec Prime new)
    ≡ map (entry_under spec Prime) (with_row spec.organization new rows)
row_comes spec [] new under own = refl
row_comes spec (row ∷ rows) new under own =
    let first = All-head (IsUnder spec Prime) row rows under in
    let same =
    ap is_lt (keys_in_order spec Prime (pair_under spec Prime row) (pair_under spec Prime new) first.pair own.pair) in
    ap (λ (c : Bool). if c
    then entry_under spec Prime row ∷ with_new_entry (map (entry_under spec Prime) rows) (entry_under spec Prime new)
    else entry_under spec Prime new ∷ entry_under spec Prime row ∷ map (entry_under spec Prime) rows) same
    ∙ comes_by (is_lt (pair_cmp (pair_under spec Prime row) (pair_under spec Prime new))) spec row new rows
    (row_comes spec rows new (All-tail (IsUnder spec Prime) row rows under) own)

-- what a list has with one more, wherever it came
pub record Gains {X : Type 0} (old : List X) (x : X) (new : List X) : Type 0 where
  pub own : Contains new x
  pub others : (y : X) → Contains old y → Contains new y
  pub only : (y : X) → Contains new y → (y ≡ x) ⊎ Contains old y

gains_first : {X : Type 0} (old : List X) (x : X) → Gains old x (x ∷ old)
gains_first old x =
    record { own = in_head x old; others = λ y has. in_tail x old y has; only = λ y has. in_cons x old y has }

gains_later : {X : Type 0} (a : X) (old : List X) (x : X) (new : List X) → Gains old x new → Gains (a ∷ old) x (a ∷ new)
gains_later a old x new gains = record {
  own = in_tail a new x gains.own;
  others = λ y has. ⊎_elim (λ same. subst (λ z. Contains (a ∷ new) z) (sym same) (in_head a new))
      (λ later. in_tail a new y (gains.others y later)) (in_cons a old y has);
  only = λ y has. ⊎_elim (λ same. inr (subst (λ z. Contains (a ∷ old) z) (sym same) (in_head a old)))
      (λ later. ⊎_elim inl (λ was. inr (in_tail a old y was)) (gains.only y later)) (in_cons a new y has);
}

gains_by : {X : Type 0} (c : Bool) (a : X) (old : List X) (x : X) (new : List X) → Gains old x new
    → Gains (a ∷ old) x (if c then a ∷ new else x ∷ a ∷ old)
gains_by true a old x new gains = gains_later a old x new gains
gains_by false a old x new gains = gains_first (a ∷ old) x

pub entry_gains : (entries : List Entry) (e : Entry) → Gains entries e (with_new_entry entries e)
entry_gains [] e = gains_first [] e
entry_gains (a ∷ more) e = gains_by (is_lt (key_cmp a.key e.key)) a more e (with_new_entry more e) (entry_gains more e)

pub row_gains : (organization : Organization) (rows : List Row) (new : Row)
    → Gains rows new (with_row organization new rows)
row_gains organization [] new = gains_first [] new
row_gains organization (a ∷ more) new =
    gains_by (is_lt (pair_cmp (prime_pair organization a) (prime_pair organization new))) a more new
    (with_row organization new more) (row_gains organization more new)

pub pair_comes : (spec : Spec) (key : KeyOfReference) (rows : List Row) (entries : List Entry) (new : Row)
    → AreOf spec key rows entries →
    AreOf spec key (with_row spec.organization new rows) (with_new_entry entries (entry_under spec key new))
pair_comes spec key rows entries new are =
    let es = entry_gains entries (entry_under spec key new) in
    let rs = row_gains spec.organization rows new in
    record {
      each = λ row has. ⊎_elim (λ same. subst (λ (r : Row).
          Contains (with_new_entry entries (entry_under spec key new)) (entry_under spec key r)) (sym same) es.own)
          (λ was. es.others (entry_under spec key row) (are.each row was)) (rs.only row has);
      only = λ entry has. ⊎_elim (λ same. (new, rs.own, sym same)) (λ was. let of =
          are.only entry was in (of.0, rs.others of.0 of.1, of.2)) (es.only entry has);
    }
