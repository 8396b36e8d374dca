-- The least row that a test takes, and the first entry.
use Rattle.std.proofs.Common.{◌≡◌, ◌⊎◌, inl, inr, ⊎_elim, ℕ, Bool, true, false, not, cond, List, [], ◌∷◌, refl, sym, ap}
use Rattle.std.proofs.Common.{subst, ◌∙◌}
use Rattle.std.specs.Prelude.{map, Contains, Option, Some, None, if◌then◌else◌}
use Rattle.std.specs.List.{filter, AllByRecursion}
use Rattle.std.specs.List.Sorted.{IsStrictlySortedBy}
use Rattle.std.specs.Ordering.{is_lt, is_gt, ordering_reverse}
use Rattle.std.specs.declared.cmp.Ordering.{Ordering}
use Rattle.std.specs.declared.cmp.Ordering.TheVariants.{Less, Equal, Greater}
use Rattle.std.specs.Cmp.{IsTotalOrder}
use Rattle.std.proofs.lemmas.Cmp.{nat_list_cmp_total, nat_cmp_total, then_total, on_total, upto, tied_itself}
use Rattle.btree_pages.specs.Keys.{key_cmp, Precedes, Ascend}
use Rattle.btree.specs.Entries.{Entry, first_from, first_entry_after}
use Rattle.records.specs.declared.key.KeyOfReference.{KeyOfReference}
use Rattle.records.specs.Spec.{Spec}
use Rattle.records.specs.Rows.{Row, Pair, pair_cmp, pair_under}
use Rattle.records.specs.Order.{lesser, least_row}
use Rattle.btree.proofs.Runs.{in_head, in_tail, in_none}
use Rattle.volume_format.proofs.Comes.{in_cons}

pub pair_order : IsTotalOrder pair_cmp
pair_order =
    then_total (on_total (λ (p : Pair). p.value) nat_list_cmp_total) (on_total (λ (p : Pair). p.number) nat_cmp_total)

not_gt_back : (o : Ordering) → is_gt o ≡ true → is_gt (ordering_reverse o) ≡ false
not_gt_back Less is = cc
not_gt_back Equal is = refl
not_gt_back Greater is = refl

pub lower_back : (one two : Pair) → is_gt (pair_cmp one two) ≡ true → is_gt (pair_cmp two one) ≡ false
lower_back one two is = ap is_gt (pair_order.antisymm two one) ∙ not_gt_back (pair_cmp one two) is

-- the least row that a test takes
pub record IsFirst (spec : Spec) (key : KeyOfReference) (test : Row → Bool) (rows : List Row) (m : Row) : Type 0 where
  pub has : Contains rows m
  pub right : test m ≡ true
  pub first : (x : Row) → Contains rows x → test x ≡ true
      → is_gt (pair_cmp (pair_under spec key m) (pair_under spec key x)) ≡ false

abbrev pub IsLeast : Spec → KeyOfReference → (Row → Bool) → List Row → Option Row → Type 0
IsLeast spec key test rows None = (x : Row) → Contains rows x → test x ≡ true → ⊥
IsLeast spec key test rows (Some m) = IsFirst spec key test rows m

module _ (spec : Spec) (key : KeyOfReference) (test : Row → Bool) where
  abbrev g : Row → Pair
  g row = pair_under spec key row

  by_lesser : (c : Bool) (a o : Row) (more : List Row) → is_gt (pair_cmp (g a) (g o)) ≡ c → test a ≡ true
      → IsFirst spec key test more o → IsFirst spec key test (a ∷ more) (if c then o else a)
  by_lesser true a o more is taken rest = record {
    has = in_tail a more o rest.has;
    right = rest.right;
    first = λ x has right. ⊎_elim
        (λ same. subst (λ (y : Row). is_gt (pair_cmp (g o) (g y)) ≡ false) (sym same) (lower_back (g a) (g o) is))
        (λ later. rest.first x later right) (in_cons a more x has);
  }
  by_lesser false a o more is taken rest = record {
    has = in_head a more;
    right = taken;
    first = λ x has right. ⊎_elim
        (λ same. subst (λ (y : Row). is_gt (pair_cmp (g a) (g y)) ≡ false) (sym same)
        (ap is_gt (tied_itself pair_order (g a))))
        (λ later. upto pair_order (g a) (g o) (g x) is (rest.first x later right)) (in_cons a more x has);
  }

  with_rest : (a : Row) (more : List Row) (rest : Option Row) → test a ≡ true → IsLeast spec key test more rest
      → IsLeast spec key test (a ∷ more) (lesser spec key a rest)
  with_rest a more None taken none = record {
    has = in_head a more;
    right = taken;
    first = λ x has right. ⊎_elim
        (λ same. subst (λ (y : Row). is_gt (pair_cmp (g a) (g y)) ≡ false) (sym same)
        (ap is_gt (tied_itself pair_order (g a))))
        (λ later. absurd (none x later right)) (in_cons a more x has);
  }
  with_rest a more (Some o) taken rest = by_lesser (is_gt (pair_cmp (g a) (g o))) a o more refl taken rest

  without_it : (a : Row) (more : List Row) (rest : Option Row) → test a ≡ false → IsLeast spec key test more rest
      → IsLeast spec key test (a ∷ more) rest
  without_it a more None left none = λ x has right.
      ⊎_elim (λ same. let clash : false ≡ true =
      sym left ∙ ap test (sym same) ∙ right in cc) (λ later. none x later right) (in_cons a more x has)
  without_it a more (Some m) left rest = record {
    has = in_tail a more m rest.has;
    right = rest.right;
    first = λ x has right. ⊎_elim (λ same. let clash : false ≡ true =
        sym left ∙ ap test (sym same) ∙ right in cc) (λ later. rest.first x later right) (in_cons a more x has);
  }

  by_test : (c : Bool) (a : Row) (more : List Row)
      → test a ≡ c → IsLeast spec key test more (least_row spec key (filter test more))
      → IsLeast spec key test (a ∷ more) (least_row spec key (cond c (a ∷ filter test more) (filter test more)))
  by_test true a more is rest = with_rest a more (least_row spec key (filter test more)) is rest
  by_test false a more is rest = without_it a more (least_row spec key (filter test more)) is rest

  pub is_least : (rows : List Row) → IsLeast spec key test rows (least_row spec key (filter test rows))
  is_least [] = λ x has right. in_none x has
  is_least (a ∷ more) = by_test (test a) a more refl (is_least more)

-- The first entry that a test of keys takes.
abbrev pub first_where : (List ℕ → Bool) → List Entry → Option Entry
first_where test [] = None
first_where test (e ∷ more) = if test e.key then Some e else first_where test more

pub record IsAhead (test : List ℕ → Bool) (entries : List Entry) (e : Entry) : Type 0 where
  pub has : Contains entries e
  pub right : test e.key ≡ true
  pub first : (x : Entry) → Contains entries x → test x.key ≡ true → (x ≡ e) ⊎ Precedes e.key x.key

abbrev pub IsHead : (List ℕ → Bool) → List Entry → Option Entry → Type 0
IsHead test entries None = (x : Entry) → Contains entries x → test x.key ≡ true → ⊥
IsHead test entries (Some e) = IsAhead test entries e

abbrev pub keys : List Entry → List (List ℕ)
keys entries = map (λ (e : Entry). e.key) entries

pub behind_first : (e : Entry) (more : List Entry) (x : Entry)
    → AllByRecursion (λ y. key_cmp e.key y ≡ Less) (keys more) → Contains more x → Precedes e.key x.key
behind_first e [] x all has = absurd (in_none x has)
behind_first e (a ∷ more) x all has =
    ⊎_elim (λ same. subst (λ (y : Entry). Precedes e.key y.key) (sym same) all.0)
    (λ later. behind_first e more x all.1 later) (in_cons a more x has)

module _ (test : List ℕ → Bool) where
  passed : (a : Entry) (more : List Entry) (rest : Option Entry) → test a.key ≡ false → IsHead test more rest
      → IsHead test (a ∷ more) rest
  passed a more None left none = λ x has right.
      ⊎_elim (λ same. let clash : false ≡ true = sym left ∙ ap (λ (e : Entry). test e.key) (sym same) ∙ right in cc)
      (λ later. none x later right) (in_cons a more x has)
  passed a more (Some e) left rest = record {
    has = in_tail a more e rest.has;
    right = rest.right;
    first =
        λ x has right. ⊎_elim (λ same. let clash : false ≡ true = sym left ∙ ap (λ (y : Entry). test y.key) (sym same)
        ∙ right in cc) (λ later. rest.first x later right) (in_cons a more x has);
  }

  by_key : (c : Bool) (a : Entry) (more : List Entry) → test a.key ≡ c
      → AllByRecursion (λ y. key_cmp a.key y ≡ Less) (keys more) → IsHead test more (first_where test more)
      → IsHead test (a ∷ more) (if c then Some a else first_where test more)
  by_key true a more is above rest = record {
    has = in_head a more;
    right = is;
    first = λ x has right. ⊎_elim inl (λ later. inr (behind_first a more x above later)) (in_cons a more x has);
  }
  by_key false a more is above rest = passed a more (first_where test more) is rest

  pub is_head : (entries : List Entry) → Ascend (keys entries) → IsHead test entries (first_where test entries)
  unfolding IsStrictlySortedBy
  is_head [] up = λ x has right. in_none x has
  is_head (a ∷ more) up = by_key (test a.key) a more refl up.0 (is_head more up.1)

-- `first_from` and `first_entry_after` are of this kind
from_by : (c : Bool) (e : Entry) (one two : Option Entry) → one ≡ two
    → (if c then one else Some e) ≡ (if not c then Some e else two)
from_by true e one two same = same
from_by false e one two same = refl

pub from_where : (entries : List Entry) (at : List ℕ)
    → first_from entries at ≡ first_where (λ key. not (is_lt (key_cmp key at))) entries
from_where [] at = refl
from_where (e ∷ more) at = from_by (is_lt (key_cmp e.key at)) e (first_from more at)
    (first_where (λ key. not (is_lt (key_cmp key at))) more) (from_where more at)

pub after_where : (entries : List Entry) (at : List ℕ)
    → first_entry_after entries at ≡ first_where (λ key. is_gt (key_cmp key at)) entries
after_where [] at = refl
after_where (e ∷ more) at =
    ap (λ (o : Option Entry). if is_gt (key_cmp e.key at) then Some e else o) (after_where more at)

pub never_where : (entries : List Entry) → first_where (λ key. false) entries ≡ None
never_where [] = refl
never_where (e ∷ more) = never_where more
