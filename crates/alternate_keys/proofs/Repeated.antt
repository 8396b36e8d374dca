-- A value of an alternate key is there where the first pair from it on has it.
use Rattle.std.proofs.Common.{◌≡◌, ◌+◌, ◌<◌, ⊎_elim, ℕ, Bool, true, false, not, ◌||◌, List, [], ◌∷◌, ◌++◌, length, refl}
use Rattle.std.proofs.Common.{sym, ap, ◌∙◌, arith}
use Rattle.std.specs.Prelude.{nat_lt, Contains, Option, Some, None, if◌then◌else◌}
use Rattle.std.specs.List.{All, list_any}
use Rattle.std.specs.Option.{option_map}
use Rattle.std.specs.Ordering.{nat_cmp, ordering_then, is_lt, is_gt, is_eq}
use Rattle.std.specs.declared.cmp.Ordering.{Ordering}
use Rattle.std.specs.declared.cmp.Ordering.TheVariants.{Less, Equal, Greater}
use Rattle.std.proofs.lemmas.Cmp.{nat_list_cmp_total, tied_itself, ranked}
use Rattle.byteorder.specs.Endian.{big_bytes}
use Rattle.btree_pages.specs.Keys.{Ascend}
use Rattle.btree.specs.Entries.{Entry}
use Rattle.btree.specs.Laws.{keys_listed}
use Rattle.btree.proofs.Runs.{in_head, in_tail}
use Rattle.records.specs.declared.key.KeyOfReference.{KeyOfReference}
use Rattle.records.specs.declared.key.KeyOfReference.TheVariants.{Alternate}
use Rattle.records.specs.declared.key.Side.TheVariants as side
use Rattle.records.specs.Spec.{Spec}
use Rattle.records.specs.Rows.{Row, Pair, bytes_cmp, same_bytes, pair_cmp, pair_under}
use Rattle.records.specs.Order.{RowBound, is_after, sought_row, has_value}
use Rattle.records.specs.Stores.{key_length}
use Rattle.records.proofs.Maps.{bytes_same}
use Rattle.volume_format.specs.Trees.{entry_under, AreOf}
use Rattle.volume_format.specs.Pairs.{IsUnder}
use Rattle.volume_format.proofs.Comes.{in_cons}
use Rattle.alternate_keys.specs.declared.search_start.SearchStart.TheVariants as aim
use Rattle.alternate_keys.specs.Aims.{aim_at, aim_short, fill, extended_bytes, pair_aim_key, found_entry}
use Rattle.alternate_keys.specs.Seen.{begins_with_value}
use Rattle.alternate_keys.proofs.Least.{IsLeast, IsFirst, is_least}
use Rattle.alternate_keys.proofs.Sought.{finds_sought}
use Rattle.alternate_keys.proofs.Tells.{not_less, same_value, least_in}

any_by : {X : Type 0} (b : Bool) (f : X → Bool) (x : X) (xs : List X) → f x ≡ b → (f x ≡ true → ⊥)
    → list_any f xs ≡ false → list_any f (x ∷ xs) ≡ false
any_by true f x xs is never rest = absurd (never is)
any_by false f x xs is never rest = ap (λ b. b || list_any f xs) is ∙ rest

any_none : {X : Type 0} (f : X → Bool) (xs : List X) → ((x : X) → Contains xs x → f x ≡ true → ⊥)
    → list_any f xs ≡ false
any_none f [] none = refl
any_none f (x ∷ xs) none =
    any_by (f x) f x xs refl (none x (in_head x xs)) (any_none f xs (λ y has. none y (in_tail x xs y has)))

or_true : (a b : Bool) → b ≡ true → (a || b) ≡ true
or_true true b is = refl
or_true false b is = is

any_some : {X : Type 0} (f : X → Bool) (xs : List X) (x : X) → Contains xs x → f x ≡ true → list_any f xs ≡ true
any_some f [] x has is = absurd (let low = has.1 in omega (arith, low))
any_some f (y ∷ xs) x has is =
    ⊎_elim (λ same. ap (λ b. b || list_any f xs) (ap f (sym same) ∙ is))
    (λ later. or_true (f y) (list_any f xs) (any_some f xs x later is)) (in_cons y xs x has)

module _ (spec : Spec) (key : KeyOfReference) (v : List ℕ) where
  abbrev value : Row → List ℕ
  value row = (pair_under spec key row).value

  abbrev has : Row → Bool
  has row = same_bytes (value row) v

  abbrev test : Row → Bool
  test row = is_after side.From (record { value = v; number = 0 }) (pair_under spec key row)

  not_below_by : (o : Ordering) (n : ℕ) → o ≡ nat_cmp n 0 → not (is_lt o) ≡ true
  not_below_by Less n is = let low : n < 0 = ranked n 0 Less is in absurd (omega (arith, low))
  not_below_by Equal n is = refl
  not_below_by Greater n is = refl

  not_below : (n : ℕ) → not (is_lt (nat_cmp n 0)) ≡ true
  not_below n = not_below_by (nat_cmp n 0) n refl

  -- a row with that value is after the place
  passes : (row : Row) → has row ≡ true → test row ≡ true
  passes row is =
      let same : value row ≡ v = bytes_same (value row) v is in
      ap (λ (x : List ℕ). not (is_lt (ordering_then (bytes_cmp x v) (nat_cmp (pair_under spec key row).number 0)))) same
      ∙ ap (λ (o : Ordering). not (is_lt (ordering_then o (nat_cmp (pair_under spec key row).number 0))))
      (tied_itself nat_list_cmp_total v)
      ∙ not_below (pair_under spec key row).number

  -- where the first row after the place hasn't that value, its value is greater
  greater_by : (o : Ordering) (r : Ordering) → is_eq o ≡ false → not (is_lt (ordering_then o r)) ≡ true → o ≡ Greater
  greater_by Less r other behind = cc
  greater_by Equal r other behind = cc
  greater_by Greater r other behind = refl

  none_has : (m x : Row) → has m ≡ false → test m ≡ true
      → is_gt (pair_cmp (pair_under spec key m) (pair_under spec key x)) ≡ false → has x ≡ true → ⊥
  none_has m x other behind first is =
      let same : value x ≡ v = bytes_same (value x) v is in
      let above : bytes_cmp (value m) v ≡ Greater =
      greater_by (bytes_cmp (value m) v) (nat_cmp (pair_under spec key m).number 0) other behind in
      let clash : true ≡ false =
      sym (ap (λ (o : Ordering).
      is_gt (ordering_then o (nat_cmp (pair_under spec key m).number (pair_under spec key x).number))) above)
      ∙ ap (λ (w : List ℕ). is_gt (ordering_then (bytes_cmp (value m) w)
      (nat_cmp (pair_under spec key m).number (pair_under spec key x).number))) (sym same) ∙ first in
      cc

  first_by : (b : Bool) (rows : List Row) (m : Row) → has m ≡ b → IsFirst spec key test rows m → b ≡ list_any has rows
  first_by true rows m is first = sym (any_some has rows m first.has is)
  first_by false rows m is first =
      sym (any_none has rows (λ x there own. none_has m x is first.right (first.first x there (passes x own)) own))

  first_has : (rows : List Row) (found : Option Row) → IsLeast spec key test rows found
      → has_value spec key v found ≡ list_any has rows
  first_has rows None least = sym (any_none has rows (λ x there is. least x there (passes x is)))
  first_has rows (Some m) first = first_by (has m) rows m refl first

-- as the tree of the key tells it
pub value_there : (spec : Spec) (i : ℕ) (v : List ℕ) (rows : List Row) (entries : List Entry)
    → Ascend (keys_listed entries) → AreOf spec (Alternate i) rows entries → All (IsUnder spec (Alternate i)) rows
    → length v ≡ key_length spec (Alternate i) →
    begins_with_value v (found_entry aim.From entries (v ++ big_bytes 8 0))
    ≡ list_any (λ row. same_bytes (pair_under spec (Alternate i) row).value v) rows
value_there spec i v rows entries up are under long =
    let n = key_length spec (Alternate i) in
    let pair : Pair = record { value = v; number = 0 } in
    let place : RowBound = record { side = side.From; pair = pair } in
    let next = sought_row spec (Alternate i) place rows in
    let tests : Row → Bool = λ r. is_after side.From pair (pair_under spec (Alternate i) r) in
    let full : nat_lt (length v) n ≡ false = not_less (length v) n (nat_lt (length v) n) refl long in
    let least_is = is_least spec (Alternate i) tests rows in
    let found : found_entry aim.From entries (v ++ big_bytes 8 0) ≡ option_map (entry_under spec (Alternate i)) next =
    sym (ap (λ b. found_entry (if b then aim_short side.From else aim_at side.From) entries
    (if b then extended_bytes (n + 8) (fill side.From) v else pair_aim_key (n + 8) side.From pair)) full)
    ∙ finds_sought spec (Alternate i) place rows entries (record { value = omega (arith, long); number = omega arith })
    up are under in
    ap (begins_with_value v) found
    ∙ same_value spec i v rows next long under (least_in spec (Alternate i) tests rows next least_is)
    ∙ first_has spec (Alternate i) v rows next least_is
