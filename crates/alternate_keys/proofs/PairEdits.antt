-- What a row that leaves, or gets another record, does to the tree of an alternate key.
use Rattle.std.proofs.Common.{◌≡◌, ◌⊎◌, inl, inr, ⊎_elim, ℕ, Bool, true, false, List, [], ◌∷◌, refl, sym, ap, subst}
use Rattle.std.proofs.Common.{◌∙◌}
use Rattle.std.specs.Prelude.{Contains, Some, if◌then◌else◌}
use Rattle.std.specs.List.{AllByRecursion}
use Rattle.std.specs.Ordering.{is_eq, ordering_reverse}
use Rattle.std.specs.declared.cmp.Ordering.{Ordering}
use Rattle.std.specs.declared.cmp.Ordering.TheVariants.{Less, Equal, Greater}
use Rattle.std.proofs.lemmas.Cmp.{nat_list_cmp_total, tied_itself}
use Rattle.std.proofs.lemmas.Map.Keys.{sorted_head, sorted_tail}
use Rattle.btree_pages.specs.Keys.{key_cmp, Ascend}
use Rattle.btree_pages.proofs.Order.{same_key}
use Rattle.btree.specs.Entries.{Entry, entry_with, with_new_entry, without_entry}
use Rattle.btree.specs.Laws.{keys_listed}
use Rattle.btree.proofs.Frames.{false_unless}
use Rattle.btree.proofs.Runs.{in_head, in_tail, in_none}
use Rattle.btree.proofs.There.{entry_there}
use Rattle.records.specs.declared.file_spec.KeyPlace.{KeyPlace}
use Rattle.records.specs.declared.file_spec.Organization.{Organization}
use Rattle.records.specs.declared.file_spec.Organization.TheVariants.{Indexed}
use Rattle.records.specs.declared.key.KeyOfReference.TheVariants.{Alternate}
use Rattle.records.specs.Spec.{Spec}
use Rattle.records.specs.Rows.{Row, Pair, pair_cmp, prime_pair, part, key_pair, prime_place}
use Rattle.records.specs.Changes as rows
use Rattle.records.specs.Changes.{is_at, row_at, in_place}
use Rattle.records.specs.Laws.{RowsAscend}
use Rattle.volume_format.specs.Trees.{entry_under, AreOf}
use Rattle.volume_format.proofs.Comes.{in_cons, entry_gains}
use Rattle.alternate_keys.proofs.RowEdits.{row_there, one_at, left_of, stays, in_its_place, kept_in_place}
use Rattle.alternate_keys.proofs.RowEdits.{came_in_place}

equal_of : (o : Ordering) → is_eq o ≡ true → o ≡ Equal
equal_of Less is = absurd cc
equal_of Equal is = refl
equal_of Greater is = absurd cc

-- Entries ascend, so one alone has a key.
apart : (k : List ℕ) (more : List Entry) (e : Entry)
    → AllByRecursion (λ (y : List ℕ). key_cmp k y ≡ Less) (keys_listed more) → Contains more e
    → is_eq (key_cmp e.key k) ≡ false
apart k [] e all has = absurd (in_none e has)
apart k (a ∷ more) e all has =
    ⊎_elim (λ same. ap (λ (x : Entry). is_eq (key_cmp x.key k)) same ∙ ap is_eq (nat_list_cmp_total.antisymm a.key k
    ∙ ap ordering_reverse all.0)) (λ later. apart k more e all.1 later) (in_cons a more e has)

left_by : (b : Bool) (a e : Entry) (more : List Entry) (k : List ℕ) → is_eq (key_cmp a.key k) ≡ b
    → Ascend (keys_listed (a ∷ more)) → Contains (if b then more else a ∷ without_entry more k) e
    → (Contains (without_entry more k) e → Contains more e × (is_eq (key_cmp e.key k) ≡ false)) →
    Contains (a ∷ more) e × (is_eq (key_cmp e.key k) ≡ false)
left_by true a e more k at up has rest =
    let same : a.key ≡ k = same_key a.key k (equal_of (key_cmp a.key k) at) in
    let above = sorted_head key_cmp a.key (keys_listed more) up in (
      in_tail a more e has,
      apart k more e (subst (λ (x : List ℕ). AllByRecursion (λ (y : List ℕ). key_cmp x y ≡ Less) (keys_listed more))
          same above) has,
    )
left_by false a e more k at up has rest =
    ⊎_elim (λ same. (
      subst (λ (x : Entry). Contains (a ∷ more) x) (sym same) (in_head a more),
      ap (λ (x : Entry). is_eq (key_cmp x.key k)) same ∙ at,
    )) (λ later. let found = rest later in (in_tail a more e found.0, found.1))
    (in_cons a (without_entry more k) e has)

pub left_entry : (entries : List Entry) (k : List ℕ) (e : Entry) → Ascend (keys_listed entries)
    → Contains (without_entry entries k) e → Contains entries e × (is_eq (key_cmp e.key k) ≡ false)
left_entry [] k e up has = absurd (in_none e has)
left_entry (a ∷ more) k e up has = left_by (is_eq (key_cmp a.key k)) a e more k refl up has
    (left_entry more k e (sorted_tail key_cmp a.key (keys_listed more) up))

stay_by : (b : Bool) (a e : Entry) (more : List Entry) (k : List ℕ) → is_eq (key_cmp a.key k) ≡ b → (e ≡ a)
    ⊎ Contains more e → is_eq (key_cmp e.key k) ≡ false → (Contains more e → Contains (without_entry more k) e)
    → Contains (if b then more else a ∷ without_entry more k) e
stay_by true a e more k at (inl same) other rest =
    absurd (let clash : true ≡ false = sym at ∙ ap (λ (x : Entry). is_eq (key_cmp x.key k)) (sym same) ∙ other in cc)
stay_by true a e more k at (inr has) other rest = has
stay_by false a e more k at (inl same) other rest =
    subst (λ (x : Entry). Contains (a ∷ without_entry more k) x) (sym same) (in_head a (without_entry more k))
stay_by false a e more k at (inr has) other rest = in_tail a (without_entry more k) e (rest has)

pub entry_stays : (entries : List Entry) (k : List ℕ) (e : Entry) → Contains entries e → is_eq (key_cmp e.key k) ≡ false
    → Contains (without_entry entries k) e
entry_stays [] k e has other = absurd (in_none e has)
entry_stays (a ∷ more) k e has other = stay_by (is_eq (key_cmp a.key k)) a e more k refl (in_cons a more e has) other
    (λ later. entry_stays more k e later other)

one_entry : (entries : List Entry) (one two : Entry) → Ascend (keys_listed entries) → Contains entries one
    → Contains entries two → one.key ≡ two.key → one ≡ two
one_entry entries one two up first second same =
    let a = entry_there entries one up first in
    let b = entry_there entries two up second in
    let joined : Some one ≡ Some two = sym a ∙ ap (entry_with entries) same ∙ b in
    cc

-- rows of one prime key have one prime pair
same_prime : (o : Organization) (place : KeyPlace) → o ≡ Indexed place → (one two : Row)
    → part (prime_place o) one.bytes ≡ part (prime_place o) two.bytes → prime_pair o one ≡ prime_pair o two
same_prime o place is one two same =
    let P : Organization → Type 0 =
    λ x. part (prime_place x) one.bytes ≡ part (prime_place x) two.bytes → prime_pair x one ≡ prime_pair x two in
    subst P (sym is) (λ parts. ap (λ (v : List ℕ). key_pair v) parts) same

module _ (spec : Spec) (i : ℕ) (place : KeyPlace) (indexed : spec.organization ≡ Indexed place)
    (pair : Pair) (all : List Row) (old : Row) (up : RowsAscend spec.organization all)
    (there : row_at spec.organization pair all ≡ Some old) where
  abbrev own : Row → Entry
  own row = entry_under spec (Alternate i) row

  at_too : (row : Row) → own row ≡ own old → is_at spec.organization pair row ≡ true
  at_too row same =
      let pairs = same_prime spec.organization place indexed row old (ap (λ (e : Entry). e.value) same) in
      ap (λ (p : Pair). is_eq (pair_cmp p pair)) pairs ∙ (row_there spec.organization pair old all there).1

  -- its pair is among the entries
  pub pair_there : (entries : List Entry) → Ascend (keys_listed entries) → AreOf spec (Alternate i) all entries
      → entry_with entries (own old).key ≡ Some (own old)
  pair_there entries ascend are =
      entry_there entries (own old) ascend (are.each old (row_there spec.organization pair old all there).0)

  pub pair_leaves : (entries : List Entry) → Ascend (keys_listed entries) → AreOf spec (Alternate i) all entries
      → AreOf spec (Alternate i) (rows.without_pair spec.organization pair all) (without_entry entries (own old).key)
  pair_leaves entries ascend are = record {
    each = λ row has.
        let was = left_of spec.organization pair row all has in
        let here = are.each row was.0 in
        entry_stays entries (own old).key (own row) here
        (false_unless (is_eq (key_cmp (own row).key (own old).key))
        (λ at.
        let keys : (own row).key ≡ (own old).key =
        same_key (own row).key (own old).key (equal_of (key_cmp (own row).key (own old).key) at) in
        let same : own row ≡ own old = one_entry entries (own row) (own old) ascend here
        (are.each old (row_there spec.organization pair old all there).0) keys in
        let clash : true ≡ false = sym (at_too row same) ∙ was.1 in
        cc));
    only = λ entry has.
        let was = left_entry entries (own old).key entry ascend has in
        let of = are.only entry was.0 in
        let row : Row = of.0 in (
          row,
          stays spec.organization pair row all of.1
              (false_unless (is_at spec.organization pair row)
              (λ at.
              let same : row ≡ old = one_at spec.organization pair old row all up there of.1 at in
              let key : entry.key ≡ (own old).key =
              ap (λ (e : Entry). e.key) (sym of.2) ∙ ap (λ (r : Row). (own r).key) same in
              let clash : true ≡ false = sym (ap (λ (k : List ℕ). is_eq (key_cmp k (own old).key)) key
              ∙ ap is_eq (tied_itself nat_list_cmp_total (own old).key)) ∙ was.1 in
              cc)),
          of.2,
        );
  }

  -- another row's pair comes in its place
  pub pair_comes_in_place : (new : Row) (entries : List Entry)
      → AreOf spec (Alternate i) (rows.without_pair spec.organization pair all) entries
      → AreOf spec (Alternate i) (in_place spec.organization pair new all) (with_new_entry entries (own new))
  pair_comes_in_place new entries are =
      let gains = entry_gains entries (own new) in
      record {
        each = λ row has.
            ⊎_elim
            (λ same. subst (λ (r : Row). Contains (with_new_entry entries (own new)) (own r)) (sym same) gains.own)
            (λ left. gains.others (own row) (are.each row left)) (in_its_place spec.organization pair new row all has);
        only = λ entry has.
            ⊎_elim (λ same. (new, came_in_place spec.organization pair new old all there, sym same)) (λ was. let of =
            are.only entry was in (of.0, kept_in_place spec.organization pair new of.0 all of.1, of.2))
            (gains.only entry has);
      }

  -- and where it has the same pair, nothing changes
  pub pair_stays : (new : Row) (entries : List Entry) → AreOf spec (Alternate i) all entries → own new ≡ own old
      → AreOf spec (Alternate i) (in_place spec.organization pair new all) entries
  pair_stays new entries are same = record {
    each = λ row has.
        ⊎_elim (λ is. subst (λ (e : Entry). Contains entries e)
        (sym (ap own is ∙ same)) (are.each old (row_there spec.organization pair old all there).0))
        (λ left. are.each row (left_of spec.organization pair row all left).0)
        (in_its_place spec.organization pair new row all has);
    only = λ entry has. by_at (are.only entry has).0 entry (are.only entry has).1 (are.only entry has).2
        (is_at spec.organization pair (are.only entry has).0) refl;
  }
    where
      by_at : (row : Row) (entry : Entry) → Contains all row → own row ≡ entry → (b : Bool)
          → is_at spec.organization pair row ≡ b → (r : Row) × Contains (in_place spec.organization pair new all) r
          × (own r ≡ entry)
      by_at row entry has is true at = (
        new,
        came_in_place spec.organization pair new old all there,
        same ∙ ap own (sym (one_at spec.organization pair old row all up there has at)) ∙ is,
      )
      by_at row entry has is false at =
          (row, kept_in_place spec.organization pair new row all (stays spec.organization pair row all has at), is)
