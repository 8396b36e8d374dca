-- Rows whose records are in place, one after the other, with the marks of their chains.
use Rattle.std.proofs.Common.{◌≡◌, ◌+◌, ◌++◌, ℕ, zero, suc, Bool, List, [], ◌∷◌, map, take, drop, refl, sym, ap, subst}
use Rattle.std.proofs.Common.{◌∙◌}
use Rattle.std.proofs.Common.{append-nil}
use Rattle.std.specs.Prelude.{Option, Some, None}
use Rattle.std.specs.List.{AllByRecursion}
use Rattle.std.proofs.lemmas.List.{map-append, take-append-drop}
use Rattle.std.proofs.lemmas.List.Concat.{flat_map-append}
use Rattle.std.proofs.lemmas.List.Elements.{All-nil, All-cons, All-append, All-contains}
use Rattle.station.specs.Disk.{Sector}
use Rattle.btree.specs.Entries.{Entry}
use Rattle.btree.proofs.Ascending.{entry_at}
use Rattle.btree_check.specs.Walks.{CanMark, Marks}
use Rattle.btree_check.proofs.Marking.{marks_none, marks_append, can_left, can_after}
use Rattle.chains.specs.Rows.{HasChain, chain_of, chains_of, unrolled_entry}
use Rattle.records.specs.declared.key.KeyOfReference.TheVariants.{Prime}
use Rattle.records.specs.Files.{IsRow}
use Rattle.records.specs.Rows.{Row}
use Rattle.records.specs.Spec.{Spec}
use Rattle.file_bytes.specs.declared.stored.StoredRow.{StoredRow}
use Rattle.file_bytes.specs.Stored.{row_of, rows_of}
use Rattle.volume_format.specs.Trees.{entry_under}
use Rattle.file_recovery.specs.Rows.{form_under, FindsRow, NoRow, FindsRows, NoRows}
use Rattle.file_recovery.proofs.Entered.{all_behind}
use Rattle.file_recovery.proofs.Passed.{taken_more, taken_all, item_at, entry_in}

-- the entry at a place, as a function sees it, and those from there on
seen_at : (f : Entry → Entry) (entries : List Entry) (n : ℕ) (e : Entry) → entry_at n entries ≡ Some e
    → entry_at n (map f entries) ≡ Some (f e)
seen_at f [] n e is = cc
seen_at f (a ∷ more) zero e is = let same : a ≡ e = cc in ap (λ (x : Entry). Some (f x)) same
seen_at f (a ∷ more) (suc n) e is = seen_at f more n e is

drop_here : (entries : List Entry) (n : ℕ) (e : Entry) → entry_at n entries ≡ Some e
    → drop n entries ≡ e ∷ drop (suc n) entries
drop_here [] n e is = cc
drop_here (a ∷ more) zero e is = let same : a ≡ e = cc in ap (λ (x : Entry). x ∷ more) same
drop_here (a ∷ more) (suc n) e is = drop_here more n e is

take_none : (entries : List Entry) → take 0 entries ≡ []
take_none [] = refl
take_none (e ∷ more) = refl

-- one more row was stored
pub rows_added : (old : List StoredRow) {new : List StoredRow} (row : StoredRow) → new ≡ old ++ row ∷ []
    → rows_of new ≡ rows_of old ++ row_of row ∷ []
rows_added old row is = ap (map row_of) is ∙ map-append row_of old (row ∷ [])

pub rows_are_so : (P : Row → Type 0) (old : List StoredRow) {new : List StoredRow} (row : StoredRow)
    → new ≡ old ++ row ∷ []
    → AllByRecursion P (rows_of old) → P (row_of row) → AllByRecursion P (rows_of new)
rows_are_so P old row is all one =
    subst (λ (l : List Row). AllByRecursion P l) (sym (rows_added old row is))
    (all_behind P (rows_of old) (row_of row) all one)

module _ (spec : Spec) (pages : List (Option Sector)) where
  abbrev own : Entry → List ℕ
  own entry = chain_of (form_under spec) pages entry

  abbrev all : List Entry → List ℕ
  all entries = chains_of (form_under spec) pages entries

  abbrev seen : Entry → Entry
  seen entry = unrolled_entry (form_under spec) pages entry

  abbrev Has : Entry → Type 0
  Has entry = HasChain (form_under spec) pages entry

  pub found_none : (entries : List Entry) (old : List Bool) → FindsRows spec pages (take 0 entries) [] old old
  found_none entries old = subst (λ (l : List Entry). FindsRows spec pages l [] old old) (sym (take_none entries))
      (record { stand = All-nil Has; are = refl; marks = marks_none old })

  chains_more : (entries : List Entry) (e : Entry) → all (entries ++ e ∷ []) ≡ all entries ++ own e
  chains_more entries e =
      flat_map-append own entries (e ∷ []) ∙ ap (λ (l : List ℕ). all entries ++ l) (append-nil (own e))

  found_last : (entries : List Entry) (e : Entry) (rows : List Row) (row : Row) (old mid new : List Bool)
      → FindsRows spec pages entries rows old mid → FindsRow spec pages e row mid new
      → FindsRows spec pages (entries ++ e ∷ []) (rows ++ row ∷ []) old new
  found_last entries e rows row old mid new before one = record {
    stand = All-append Has entries (e ∷ []) before.stand (All-cons Has e [] one.stands (All-nil Has));
    are = map-append seen entries (e ∷ [])
        ∙ ap (λ (l : List Entry). l ++ seen e ∷ []) before.are
        ∙ ap (λ (x : Entry). map (entry_under spec Prime) rows ++ x ∷ []) one.is
        ∙ sym (map-append (entry_under spec Prime) rows (row ∷ []));
    marks = subst (λ (l : List ℕ). Marks old l new) (sym (chains_more entries e))
        (marks_append old mid new (all entries) (own e) before.marks one.marks);
  }

  pub found_more : (entries : List Entry) (n : ℕ) (e : Entry) (rows more : List Row) (row : Row)
      (old mid new : List Bool) → entry_at n entries ≡ Some e → FindsRows spec pages (take n entries) rows old mid
      → FindsRow spec pages e row mid new → more ≡ rows ++ row ∷ []
      → FindsRows spec pages (take (n + 1) entries) more old new
  found_more entries n e rows more row old mid new at before one added =
      subst (λ (l : List Row). FindsRows spec pages (take (n + 1) entries) l old new) (sym added)
      (subst (λ (l : List Entry). FindsRows spec pages l (rows ++ row ∷ []) old new) (sym (taken_more entries n e at))
      (found_last (take n entries) e rows row old mid new before one))

  pub found_all : (entries : List Entry) (n : ℕ) (rows : List Row) (old new : List Bool)
      → entry_at n entries ≡ None → FindsRows spec pages (take n entries) rows old new
      → FindsRows spec pages entries rows old new
  found_all entries n rows old new none before =
      subst (λ (l : List Entry). FindsRows spec pages l rows old new) (taken_all entries n none) before

  -- the chains from a place on
  chains_here : (entries : List Entry) (n : ℕ) (e : Entry) → entry_at n entries ≡ Some e
      → all entries ≡ all (take n entries) ++ (own e ++ all (drop (suc n) entries))
  chains_here entries n e at =
      ap all (sym (take-append-drop n entries)) ∙ flat_map-append own (take n entries) (drop n entries)
      ∙ ap (λ (l : List Entry). all (take n entries) ++ all l) (drop_here entries n e at)

  pub none_found : (next : ℕ) (entries : List Entry) (n : ℕ) (e : Entry) (passed : List Row) (old mid : List Bool)
      → entry_at n entries ≡ Some e → FindsRows spec pages (take n entries) passed old mid
      → NoRow spec next pages e mid → NoRows spec next pages entries old
  none_found next entries n e passed old mid at before never = λ rows are stand listed can.
      let f : Row → Entry = entry_under spec Prime in
      let there : entry_at n (map f rows) ≡ Some (seen e) =
      ap (entry_at n) (sym listed) ∙ seen_at seen entries n e at in
      let of = item_at f (IsRow spec next) rows n (seen e) are there in
      let first = all (take n entries) in
      let rest = all (drop (suc n) entries) in
      never of.item of.is (All-contains Has entries e stand (entry_in entries n e at)) (sym of.of)
      (can_left mid (own e) rest
      (can_after old mid first (own e ++ rest) before.marks (subst (CanMark old) (chains_here entries n e at) can)))
