-- A tree that has its records itself, after a call of `btree`.
use Rattle.std.proofs.Common.{◌≡◌, ℕ, Bool, List, [], refl, sym, ap, subst, ◌∙◌}
use Rattle.std.specs.Prelude.{Option, Some, None, IsSome, option_map, Result}
use Rattle.station.specs.Disk.{Sector}
use Rattle.station.specs.declared.device.Device.{Ghosts as Devices}
use Rattle.pages.specs.declared.error.PagesError.{PagesError}
use Rattle.pages.specs.declared.page_map.PageMap.{PageMap}
use Rattle.btree.specs.Calls.{OnNoTree, OnTree, IfTree, pages_on, DamagedOnlyIfNoTree}
use Rattle.btree.specs.Changes.{Becomes, Inserts}
use Rattle.btree.specs.Entries.{Entry, entry_with, with_new_entry, with_value, without_entry}
use Rattle.btree.specs.Moves.{Moves}
use Rattle.btree.specs.Removals.{Removes}
use Rattle.btree.specs.Tree.{TreeNode}
use Rattle.btree.specs.TreeEdits.{TrueOnlyIfInserted, TrueOnlyIfReplaced, TrueOnlyIfRemoved, FalseOnlyIfPresent}
use Rattle.btree.proofs.Clearing.{moves_none}
use Rattle.chains.specs.Rows.{chain_of, unrolled_entry}
use Rattle.chains.proofs.Entries.{found_as}
use Rattle.chains.proofs.Rows.{keys_kept}
use Rattle.volume_format.specs.Chained.{form_of}
use Rattle.volume_format.specs.Forest.{TreeLevels}
use Rattle.row_trees.specs.Calls.{OnRowTreeAmong, InsertsRow, ReplacesRow, RemovesRow, AnswersInsertion}
use Rattle.row_trees.specs.RowTree.{ChainedTree, IsRowTreeAmong}
use Rattle.row_trees.proofs.Among.{stored_in, seen_in, seen_among, stands_among}
use Rattle.row_trees.proofs.Forms.{pair, unrolled_short, short_chain, no_chain}
use Rattle.row_trees.proofs.Changes.{inserted, removed, rewritten}

-- the entry of a key, as it is seen
pub found_seen : (pages : List (Option Sector)) (rows : ChainedTree) (levels : List (List TreeNode))
    (entries : List Entry) (key : List ℕ) → entries ≡ seen_in pages rows levels
    → entry_with entries key
    ≡ option_map (unrolled_entry (form_of rows.record_bytes) pages) (entry_with (stored_in rows levels) key)
found_seen pages rows levels entries key is =
    let form = form_of rows.record_bytes in
    ap (λ (l : List Entry). entry_with l key) is
    ∙ found_as (unrolled_entry form pages) (keys_kept form pages) (stored_in rows levels) key

some_mapped : (f : Entry → Entry) (o : Option Entry) → IsSome o → IsSome (option_map f o)
some_mapped f None some = some
some_mapped f (Some entry) some = refl

pub none_seen : (pages : List (Option Sector)) (left right : List TreeLevels) (rows : ChainedTree)
    (entries : List Entry) (is : IsRowTreeAmong pages left right rows entries) (key : List ℕ)
    → entry_with (stored_in rows is.planted.levels) key ≡ None → entry_with entries key ≡ None
none_seen pages left right rows entries is key none =
    found_seen pages rows is.planted.levels entries key (seen_among pages left right rows entries is)
    ∙ ap (option_map (unrolled_entry (form_of rows.record_bytes) pages)) none

pub some_seen : (pages : List (Option Sector)) (left right : List TreeLevels) (rows : ChainedTree)
    (entries : List Entry) (is : IsRowTreeAmong pages left right rows entries) (key : List ℕ)
    → IsSome (entry_with (stored_in rows is.planted.levels) key) → IsSome (entry_with entries key)
some_seen pages left right rows entries is key some =
    subst IsSome
    (sym (found_seen pages rows is.planted.levels entries key (seen_among pages left right rows entries is)))
    (some_mapped (unrolled_entry (form_of rows.record_bytes) pages)
    (entry_with (stored_in rows is.planted.levels) key) some)

-- nothing is moved for a record that has no chain
unmoved : (n : ℕ) (pages : List (Option Sector)) (entry : Entry) → n ≡ 0
    → Moves pages (chain_of (form_of n) pages entry) pages (chain_of (form_of n) pages entry)
unmoved n pages entry short = subst (λ (l : List ℕ). Moves pages l pages l) (sym (no_chain n pages entry short))
    (moves_none pages)

inserted_short : (before after : List (Option Sector)) (left right : List TreeLevels) (old new : ChainedTree)
    (entries : List Entry) (is : IsRowTreeAmong before left right old entries) (key value : List ℕ)
    → old.record_bytes ≡ 0 → new.tree.layout ≡ old.tree.layout → new.record_bytes ≡ old.record_bytes
    → Inserts old.tree.layout before is.planted.levels after key value (Some new.tree.root)
    → (entry_with entries key ≡ None) × IsRowTreeAmong after left right new (with_new_entry entries (pair key value))
inserted_short before after left right old new entries is key value short layout form made =
    let n = old.record_bytes in
    let entry = pair key value in (
      none_seen before left right old entries is key made.0,
      inserted before before after left right old new entries is entry entry layout form
          (short_chain n before entry short)
          (subst (λ (l : List ℕ). Moves before [] before l) (sym (no_chain n before entry short)) (moves_none before))
          (unrolled_short n before entry short) made.1,
    )

-- the entry that a key has
pub record HeldEntry (entries : List Entry) (key : List ℕ) : Type 0 where
  pub entry : Entry
  pub found : entry_with entries key ≡ Some entry

held_of : (entries : List Entry) (key : List ℕ) (o : Option Entry) → entry_with entries key ≡ o → IsSome o
    → HeldEntry entries key
held_of entries key None is some = cc
held_of entries key (Some entry) is some = record { entry = entry; found = is }

held_entry : (entries : List Entry) (key : List ℕ) → IsSome (entry_with entries key) → HeldEntry entries key
held_entry entries key some = held_of entries key (entry_with entries key) refl some

removed_short : (before after : List (Option Sector)) (left right : List TreeLevels) (old new : ChainedTree)
    (entries : List Entry) (is : IsRowTreeAmong before left right old entries) (key : List ℕ)
    → old.record_bytes ≡ 0 → new.tree.layout ≡ old.tree.layout → new.record_bytes ≡ old.record_bytes
    → Removes old.tree.layout before is.planted.levels after key (Some new.tree.root)
    → IsSome (entry_with entries key) × IsRowTreeAmong after left right new (without_entry entries key)
removed_short before after left right old new entries is key short layout form made =
    let n = old.record_bytes in
    let held = held_entry (stored_in old is.planted.levels) key made.0 in (
      some_seen before left right old entries is key made.0,
      removed before after after left right old new entries is key held.entry layout form held.found made.1.became
          (subst (λ (l : List ℕ). Moves after l after []) (sym (no_chain n after held.entry short)) (moves_none after)),
    )

replaced_short : (before after : List (Option Sector)) (left right : List TreeLevels) (old : ChainedTree)
    (entries : List Entry) (is : IsRowTreeAmong before left right old entries) (key value : List ℕ)
    → old.record_bytes ≡ 0 → IsSome (entry_with (stored_in old is.planted.levels) key)
    → Becomes old.tree.layout before is.planted.levels after old.tree.root
    (with_value (stored_in old is.planted.levels) (pair key value))
    → IsSome (entry_with entries key) × IsRowTreeAmong after left right old (with_value entries (pair key value))
replaced_short before after left right old entries is key value short some made =
    let n = old.record_bytes in
    let entry = pair key value in
    let held = held_entry (stored_in old is.planted.levels) key some in
    let none = no_chain n before held.entry short in (
      some_seen before left right old entries is key some,
      rewritten before before after left right old entries is held.entry entry entry held.found
          (short_chain n before entry short) (no_chain n before entry short ∙ sym none)
          (unmoved n before held.entry short) (unrolled_short n before entry short) made,
    )

module _ {D : Type 0} (d : Devices D) where
  -- What a call says of the tree as it is stored, of the tree among others.
  pub where_among : {C X : Type 0} {p : PageMap} {a : D} {view self : ChainedTree} → view ≡ self
      → IfTree d view.tree p a C → (C → X) → OnRowTreeAmong d self p a (λ left right entries. X)
  where_among {C} {X} {p} {a} {view} {self} same told so =
      subst (λ (t : ChainedTree). OnRowTreeAmong d t p a (λ left right entries. X)) same
      (λ honest agrees left right entries is.
      so (told honest agrees is.planted.levels (stands_among (pages_on d p a) left right view entries is).tree))

  pub never_among : {R S : Type 0} {p : PageMap} {a : D} {view self : ChainedTree} → view ≡ self
      → OnNoTree d view.tree.layout view.tree.root p a S → (R → S)
      → OnRowTreeAmong d self p a (λ left right entries. R → ⊥)
  never_among {R} {S} {p} {a} {view} {self} same never passed =
      where_among {C = S → ⊥} same (λ honest agrees levels tree told. never honest agrees told levels tree)
      (λ no told. no (passed told))

  pub missing_among : {R : Type 0} {p : PageMap} {a : D} {view self : ChainedTree} {key : List ℕ} → view ≡ self
      → OnTree d view.tree.layout view.tree.root p a (λ levels. R → entry_with (stored_in view levels) key ≡ None)
      → OnRowTreeAmong d self p a (λ left right entries. R → entry_with entries key ≡ None)
  missing_among {R} {p} {a} {view} {self} {key} same told =
      subst (λ (t : ChainedTree). OnRowTreeAmong d t p a (λ left right entries. R → entry_with entries key ≡ None)) same
      (λ honest agrees left right entries is no.
      none_seen (pages_on d p a) left right view entries is key
      (told honest agrees is.planted.levels (stands_among (pages_on d p a) left right view entries is).tree no))

  pub present_among : {R : Type 0} {p : PageMap} {a : D} {view self : ChainedTree} {key : List ℕ} → view ≡ self
      → OnTree d view.tree.layout view.tree.root p a (λ levels. R → IsSome (entry_with (stored_in view levels) key))
      → OnRowTreeAmong d self p a (λ left right entries. R → IsSome (entry_with entries key))
  present_among {R} {p} {a} {view} {self} {key} same told =
      subst (λ (t : ChainedTree).
      OnRowTreeAmong d t p a (λ left right entries. R → IsSome (entry_with entries key))) same
      (λ honest agrees left right entries is no.
      some_seen (pages_on d p a) left right view entries is key
      (told honest agrees is.planted.levels (stands_among (pages_on d p a) left right view entries is).tree no))

  -- what an insertion into the tree answers
  pub short_insertion : {p q : PageMap} {a : D} {view self new : ChainedTree} {key value : List ℕ}
      {result : Result Bool PagesError} → view ≡ self → view.record_bytes ≡ 0 → new.tree.layout ≡ view.tree.layout
      → new.record_bytes ≡ view.record_bytes → TrueOnlyIfInserted d view.tree p a key value new.tree q result
      → FalseOnlyIfPresent d view.tree p a key result → DamagedOnlyIfNoTree d view.tree p a result
      → AnswersInsertion d self p a new q key value result
  short_insertion {p} {q} {a} {view} {self} {new} {key} {value} {result} same short layout form made held never =
      record {
        inserted = subst (λ (t : ChainedTree). InsertsRow d t p a new q key value result) same
            (λ honest agrees left right entries is ok.
            inserted_short (pages_on d p a) (pages_on d q a) left right view new entries is key value short layout form
            (made honest agrees is.planted.levels (stands_among (pages_on d p a) left right view entries is).tree ok));
        there = present_among same held;
        damaged = never_among same never (λ told. told);
      }

  -- a replacement
  pub replaced_among : {p : PageMap} (q : PageMap) {a : D} {view self : ChainedTree} {key value : List ℕ}
      {result : Result Bool PagesError} → view ≡ self → view.record_bytes ≡ 0
      → TrueOnlyIfReplaced d view.tree p a key value q result → ReplacesRow d self p a q key value result
  replaced_among {p} q {a} {view} {self} {key} {value} {result} same short made =
      subst (λ (t : ChainedTree). ReplacesRow d t p a q key value result) same
      (λ honest agrees left right entries is ok.
      let stands = stands_among (pages_on d p a) left right view entries is in
      let told = made honest agrees is.planted.levels stands.tree ok in
      replaced_short (pages_on d p a) (pages_on d q a) left right view entries is key value short told.0 told.1)

  -- and a removal
  pub removed_among : {p : PageMap} (q : PageMap) {a : D} {view self new : ChainedTree} {key : List ℕ}
      {result : Result Bool PagesError} → view ≡ self → view.record_bytes ≡ 0 → new.tree.layout ≡ view.tree.layout
      → new.record_bytes ≡ view.record_bytes → TrueOnlyIfRemoved d view.tree p a key new.tree q result
      → RemovesRow d self p a new q key result
  removed_among {p} q {a} {view} {self} {new} {key} {result} same short layout form made =
      subst (λ (t : ChainedTree). RemovesRow d t p a new q key result) same
      (λ honest agrees left right entries is ok.
      removed_short (pages_on d p a) (pages_on d q a) left right view new entries is key short layout form
      (made honest agrees is.planted.levels (stands_among (pages_on d p a) left right view entries is).tree ok))
