-- A row comes to the tree of rows, gets another record there, or leaves it, and its pairs may move.
use Rattle.std.proofs.Common.{◌≡◌, ◌+◌, ◌++◌, ℕ, Bool, true, List, [], Result, Ok, sym, ap, subst, ◌∙◌}
use Rattle.std.specs.Prelude.{None, map, take, drop, if◌then◌else◌}
use Rattle.std.specs.List.{flat_map, list_any}
use Rattle.byteorder.specs.Endian.{big_bytes, big_number}
use Rattle.station.specs.declared.device.Device.{Ghosts as Devices}
use Rattle.pages.specs.declared.page_map.PageMap.{PageMap}
use Rattle.btree.specs.Calls.{pages_on}
use Rattle.btree.specs.Entries.{Entry, entry_with, with_new_entry, with_value, without_entry}
use Rattle.btree.specs.Results.{FewChanged}
use Rattle.chains.specs.Chain.{pages_for}
use Rattle.records.specs.declared.answer.Outcome.{Outcome}
use Rattle.records.specs.declared.fault.StoreFault.{StoreFault}
use Rattle.records.specs.declared.key.KeyOfReference.TheVariants.{Prime}
use Rattle.records.specs.Spec.{Spec, is_spec}
use Rattle.records.specs.Rows.{Row, Pair, named_pair}
use Rattle.records.specs.Changes.{changes, arrivals_after, new_number, insertion, replacement, removal}
use Rattle.records.specs.Files.{NamedFile}
use Rattle.file_bytes.specs.Rows.{row_value}
use Rattle.volume_format.specs.Chained.{chained_bytes}
use Rattle.volume_format.specs.Calls.{LooksAt}
use Rattle.volume_format.specs.Trees.{entry_under, layout_under}
use Rattle.volume_format.specs.Forest.{TreeLevels}
use Rattle.volume_format.specs.Pairs.{IsPair}
use Rattle.alternate_keys.specs.declared.row_verb.RowVerb.TheVariants.{Insert, Replace, Remove}
use Rattle.row_trees.specs.Calls.{EditsPages, OnRowTreeAmong}
use Rattle.row_trees.specs.RowTree.{ChainedTree, IsRowTreeAmong}
use Rattle.alternate_keys.specs.Listed.{root_in}
use Rattle.alternate_keys.specs.Moved.{HasChangedRows, PairsMayMove, IsRowOf, named_after}
use Rattle.alternate_keys.specs.NewRow.{row_with, named_with}
use Rattle.alternate_keys.proofs.FileTrees.{kept_in, arrival_is, prime_stands}
use Rattle.alternate_keys.proofs.HeldTrees.{HoldsTrees, HoldsRow, still_holds}
use Rattle.alternate_keys.proofs.InsertRow.{IsNew, Inserts, row_new, found_new, insert_moving, pairs_may}
use Rattle.alternate_keys.proofs.Moving.{IsMoving, moving_from, moving_since, moving_as}
use Rattle.alternate_keys.proofs.RemoveRow.{named_without, removed_done, removed_may, remove_moving}
use Rattle.alternate_keys.proofs.ReplaceRow.{Replaces, entry_as, named_changed, found_here, value_here, next_told}
use Rattle.alternate_keys.proofs.ReplaceRow.{entry_changed, replace_moving, replaced_may}

module _ {D : Type 0} (d : Devices D) where
  -- a new row, which the tree of rows of the pages `q` has
  pub record HasNewRow (spec : Spec) (named : NamedFile) (generation : ℕ) (left right : List TreeLevels)
      (listing : List ℕ) (number arrival : ℕ) (bytes : List ℕ) (prime : ChainedTree) (p : PageMap) (b : D) (q : PageMap)
      : Type 0 where
    pub trees : HoldsTrees d spec named generation left right listing p b
    pub new : IsNew spec named.file number arrival bytes
    pub none : found_new spec number arrival bytes named.file.rows ≡ None
    pub put : IsRowTreeAmong (pages_on d q b) left
        ((kept_in spec named generation (pages_on d p b) left right listing trees.has).alternates ++ right) prime
        (with_new_entry (map (entry_under spec Prime) named.file.rows)
        (entry_under spec Prime (row_new spec number arrival bytes)))

  pub has_new_row : {spec : Spec} {named : NamedFile} {generation : ℕ} {left right : List TreeLevels} {listing : List ℕ}
      {number arrival : ℕ} {bytes : List ℕ} {prime tree : ChainedTree} {p q : PageMap} {b : D} {own : ℕ}
      {given : Result Bool StoreFault} → HoldsTrees d spec named generation left right listing p b
      → IsNew spec named.file number arrival bytes → own ≡ new_number spec.organization number arrival
      → tree.tree.layout ≡ layout_under spec Prime → tree.tree.root ≡ root_in Prime listing
      → tree.record_bytes ≡ chained_bytes spec → given ≡ Ok true
      → OnRowTreeAmong d tree p b (λ left right entries. given ≡ Ok true →
      (entry_with entries (entry_under spec Prime (row_with spec own arrival bytes)).key ≡ None)
      × IsRowTreeAmong (pages_on d q b) left right prime
      (with_new_entry entries (entry_under spec Prime (row_with spec own arrival bytes)))) →
      HasNewRow spec named generation left right listing number arrival bytes prime p b q
  has_new_row {spec} {named} {generation} {left} {right} {listing} {number} {arrival} {bytes} {prime} {p} {q} {b} trees
      new own_is layout_at root_at form_at is came =
      let entries : List Entry = map (entry_under spec Prime) named.file.rows in
      let here =
      came trees.honest trees.agrees left _ _ (prime_stands _ _ _ _ _ _ _ trees.has _ layout_at root_at form_at) is in
      record {
        trees = trees;
        new = new;
        none = subst (λ (n : ℕ). entry_with entries (entry_under spec Prime (row_with spec n arrival bytes)).key ≡ None)
            own_is here.0;
        put = subst (λ (n : ℕ). IsRowTreeAmong (pages_on d q b) left
            ((kept_in spec named generation (pages_on d p b) left right listing trees.has).alternates ++ right) prime
            (with_new_entry entries (entry_under spec Prime (row_with spec n arrival bytes)))) own_is here.1;
      }

  -- it came to the tree of rows
  pub inserted_moves : {A C : Type 0} {spec : Spec} {named : NamedFile} {generation : ℕ} {left right : List TreeLevels}
      {listing : List ℕ} {number arrival : ℕ} {bytes : List ℕ} {outcome : Outcome} {prime tree : ChainedTree}
      {o p q : PageMap} {a b c : D} {root : ℕ} → d.is_honest a → LooksAt d A o a p b
      → HasNewRow spec named generation left right listing number arrival bytes prime p b q
      → Inserts spec number arrival bytes named.file outcome → EditsPages d C p b q c
      → OnRowTreeAmong d tree p b (λ left right entries. FewChanged (42 + pages_for tree.record_bytes) p q)
      → prime.tree.layout ≡ tree.tree.layout → prime.record_bytes ≡ tree.record_bytes
      → tree.tree.layout ≡ layout_under spec Prime → tree.tree.root ≡ root_in Prime listing
      → tree.record_bytes ≡ chained_bytes spec → root ≡ prime.tree.root →
      IsMoving d Insert spec named (named_after named (insertion number bytes named.file)) generation left right listing
      root [] bytes arrival (arrival + 1) o a q c
  inserted_moves {spec} {named} {generation} {left} {right} {listing} {number} {arrival} {bytes} {prime} {p} {q} {b}
      honest finds came done edits few same_layout same_form layout_at root_at form_at root_is =
      let held = came.trees in
      let new = came.new in
      let moved = insert_moving _ _ _ _ _ _ _ held.has number arrival bytes new.same new.good new.long new.low
      new.numbered (pages_on d q b) prime (same_layout ∙ layout_at) (same_form ∙ form_at) came.put in
      let may = pairs_may _ _ _ _ _ _ _ held.has number arrival bytes new.same new.good new.long new.low
      new.numbered in
      moving_since d honest finds (moving_as d done (moving_from d held edits
      (subst (λ (n : ℕ). FewChanged (42 + pages_for n) p q) form_at
      (few held.honest held.agrees left _ _ (prime_stands _ _ _ _ _ _ _ held.has _ layout_at root_at form_at)))
      (subst (λ (n : ℕ). HasChangedRows Insert spec named (named_with (row_new spec number arrival bytes) named)
      generation (pages_on d q b) left right listing n [] bytes arrival (arrival + 1)) (sym root_is) moved) may))

  -- A row was found, no value of its new record bars it, and the row got the record in the tree of rows.
  pub replaced_moves :
      {A B C : Type 0} {spec : Spec} {named : NamedFile} {generation : ℕ} {left right : List TreeLevels}
      {listing : List ℕ} (number : ℕ) (bytes : List ℕ) {entry : Entry} {outcome : Outcome} {o p q r : PageMap}
      {a b c e : D} {root arrival next : ℕ} {key value changed : List ℕ} {prime tree : ChainedTree} → is_spec spec ≡
      true
      → d.is_honest a → LooksAt d A o a p b
      → (found :
      HoldsRow d spec named generation left right listing (named_pair spec.organization number bytes) entry p b)
      → LooksAt d B p b q c → Replaces number bytes named.file found.row.old outcome → EditsPages d C q c r e
      → FewChanged (42 + pages_for tree.record_bytes) q r → arrival ≡ big_number 8 (drop 75 listing)
      → key ≡ entry.key → value ≡ entry.value
      → ((row : Row) → IsRowOf spec row → value ≡ row_value row → changed
      ≡ bytes ++ flat_map (big_bytes 8) (arrivals_after row.bytes bytes arrival spec.alternates row.arrivals))
      → next
      ≡ (if list_any (changes (take spec.record_length value) bytes) spec.alternates then arrival + 1 else arrival)
      → prime ≡ tree → tree.tree.layout ≡ layout_under spec Prime → tree.tree.root ≡ root_in Prime listing
      → tree.record_bytes ≡ chained_bytes spec → root ≡ prime.tree.root
      → OnRowTreeAmong d tree q c (λ left right entries.
      IsRowTreeAmong (pages_on d r c) left right prime (with_value entries (entry_as key changed))) →
      IsMoving d Replace spec named (named_after named (replacement number bytes named.file)) generation left right
      listing root value bytes arrival next o a r e
  replaced_moves {spec} {named} {generation} {left} {right} {listing} number bytes {entry} {q} {r} {c} {arrival} {next}
      {key} {value} {changed} {prime} is honest finds found looks done edits few arrival_at key_at value_at changed_is
      next_at same_tree layout_at root_at form_at root_is put =
      let held = still_holds d found.trees looks in
      let has = held.has in
      let row = found.row in
      let same : arrival ≡ named.file.next_arrival = arrival_at ∙ arrival_is _ _ _ _ _ _ _ has in
      let there = found_here _ _ _ _ _ _ _ has number bytes entry row value value_at in
      let value_is = value_here _ _ _ _ _ _ _ has number bytes entry row value value_at in
      let next_is = next_told _ _ _ _ _ _ _ has number bytes entry row value value_at arrival next same next_at in
      let new = entry_changed _ _ _ _ _ _ _ has number bytes entry row value value_at arrival same key changed key_at
      (changed_is row.old row.row_is value_is) in
      let stands = subst (λ (x : Entry). IsRowTreeAmong (pages_on d r c) left
      ((kept_in spec named generation (pages_on d q c) left right listing has).alternates ++ right) prime
      (with_value (map (entry_under spec Prime) named.file.rows) x)) new
      (put held.honest held.agrees left _ _ (prime_stands _ _ _ _ _ _ _ has _ layout_at root_at form_at)) in
      let good = subst (λ (s : Spec). IsPair spec Prime (named_pair s.organization number bytes)) (sym has.spec_is)
      row.good in
      let moved = replace_moving _ _ _ _ _ _ _ has is number bytes row.old there arrival next same next_is good
      (pages_on d r c) prime (ap (λ (t : ChainedTree). t.tree.layout) same_tree ∙ layout_at)
      (ap (λ (t : ChainedTree). t.record_bytes) same_tree ∙ form_at) stands in
      let after : NamedFile =
      named_changed (named_pair named.file.spec.organization number bytes) bytes row.old named in
      let changes = subst (λ (v : List ℕ). HasChangedRows Replace spec named after generation (pages_on d r c) left
      right listing prime.tree.root v bytes arrival next) (sym value_is) moved in
      let may = subst (λ (v : List ℕ). PairsMayMove Replace named.file v bytes arrival) (sym value_is)
      (replaced_may _ _ _ _ _ _ _ has is number bytes row.old there arrival same) in
      moving_since d honest finds (moving_since d found.trees.honest looks (moving_as d done
      (moving_from d held edits (subst (λ (n : ℕ). FewChanged (42 + pages_for n) q r) form_at few)
      (subst (λ (n : ℕ). HasChangedRows Replace spec named after generation
      (pages_on d r c) left right listing n value bytes arrival next) (sym root_is) changes) may)))

  -- A row was found, and left the tree of rows.
  pub removed_moves : {A C : Type 0} {spec : Spec} {named : NamedFile} {generation : ℕ} {left right : List TreeLevels}
      {listing : List ℕ} {pair : Pair} {entry : Entry} {o p q : PageMap} {a b c : D} {root arrival : ℕ}
      {key value : List ℕ} {prime tree : ChainedTree} → is_spec spec ≡ true → d.is_honest a → LooksAt d A o a p b
      → HoldsRow d spec named generation left right listing pair entry p b → EditsPages d C p b q c
      → OnRowTreeAmong d tree p b (λ left right entries. FewChanged (42 + pages_for tree.record_bytes) p q)
      → arrival ≡ big_number 8 (drop 75 listing)
      → key ≡ entry.key → value ≡ entry.value → prime.tree.layout ≡ tree.tree.layout
      → prime.record_bytes ≡ tree.record_bytes → tree.tree.layout ≡ layout_under spec Prime
      → tree.tree.root ≡ root_in Prime listing → tree.record_bytes ≡ chained_bytes spec → root ≡ prime.tree.root
      → OnRowTreeAmong d tree p b (λ left right entries.
      IsRowTreeAmong (pages_on d q b) left right prime (without_entry entries key)) →
      IsMoving d Remove spec named (named_after named (removal pair named.file)) generation left right listing root
      value
      [] arrival arrival o a q c
  removed_moves {spec} {named} {generation} {left} {right} {listing} {pair} {p} {q} {b} {arrival} {key} {value} {prime}
      {tree} is honest finds found edits few arrival_at key_at value_at same_layout same_form layout_at root_at form_at
      root_is put =
      let held = found.trees in
      let has = held.has in
      let row = found.row in
      let same : arrival ≡ named.file.next_arrival = arrival_at ∙ arrival_is _ _ _ _ _ _ _ has in
      let value_is : value ≡ row_value row.old = value_at ∙ ap (λ (e : Entry). e.value) row.is in
      let there = prime_stands _ _ _ _ _ _ _ has tree layout_at root_at form_at in
      let stands = subst (λ (k : List ℕ). IsRowTreeAmong (pages_on d q b) left
      ((kept_in spec named generation (pages_on d p b) left right listing has).alternates ++ right) prime
      (without_entry (map (entry_under spec Prime) named.file.rows) k)) (key_at ∙ row.key)
      (put held.honest held.agrees left _ _ there) in
      let moved = remove_moving _ _ _ _ _ _ _ has is pair row.old row.there [] arrival same row.good (pages_on d q b)
      prime (same_layout ∙ layout_at) (same_form ∙ form_at) stands in
      let changes = subst (λ (v : List ℕ). HasChangedRows Remove spec named (named_without pair named) generation
      (pages_on d q b) left right listing prime.tree.root v [] arrival arrival) (sym value_is) moved in
      let may = subst (λ (v : List ℕ). PairsMayMove Remove named.file v [] arrival) (sym value_is)
      (removed_may _ _ _ _ _ _ _ has is pair row.old row.there [] arrival) in
      moving_since d honest finds (moving_as d (removed_done pair named.file row.old row.there)
      (moving_from d held edits (subst (λ (n : ℕ). FewChanged (42 + pages_for n) p q) form_at
      (few held.honest held.agrees left _ _ there))
      (subst (λ (n : ℕ). HasChangedRows Remove spec named (named_without pair named) generation (pages_on d q b) left
      right listing n value [] arrival arrival) (sym root_is) changes) may))
