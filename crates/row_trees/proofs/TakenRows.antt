-- A row leaves a tree whose records are in chains, call by call.
use Rattle.std.proofs.Common.{◌≡◌, ◌≢◌, ◌⊎◌, Bool, ℕ, List, sym, subst}
use Rattle.std.specs.Prelude.{Option, Some, Result}
use Rattle.station.specs.Disk.{Sector}
use Rattle.station.specs.Calls.{OnlyReads}
use Rattle.station.specs.declared.device.Device.{Ghosts as Devices}
use Rattle.station.proofs.Calls.{reads_then}
use Rattle.byteorder.specs.Endian.{big_number}
use Rattle.pages.specs.Pages.{Agrees, changed_pages_of}
use Rattle.pages.specs.declared.page_map.PageMap.{PageMap}
use Rattle.btree.specs.Calls.{OnNoTree, OnTree, OnTreeChange, OnChange, pages_on}
use Rattle.btree.specs.Entries.{Entry, entry_with}
use Rattle.btree.specs.Removals.{Removes}
use Rattle.btree.specs.Results.{FewChanged}
use Rattle.btree.specs.Tree.{TreeNode, IsTreeOrEmpty}
use Rattle.chains.specs.Calls.{OnNoChain}
use Rattle.chains.specs.Chain.{pages_for}
use Rattle.chains.specs.Chain as chain
use Rattle.chains.specs.Changes.{Releases}
use Rattle.volume_format.specs.Calls.{LooksAt}
use Rattle.row_trees.specs.Calls.{EditsPages, OnRowTreeAmong, RemovesRow, ChangesFewPages}
use Rattle.row_trees.specs.RowTree.{ChainedTree}
use Rattle.row_trees.proofs.Among.{Stands, stored_in, stands_among}
use Rattle.row_trees.proofs.Calling.{pages_told, change_told, same_on, tree_before}
use Rattle.row_trees.proofs.Long.{left_chain, removed_long}
use Rattle.row_trees.proofs.Passing.{few_released}
use Rattle.row_trees.proofs.Short.{where_among}

module _ {D : Type 0} (d : Devices D) where
  -- an entry left the tree after a call that only reads
  pub gone_on : (A : Type 0) (p q r : PageMap) (a b : D) (old : ChainedTree) (root : ℕ) (key : List ℕ)
      (levels : List (List TreeNode)) → LooksAt d A p a q b
      → OnTreeChange d old.tree.layout old.tree.root q r b
      (λ before levels after. Removes old.tree.layout before levels after key (Some root))
      → d.is_honest a → Agrees p (d.state a).disk
      → IsTreeOrEmpty old.tree.layout (pages_on d p a) old.tree.root levels
      → Removes old.tree.layout (pages_on d p a) levels (pages_on d r a) key (Some root)
  gone_on A p q r a b old root key levels looks told honest agrees tree =
      let same = same_on d p q a looks.unchanged in
      let claim : List (Option Sector) → List (Option Sector) → Type 0 = λ one two. (levels : List (List TreeNode))
      → IsTreeOrEmpty old.tree.layout one old.tree.root levels
      → Removes old.tree.layout one levels two key (Some root) in
      subst (λ (l : List (Option Sector)). IsTreeOrEmpty old.tree.layout l old.tree.root levels
      → Removes old.tree.layout l levels (pages_on d r a) key (Some root)) same
      (change_told d A q r a b claim honest looks.only (looks.agrees honest agrees) told levels) tree

  -- two calls, of which the second one may change pages
  pub both_read : (A B : Type 0) (p q r : PageMap) (a b c : D) → LooksAt d A p a q b → EditsPages d B q b r c
      → OnlyReads d (A ⊎ B) a c
  both_read A B p q r a b c looks edits = reads_then d A B (A ⊎ B) a b c (λ is. is) looks.only edits.only

  pub both_agree : (A B : Type 0) (p q r : PageMap) (a b c : D) → LooksAt d A p a q b → EditsPages d B q b r c
      → d.is_honest a → Agrees p (d.state a).disk → Agrees r (d.state c).disk
  both_agree A B p q r a b c looks edits honest agrees =
      edits.agrees (looks.only.honest.0 honest) (looks.agrees honest agrees)

  -- the chain of the entry is there then
  pub left_on : (A : Type 0) (p q r : PageMap) (a b : D) (old : ChainedTree) (root : ℕ) (key : List ℕ) (entry : Entry)
      (levels : List (List TreeNode)) → LooksAt d A p a q b
      → OnTreeChange d old.tree.layout old.tree.root q r b
      (λ before levels after. Removes old.tree.layout before levels after key (Some root))
      → old.record_bytes ≢ 0 → d.is_honest a → Agrees p (d.state a).disk → Stands (pages_on d p a) old levels
      → entry_with (stored_in old levels) key ≡ Some entry
      → chain.Stands (pages_on d r a) (pages_for old.record_bytes) (big_number 4 entry.value)
  left_on A p q r a b old root key entry levels looks told long honest agrees stands found =
      let gone = gone_on A p q r a b old root key levels looks told honest agrees stands.tree in
      left_chain (pages_on d p a) (pages_on d r a) old levels key entry _ long stands found gone.1.became.moves

  -- what a call excludes after one that only reads
  pub then_never : {A R S : Type 0} {p q : PageMap} {a b : D} {view self : ChainedTree} → LooksAt d A p a q b
      → view ≡ self → OnNoTree d view.tree.layout view.tree.root q b S → (R → S)
      → OnRowTreeAmong d self p a (λ left right entries. R → ⊥)
  then_never {A} {R} {S} {p} {q} {a} {b} {view} {self} looks same never passed =
      where_among d {C = S → ⊥} same (tree_before d looks (λ honest agrees levels tree told.
      never honest agrees told levels tree)) (λ no refused. no (passed refused))

  -- A row was found, and its entry was taken out of the tree.
  pub record TakesEntry (A B : Type 0) (p q r : PageMap) (a b c : D) (rows : ChainedTree) (root : ℕ) (key : List ℕ)
      (entry : Entry) (first : ℕ) : Type 0 where
    pub looks : LooksAt d A p a q b
    pub found : OnTree d rows.tree.layout rows.tree.root p a
        (λ levels. entry_with (stored_in rows levels) key ≡ Some entry)
    pub taken : OnTreeChange d rows.tree.layout rows.tree.root q r b
        (λ before levels after. Removes rows.tree.layout before levels after key (Some root))
    pub edits : EditsPages d B q b r c
    pub first_is : first ≡ big_number 4 entry.value
    pub long : rows.record_bytes ≢ 0

  -- its chain is there, so that it can be released
  chain_left : {A B : Type 0} {p q r : PageMap} {a b c : D} {rows : ChainedTree} {root : ℕ} {key : List ℕ}
      {entry : Entry} {first : ℕ} {levels : List (List TreeNode)}
      → TakesEntry A B p q r a b c rows root key entry first → d.is_honest a → Agrees p (d.state a).disk
      → Stands (pages_on d p a) rows levels → chain.Stands (pages_on d r a) (pages_for rows.record_bytes) first
  chain_left {A} {B} {p} {q} {r} {a} {b} {c} {rows} {root} {key} {entry} {first} {levels} takes honest agrees stands =
      subst (chain.Stands (pages_on d r a) (pages_for rows.record_bytes)) (sym takes.first_is)
      (left_on A p q r a b rows root key entry levels takes.looks takes.taken takes.long honest agrees stands
      (takes.found honest agrees levels stands.tree))

  pub taken_never : {A B R S : Type 0} {p q r : PageMap} {a b c : D} {view self : ChainedTree} {root : ℕ}
      {key : List ℕ} {entry : Entry} {first : ℕ} → TakesEntry A B p q r a b c view root key entry first → view ≡ self
      → OnNoChain d (pages_for view.record_bytes) first r c S → (R → S)
      → OnRowTreeAmong d self p a (λ left right entries. R → ⊥)
  taken_never {A} {B} {R} {S} {p} {q} {r} {a} {b} {c} {view} {self} {root} {key} {entry} {first} takes same never
      passed =
      subst (λ (t : ChainedTree). OnRowTreeAmong d t p a (λ left right entries. R → ⊥)) same
      (λ honest agrees left right entries is refused.
      let claim : List (Option Sector) → Type 0 =
      λ l. S → chain.Stands l (pages_for view.record_bytes) first → ⊥ in
      pages_told d (A ⊎ B) r a c claim honest (both_read A B p q r a b c takes.looks takes.edits)
      (both_agree A B p q r a b c takes.looks takes.edits honest agrees) never (passed refused)
      (chain_left takes honest agrees (stands_among (pages_on d p a) left right view entries is)))

  -- and is released
  pub removed_on :
      {A B E : Type 0} {p q r : PageMap} (s : PageMap) {a b c : D} {view self new : ChainedTree} {key : List ℕ}
      {entry : Entry} {first : ℕ} {result : Result Bool E}
      → TakesEntry A B p q r a b c view new.tree.root key entry first → view ≡ self
      → OnChange d r s c (λ before after. chain.Stands before (pages_for view.record_bytes) first
      → Releases before (pages_for view.record_bytes) after first)
      → new.tree.layout ≡ view.tree.layout → new.record_bytes ≡ view.record_bytes
      → RemovesRow d self p a new s key result
  removed_on {A} {B} {E} {p} {q} {r} s {a} {b} {c} {view} {self} {new} {key} {entry} {first} {result} takes same
      released layout form =
      subst (λ (t : ChainedTree). RemovesRow d t p a new s key result) same
      (λ honest agrees left right entries is ok.
      let n = view.record_bytes in
      let before = pages_on d p a in
      let levels = is.planted.levels in
      let stands = stands_among before left right view entries is in
      let claim : List (Option Sector) → List (Option Sector) → Type 0 = λ one two.
      chain.Stands one (pages_for n) first → Releases one (pages_for n) two first in
      let R : ℕ → Type 0 = λ page. Releases (pages_on d r a) (pages_for n) (pages_on d s a) page in
      removed_long before (pages_on d r a) (pages_on d s a) left right view new entries is key entry takes.long layout
      form (takes.found honest agrees levels stands.tree)
      (gone_on A p q r a b view new.tree.root key levels takes.looks takes.taken honest agrees stands.tree)
      (subst R takes.first_is (change_told d (A ⊎ B) r s a c claim honest
      (both_read A B p q r a b c takes.looks takes.edits)
      (both_agree A B p q r a b c takes.looks takes.edits honest agrees) released
      (chain_left takes honest agrees stands))))

  -- how many pages more were changed
  pub taken_few : {A : Type 0} {p q : PageMap} (r s : PageMap) {a b : D} {view self : ChainedTree} (most : ℕ)
      → LooksAt d A p a q b → view ≡ self
      → OnTree d view.tree.layout view.tree.root q b (λ levels. FewChanged most q r)
      → FewChanged (pages_for view.record_bytes) r s → ChangesFewPages d most self p a s
  taken_few {A} {p} {q} r s {a} {b} {view} {self} most looks same told few =
      subst (λ (t : ChainedTree). ChangesFewPages d most t p a s) same
      (λ honest agrees left right entries is.
      few_released (changed_pages_of p) (changed_pages_of q) (changed_pages_of r) (changed_pages_of s)
      view.record_bytes most looks.unchanged.changed_pages
      (tree_before d looks told honest agrees is.planted.levels
      (stands_among (pages_on d p a) left right view entries is).tree) few)
