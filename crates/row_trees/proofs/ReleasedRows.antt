-- All chains of a tree are released, call by call.
use Rattle.std.proofs.Common.{◌≡◌, ◌≢◌, ◌+◌, ℕ, suc, List, [], sym, subst, ◌∙◌, arith}
use Rattle.std.specs.Prelude.{Option, Some, Result, OnOk}
use Rattle.station.specs.Disk.{Sector}
use Rattle.station.specs.Calls.{OnlyReads}
use Rattle.station.specs.declared.device.Device.{Ghosts as Devices}
use Rattle.byteorder.specs.Endian.{big_number}
use Rattle.pages.specs.Pages.{Agrees, IsUnchanged}
use Rattle.pages.specs.declared.page_map.PageMap.{PageMap}
use Rattle.btree.specs.Calls.{OnNoTree, OnTree, OnTreeChange, OnChange, pages_on}
use Rattle.btree.specs.Entries.{Entry, first_entry, first_entry_after}
use Rattle.btree.specs.Moves.{Moves}
use Rattle.btree.specs.Tree.{TreeNode, IsTreeOrEmpty, pages_of}
use Rattle.chains.specs.Calls.{OnNoChain}
use Rattle.chains.specs.Chain.{pages_for}
use Rattle.chains.specs.Chain as chain
use Rattle.chains.specs.Changes.{Releases}
use Rattle.volume_format.specs.Calls.{LooksAt}
use Rattle.volume_format.specs.Forest.{TreeLevels}
use Rattle.row_trees.specs.Calls.{EditsPages, OnRowTree, OnRowTreeAmong, ClearsTree}
use Rattle.row_trees.specs.RowTree.{ChainedTree, IsRowTree, IsRowTreeAmong}
use Rattle.row_trees.proofs.Among.{alone, chains_alone, chains_in, stands_alone, stands_among, stored_in}
use Rattle.row_trees.proofs.Calling.{pages_told, change_told, same_on}
use Rattle.row_trees.proofs.Forms.{as_chain, of_chain}
use Rattle.row_trees.proofs.Passing.{on_ok}
use Rattle.row_trees.proofs.Releasing.{Releasing, releases_start, releases_step, releases_tree, next_stands}
use Rattle.row_trees.proofs.Releasing.{all_gone, chains_gone}

module _ {D : Type 0} (d : Devices D) where
  -- before the first release: two calls read
  pub releases_begin : {A B : Type 0} {p q r : PageMap} {a b c : D} {rows : ChainedTree} {next : Option Entry}
      → LooksAt d A p a q b → LooksAt d B q b r c
      → OnTree d rows.tree.layout rows.tree.root q b (λ levels. next ≡ first_entry (stored_in rows levels))
      → OnRowTree d rows p a (λ planted. Releasing (pages_on d p a) rows planted.levels (pages_on d r a) 0 next)
  releases_begin {A} {B} {p} {q} {r} {a} {b} {c} {rows} {next} one two told = λ honest agrees planted is.
      let stands = stands_alone (pages_on d p a) rows planted is in
      let same = same_on d p q a one.unchanged in
      let claim : List (Option Sector) → Type 0 = λ l. (levels : List (List TreeNode))
      → IsTreeOrEmpty rows.tree.layout l rows.tree.root levels → next ≡ first_entry (stored_in rows levels) in
      let first = subst claim same (pages_told d A q a b claim honest one.only (one.agrees honest agrees) told)
      planted.levels stands.tree in
      subst (λ (l : List (Option Sector)). Releasing (pages_on d p a) rows planted.levels l 0 next)
      (sym (same_on d q r a two.unchanged ∙ same))
      (releases_start (pages_on d p a) rows planted.levels next stands first)

  -- the chain of the next entry is there
  chain_next : (before : List (Option Sector)) (p : PageMap) (a : D) (rows : ChainedTree)
      (levels : List (List TreeNode)) (place : ℕ) (entry : Entry) (first : ℕ) → rows.record_bytes ≢ 0
      → first ≡ big_number 4 entry.value → Releasing before rows levels (pages_on d p a) place (Some entry)
      → chain.Stands (pages_on d p a) (pages_for rows.record_bytes) first
  chain_next before p a rows levels place entry first long first_is state =
      let n = rows.record_bytes in
      subst (chain.Stands (pages_on d p a) (pages_for n)) (sym first_is)
      (of_chain n entry (chain.Stands (pages_on d p a)) long
      (next_stands before rows levels (pages_on d p a) place entry state))

  -- and after it was released
  chain_gone : (A : Type 0) (before : List (Option Sector)) (p q : PageMap) (a b : D) (rows : ChainedTree)
      (levels : List (List TreeNode)) (place : ℕ) (entry : Entry) (first : ℕ) → OnlyReads d A a b
      → OnChange d p q b (λ before after. chain.Stands before (pages_for rows.record_bytes) first
      → Releases before (pages_for rows.record_bytes) after first)
      → rows.record_bytes ≢ 0 → first ≡ big_number 4 entry.value → d.is_honest a → Agrees p (d.state b).disk
      → Releasing before rows levels (pages_on d p a) place (Some entry)
      → Releases (pages_on d p a) (pages_for rows.record_bytes) (pages_on d q a) (big_number 4 entry.value)
  chain_gone A before p q a b rows levels place entry first only told long first_is honest agrees state =
      let n = rows.record_bytes in
      let claim : List (Option Sector) → List (Option Sector) → Type 0 = λ one two.
      chain.Stands one (pages_for n) first → Releases one (pages_for n) two first in
      subst (λ (page : ℕ). Releases (pages_on d p a) (pages_for n) (pages_on d q a) page) first_is
      (change_told d A p q a b claim honest only agrees told
      (chain_next before p a rows levels place entry first long first_is state))

  tree_next : (before : List (Option Sector)) (p q : PageMap) (a : D) (rows : ChainedTree)
      (levels : List (List TreeNode)) (place : ℕ) (entry : Entry) → rows.record_bytes ≢ 0
      → Releasing before rows levels (pages_on d p a) place (Some entry)
      → Releases (pages_on d p a) (pages_for rows.record_bytes) (pages_on d q a) (big_number 4 entry.value)
      → IsTreeOrEmpty rows.tree.layout (pages_on d q a) rows.tree.root levels
  tree_next before p q a rows levels place entry long state gone =
      let R : ℕ → ℕ → Type 0 = λ count page. Releases (pages_on d p a) count (pages_on d q a) page in
      releases_tree before rows levels (pages_on d p a) (pages_on d q a) place entry state
      (as_chain rows.record_bytes entry R long gone)

  -- then the next entry is sought
  releases_next : (A : Type 0) (before : List (Option Sector)) (p q r : PageMap) (a c : D) (rows : ChainedTree)
      (levels : List (List TreeNode)) (place : ℕ) (entry : Entry) (next : Option Entry) → OnlyReads d A a c
      → OnTree d rows.tree.layout rows.tree.root q c
      (λ levels. next ≡ first_entry_after (stored_in rows levels) entry.key)
      → IsUnchanged q r → rows.record_bytes ≢ 0 → d.is_honest a → Agrees q (d.state c).disk
      → Releasing before rows levels (pages_on d p a) place (Some entry)
      → Releases (pages_on d p a) (pages_for rows.record_bytes) (pages_on d q a) (big_number 4 entry.value)
      → Releasing before rows levels (pages_on d r a) (place + 1) next
  releases_next A before p q r a c rows levels place entry next only told unchanged long honest agrees state gone =
      let claim : List (Option Sector) → Type 0 = λ l. (levels : List (List TreeNode))
      → IsTreeOrEmpty rows.tree.layout l rows.tree.root levels
      → next ≡ first_entry_after (stored_in rows levels) entry.key in
      let R : ℕ → ℕ → Type 0 = λ count page. Releases (pages_on d p a) count (pages_on d q a) page in
      let more : suc place ≡ place + 1 = omega arith in
      subst (λ (n : ℕ). Releasing before rows levels (pages_on d r a) n next) more
      (subst (λ (l : List (Option Sector)). Releasing before rows levels l (suc place) next)
      (sym (same_on d q r a unchanged))
      (releases_step before rows levels (pages_on d p a) (pages_on d q a) place entry next state
      (as_chain rows.record_bytes entry R long gone)
      (pages_told d A q a c claim honest only agrees told levels
      (tree_next before p q a rows levels place entry long state gone))))

  -- Some chains were released, and this entry is next. Its value begins with this page.
  pub record NextRow (p q : PageMap) (a b : D) (rows : ChainedTree) (place : ℕ) (entry : Entry) (first : ℕ) : Type 0
    where
      pub edits : EditsPages d ⊥ p a q b
      pub rest : OnRowTree d rows p a
          (λ planted. Releasing (pages_on d p a) rows planted.levels (pages_on d q a) place (Some entry))
      pub first_is : first ≡ big_number 4 entry.value
      pub long : rows.record_bytes ≢ 0

  -- its chain is there, so that it can be released
  pub next_never : {R S : Type 0} {p q : PageMap} {a b : D} {rows : ChainedTree} {place : ℕ} {entry : Entry} {first : ℕ}
      → NextRow p q a b rows place entry first → OnNoChain d (pages_for rows.record_bytes) first q b S → (R → S)
      → OnRowTree d rows p a (λ planted. R → ⊥)
  next_never {R} {S} {p} {q} {a} {b} {rows} {place} {entry} {first} row never passed =
      λ honest agrees planted is refused.
      let claim : List (Option Sector) → Type 0 =
      λ l. S → chain.Stands l (pages_for rows.record_bytes) first → ⊥ in
      pages_told d ⊥ q a b claim honest row.edits.only (row.edits.agrees honest agrees) never (passed refused)
      (chain_next (pages_on d p a) q a rows planted.levels place entry first row.long row.first_is
      (row.rest honest agrees planted is))

  next_gone : {p q : PageMap} (r : PageMap) {a b : D} {rows : ChainedTree} {place : ℕ} {entry : Entry} {first : ℕ}
      {planted : TreeLevels} → NextRow p q a b rows place entry first
      → OnChange d q r b (λ before after. chain.Stands before (pages_for rows.record_bytes) first
      → Releases before (pages_for rows.record_bytes) after first)
      → d.is_honest a → Agrees p (d.state a).disk → IsRowTree (pages_on d p a) rows planted
      → Releases (pages_on d q a) (pages_for rows.record_bytes) (pages_on d r a) (big_number 4 entry.value)
  next_gone {p} {q} r {a} {b} {rows} {place} {entry} {first} {planted} row told honest agrees is =
      chain_gone ⊥ (pages_on d p a) q r a b rows planted.levels place entry first row.edits.only told row.long
      row.first_is honest (row.edits.agrees honest agrees) (row.rest honest agrees planted is)

  -- and the tree is on its pages still, so that the next entry can be sought
  pub gone_never : {R S : Type 0} {p q r : PageMap} {a b c : D} {rows : ChainedTree} {place : ℕ} {entry : Entry}
      {first : ℕ} → NextRow p q a b rows place entry first
      → OnChange d q r b (λ before after. chain.Stands before (pages_for rows.record_bytes) first
      → Releases before (pages_for rows.record_bytes) after first)
      → EditsPages d ⊥ p a r c → OnNoTree d rows.tree.layout rows.tree.root r c S → (R → S)
      → OnRowTree d rows p a (λ planted. R → ⊥)
  gone_never {R} {S} {p} {q} {r} {a} {b} {c} {rows} {place} {entry} {first} row told edits never passed =
      λ honest agrees planted is refused.
      let claim : List (Option Sector) → Type 0 =
      λ l. S → (levels : List (List TreeNode)) → IsTreeOrEmpty rows.tree.layout l rows.tree.root levels → ⊥ in
      pages_told d ⊥ r a c claim honest edits.only (edits.agrees honest agrees) never (passed refused) planted.levels
      (tree_next (pages_on d p a) q r a rows planted.levels place entry row.long (row.rest honest agrees planted is)
      (next_gone {q = q} r row told honest agrees is))

  pub released_next : {p q r s : PageMap} {a b c : D} {rows : ChainedTree} {place : ℕ} {entry : Entry} {first : ℕ}
      {next : Option Entry} → NextRow p q a b rows place entry first
      → OnChange d q r b (λ before after. chain.Stands before (pages_for rows.record_bytes) first
      → Releases before (pages_for rows.record_bytes) after first)
      → EditsPages d ⊥ p a r c
      → OnTree d rows.tree.layout rows.tree.root r c
      (λ levels. next ≡ first_entry_after (stored_in rows levels) entry.key)
      → IsUnchanged r s
      → OnRowTree d rows p a
      (λ planted. Releasing (pages_on d p a) rows planted.levels (pages_on d s a) (place + 1) next)
  released_next {p} {q} {r} {s} {a} {b} {c} {rows} {place} {entry} {first} {next} row told edits after unchanged =
      λ honest agrees planted is.
      releases_next ⊥ (pages_on d p a) q r s a c rows planted.levels place entry next edits.only after unchanged
      row.long
      honest (edits.agrees honest agrees) (row.rest honest agrees planted is)
      (next_gone {q = q} r row told honest agrees is)

  -- All chains were released: the tree is on its pages still.
  chains_left : (p q : PageMap) (a : D) {view : ChainedTree}
      → OnRowTree d view p a (λ planted. Moves (pages_on d p a) planted.chains (pages_on d q a) [])
      → d.is_honest a → Agrees p (d.state a).disk → (left right : List TreeLevels) (entries : List Entry)
      → (is : IsRowTreeAmong (pages_on d p a) left right view entries)
      → Moves (pages_on d p a) (chains_in (pages_on d p a) view is.planted.levels) (pages_on d q a) []
  chains_left p q a {view} released honest agrees left right entries is =
      let whole = alone (pages_on d p a) left right view entries is in
      subst (λ (l : List ℕ). Moves (pages_on d p a) l (pages_on d q a) [])
      (chains_alone (pages_on d p a) view is.planted whole) (released honest agrees is.planted whole)

  tree_left : (p q : PageMap) (a : D) {view : ChainedTree} {left right : List TreeLevels} {entries : List Entry}
      (is : IsRowTreeAmong (pages_on d p a) left right view entries)
      → Moves (pages_on d p a) (chains_in (pages_on d p a) view is.planted.levels) (pages_on d q a) []
      → IsTreeOrEmpty view.tree.layout (pages_on d q a) view.tree.root is.planted.levels
  tree_left p q a {view} {left} {right} {entries} is gone =
      chains_gone (pages_on d p a) (pages_on d q a) view is.planted.levels
      (stands_among (pages_on d p a) left right view entries is) gone

  -- and then it is cleared
  pub clears_tree :
      {B T E : Type 0} {p q : PageMap} (r : PageMap) {a b : D} {view self : ChainedTree} (result : Result T E)
      → EditsPages d B p a q b
      → OnRowTree d view p a (λ planted. Moves (pages_on d p a) planted.chains (pages_on d q a) []) → view ≡ self
      → OnTreeChange d view.tree.layout view.tree.root q r b
      (λ before levels after. OnOk result (Moves before (pages_of levels) after []))
      → ClearsTree d self p a r result
  clears_tree {B} {T} {E} {p} {q} r {a} {b} {view} {self} result edits released same cleared =
      subst (λ (t : ChainedTree). ClearsTree d t p a r result) same
      (λ honest agrees left right entries is.
      let gone = chains_left p q a released honest agrees left right entries is in
      let claim : List (Option Sector) → List (Option Sector) → Type 0 = λ one two. (levels : List (List TreeNode))
      → IsTreeOrEmpty view.tree.layout one view.tree.root levels
      → OnOk result (Moves one (pages_of levels) two []) in
      on_ok result _ _ (all_gone (pages_on d p a) (pages_on d q a) (pages_on d r a) left right view entries is gone)
      (change_told d B q r a b claim honest edits.only (edits.agrees honest agrees) cleared is.planted.levels
      (tree_left p q a is gone)))

  pub cleared_never : {B R S : Type 0} {p q : PageMap} {a b : D} {view self : ChainedTree} → EditsPages d B p a q b
      → OnRowTree d view p a (λ planted. Moves (pages_on d p a) planted.chains (pages_on d q a) []) → view ≡ self
      → OnNoTree d view.tree.layout view.tree.root q b S → (R → S)
      → OnRowTreeAmong d self p a (λ left right entries. R → ⊥)
  cleared_never {B} {R} {S} {p} {q} {a} {b} {view} {self} edits released same never passed =
      subst (λ (t : ChainedTree). OnRowTreeAmong d t p a (λ left right entries. R → ⊥)) same
      (λ honest agrees left right entries is refused.
      let gone = chains_left p q a released honest agrees left right entries is in
      let claim : List (Option Sector) → Type 0 =
      λ l. S → (levels : List (List TreeNode)) → IsTreeOrEmpty view.tree.layout l view.tree.root levels → ⊥ in
      pages_told d B q a b claim honest edits.only (edits.agrees honest agrees) never (passed refused)
      is.planted.levels (tree_left p q a is gone))
