-- A row of a tree whose records are in chains gets another record, call by call.
use Rattle.std.proofs.Common.{◌≡◌, ◌≢◌, ◌<◌, ◌^◌, ◌++◌, ◌⊎◌, Bool, ℕ, List, length, refl, sym, subst, ◌∙◌}
use Rattle.std.specs.Prelude.{Option, Some, None, IsSome, drop, Result}
use Rattle.station.specs.Disk.{Sector}
use Rattle.station.specs.declared.device.Device.{Ghosts as Devices}
use Rattle.byteorder.specs.Endian.{big_bytes, big_number}
use Rattle.pages.specs.Pages.{Agrees}
use Rattle.pages.specs.declared.page_map.PageMap.{PageMap}
use Rattle.btree.specs.Calls.{OnNoTree, OnTree, OnTreeChange, OnChange, pages_on}
use Rattle.btree.specs.Changes.{Becomes}
use Rattle.btree.specs.Entries.{Entry, entry_with, with_value}
use Rattle.btree.specs.Tree.{TreeNode, IsTreeOrEmpty}
use Rattle.chains.specs.Calls.{OnNoChain}
use Rattle.chains.specs.Chain.{pages_for}
use Rattle.chains.specs.Chain as chain
use Rattle.chains.specs.Changes.{Rewrites}
use Rattle.volume_format.specs.Calls.{LooksAt}
use Rattle.row_trees.specs.Calls.{EditsPages, OnRowTreeAmong, ReplacesRow}
use Rattle.row_trees.specs.RowTree.{ChainedTree, IsRowTreeAmong}
use Rattle.row_trees.proofs.Among.{Stands, stored_in, stands_among}
use Rattle.row_trees.proofs.Calling.{edits_after, edits_last, pages_told, change_told, same_on, told_before}
use Rattle.row_trees.proofs.Changes.{same_key, unwritten}
use Rattle.row_trees.proofs.Forms.{pair, first_told}
use Rattle.row_trees.proofs.Long.{IsRewritten, is_rewritten, found_chain, rewritten_tree, replaced_long}
use Rattle.row_trees.proofs.Passing.{none_not_some}
use Rattle.row_trees.proofs.Short.{some_seen}
use Rattle.row_trees.proofs.TakenRows.{both_read, both_agree}

-- the entry of a key that is found, whichever key it has
found_own : (entries : List Entry) (key : List ℕ) (was : Entry) → entry_with entries key ≡ Some was
    → entry_with entries was.key ≡ Some was
found_own entries key was found =
    subst (λ (k : List ℕ). entry_with entries k ≡ Some was) (sym (same_key entries key was found)) found

is_there : (entries : List Entry) (key : List ℕ) (was : Entry) → entry_with entries key ≡ Some was
    → IsSome (entry_with entries key)
is_there entries key was found = subst IsSome (sym found) refl

module _ {D : Type 0} (d : Devices D) where
  -- a chain was rewritten after a call that only reads
  rewritten_on : (A : Type 0) (p q r : PageMap) (a b : D) (old : ChainedTree) (key bytes : List ℕ) (was : Entry)
      (first : ℕ) (levels : List (List TreeNode)) → LooksAt d A p a q b
      → OnChange d q r b (λ before after. chain.Stands before (pages_for (length bytes)) first
      → Rewrites before bytes after first)
      → first ≡ big_number 4 was.value → length bytes ≡ old.record_bytes → old.record_bytes ≢ 0
      → d.is_honest a → Agrees p (d.state a).disk → Stands (pages_on d p a) old levels
      → entry_with (stored_in old levels) key ≡ Some was
      → IsRewritten (pages_on d p a) bytes (pages_on d r a) old.record_bytes was
  rewritten_on A p q r a b old key bytes was first levels looks told first_is many long honest agrees stands found =
      let n = old.record_bytes in
      let before = pages_on d p a in
      let claim : List (Option Sector) → List (Option Sector) → Type 0 = λ one two.
      chain.Stands one (pages_for (length bytes)) first → Rewrites one bytes two first in
      let moved : claim before (pages_on d r a) = subst
      (λ (l : List (Option Sector)). claim l (pages_on d r a)) (same_on d p q a looks.unchanged)
      (change_told d A q r a b claim honest looks.only (looks.agrees honest agrees) told) in
      let own : chain.Stands before (pages_for (length bytes)) first =
      subst (λ (k : ℕ). chain.Stands before (pages_for k) first) (sym many)
      (subst (chain.Stands before (pages_for n)) (sym first_is)
      (found_chain before old levels key was long stands found))
      in
      is_rewritten before (pages_on d r a) bytes n was many
      (subst (λ (page : ℕ). Rewrites before bytes (pages_on d r a) page) first_is (moved own))

  -- the chain of the entry is there
  pub rewrite_never : {A R S : Type 0} {p q : PageMap} {a b : D} {view self : ChainedTree} {key : List ℕ} {was : Entry}
      {size first : ℕ} → LooksAt d A p a q b → view ≡ self
      → OnTree d view.tree.layout view.tree.root p a (λ levels. entry_with (stored_in view levels) key ≡ Some was)
      → OnNoChain d (pages_for size) first q b S → size ≡ view.record_bytes → first ≡ big_number 4 was.value
      → view.record_bytes ≢ 0 → (R → S) → OnRowTreeAmong d self p a (λ left right entries. R → ⊥)
  rewrite_never {A} {R} {S} {p} {q} {a} {b} {view} {self} {key} {was} {size} {first} looks same found never many
      first_is long passed =
      subst (λ (t : ChainedTree). OnRowTreeAmong d t p a (λ left right entries. R → ⊥)) same
      (λ honest agrees left right entries is refused.
      let stands = stands_among (pages_on d p a) left right view entries is in
      let levels = is.planted.levels in
      let C : ℕ → ℕ → Type 0 = λ count page. chain.Stands (pages_on d p a) (pages_for count) page in
      let claim : List (Option Sector) → Type 0 = λ l. S → chain.Stands l (pages_for size) first → ⊥ in
      told_before d A p q a b claim honest agrees looks.only looks.unchanged looks.agrees never (passed refused)
      (subst (λ (k : ℕ). C k first) (sym many) (subst (C view.record_bytes) (sym first_is)
      (found_chain (pages_on d p a) view levels key was long stands (found honest agrees levels stands.tree)))))

  -- A row was found, and its record was rewritten.
  pub record RewritesFound (A B : Type 0) (p q r : PageMap) (a b c : D) (rows : ChainedTree) (key bytes : List ℕ)
      (was : Entry) (first : ℕ) : Type 0 where
    pub looks : LooksAt d A p a q b
    pub found : OnTree d rows.tree.layout rows.tree.root p a
        (λ levels. entry_with (stored_in rows levels) key ≡ Some was)
    pub rewritten : OnChange d q r b (λ before after. chain.Stands before (pages_for (length bytes)) first
        → Rewrites before bytes after first)
    pub edits : EditsPages d B q b r c
    pub first_is : first ≡ big_number 4 was.value
    pub many : length bytes ≡ rows.record_bytes
    pub long : rows.record_bytes ≢ 0

  written_on : {A B : Type 0} {p q r : PageMap} {a b c : D} {rows : ChainedTree} {key bytes : List ℕ} {was : Entry}
      {first : ℕ} {levels : List (List TreeNode)} → RewritesFound A B p q r a b c rows key bytes was first
      → d.is_honest a → Agrees p (d.state a).disk → Stands (pages_on d p a) rows levels
      → IsRewritten (pages_on d p a) bytes (pages_on d r a) rows.record_bytes was
  written_on {A} {B} {p} {q} {r} {a} {b} {c} {rows} {key} {bytes} {was} {first} {levels} writes honest agrees stands =
      rewritten_on A p q r a b rows key bytes was first levels writes.looks writes.rewritten writes.first_is
      writes.many writes.long honest agrees stands (writes.found honest agrees levels stands.tree)

  -- whoever changes more after it, the last call alone is to blame
  pub written_edits : {A B C E : Type 0} {p q r s : PageMap} {a b c e : D} {rows : ChainedTree} {key bytes : List ℕ}
      {was : Entry} {first : ℕ} → RewritesFound A B p q r a b c rows key bytes was first → EditsPages d E r c s e
      → (C → E) → EditsPages d C p a s e
  written_edits {A} {B} {C} {E} {p} {q} {r} {s} {a} {b} {c} {e} writes edits from =
      edits_last d B E C p r s a c e from (edits_after d writes.looks writes.edits (λ is. is)) edits

  -- the tree is on its pages still
  tree_written : {A B : Type 0} {p q r : PageMap} {a b c : D} {rows : ChainedTree} {key bytes : List ℕ} {was : Entry}
      {first : ℕ} {levels : List (List TreeNode)} → RewritesFound A B p q r a b c rows key bytes was first
      → d.is_honest a → Agrees p (d.state a).disk → Stands (pages_on d p a) rows levels
      → IsTreeOrEmpty rows.tree.layout (pages_on d r a) rows.tree.root levels
  tree_written {A} {B} {p} {q} {r} {a} {b} {c} {rows} {key} {bytes} {was} {first} {levels} writes honest agrees
      stands =
      rewritten_tree (pages_on d p a) (pages_on d r a) rows levels key bytes was writes.long stands
      (writes.found honest agrees levels stands.tree) (written_on writes honest agrees stands)

  -- so what a call says then of the tree
  written_tells : {A B : Type 0} {p q r : PageMap} {a b c : D} {rows : ChainedTree} {key bytes : List ℕ} {was : Entry}
      {first : ℕ} {levels : List (List TreeNode)} (claim : List (List TreeNode) → Type 0)
      → RewritesFound A B p q r a b c rows key bytes was first
      → d.is_honest a → Agrees p (d.state a).disk → Stands (pages_on d p a) rows levels
      → OnTree d rows.tree.layout rows.tree.root r c claim → claim levels
  written_tells {A} {B} {p} {q} {r} {a} {b} {c} {rows} {key} {bytes} {was} {first} {levels} claim writes honest agrees
      stands told =
      let each : List (Option Sector) → Type 0 = λ l. (levels : List (List TreeNode))
      → IsTreeOrEmpty rows.tree.layout l rows.tree.root levels → claim levels in
      pages_told d (A ⊎ B) r a c each honest (both_read d A B p q r a b c writes.looks writes.edits)
      (both_agree d A B p q r a b c writes.looks writes.edits honest agrees) told levels
      (tree_written writes honest agrees stands)

  pub written_never : {A B R S : Type 0} {p q r : PageMap} {a b c : D} {view self : ChainedTree}
      {key bytes : List ℕ} {was : Entry} {first : ℕ} → RewritesFound A B p q r a b c view key bytes was first
      → view ≡ self → OnNoTree d view.tree.layout view.tree.root r c S → (R → S)
      → OnRowTreeAmong d self p a (λ left right entries. R → ⊥)
  written_never {A} {B} {R} {S} {p} {q} {r} {a} {b} {c} {view} {self} writes same never passed =
      subst (λ (t : ChainedTree). OnRowTreeAmong d t p a (λ left right entries. R → ⊥)) same
      (λ honest agrees left right entries is refused.
      written_tells (λ levels. ⊥) writes honest agrees (stands_among (pages_on d p a) left right view entries is)
      (λ h ag levels tree. never h ag (passed refused) levels tree))

  -- the key is there still
  pub written_there : {A B X : Type 0} {p q r : PageMap} {a b c : D} {view self : ChainedTree} {key bytes : List ℕ}
      {was : Entry} {first : ℕ} → RewritesFound A B p q r a b c view key bytes was first → view ≡ self
      → OnTree d view.tree.layout view.tree.root r c (λ levels. entry_with (stored_in view levels) key ≡ None)
      → OnRowTreeAmong d self p a (λ left right entries. X)
  written_there {A} {B} {X} {p} {q} {r} {a} {b} {c} {view} {self} {key} writes same told =
      subst (λ (t : ChainedTree). OnRowTreeAmong d t p a (λ left right entries. X)) same
      (λ honest agrees left right entries is.
      let stands = stands_among (pages_on d p a) left right view entries is in
      none_not_some (sym (written_tells (λ levels. entry_with (stored_in view levels) key ≡ None) writes honest agrees
      stands told) ∙ writes.found honest agrees is.planted.levels stands.tree))

  -- what follows the record stays
  pub unwritten_on : {A B F : Type 0} {p q r : PageMap} {a b c : D} {view self : ChainedTree}
      {key bytes value : List ℕ} {was : Entry} {first : ℕ} {result : Result Bool F}
      → RewritesFound A B p q r a b c view key bytes was first → view ≡ self → bytes ++ drop 4 was.value ≡ value
      → ReplacesRow d self p a r key value result
  unwritten_on {A} {B} {F} {p} {q} {r} {a} {b} {c} {view} {self} {key} {bytes} {value} {was} {first} {result} writes
      same whole =
      subst (λ (t : ChainedTree). ReplacesRow d t p a r key value result) same
      (λ honest agrees left right entries is ok.
      let before = pages_on d p a in
      let levels = is.planted.levels in
      let E = stored_in view levels in
      let stands = stands_among before left right view entries is in
      let found = writes.found honest agrees levels stands.tree in
      let own = found_own E key was found in (
        some_seen before left right view entries is key (is_there E key was found),
        subst (λ (k : List ℕ). IsRowTreeAmong (pages_on d r a) left right view (with_value entries (pair k value)))
            (same_key E key was found)
            (replaced_long before (pages_on d r a) (pages_on d r a) left right view entries is was was bytes value
            writes.long writes.many own refl whole (written_on writes honest agrees stands)
            (unwritten (pages_on d r a) view levels was own (tree_written writes honest agrees stands))),
      ))

  -- or is another one
  pub replaced_on : {A B F : Type 0} {p q r : PageMap} (s : PageMap) {a b c : D} {view self : ChainedTree}
      {key bytes rest value stored : List ℕ} {was : Entry} {first : ℕ} {result : Result Bool F}
      → RewritesFound A B p q r a b c view key bytes was first → view ≡ self
      → OnTreeChange d view.tree.layout view.tree.root r s c (λ before levels after.
      Becomes view.tree.layout before levels after view.tree.root
      (with_value (stored_in view levels) (pair key stored)))
      → stored ≡ big_bytes 4 first ++ rest → first < 2 ^ 32 → bytes ++ rest ≡ value
      → ReplacesRow d self p a s key value result
  replaced_on {A} {B} {F} {p} {q} {r} s {a} {b} {c} {view} {self} {key} {bytes} {rest} {value} {stored} {was} {first}
      {result} writes same told value_is small whole =
      subst (λ (t : ChainedTree). ReplacesRow d t p a s key value result) same
      (λ honest agrees left right entries is ok.
      let before = pages_on d p a in
      let levels = is.planted.levels in
      let E = stored_in view levels in
      let stands = stands_among before left right view entries is in
      let found = writes.found honest agrees levels stands.tree in
      let entry = pair key (big_bytes 4 first ++ rest) in
      let claim : List (Option Sector) → List (Option Sector) → Type 0 = λ one two. (levels : List (List TreeNode))
      → IsTreeOrEmpty view.tree.layout one view.tree.root levels
      → Becomes view.tree.layout one levels two view.tree.root
      (with_value (stored_in view levels) (pair key stored)) in (
        some_seen before left right view entries is key (is_there E key was found),
        replaced_long before (pages_on d r a) (pages_on d s a) left right view entries is was entry bytes value
            writes.long writes.many found (first_told first rest small ∙ writes.first_is) whole
            (written_on writes honest agrees stands)
            (subst (λ (l : List ℕ). Becomes view.tree.layout (pages_on d r a) levels (pages_on d s a) view.tree.root
            (with_value E (pair key l))) value_is
            (change_told d (A ⊎ B) r s a c claim honest (both_read d A B p q r a b c writes.looks writes.edits)
            (both_agree d A B p q r a b c writes.looks writes.edits honest agrees) told levels
            (tree_written writes honest agrees stands))),
      ))
