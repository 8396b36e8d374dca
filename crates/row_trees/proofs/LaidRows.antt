-- A row comes to a tree whose records are in chains, call by call.
use Rattle.std.proofs.Common.{◌≡◌, ◌≢◌, ◌<◌, ◌≤◌, ◌+◌, ◌^◌, ◌++◌, Bool, false, ℕ, List, length, sym, ap, subst, ◌∙◌}
use Rattle.std.proofs.Common.{arith}
use Rattle.std.specs.Prelude.{Option, Some, IsSome, is_some, Result, Err}
use Rattle.station.specs.Disk.{Sector}
use Rattle.station.specs.declared.device.Device.{Ghosts as Devices}
use Rattle.byteorder.specs.Endian.{big_bytes}
use Rattle.pages.specs.Use.{free_count}
use Rattle.pages.specs.Volumes.{volume_of}
use Rattle.pages.specs.Pages.{Agrees, KeepsCommitted, SameCommitted, FewFree, HasEachPage}
use Rattle.pages.specs.Pages.{committed_of, changed_pages_of, is_spent}
use Rattle.pages.specs.declared.volume.VolumeMap.{VolumeMap}
use Rattle.pages.specs.declared.page_map.PageMap.{PageMap}
use Rattle.pages.specs.declared.error.PagesError.{PagesError}
use Rattle.pages.specs.declared.error.PagesError.TheVariants.{Full}
use Rattle.btree.specs.Calls.{OnNoTree, OnTree, OnTreeChange, pages_on}
use Rattle.btree.specs.Changes.{Inserts, pages_of_map}
use Rattle.btree.specs.Entries.{Entry, entry_with}
use Rattle.btree.specs.Results.{FewChanged}
use Rattle.btree.specs.Tree.{TreeNode, IsTreeOrEmpty}
use Rattle.btree.proofs.Passing.{committed_on}
use Rattle.btree.proofs.Refused.{few_left}
use Rattle.chains.specs.Chain.{pages_for}
use Rattle.chains.specs.Changes.{Lays}
use Rattle.volume_format.specs.Calls.{LooksAt}
use Rattle.row_trees.specs.Calls.{EditsPages, OnRowTreeAmong, InsertsRow, ChangesFewPages, LacksPages, LacksSectors}
use Rattle.row_trees.specs.RowTree.{ChainedTree}
use Rattle.row_trees.proofs.Among.{Stands, stands_among, stored_in}
use Rattle.row_trees.proofs.Calling.{edits_last, edits_kept, looks_edits, pages_told, change_told, same_on}
use Rattle.row_trees.proofs.Long.{laid_tree, inserted_long}
use Rattle.row_trees.proofs.Passing.{few_added, few_first, none_or_some}

-- so many pages more were changed
pub room_laid : (old new : PageMap) (n most : ℕ) → FewFree → SameCommitted old new
    → is_spent old ≡ false → HasEachPage new → length (changed_pages_of new) ≤ length (changed_pages_of old) + n
    → free_count (committed_of old) < length (changed_pages_of old) + (most + n)
room_laid old new n most law same unspent each few =
    let less = few_left old new n law same unspent each few in omega (arith, less)

pub room_later : (old new : PageMap) (n most : ℕ) → SameCommitted old new
    → length (changed_pages_of new) ≤ length (changed_pages_of old) + n
    → free_count (committed_of new) < length (changed_pages_of new) + most
    → free_count (committed_of old) < length (changed_pages_of old) + (most + n)
room_later old new n most same few room =
    let still : free_count (committed_of new) ≡ free_count (committed_of old) =
    ap (λ (v : VolumeMap). free_count (volume_of v)) same.volume in
    omega (arith, still, few, room)

module _ {D : Type 0} (d : Devices D) where
  -- a chain was laid after a call that only reads
  laid_on : (A : Type 0) (p q r : PageMap) (a b : D) (bytes : List ℕ) (first : ℕ) → LooksAt d A p a q b
      → ((image : List Sector) → Lays (pages_of_map q image) bytes (pages_of_map r image) first)
      → Lays (pages_on d p a) bytes (pages_on d r a) first
  laid_on A p q r a b bytes first looks laid =
      subst (λ (l : List (Option Sector)). Lays l bytes (pages_on d r a) first) (same_on d p q a looks.unchanged)
      (laid (d.state a).disk.present)

  pub laid_tree_on : (A : Type 0) (p q r : PageMap) (a b : D) (rows : ChainedTree) (levels : List (List TreeNode))
      (bytes : List ℕ) (first : ℕ) → LooksAt d A p a q b
      → ((image : List Sector) → Lays (pages_of_map q image) bytes (pages_of_map r image) first)
      → Stands (pages_on d p a) rows levels
      → IsTreeOrEmpty rows.tree.layout (pages_on d r a) rows.tree.root levels
  laid_tree_on A p q r a b rows levels bytes first looks laid stands =
      laid_tree (pages_on d p a) (pages_on d r a) rows levels bytes first stands
      (laid_on A p q r a b bytes first looks laid)

  -- and agrees with the device
  pub laid_agrees : (A : Type 0) (p q r : PageMap) (a b : D) → LooksAt d A p a q b → KeepsCommitted q r
      → d.is_honest a → Agrees p (d.state a).disk → Agrees r (d.state b).disk
  laid_agrees A p q r a b looks keeps honest agrees = keeps.agrees (d.state b).disk (looks.agrees honest agrees)

  -- what a call says of the tree then
  pub laid_tells : (A : Type 0) (p q r : PageMap) (a b : D) (rows : ChainedTree) (levels : List (List TreeNode))
      (bytes : List ℕ) (first : ℕ) (claim : List (List TreeNode) → Type 0) → LooksAt d A p a q b
      → ((image : List Sector) → Lays (pages_of_map q image) bytes (pages_of_map r image) first)
      → KeepsCommitted q r → d.is_honest a → Agrees p (d.state a).disk → Stands (pages_on d p a) rows levels
      → OnTree d rows.tree.layout rows.tree.root r b claim → claim levels
  laid_tells A p q r a b rows levels bytes first claim looks laid keeps honest agrees stands told =
      let each : List (Option Sector) → Type 0 = λ l. (levels : List (List TreeNode))
      → IsTreeOrEmpty rows.tree.layout l rows.tree.root levels → claim levels in
      pages_told d A r a b each honest looks.only (laid_agrees A p q r a b looks keeps honest agrees) told levels
      (laid_tree_on A p q r a b rows levels bytes first looks laid stands)

  -- A row is not in the tree, and then a chain was laid for its record.
  pub record LaysRecord (A : Type 0) (p q r : PageMap) (a b : D) (rows : ChainedTree) (bytes : List ℕ) (first : ℕ) :
      Type 0 where
    pub looks : LooksAt d A p a q b
    pub laid : (image : List Sector) → Lays (pages_of_map q image) bytes (pages_of_map r image) first
    pub keeps : KeepsCommitted q r
    pub few : FewChanged (pages_for (length bytes)) q r
    pub many : length bytes ≡ rows.record_bytes

  -- After it the last call alone is to blame.
  pub laid_edits : {A B C : Type 0} {p q r s : PageMap} {a b c : D} {rows : ChainedTree} {bytes : List ℕ} {first : ℕ}
      → LaysRecord A p q r a b rows bytes first → EditsPages d B r b s c → (C → B) → EditsPages d C p a s c
  laid_edits {A} {B} {C} {p} {q} {r} {s} {a} {b} {c} lays edits from =
      edits_last d A B C p r s a b c from
      (edits_kept d A A p q r a b (λ is. is) (looks_edits d A p q a b lays.looks) lays.keeps) edits

  -- What a call says then of the pages: of the tree as it is stored, and so of the tree among others.
  laid_among : {A : Type 0} {p q r : PageMap} {a b : D} {view self : ChainedTree} {bytes : List ℕ} {first : ℕ}
      (claim : Type 0) → LaysRecord A p q r a b view bytes first → view ≡ self
      → OnTree d view.tree.layout view.tree.root r b (λ levels. claim)
      → OnRowTreeAmong d self p a (λ left right entries. claim)
  laid_among {A} {p} {q} {r} {a} {b} {view} {self} {bytes} {first} claim lays same told =
      subst (λ (t : ChainedTree). OnRowTreeAmong d t p a (λ left right entries. claim)) same
      (λ honest agrees left right entries is.
      laid_tells A p q r a b view is.planted.levels bytes first (λ levels. claim) lays.looks lays.laid lays.keeps honest
      agrees (stands_among (pages_on d p a) left right view entries is) told)

  pub laid_few : {A : Type 0} {p q r : PageMap} (s : PageMap) {a b : D} {view self : ChainedTree} {bytes : List ℕ}
      {first : ℕ} (most : ℕ)
      → LaysRecord A p q r a b view bytes first → view ≡ self
      → OnTree d view.tree.layout view.tree.root r b (λ levels. FewChanged most r s)
      → ChangesFewPages d most self p a s
  laid_few {A} {p} {q} {r} s {a} {b} {view} {self} {bytes} {first} most lays same told =
      λ honest agrees left right entries is.
      few_added (changed_pages_of p) (changed_pages_of q) (changed_pages_of r) (changed_pages_of s) (length bytes)
      self.record_bytes most lays.looks.unchanged.changed_pages lays.few
      (lays.many ∙ ap (λ (t : ChainedTree). t.record_bytes) same)
      (laid_among (FewChanged most r s) lays same told honest agrees left right entries is)

  pub laid_room : {A : Type 0} {T U : Type 0} {p q r : PageMap} {a b : D} {view self : ChainedTree} {bytes : List ℕ}
      {first : ℕ} (most : ℕ) (call : Result T PagesError) (result : Result U PagesError)
      → LaysRecord A p q r a b view bytes first → view ≡ self
      → OnTree d view.tree.layout view.tree.root r b (λ levels. LacksSectors most r call)
      → (result ≡ Err Full → call ≡ Err Full) → LacksPages d most self p a result
  laid_room {A} {T} {U} {p} {q} {r} {a} {b} {view} {self} {bytes} {first} most call result lays same told passed =
      λ honest agrees left right entries is full.
      let unchanged = lays.looks.unchanged in
      room_later p r (pages_for self.record_bytes) most
      (committed_on p q r unchanged.committed lays.keeps.committed)
      (few_first (changed_pages_of p) (changed_pages_of q) (changed_pages_of r) (length bytes) self.record_bytes
      unchanged.changed_pages lays.few (lays.many ∙ ap (λ (t : ChainedTree). t.record_bytes) same))
      (laid_among (LacksSectors most r call) lays same told honest agrees left right entries is (passed full))

  pub laid_never : {A R S : Type 0} {p q r : PageMap} {a b : D} {view self : ChainedTree} {bytes : List ℕ} {first : ℕ}
      → LaysRecord A p q r a b view bytes first → view ≡ self
      → OnNoTree d view.tree.layout view.tree.root r b S → (R → S)
      → OnRowTreeAmong d self p a (λ left right entries. R → ⊥)
  laid_never {A} {R} {S} {p} {q} {r} {a} {b} {view} {self} lays same never passed =
      λ honest agrees left right entries is refused.
      laid_among ⊥ lays same (λ h ag levels tree. never h ag (passed refused) levels tree) honest agrees left right
      entries is

  -- a key that was missing still is
  pub laid_missing : {A X : Type 0} {p q r : PageMap} {a b : D} {view self : ChainedTree} {bytes : List ℕ} {first : ℕ}
      (key : List ℕ) (held : Option Entry) → LaysRecord A p q r a b view bytes first → view ≡ self
      → OnTree d view.tree.layout view.tree.root p a (λ levels. held ≡ entry_with (stored_in view levels) key)
      → is_some held ≡ false
      → OnTree d view.tree.layout view.tree.root r b (λ levels. IsSome (entry_with (stored_in view levels) key))
      → OnRowTreeAmong d self p a (λ left right entries. X)
  laid_missing {A} {X} {p} {q} {r} {a} {b} {view} {self} {bytes} {first} key held lays same got none told =
      subst (λ (t : ChainedTree). OnRowTreeAmong d t p a (λ left right entries. X)) same
      (λ honest agrees left right entries is.
      let stands = stands_among (pages_on d p a) left right view entries is in
      let levels = is.planted.levels in
      none_or_some (sym (got honest agrees levels stands.tree)) none
      (laid_tells A p q r a b view levels bytes first (λ (l : List (List TreeNode)).
      IsSome (entry_with (stored_in view l) key)) lays.looks lays.laid lays.keeps honest agrees stands told))

  -- its entry was added
  pub inserted_on : {A E : Type 0} {p q r : PageMap} (s : PageMap) {a b : D} {view self new : ChainedTree}
      {key bytes rest value stored : List ℕ} {first : ℕ} {result : Result Bool E}
      → LaysRecord A p q r a b view bytes first → view ≡ self
      → OnTreeChange d view.tree.layout view.tree.root r s b (λ before levels after.
      Inserts view.tree.layout before levels after key stored (Some new.tree.root))
      → stored ≡ big_bytes 4 first ++ rest → view.record_bytes ≢ 0 → first < 2 ^ 32 → bytes ++ rest ≡ value
      → new.tree.layout ≡ view.tree.layout → new.record_bytes ≡ view.record_bytes
      → InsertsRow d self p a new s key value result
  inserted_on {A} {E} {p} {q} {r} s {a} {b} {view} {self} {new} {key} {bytes} {rest} {value} {stored} {first} {result}
      lays same told value_is long small whole layout form =
      subst (λ (t : ChainedTree). InsertsRow d t p a new s key value result) same
      (λ honest agrees left right entries is ok.
      let levels = is.planted.levels in
      let claim : List (Option Sector) → List (Option Sector) → Type 0 = λ one two. (levels : List (List TreeNode))
      → IsTreeOrEmpty view.tree.layout one view.tree.root levels
      → Inserts view.tree.layout one levels two key stored (Some new.tree.root) in
      inserted_long (pages_on d p a) (pages_on d r a) (pages_on d s a) left right view new entries is key bytes rest
      value first long small lays.many whole layout form (laid_on A p q r a b bytes first lays.looks lays.laid)
      (subst (λ (l : List ℕ). Inserts view.tree.layout (pages_on d r a) levels (pages_on d s a) key l
      (Some new.tree.root)) value_is
      (change_told d A r s a b claim honest lays.looks.only
      (laid_agrees A p q r a b lays.looks lays.keeps honest agrees)
      told levels (laid_tree_on A p q r a b view levels bytes first lays.looks lays.laid
      (stands_among (pages_on d p a) left right view entries is)))))
