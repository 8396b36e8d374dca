-- What a search of a tree of rows answers.
use Rattle.std.proofs.Common.{◌≡◌, ◌≢◌, ◌≤◌, ◌++◌, true, false, ℕ, zero, suc, List, length, refl, sym, ap, subst, ◌∙◌}
use Rattle.std.specs.Prelude.{Option, Some, None, IfSome, option_map, take, drop}
use Rattle.station.specs.Disk.{Sector}
use Rattle.station.specs.declared.device.Device.{Ghosts as Devices}
use Rattle.byteorder.specs.Endian.{big_number}
use Rattle.pages.specs.Pages.{Agrees}
use Rattle.pages.specs.declared.page_map.PageMap.{PageMap}
use Rattle.btree.specs.Calls.{OnPages, OnTree, pages_on}
use Rattle.btree_pages.specs.declared.row_layout.RowLayout.{RowLayout}
use Rattle.btree.specs.Entries.{Entry, HasLengths, entry_with}
use Rattle.btree.specs.Tree.{TreeNode, IsTreeOrEmpty}
use Rattle.chains.specs.Chain.{pages_for}
use Rattle.chains.specs.Chain as chain
use Rattle.chains.specs.Calls.{OnNoChain}
use Rattle.chains.specs.Changes.{IsRecordOf}
use Rattle.chains.specs.Rows.{unrolled_entry}
use Rattle.volume_format.specs.Calls.{LooksAt}
use Rattle.volume_format.specs.Chained.{form_of}
use Rattle.volume_format.specs.Forest.{TreeLevels}
use Rattle.row_trees.specs.Calls.{OnRowTree}
use Rattle.row_trees.specs.Reading.{IsRecordLength, HasRecord, ReadsRecord, ReadsRow}
use Rattle.row_trees.specs.RowTree.{ChainedTree, IsRowTree, FitsForm}
use Rattle.row_trees.proofs.Calling.{pages_told, same_on, told_before}
use Rattle.row_trees.proofs.Among.{stored_in, stands_alone, seen_alone}
use Rattle.row_trees.proofs.Forms.{pair, unrolled_long, unrolled_short}
use Rattle.row_trees.proofs.Long.{found_chain}
use Rattle.row_trees.proofs.Short.{found_seen}

-- what a search of the tree itself says
abbrev pub Says : List (Option Sector) → ChainedTree → List ℕ → Option Entry → Type 0
Says pages rows key told = (levels : List (List TreeNode)) → IsTreeOrEmpty rows.tree.layout pages rows.tree.root levels
    → told ≡ entry_with (stored_in rows levels) key

pub got_seen : (pages : List (Option Sector)) (rows : ChainedTree) (planted : TreeLevels) (key : List ℕ)
    (told : Option Entry) → IsRowTree pages rows planted → Says pages rows key told
    → option_map (unrolled_entry (form_of rows.record_bytes) pages) told ≡ entry_with planted.entries key
got_seen pages rows planted key told is says =
    ap (option_map (unrolled_entry (form_of rows.record_bytes) pages))
    (says planted.levels (stands_alone pages rows planted is).tree)
    ∙ sym (found_seen pages rows planted.levels planted.entries key (seen_alone pages rows planted is))

pub none_got : (pages : List (Option Sector)) (rows : ChainedTree) (planted : TreeLevels) (key : List ℕ)
    (told : Option Entry) → IsRowTree pages rows planted → Says pages rows key told → told ≡ None
    → None ≡ entry_with planted.entries key
none_got pages rows planted key told is says none =
    sym (ap (option_map (unrolled_entry (form_of rows.record_bytes) pages)) none)
    ∙ got_seen pages rows planted key told is says

pub short_got : (pages : List (Option Sector)) (rows : ChainedTree) (planted : TreeLevels) (key : List ℕ)
    (told : Option Entry) (entry : Entry) → IsRowTree pages rows planted → Says pages rows key told
    → told ≡ Some entry → rows.record_bytes ≡ 0 → Some entry ≡ entry_with planted.entries key
short_got pages rows planted key told entry is says some short =
    ap Some (sym (unrolled_short rows.record_bytes pages entry short))
    ∙ sym (ap (option_map (unrolled_entry (form_of rows.record_bytes) pages)) some)
    ∙ got_seen pages rows planted key told is says

-- the entry's chain stands
pub got_chain : (pages : List (Option Sector)) (rows : ChainedTree) (planted : TreeLevels) (key : List ℕ)
    (told : Option Entry) (entry : Entry) → IsRowTree pages rows planted → Says pages rows key told
    → told ≡ Some entry → rows.record_bytes ≢ 0
    → chain.Stands pages (pages_for rows.record_bytes) (big_number 4 entry.value)
got_chain pages rows planted key told entry is says some long =
    let stands = stands_alone pages rows planted is in
    found_chain pages rows planted.levels key entry long stands (sym (says planted.levels stands.tree) ∙ some)

-- and its bytes are the record
pub record_seen : (n : ℕ) (pages : List (Option Sector)) (entry : Entry) (bytes : List ℕ) (first : ℕ) → n ≢ 0
    → length bytes ≡ n → first ≡ big_number 4 entry.value → IsRecordOf pages first bytes
    → pair entry.key (bytes ++ drop 4 entry.value) ≡ unrolled_entry (form_of n) pages entry
record_seen n pages entry bytes first long many is read =
    ap (λ (l : List ℕ). pair entry.key (l ++ drop 4 entry.value)) (read.bytes_are
    ∙ ap (λ (k : ℕ). take k (chain.chain_bytes pages (pages_for k) first)) many
    ∙ ap (λ (page : ℕ). take n (chain.chain_bytes pages (pages_for n) page)) is)
    ∙ sym (unrolled_long n pages entry long)

long_got : (pages : List (Option Sector)) (rows : ChainedTree) (planted : TreeLevels) (key : List ℕ)
    (told : Option Entry) (entry : Entry) (bytes value : List ℕ) (first : ℕ) → IsRowTree pages rows planted
    → Says pages rows key told → told ≡ Some entry → rows.record_bytes ≢ 0 → length bytes ≡ rows.record_bytes
    → first ≡ big_number 4 entry.value → value ≡ bytes ++ drop 4 entry.value → IsRecordOf pages first bytes
    → Some (pair entry.key value) ≡ entry_with planted.entries key
long_got pages rows planted key told entry bytes value first is says some long many first_is whole read =
    ap (λ (l : List ℕ). Some (pair entry.key l)) whole
    ∙ ap Some (record_seen rows.record_bytes pages entry bytes first long many first_is read)
    ∙ sym (ap (option_map (unrolled_entry (form_of rows.record_bytes) pages)) some)
    ∙ got_seen pages rows planted key told is says

-- A row that is read by its key.
pub none_read : (pages : List (Option Sector)) (rows : ChainedTree) (planted : TreeLevels) (key bytes : List ℕ)
    (told : Option Entry) → IsRowTree pages rows planted → Says pages rows key told → told ≡ None
    → ReadsRow (entry_with planted.entries key) bytes bytes false
none_read pages rows planted key bytes told is says none =
    subst (λ (o : Option Entry). ReadsRow o bytes bytes false) (none_got pages rows planted key told is says none)
    (refl, refl)

pub row_read : (pages : List (Option Sector)) (rows : ChainedTree) (planted : TreeLevels) (key old new : List ℕ)
    (told : Option Entry) (entry : Entry) → IsRowTree pages rows planted → Says pages rows key told
    → told ≡ Some entry → ReadsRecord rows.record_bytes pages entry old new
    → ReadsRow (entry_with planted.entries key) old new true
row_read pages rows planted key old new told entry is says some read =
    subst (λ (o : Option Entry). ReadsRow o old new true)
    (sym (ap (option_map (unrolled_entry (form_of rows.record_bytes) pages)) some)
    ∙ got_seen pages rows planted key told is says) (refl, read.bytes_are)

record_there : (n : ℕ) (pages : List (Option Sector)) (layout : RowLayout) (entry : Entry) (size : ℕ)
    → FitsForm n layout → IsRecordLength n size → length entry.value ≡ layout.value_length
    → size ≤ length (unrolled_entry (form_of n) pages entry).value
    → (n ≢ 0 → chain.Stands pages (pages_for n) (big_number 4 entry.value)) → HasRecord n pages entry size
record_there zero pages layout entry size fits is long whole stands = whole
record_there (suc more) pages layout entry size fits is long whole stands =
    (is, subst (λ (k : ℕ). 4 ≤ k) (sym long) fits.0, stands (λ none. cc))

-- the entry that was found has the record
pub record_found : (pages : List (Option Sector)) (rows : ChainedTree) (planted : TreeLevels) (key : List ℕ)
    (told : Option Entry) (entry : Entry) (size : ℕ) → IsRowTree pages rows planted → Says pages rows key told
    → told ≡ Some entry → FitsForm rows.record_bytes rows.tree.layout → IsRecordLength rows.record_bytes size
    → HasLengths rows.tree.layout entry
    → IfSome (entry_with planted.entries key) (λ row. size ≤ length row.value)
    → HasRecord rows.record_bytes pages entry size
record_found pages rows planted key told entry size is says some fits size_is lengths whole =
    record_there rows.record_bytes pages rows.tree.layout entry size fits size_is lengths.1
    (subst (λ (o : Option Entry). IfSome o (λ row. size ≤ length row.value))
    (sym (got_seen pages rows planted key told is says)
    ∙ ap (option_map (unrolled_entry (form_of rows.record_bytes) pages)) some) whole)
    (got_chain pages rows planted key told entry is says some)

module _ {D : Type 0} (d : Devices D) where
  -- so a read of it isn't refused as damaged
  pub read_whole : (A : Type 0) (p q : PageMap) (a b : D) (rows : ChainedTree) (planted : TreeLevels) (key : List ℕ)
      (told : Option Entry) (entry : Entry) (size first : ℕ) (refused : Type 0) → LooksAt d A p a q b
      → OnNoChain d (pages_for size) first q b refused → size ≡ rows.record_bytes → first ≡ big_number 4 entry.value
      → rows.record_bytes ≢ 0 → told ≡ Some entry → d.is_honest a → Agrees p (d.state a).disk
      → IsRowTree (pages_on d p a) rows planted → Says (pages_on d p a) rows key told → refused → ⊥
  read_whole A p q a b rows planted key told entry size first refused looks never many first_is long some honest agrees
      is says damaged =
      let S : ℕ → ℕ → Type 0 = λ count page. chain.Stands (pages_on d p a) (pages_for count) page in
      let stands = got_chain (pages_on d p a) rows planted key told entry is says some long in
      let claim : List (Option Sector) → Type 0 = λ l. refused → chain.Stands l (pages_for size) first → ⊥ in
      subst claim (same_on d p q a looks.unchanged)
      (pages_told d A q a b claim honest looks.only (looks.agrees honest agrees) never) damaged
      (subst (λ (k : ℕ). S k first) (sym many) (subst (S rows.record_bytes) (sym first_is) stands))

  pub record_whole : (size : ℕ) {A : Type 0} {p q : PageMap} {a b : D} {view self : ChainedTree} {key : List ℕ}
      {told : Option Entry} {entry : Entry} {refused : Type 0} → LooksAt d A p a q b → view ≡ self
      → OnTree d view.tree.layout view.tree.root p a (λ levels. told ≡ entry_with (stored_in view levels) key)
      → told ≡ Some entry → FitsForm view.record_bytes view.tree.layout → HasLengths view.tree.layout entry
      → OnPages d q b (λ before. refused → HasRecord self.record_bytes before entry size → ⊥) → refused
      → OnRowTree d self p a (λ planted. IsRecordLength self.record_bytes size
      → IfSome (entry_with planted.entries key) (λ row. size ≤ length row.value) → ⊥)
  record_whole size {A} {p} {q} {a} {b} {view} {self} {key} {told} {entry} {refused} looks same says some fits
      lengths never damaged =
      let claim : ℕ → List (Option Sector) → Type 0 = λ n before. refused → HasRecord n before entry size → ⊥ in
      subst (λ (t : ChainedTree). OnPages d q b (claim t.record_bytes) → OnRowTree d t p a
      (λ planted. IsRecordLength t.record_bytes size
      → IfSome (entry_with planted.entries key) (λ row. size ≤ length row.value) → ⊥)) same
      (λ never honest agrees planted is size_is whole.
      told_before d A p q a b (claim view.record_bytes) honest agrees looks.only looks.unchanged looks.agrees never
      damaged
      (record_found (pages_on d p a) view planted key told entry size is (says honest agrees) some fits size_is lengths
      whole))
      never

  read_on : (A : Type 0) (p q : PageMap) (a b : D) (bytes : List ℕ) (first : ℕ) → LooksAt d A p a q b
      → OnPages d q b (λ before. IsRecordOf before first bytes) → d.is_honest a → Agrees p (d.state a).disk
      → IsRecordOf (pages_on d p a) first bytes
  read_on A p q a b bytes first looks read honest agrees =
      let claim : List (Option Sector) → Type 0 = λ l. IsRecordOf l first bytes in
      subst claim (same_on d p q a looks.unchanged)
      (pages_told d A q a b claim honest looks.only (looks.agrees honest agrees) read)

  -- so it is the row that is found
  pub found_long : {A : Type 0} {p q : PageMap} {a b : D} {view self : ChainedTree} {key : List ℕ}
      {told : Option Entry} {entry : Entry} {bytes value : List ℕ} {first : ℕ} → LooksAt d A p a q b → view ≡ self
      → OnTree d view.tree.layout view.tree.root p a (λ levels. told ≡ entry_with (stored_in view levels) key)
      → told ≡ Some entry → view.record_bytes ≢ 0 → length bytes ≡ view.record_bytes
      → first ≡ big_number 4 entry.value → value ≡ bytes ++ drop 4 entry.value
      → OnPages d q b (λ before. IsRecordOf before first bytes)
      → OnRowTree d self p a (λ planted. Some (pair entry.key value) ≡ entry_with planted.entries key)
  found_long {A} {p} {q} {a} {b} {view} {self} {key} {told} {entry} {bytes} {value} {first} looks same says some long
      many first_is whole read =
      subst (λ (t : ChainedTree). OnRowTree d t p a
      (λ planted. Some (pair entry.key value) ≡ entry_with planted.entries key)) same
      (λ honest agrees planted is.
      long_got (pages_on d p a) view planted key told entry bytes value first is (says honest agrees) some long many
      first_is whole (read_on A p q a b bytes first looks read honest agrees))
