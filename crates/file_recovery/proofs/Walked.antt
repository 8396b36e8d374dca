-- A walk over the entries of a tree, whose pages other calls read between two entries.
use Rattle.std.proofs.Common.{◌≡◌, ◌≤◌, ◌+◌, ◌++◌, ◌^◌, ℕ, suc, Bool, List, [], ◌∷◌, length, take, sym, ap, subst}
use Rattle.std.proofs.Common.{◌∙◌, arith}
use Rattle.std.specs.Prelude.{Option, Some}
use Rattle.station.specs.declared.device.Device.{Ghosts as Devices}
use Rattle.pages.specs.Pages.{mark_of}
use Rattle.pages.specs.declared.page_map.PageMap.{PageMap}
use Rattle.btree_pages.specs.declared.row_layout.RowLayout.{RowLayout}
use Rattle.btree.specs.Calls.{OnPages, OnTree, pages_on}
use Rattle.btree.specs.Entries.{Entry, entries_of, first_entry_after}
use Rattle.btree.proofs.Ascending.{entry_at, next_at}
use Rattle.btree.proofs.There.{tree_ascends}
use Rattle.records.specs.Files.{Files}
use Rattle.records.specs.Rows.{Row}
use Rattle.records.specs.Spec.{Spec}
use Rattle.volume_format.specs.Calls.{LooksAt}
use Rattle.file_recovery.specs.Kept.{NoFile}
use Rattle.file_recovery.specs.Listed.{FindsFiles, NoFiles, AddsFile}
use Rattle.file_recovery.specs.Rows.{FindsRow, FindsRows, NoRow, NoRows}
use Rattle.file_recovery.proofs.Calling.{on_pages_before, on_marked_before, on_tree_before}
use Rattle.file_recovery.proofs.ChainedRows.{found_more, none_found}
use Rattle.file_recovery.proofs.Listed.{CanGoOn, one_more_file, goes_on, none_here}

-- The n-th entry of the tree under a root is here, after calls that leave its pages.
module _ {D : Type 0} (d : Devices D) {p q : PageMap} {a b : D} {layout : RowLayout} {root n : ℕ} {here : Option Entry}
    {e : Entry} (looks : LooksAt d ⊥ p a q b)
    (at : OnTree d layout root p a (λ levels. here ≡ entry_at n (entries_of layout levels))) (is : here ≡ Some e) where
  pub entry_here : OnTree d layout root p a (λ levels. entry_at n (entries_of layout levels) ≡ Some e)
  entry_here = λ honest agrees levels holds. sym (at honest agrees levels holds) ∙ is

  -- the entry after it
  pub next_entry : {next : Option Entry}
      → OnTree d layout root q b (λ levels. next ≡ first_entry_after (entries_of layout levels) e.key)
      → OnTree d layout root p a (λ levels. next ≡ entry_at (n + 1) (entries_of layout levels))
  next_entry {next} after = λ honest agrees levels holds.
      let entries : List Entry = entries_of layout levels in
      on_tree_before d (λ pages ls. next ≡ first_entry_after (entries_of layout ls) e.key) looks after honest agrees
      levels holds
      ∙ next_at entries n e (tree_ascends layout (pages_on d p a) root levels holds)
      (sym (at honest agrees levels holds) ∙ is)
      ∙ ap (λ (k : ℕ). entry_at k entries) (let same : suc n ≡ n + 1 = omega arith in same)

  -- it is that of a row
  module _ {spec : Spec} {rows : List Row} {old mid : List Bool}
      (before : OnTree d layout root p a (λ levels.
      FindsRows spec (pages_on d p a) (take n (entries_of layout levels)) rows old mid)) where
    pub row_here : {row : Row} {more : List Row} {new : List Bool} → more ≡ rows ++ row ∷ []
        → OnPages d q b (λ pages. FindsRow spec pages e row mid new)
        → OnTree d layout root p a (λ levels.
        FindsRows spec (pages_on d p a) (take (n + 1) (entries_of layout levels)) more old new)
    row_here {row} {more} {new} added one = λ honest agrees levels holds.
        found_more spec (pages_on d p a) (entries_of layout levels) n e rows more row old mid new
        (sym (at honest agrees levels holds) ∙ is) (before honest agrees levels holds)
        (on_pages_before d (λ pages. FindsRow spec pages e row mid new) looks one honest agrees) added

    pub no_row_here : {next : ℕ} → OnPages d q b (λ pages. NoRow spec next pages e mid)
        → OnTree d layout root p a (λ levels. NoRows spec next (pages_on d p a) (entries_of layout levels) old)
    no_row_here {next} never = λ honest agrees levels holds.
        none_found spec (pages_on d p a) next (entries_of layout levels) n e rows old mid
        (sym (at honest agrees levels holds) ∙ is) (before honest agrees levels holds)
        (on_pages_before d (λ pages. NoRow spec next pages e mid) looks never honest agrees)

  -- it is that of a file
  module _ {generation : ℕ} {old mid : List Bool} where
    pub file_here : {files more : Files} {new : List Bool} → OnTree d layout root p a (λ levels.
        FindsFiles (mark_of p) (pages_on d p a) generation (take n (entries_of layout levels)) files old mid)
        → OnPages d q b (λ pages. AddsFile (mark_of q) pages generation e files more mid new)
        → OnTree d layout root p a (λ levels.
        FindsFiles (mark_of p) (pages_on d p a) generation (take (n + 1) (entries_of layout levels)) more old new)
    file_here {files} {more} {new} before one = λ honest agrees levels holds.
        let entries : List Entry = entries_of layout levels in
        let adds = on_marked_before d (λ mark pages. AddsFile mark pages generation e files more mid new) looks one
        honest agrees in
        subst (λ (f : Files). FindsFiles (mark_of p) (pages_on d p a) generation (take (n + 1) entries) f old new)
        (sym adds.added) (one_more_file (mark_of p) (pages_on d p a) generation entries n e files adds.one old mid new
        (sym (at honest agrees levels holds) ∙ is) (before honest agrees levels holds) adds.finds)

    pub files_go_on : {files more : Files} {new : List Bool}
        → OnPages d p a (λ pages. length pages ≤ 2 ^ 20) → OnTree d layout root p a (λ levels.
        CanGoOn (mark_of p) (pages_on d p a) generation (entries_of layout levels) old n mid)
        → OnPages d q b (λ pages. AddsFile (mark_of q) pages generation e files more mid new)
        → OnTree d layout root p a (λ levels.
        CanGoOn (mark_of p) (pages_on d p a) generation (entries_of layout levels) old (n + 1) new)
    files_go_on {files} {more} {new} small before one = λ honest agrees levels holds.
        let adds = on_marked_before d (λ mark pages. AddsFile mark pages generation e files more mid new) looks one
        honest agrees in
        goes_on (mark_of p) (pages_on d p a) generation (entries_of layout levels) n e
        (sym (at honest agrees levels holds) ∙ is) adds.one old mid new (small honest agrees)
        (before honest agrees levels holds) adds.finds

    pub no_file_here : OnTree d layout root p a (λ levels.
        CanGoOn (mark_of p) (pages_on d p a) generation (entries_of layout levels) old n mid)
        → OnPages d q b (λ pages. NoFile (mark_of q) pages generation e mid)
        → OnTree d layout root p a (λ levels.
        NoFiles (mark_of p) (pages_on d p a) generation (entries_of layout levels) old)
    no_file_here before never = λ honest agrees levels holds.
        none_here (mark_of p) (pages_on d p a) generation (entries_of layout levels) n e
        (sym (at honest agrees levels holds) ∙ is) old mid (before honest agrees levels holds)
        (on_marked_before d (λ mark pages. NoFile mark pages generation e mid) looks never honest agrees)
