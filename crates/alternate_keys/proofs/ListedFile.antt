-- A file that the catalog lists, and the catalog after the file has become another.
use Rattle.std.proofs.Common.{◌≡◌, ◌<◌, ◌≤◌, ◌+◌, ◌%◌, ◌^◌, true, ℕ, List, [], length, refl, sym, ap, subst, ◌∙◌}
use Rattle.std.specs.Prelude.{map, take, drop, Option, Some, None, IsSome}
use Rattle.byteorder.specs.Endian.{big_number}
use Rattle.station.specs.Disk.{Sector}
use Rattle.station.specs.State.{State}
use Rattle.station.specs.declared.device.Device.{Ghosts as Devices}
use Rattle.pages.specs.Image.{Map}
use Rattle.pages.specs.Pages.{map_now, catalog_of, mark_of, next_generation, Agrees, SameCommitted}
use Rattle.pages.specs.declared.page_map.PageMap.{PageMap}
use Rattle.btree.specs.Calls.{pages_on}
use Rattle.btree.specs.Entries.{Entry, entry_with, with_value}
use Rattle.records.specs.declared.file_spec.FileSpec.{FileSpec}
use Rattle.records.specs.Spec.{Spec, is_name}
use Rattle.records.specs.Changes.{FileChange}
use Rattle.records.specs.Files.{File, Files, NamedFile, AreFiles, AreShort, file_at}
use Rattle.records.specs.Stores.{Has, is_change, files_after}
use Rattle.file_bytes.specs.Description.{padded_name}
use Rattle.volume_format.specs.Calls.{LooksAt}
use Rattle.volume_format.specs.Catalog.{catalog_value}
use Rattle.volume_format.specs.Forest.{TreeLevels}
use Rattle.volume_format.specs.Grows.{IsTreeAmong}
use Rattle.volume_format.specs.Volume.{MapHolds, catalog_entry}
use Rattle.alternate_keys.specs.Among.{OnAmong}
use Rattle.row_trees.specs.Calls.{EditsPages}
use Rattle.alternate_keys.specs.Listed.{catalog_at}
use Rattle.alternate_keys.specs.Moved.{named_after}
use Rattle.alternate_keys.specs.Placed.{HasFileTrees}
use Rattle.alternate_keys.proofs.HeldTrees.{HoldsTrees, still_holds}
use Rattle.alternate_keys.proofs.Placing.{left_of, right_of}
use Rattle.alternate_keys.proofs.Preparing.{own, named_here, never_none, trees_at, rows_at, some_entry, around}
use Rattle.alternate_keys.proofs.Preparing.{catalog_stands}
use Rattle.alternate_keys.proofs.Preparing.{holds_after, will_hold}

module _ {D : Type 0} (d : Devices D) where
  -- a file of this name is among those of the pages over an honest device
  pub record HoldsFile (name : List ℕ) (held : File) (files : Files) (pages : PageMap) (now : D) : Type 0 where
    pub honest : d.is_honest now
    pub agrees : Agrees pages (d.state now).disk
    pub holds : MapHolds (map_now pages (d.state now).disk.present) files
    pub named : is_name name ≡ true
    pub there : file_at name files ≡ Some held

  abbrev pub file_held : (file : FileSpec) {held : File} {files : Files} (p : PageMap) (a : D) → d.is_honest a
      → Agrees p (d.state a).disk → MapHolds (map_now p (d.state a).disk.present) files → Has files file held →
      HoldsFile file.name.items held files p a
  file_held file p a honest agrees holds has =
      record { honest = honest; agrees = agrees; holds = holds; named = file.named; there = has.there }

  module _ {name : List ℕ} {held : File} {files : Files} {p : PageMap} {a : D} (at : HoldsFile name held files p a)
    where
      abbrev pub map_at : Map
      map_at = map_now p (d.state a).disk.present

      -- the trees of other files, and of the catalog
      abbrev pub lefts : List TreeLevels
      lefts = left_of map_at files at.holds name held (own map_at files at.holds name held at.named at.there)

      abbrev pub rights : List TreeLevels
      rights = right_of map_at files at.holds name held (own map_at files at.holds name held at.named at.there)

      abbrev pub named_at : NamedFile
      named_at = named_here map_at files at.holds name held at.named at.there

      -- it is listed
      pub never_listed : {asked : List ℕ} {answer : Option Entry} → asked ≡ name
          → answer ≡ entry_with (map (catalog_entry map_at.mark) at.holds.kept) (padded_name asked) → answer ≡ None → ⊥
      never_listed {answer} asked_is told none =
          never_none map_at files at.holds name held at.named at.there answer
          (told ∙ ap (λ (n : List ℕ). entry_with (map (catalog_entry map_at.mark) at.holds.kept) (padded_name n))
          asked_is) none

      -- its entry was found, and says its trees
      pub trees_listed : {A : Type 0} {q : PageMap} {b : D} {spec : Spec} {asked value : List ℕ} {answer : Option Entry}
          {entry : Entry} → LooksAt d A p a q b → asked ≡ name
          → answer ≡ entry_with (map (catalog_entry map_at.mark) at.holds.kept) (padded_name asked)
          → answer ≡ Some entry
          → value ≡ take 83 entry.value → held.spec ≡ spec
          → (map_at.generation < 2 ^ 63) × (length map_at.pages ≤ 921600) →
          HoldsTrees d spec named_at map_at.generation lefts rights value q b
      trees_listed {spec} {value} {answer} {entry} looks asked_is told some value_is spec_is bounds =
          let told_name =
          told
          ∙ ap (λ (n : List ℕ). entry_with (map (catalog_entry map_at.mark) at.holds.kept) (padded_name n)) asked_is
          in
          still_holds d (record {
            honest = at.honest;
            agrees = at.agrees;
            has = trees_at map_at files at.holds name held at.named at.there answer told_name spec value entry spec_is
                bounds.0 bounds.1 some value_is;
          }) looks

      -- and says its number of rows on a volume with the second mark
      pub rows_listed : {asked : List ℕ} {answer : Option Entry} {entry : Entry} → asked ≡ name
          → answer ≡ entry_with (map (catalog_entry map_at.mark) at.holds.kept) (padded_name asked)
          → answer ≡ Some entry → 0 < map_at.mark
          → big_number 8 (drop 83 entry.value) ≡ length held.rows % 2 ^ 64
      rows_listed {answer} {entry} asked_is told some second =
          rows_at map_at files at.holds name held at.named at.there answer
          (told ∙ ap (λ (n : List ℕ). entry_with (map (catalog_entry map_at.mark) at.holds.kept) (padded_name n))
          asked_is) entry some second

      -- it has its entry there
      pub entry_listed : {asked : List ℕ} → asked ≡ name
          → IsSome (entry_with (map (catalog_entry map_at.mark) at.holds.kept) (padded_name asked))
      entry_listed asked_is =
          subst (λ (n : List ℕ). IsSome (entry_with (map (catalog_entry map_at.mark) at.holds.kept) (padded_name n)))
          (sym asked_is)
          (some_entry map_at files at.holds name held at.named at.there)

      -- It has become another in the pages `q`, and the catalog says nothing of that yet.
      pub record HoldsChanged (changed : FileChange) (listing : List ℕ) (q : PageMap) (b : D) : Type 0 where
        pub honest : d.is_honest b
        pub agrees : Agrees q (d.state b).disk
        pub still : d.state b ≡ d.state a
        pub committed : SameCommitted p q
        pub catalog : catalog_of q ≡ catalog_of p
        pub placed : HasFileTrees (named_after named_at changed) (map_at.generation + 1) (pages_on d q b) lefts rights
            listing

      pub changed_from : {A B : Type 0} {changed : FileChange} {listing : List ℕ} {q r : PageMap} {b c : D}
          → LooksAt d A p a q b → EditsPages d B q b r c
          → HasFileTrees (named_after named_at changed) (map_at.generation + 1)
          (pages_on d r b) lefts rights listing → HoldsChanged changed listing r c
      changed_from {changed} {listing} {r} looks edits placed =
          let before = looks.unchanged.committed in
          let honest = looks.only.honest.0 at.honest in
          let still = edits.only.state honest in
          record {
            honest = edits.only.honest.0 honest;
            agrees = edits.agrees honest (looks.agrees at.honest at.agrees);
            still = still ∙ looks.only.state at.honest;
            committed = record {
              volume = edits.committed.volume ∙ before.volume;
              mark = edits.committed.mark ∙ before.mark;
              spent = edits.committed.spent ∙ before.spent;
            };
            catalog = edits.catalog ∙ ap (λ (m : Map). m.catalog) (looks.unchanged.map (d.state a).disk.present);
            placed = subst (λ (s : State). HasFileTrees (named_after named_at changed) (map_at.generation + 1)
                (map_now r s.disk.present).pages lefts rights listing) (sym still) placed;
          }

      module _ {changed : FileChange} {listing : List ℕ} {q : PageMap} {b : D} (put : HoldsChanged changed listing q b)
        where
          abbrev pub arounds : List TreeLevels
          arounds = around map_at files at.holds name held at.named at.there changed (pages_on d q b) listing put.placed

          -- the catalog among the other trees
          pub catalog_there : IsTreeAmong (pages_on d q b) [] arounds (catalog_at (mark_of q) (catalog_of q))
              (map (catalog_entry map_at.mark) at.holds.kept)
          catalog_there = subst (λ (m : ℕ). IsTreeAmong (pages_on d q b) [] arounds (catalog_at m (catalog_of q))
              (map (catalog_entry map_at.mark) at.holds.kept)) (sym put.committed.mark)
              (catalog_stands map_at files at.holds name held at.named at.there changed (pages_on d q b) listing
              put.placed (catalog_of q) put.catalog)

          -- the files, once the catalog says it, with their number of rows
          pub files_listed : {A : Type 0} {r : PageMap} {c : D} {asked value : List ℕ} (rows : ℕ) → EditsPages d A q b r
              c
              → asked ≡ name → value ≡ listing
              → catalog_value map_at.mark listing rows ≡ catalog_value map_at.mark listing (length changed.file.rows)
              → OnAmong d (catalog_at (mark_of q) (catalog_of q)) q b (λ left right entries.
              IsTreeAmong (pages_on d r b) left right (catalog_at (mark_of q) (catalog_of q))
              (with_value entries (record { key = padded_name asked; value = catalog_value (mark_of q) value rows })))
              → is_change changed.outcome ≡ true → AreFiles (files_after name files changed)
              → (map_at.mark ≡ 0 → AreShort (files_after name files changed)) →
              MapHolds (next_generation (map_now r (d.state a).disk.present)) (files_after name files changed)
          files_listed {r} {asked} {value} rows edits asked_is value_is counted replaced change are short =
              let entries : List Entry = map (catalog_entry map_at.mark) at.holds.kept in
              let there : State = d.state b in
              let here = replaced put.honest put.agrees [] arounds entries catalog_there in
              let pages : State → List (Option Sector) = λ s. (map_now r s.disk.present).pages in
              let marked = subst (λ (m : ℕ). IsTreeAmong (pages there) [] arounds (catalog_at m (catalog_of q))
              (with_value entries (record { key = padded_name asked; value = catalog_value m value rows })))
              put.committed.mark here in
              let named = subst (λ (n : List ℕ). IsTreeAmong (pages there) [] arounds
              (catalog_at map_at.mark (catalog_of q))
              (with_value entries (record { key = padded_name n; value = catalog_value map_at.mark value rows })))
              asked_is marked in
              let valued = subst (λ (v : List ℕ). IsTreeAmong (pages there) [] arounds
              (catalog_at map_at.mark (catalog_of q))
              (with_value entries (record { key = padded_name name; value = catalog_value map_at.mark v rows })))
              value_is named in
              let last = subst (λ (s : State). IsTreeAmong (pages s) [] arounds (catalog_at map_at.mark (catalog_of q))
              (with_value entries (record { key = padded_name name; value = catalog_value map_at.mark listing rows })))
              put.still valued in
              let rooted = subst (λ (n : ℕ). IsTreeAmong (pages (d.state a)) [] arounds (catalog_at map_at.mark n)
              (with_value entries (record { key = padded_name name; value = catalog_value map_at.mark listing rows })))
              put.catalog last in
              let held_then =
              holds_after map_at files at.holds name held at.named at.there changed (pages_on d q b) listing
              put.placed (pages (d.state a)) map_at.catalog (catalog_value map_at.mark listing rows) counted rooted
              change
              are short in
              let same : SameCommitted p r = record {
                volume = edits.committed.volume ∙ put.committed.volume;
                mark = edits.committed.mark ∙ put.committed.mark;
                spent = edits.committed.spent ∙ put.committed.spent;
              } in
              will_hold map_at files at.holds name held at.named at.there p r (d.state a).disk.present changed refl same
              (edits.catalog ∙ put.catalog) held_then
