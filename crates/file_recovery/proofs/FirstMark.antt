-- An entry of the catalog without its number of rows, as on a volume with the first mark.
use Rattle.std.proofs.Common.{◌≡◌, ◌++◌, ◌-◌, ◌≤◌, ℕ, zero, suc, Bool, List, length, take, drop, refl, sym, ap, ◌∙◌}
use Rattle.std.proofs.Common.{arith}
use Rattle.std.specs.Prelude.{Option}
use Rattle.std.proofs.lemmas.List.{length-map, length-drop, take_all, drop_at, take-append-drop, length-take-le}
use Rattle.byteorder.specs.Endian.{big_bytes}
use Rattle.station.specs.Disk.{Sector}
use Rattle.pages.specs.Layout.{version_of}
use Rattle.pages.specs.declared.volume_mark.VolumeMark.{VolumeMark}
use Rattle.pages.specs.declared.volume_mark.VolumeMark.TheVariants.{Second}
use Rattle.btree.specs.Entries.{Entry}
use Rattle.records.specs.Files.{NamedFile, IsNamed}
use Rattle.records.specs.Rows.{Row}
use Rattle.volume_format.specs.Catalog.{listing_bytes, catalog_value, value_length}
use Rattle.volume_format.specs.Forest.{TreeLevels}
use Rattle.volume_format.specs.Volume.{FileTrees, listing_of, catalog_entry}
use Rattle.volume_format.proofs.Listings.{long}
use Rattle.volume_format.proofs.Values.{reads_back}
use Rattle.file_recovery.specs.Kept.{IsCatalogFile, FindsFile, NoFile}

abbrev pub without_count : Entry → Entry
without_count entry = record { key = entry.key; value = take 83 entry.value }

entry_with : List ℕ → List ℕ → Entry
entry_with key value = record { key = key; value = value }

-- the listing in an entry
pub listing_first : (mark : ℕ) (kept : FileTrees) → IsNamed kept.named
    → length kept.alternates ≡ length kept.named.file.spec.alternates
    → take 83 (catalog_entry mark kept).value ≡ listing_bytes (listing_of kept)
listing_first mark kept named count = (reads_back mark (listing_bytes (listing_of kept)) (length kept.named.file.rows)
    (long (listing_of kept) named.file.spec (length-map kept.alternates (λ (tree : TreeLevels). tree.tree.root)
    ∙ count))).head

-- a value that says a number of rows, by other words for it, its mark and that number
pub counted_as : {value own : List ℕ} {mark own_mark count rows : ℕ} → value ≡ own → mark ≡ own_mark → count ≡ rows
    → value ≡ catalog_value mark (take 83 value) count → own ≡ catalog_value own_mark (take 83 own) rows
counted_as {value} {own} {mark} {own_mark} {count} value_is mark_is count_is is =
    sym value_is ∙ is ∙ ap (λ (m : ℕ). catalog_value m (take 83 value) count) mark_is
    ∙ ap (λ (v : List ℕ). catalog_value own_mark (take 83 v) count) value_is
    ∙ ap (catalog_value own_mark (take 83 own)) count_is

-- it is as long as its mark says
pub long_by : {value own : List ℕ} {mark own_mark : ℕ} → length own ≡ value_length mark → value ≡ own
    → own_mark ≡ mark → length value ≡ value_length own_mark
long_by long value_is mark_is =
    ap (λ (l : List ℕ). length l) value_is ∙ long ∙ ap value_length (sym mark_is)

-- and has a listing
pub listing_fits : (mark : ℕ) (value : List ℕ) → length value ≡ value_length mark → 83 ≤ length value
listing_fits zero value long = omega (arith, long)
listing_fits (suc mark) value long = omega (arith, long)

-- the bytes from one on
pub rest_is : (n : ℕ) (xs : List ℕ) → take (length xs - n) (drop n xs) ≡ drop n xs
rest_is n xs = let long = length-drop n xs in take_all (length xs - n) (drop n xs) (omega (arith, long))

pub never_first : {mark : VolumeMark} → mark ≡ Second → version_of mark ≡ 0 → ⊥
never_first second first = let clash : 0 ≡ 1 = sym first ∙ ap version_of second in absurd (omega (arith, clash))

-- a value of either mark
pub first_counted : (mark : ℕ) (value : List ℕ) (rows : ℕ) → mark ≡ 0 → length value ≡ value_length mark
    → value ≡ catalog_value mark (take 83 value) rows
first_counted zero value rows first long = sym (take_all 83 value (omega (arith, long)))
first_counted (suc mark) value rows first long = absurd (omega (arith, first))

pub second_counted : (mark : ℕ) (value : List ℕ) (rows : ℕ) → (mark ≡ 0 → ⊥) → drop 83 value ≡ big_bytes 8 rows
    → value ≡ catalog_value mark (take 83 value) rows
second_counted zero value rows second same = absurd (second refl)
second_counted (suc mark) value rows second same =
    sym (take-append-drop 83 value) ∙ ap (λ (l : List ℕ). take 83 value ++ l) same

pub count_dropped : (mark : ℕ) (value : List ℕ) (rows : ℕ) → (mark ≡ 0 → ⊥) → length value ≡ value_length mark
    → value ≡ catalog_value mark (take 83 value) rows → drop 83 value ≡ big_bytes 8 rows
count_dropped zero value rows second long is = absurd (second refl)
count_dropped (suc mark) value rows second long is =
    ap (drop 83) is ∙ drop_at (take 83 value) (big_bytes 8 rows) 83 (length-take-le 83 value (omega (arith, long)))

module _ {mark : ℕ} {pages : List (Option Sector)} {generation : ℕ} {entry : Entry} where
  pub found_first : {kept : FileTrees} → IsCatalogFile mark pages generation entry kept
      → IsCatalogFile 0 pages generation (without_count entry) kept
  unfolding entry_with
  found_first {kept} found = record {
    is = found.is;
    named = found.named;
    grow = found.grow;
    listed = ap (entry_with (padded_key kept)) (sym (listing_first mark kept found.named found.is.count))
        ∙ ap without_count found.listed;
  }
    where
      padded_key : FileTrees → List ℕ
      padded_key kept = (catalog_entry mark kept).key

  pub none_counted : {old : List Bool} → NoFile 0 pages generation (without_count entry) old
      → NoFile mark pages generation entry old
  none_counted never = λ kept found can. never kept (found_first found) can

  -- a file is found where the number of its rows is the one in the entry
  pub finds_counted : {one : NamedFile} {old new : List Bool}
      → FindsFile 0 pages generation (without_count entry) one old new
      → entry.value ≡ catalog_value mark (take 83 entry.value) (length one.file.rows)
      → FindsFile mark pages generation entry one old new
  unfolding entry_with
  finds_counted {one} finds counted =
      let kept : FileTrees = finds.kept in
      let listing : List ℕ = take 83 entry.value in
      let key : List ℕ = (catalog_entry mark kept).key in
      record {
        kept = kept;
        found = record {
          is = finds.found.is;
          named = finds.found.named;
          grow = finds.found.grow;
          listed = ap (λ (l : List ℕ). entry_with key (catalog_value mark l (length kept.named.file.rows)))
              (ap (λ (e : Entry). e.value) finds.found.listed)
              ∙ ap (λ (n : NamedFile). entry_with key (catalog_value mark listing (length n.file.rows))) finds.is
              ∙ ap (entry_with key) (sym counted)
              ∙ ap (λ (k : List ℕ). entry_with k entry.value) (ap (λ (e : Entry). e.key) finds.found.listed);
        };
        is = finds.is;
        marks = finds.marks;
      }

  -- and none where each file of the entry has these rows, and their number is another
  pub none_miscounted : (rows : List Row) (old : List Bool) → ((kept : FileTrees)
      → IsCatalogFile 0 pages generation (without_count entry) kept → rows ≡ kept.named.file.rows)
      → (entry.value ≡ catalog_value mark (take 83 entry.value) (length rows) → ⊥)
      → NoFile mark pages generation entry old
  none_miscounted rows old same never = λ kept found can.
      let first = found_first found in
      never (sym (ap (λ (e : Entry). e.value) found.listed)
      ∙ ap (λ (l : List ℕ). catalog_value mark l (length kept.named.file.rows))
      (ap (λ (e : Entry). e.value) first.listed)
      ∙ ap (λ (r : List Row). catalog_value mark (take 83 entry.value) (length r)) (sym (same kept first)))
