-- The record of an entry that is read.
use Rattle.std.proofs.Common.{◌≡◌, ◌≢◌, ◌≤◌, ◌++◌, ℕ, zero, suc, List, length, take, drop, refl, sym, ap, subst, ◌∙◌}
use Rattle.std.specs.Prelude.{Option}
use Rattle.station.specs.Disk.{Sector}
use Rattle.byteorder.specs.Endian.{big_number}
use Rattle.btree.specs.Entries.{Entry}
use Rattle.chains.specs.Chain.{Stands, chain_bytes, pages_for}
use Rattle.chains.specs.Changes.{IsRecordOf}
use Rattle.row_trees.specs.Reading.{IsRecordLength, HasRecord, ReadsRecord}
use Rattle.row_trees.proofs.Forms.{record_back}

-- of a tree that has its records itself
pub short_read : (n : ℕ) (pages : List (Option Sector)) (entry : Entry) (old new value : List ℕ) → n ≡ 0
    → value ≡ entry.value → (length old ≤ length value) × (new ≡ take (length old) value)
    → ReadsRecord n pages entry old new
short_read n pages entry old new value short same copied =
    let own : (length old ≤ length entry.value) × (new ≡ take (length old) entry.value) =
    subst (λ (l : List ℕ). (length old ≤ length l) × (new ≡ take (length old) l)) same copied in
    subst (λ (k : ℕ). ReadsRecord k pages entry old new) (sym short) (record { has = own.0; bytes_are = own.1 })

pub short_has : (n : ℕ) (pages : List (Option Sector)) (entry : Entry) (size : ℕ) → n ≡ 0
    → HasRecord n pages entry size → size ≤ length entry.value
short_has n pages entry size short has = subst (λ (k : ℕ). HasRecord k pages entry size) short has

-- of a tree with chains
pub record LongRecord (n : ℕ) (pages : List (Option Sector)) (entry : Entry) (size : ℕ) : Type 0 where
  pub size_is : size ≡ n
  pub some : 4 ≤ length entry.value
  pub chain : Stands pages (pages_for n) (big_number 4 entry.value)

pub long_has : (n : ℕ) (pages : List (Option Sector)) (entry : Entry) (size : ℕ) → n ≢ 0
    → HasRecord n pages entry size → LongRecord n pages entry size
long_has zero pages entry size long has = absurd (long refl)
long_has (suc more) pages entry size long has = record { size_is = has.0; some = has.1; chain = has.2 }

pub long_chain : (n : ℕ) (pages : List (Option Sector)) (entry : Entry) (size first : ℕ) → n ≢ 0
    → first ≡ big_number 4 entry.value → HasRecord n pages entry size → Stands pages (pages_for size) first
long_chain n pages entry size first long first_is has =
    let own = long_has n pages entry size long has in
    subst (λ (k : ℕ). Stands pages (pages_for k) first) (sym own.size_is)
    (subst (Stands pages (pages_for n)) (sym first_is) own.chain)

pub long_read : (n : ℕ) (pages : List (Option Sector)) (entry : Entry) (old new : List ℕ) (first : ℕ) → n ≢ 0
    → IsRecordLength n (length old) → 4 ≤ length entry.value → first ≡ big_number 4 entry.value
    → length new ≡ length old → IsRecordOf pages first new → ReadsRecord n pages entry old new
long_read zero pages entry old new first long size some is many read = absurd (long refl)
long_read (suc more) pages entry old new first long size some is many read =
    let n = suc more in
    let page = big_number 4 entry.value in
    let whole : new ≡ take n (chain_bytes pages (pages_for n) page) =
    read.bytes_are ∙ ap (λ (k : ℕ). take k (chain_bytes pages (pages_for k) first)) (many ∙ size)
    ∙ ap (λ (p : ℕ). take n (chain_bytes pages (pages_for n) p)) is in
    record {
      has = (
        size,
        some,
        subst (Stands pages (pages_for n)) is
            (subst (λ (k : ℕ). Stands pages (pages_for k) first) (many ∙ size) read.stands),
      );
      bytes_are = sym (record_back (length old) new (drop 4 entry.value) many)
          ∙ ap (λ (l : List ℕ). take (length old) (l ++ drop 4 entry.value)) whole;
    }
