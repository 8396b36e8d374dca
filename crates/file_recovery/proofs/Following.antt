-- Records that are in chains: how far a chain was followed, and the rows of entries.
use Rattle.std.proofs.Common.{◌≡◌, ◌<◌, ◌≤◌, ◌+◌, ◌-◌, ◌++◌, true, false, Bool, ℕ, zero, suc, List, [], ◌∷◌, length}
use Rattle.std.proofs.Common.{refl}
use Rattle.std.proofs.Common.{sym, ap, subst, ◌∙◌, arith, append_assoc, length-append, length-drop, take, drop}
use Rattle.std.specs.Prelude.{Option, Result, IfOk, if◌then◌else◌}
use Rattle.std.proofs.lemmas.Bool.{ltb-true}
use Rattle.std.proofs.lemmas.Result.{IfOk-weaker}
use Rattle.station.specs.Disk.{Sector}
use Rattle.btree.specs.Entries.{Entry}
use Rattle.btree_check.specs.Walks.{CanMark, Marks}
use Rattle.btree_check.proofs.Marking.{marks_none, marks_append, can_left, can_after}
use Rattle.chains.specs.Chain.{next_at, Stands, chain_pages, chain_bytes, pages_for}
use Rattle.chains.specs.Changes.{IsRecordOf}
use Rattle.chains.specs.Rows.{HasChain, chain_of, unrolled_entry}
use Rattle.chains.proofs.Parts.{Follows, follows_start, follows_next, stops_at}
use Rattle.records.specs.declared.fault.StoreFault.{StoreFault}
use Rattle.records.specs.declared.key.KeyOfReference.TheVariants.{Prime}
use Rattle.records.specs.Files.{IsRow}
use Rattle.records.specs.Rows.{Row, pair_under}
use Rattle.records.specs.Spec.{Spec, is_long}
use Rattle.file_bytes.specs.Rows.{row_value}
use Rattle.file_bytes.specs.Stored.{row_of}
use Rattle.file_bytes.specs.declared.stored.StoredRow.{StoredRow}
use Rattle.volume_format.specs.Chained.{chained_bytes, kept_bytes, form_of}
use Rattle.volume_format.specs.Trees.{entry_under, key_under}
use Rattle.file_recovery.specs.Chained.{MarksLink, NoMarkedLink, MarksChain, NoMarkedChain, first_named, ReadsWhole}
use Rattle.file_recovery.specs.Chained.{NoWhole}
use Rattle.file_recovery.specs.Rows.{FindsRow, NoRow}
use Rattle.file_recovery.proofs.Entered.{same_entry, entry_made}
use Rattle.file_recovery.proofs.FirstMark.{rest_is}

-- A chain was followed over so many pages, which were marked, and a call has come to a page.
pub record Marked (pages : List (Option Sector)) (count first page : ℕ) (old new : List Bool) : Type 0 where
  pub follows : Follows pages count first page
  pub listed : (more : ℕ)
      → chain_pages pages (count + more) first ≡ chain_pages pages count first ++ chain_pages pages more page
  pub marks : Marks old (chain_pages pages count first) new

pub marked_start : (pages : List (Option Sector)) (first : ℕ) (seen : List Bool) → Marked pages 0 first first seen seen
marked_start pages first seen = record {
  follows = follows_start pages first;
  listed = λ more. let same : 0 + more ≡ more = omega arith in ap (λ (n : ℕ). chain_pages pages n first) same;
  marks = marks_none seen;
}

pub marked_next : (pages : List (Option Sector)) (count first page next : ℕ) (old mid new : List Bool)
    → Marked pages count first page old mid → MarksLink pages page mid new next
    → Marked pages (count + 1) first next old new
marked_next pages count first page next old mid new before link =
    let own = chain_pages pages count first in
    let more_is : (more : ℕ) → (count + 1) + more ≡ count + suc more = λ more. omega arith in
    record {
      follows = follows_next pages count first page next before.follows link.some link.link link.next_is link.long;
      listed = λ more. ap (λ (n : ℕ). chain_pages pages n first) (more_is more) ∙ before.listed (suc more)
          ∙ ap (λ (n : ℕ). own ++ (page ∷ chain_pages pages more n)) (sym link.next_is)
          ∙ sym (append_assoc own (page ∷ []) (chain_pages pages more next))
          ∙ ap (λ (l : List ℕ). l ++ chain_pages pages more next) (sym (before.listed 1));
      marks = subst (λ (l : List ℕ). Marks old l new) (sym (before.listed 1))
          (marks_append old mid new own (page ∷ []) before.marks link.marks);
    }

pub marked_all : (pages : List (Option Sector)) (count place first page : ℕ) (old new : List Bool) → place ≡ count
    → page ≡ 0 → Marked pages place first page old new → MarksChain pages count first old new
marked_all pages count place first page old new all ended marked =
    let whole : place + 0 ≡ count = omega (arith, all) in
    record {
      stands = subst (λ (n : ℕ). Stands pages n first) whole (marked.follows.on 0 ended);
      marks = subst (λ (n : ℕ). Marks old (chain_pages pages n first) new) all marked.marks;
    }

-- where a call stops, no chain can be marked
pub no_more : (pages : List (Option Sector)) (count place first page : ℕ) (old mid : List Bool) → place < count
    → Marked pages place first page old mid → NoMarkedLink pages page mid → NoMarkedChain pages count first old
no_more pages count place first page old mid low marked never = λ stands can.
    let here = stops_at pages count place first page low marked.follows stands in
    let more = count - (place + 1) in
    let whole : count ≡ place + suc more = omega (arith, low) in
    let own = chain_pages pages place first in
    let rest = chain_pages pages more (next_at pages page) in
    let split : chain_pages pages count first ≡ own ++ (page ∷ rest) =
    ap (λ (n : ℕ). chain_pages pages n first) whole ∙ marked.listed (suc more) in
    never here.0 here.1 (can_left mid (page ∷ []) rest
    (can_after old mid own (page ∷ rest) marked.marks (subst (CanMark old) split can)))

pub no_end : (pages : List (Option Sector)) (count place first page : ℕ) (old mid : List Bool) → place ≡ count
    → Marked pages place first page old mid → (page ≡ 0 → ⊥) → NoMarkedChain pages count first old
no_end pages count place first page old mid all marked more = λ stands can.
    let whole : count ≡ place + 0 = omega (arith, all) in
    more (marked.follows.back 0 (subst (λ (n : ℕ). Stands pages n first) whole stands))

-- Where the records of a file are.
pub long_bytes : (spec : Spec) → is_long spec ≡ true → chained_bytes spec ≡ spec.record_length
long_bytes spec is = ap (λ (b : Bool). if b then spec.record_length else 0) is

pub short_bytes : (spec : Spec) → is_long spec ≡ false → chained_bytes spec ≡ 0
short_bytes spec is = ap (λ (b : Bool). if b then spec.record_length else 0) is

pub long_kept : (spec : Spec) → is_long spec ≡ true → kept_bytes spec ≡ 4
long_kept spec is = ap (λ (b : Bool). if b then 4 else spec.record_length) is

pub short_kept : (spec : Spec) → is_long spec ≡ false → kept_bytes spec ≡ spec.record_length
short_kept spec is = ap (λ (b : Bool). if b then 4 else spec.record_length) is

-- what FindsRow and NoRow say of an entry with so many bytes in a chain
abbrev FindsBy : Spec → List (Option Sector) → Entry → Row → List Bool → List Bool → ℕ → Type 0
FindsBy spec pages entry row old new n = HasChain (form_of n) pages entry
    × (unrolled_entry (form_of n) pages entry ≡ entry_under spec Prime row)
    × Marks old (chain_of (form_of n) pages entry) new

abbrev NoneBy : Spec → ℕ → List (Option Sector) → Entry → List Bool → ℕ → Type 0
NoneBy spec next pages entry old n = (row : Row) → IsRow spec next row → HasChain (form_of n) pages entry
    → unrolled_entry (form_of n) pages entry ≡ entry_under spec Prime row
    → CanMark old (chain_of (form_of n) pages entry) → ⊥

module _ (spec : Spec) (next : ℕ) (pages : List (Option Sector)) (entry : Entry) (old : List Bool) where
  finds_of : (row : Row) (new : List Bool) (n : ℕ) → chained_bytes spec ≡ n
      → FindsBy spec pages entry row old new n → FindsRow spec pages entry row old new
  finds_of row new n is finds =
      let own = subst (FindsBy spec pages entry row old new) (sym is) finds in
      record { stands = own.0; is = own.1; marks = own.2 }

  none_of : (n : ℕ) → chained_bytes spec ≡ n → NoneBy spec next pages entry old n → NoRow spec next pages entry old
  none_of n is never = subst (NoneBy spec next pages entry old) (sym is) never

  -- of a file whose records are in chains
  finds_long : (n : ℕ) → 0 < n → (whole : List ℕ) (row : Row) (new : List Bool)
      → ReadsWhole pages n entry.value whole old new
      → key_under spec Prime (pair_under spec Prime row) ≡ entry.key → row_value row ≡ whole
      → FindsBy spec pages entry row old new n
  finds_long zero some whole row new reads key value = absurd (omega (arith, some))
  finds_long (suc n) some whole row new reads key value = (
    reads.chain.stands,
    entry_made (unrolled_entry (form_of (suc n)) pages entry) (entry_under spec Prime row) (sym key)
        (sym reads.whole_is ∙ sym value),
    reads.chain.marks,
  )

  none_long : (n : ℕ) → 0 < n → NoWhole pages n entry.value old → NoneBy spec next pages entry old n
  none_long zero some never = absurd (omega (arith, some))
  none_long (suc n) some never = λ row is stands same can. never stands can

  none_read : (n : ℕ) → 0 < n → (whole : List ℕ) (new : List Bool) → ReadsWhole pages n entry.value whole old new
      → ((row : Row) → IsRow spec next row → key_under spec Prime (pair_under spec Prime row) ≡ entry.key
      → row_value row ≡ whole → ⊥) → NoneBy spec next pages entry old n
  none_read zero some whole new reads never = absurd (omega (arith, some))
  none_read (suc n) some whole new reads never = λ row is stands same can.
      never row is (sym (ap (λ (e : Entry). e.key) same))
      (sym (ap (λ (e : Entry). e.value) same) ∙ sym reads.whole_is)

some_bytes : (spec : Spec) → is_long spec ≡ true → 0 < spec.record_length
some_bytes spec long = let high = ltb-true 1000 spec.record_length long in omega (arith, high)

-- what the spelling of a row's key and value tells, with the words of a call
abbrev Spelled : Spec → List ℕ → List ℕ → StoredRow → Type 0
Spelled spec key value row = (key_under spec Prime (pair_under spec Prime (row_of row)) ≡ key)
    × (row_value (row_of row) ≡ value)

abbrev NoneSpelled : Spec → ℕ → List ℕ → List ℕ → Type 0
NoneSpelled spec next key value = (row : Row) → IsRow spec next row
    → key_under spec Prime (pair_under spec Prime row) ≡ key → row_value row ≡ value → ⊥

-- of a file whose entries have their records themselves
pub short_row : (spec : Spec) (pages : List (Option Sector)) (entry : Entry) (seen : List Bool)
    → is_long spec ≡ false → (r : Result StoredRow StoreFault) (key value : List ℕ) → key ≡ entry.key
    → value ≡ entry.value → IfOk r (Spelled spec key value)
    → IfOk r (λ (row : StoredRow). FindsRow spec pages entry (row_of row) seen seen)
short_row spec pages entry seen short r key value key_is value_is spelled =
    IfOk-weaker r (Spelled spec key value) (λ (row : StoredRow). FindsRow spec pages entry (row_of row) seen seen)
    (λ row is. finds_of spec 0 pages entry seen (row_of row) seen 0 (short_bytes spec short)
    (refl, sym (same_entry spec (row_of row) entry (is.0 ∙ key_is) (is.1 ∙ value_is)), marks_none seen)) spelled

pub short_none : (spec : Spec) (next : ℕ) (pages : List (Option Sector)) (entry : Entry) (seen : List Bool)
    → is_long spec ≡ false → (key value : List ℕ) → key ≡ entry.key → value ≡ entry.value
    → NoneSpelled spec next key value → NoRow spec next pages entry seen
short_none spec next pages entry seen short key value key_is value_is never =
    none_of spec next pages entry seen 0 (short_bytes spec short) (λ row is stands same can.
    never row is (sym (ap (λ (e : Entry). e.key) same) ∙ sym key_is)
    (sym (ap (λ (e : Entry). e.value) same) ∙ sym value_is))

-- and of one whose records are in chains
pub long_row : (spec : Spec) (pages : List (Option Sector)) (entry : Entry) (old : List Bool) → is_long spec ≡ true
    → (r : Result StoredRow StoreFault) (key value passed whole : List ℕ) (new : List Bool) → key ≡ entry.key
    → value ≡ entry.value → passed ≡ whole → ReadsWhole pages spec.record_length value whole old new
    → IfOk r (Spelled spec key passed)
    → IfOk r (λ (row : StoredRow). FindsRow spec pages entry (row_of row) old new)
long_row spec pages entry old long r key value passed whole new key_is value_is passed_is reads spelled =
    IfOk-weaker r (Spelled spec key passed) (λ (row : StoredRow). FindsRow spec pages entry (row_of row) old new)
    (λ row is. finds_of spec 0 pages entry old (row_of row) new spec.record_length (long_bytes spec long)
    (finds_long spec 0 pages entry old spec.record_length (some_bytes spec long) whole (row_of row) new
    (subst (λ (l : List ℕ). ReadsWhole pages spec.record_length l whole old new) value_is reads) (is.0 ∙ key_is)
    (is.1 ∙ passed_is))) spelled

pub long_none : (spec : Spec) (next : ℕ) (pages : List (Option Sector)) (entry : Entry) (old : List Bool)
    → is_long spec ≡ true → (value : List ℕ) → value ≡ entry.value → NoWhole pages spec.record_length value old
    → NoRow spec next pages entry old
long_none spec next pages entry old long value value_is never =
    none_of spec next pages entry old spec.record_length (long_bytes spec long)
    (none_long spec next pages entry old spec.record_length (some_bytes spec long)
    (subst (λ (l : List ℕ). NoWhole pages spec.record_length l old) value_is never))

pub long_other : (spec : Spec) (next : ℕ) (pages : List (Option Sector)) (entry : Entry) (old : List Bool)
    → is_long spec ≡ true → (key value passed whole : List ℕ) (new : List Bool) → key ≡ entry.key
    → value ≡ entry.value → passed ≡ whole → ReadsWhole pages spec.record_length value whole old new
    → NoneSpelled spec next key passed → NoRow spec next pages entry old
long_other spec next pages entry old long key value passed whole new key_is value_is passed_is reads never =
    none_of spec next pages entry old spec.record_length (long_bytes spec long)
    (none_read spec next pages entry old spec.record_length (some_bytes spec long) whole new
    (subst (λ (l : List ℕ). ReadsWhole pages spec.record_length l whole old new) value_is reads)
    (λ row is key_too value_too. never row is (key_too ∙ sym key_is) (value_too ∙ sym passed_is)))

-- The value with its record in place.
pub whole_made : (record_bytes value made : List ℕ)
    → made ≡ record_bytes ++ take (length value - 4) (drop 4 value) → made ≡ record_bytes ++ drop 4 value
whole_made record_bytes value made is = is ∙ ap (λ (l : List ℕ). record_bytes ++ l) (rest_is 4 value)

pub whole_long : (record_bytes value made : List ℕ) (size : ℕ) → made ≡ record_bytes ++ drop 4 value
    → length record_bytes ≡ size → 4 ≤ length value → length made + 4 ≡ size + length value
whole_long record_bytes value made size is long some =
    let all : length made ≡ length (record_bytes ++ drop 4 value) = ap (λ (l : List ℕ). length l) is in
    omega (arith, all, length-append record_bytes (drop 4 value), length-drop 4 value, long, some)

pub whole_read : (pages : List (Option Sector)) (size first : ℕ) (value record_bytes made : List ℕ)
    (old new : List Bool) → MarksChain pages (pages_for size) first old new → IsRecordOf pages first record_bytes
    → length record_bytes ≡ size → first ≡ first_named value → made ≡ record_bytes ++ drop 4 value
    → ReadsWhole pages size value made old new
whole_read pages size first value record_bytes made old new chain read long named is = record {
  chain = subst (λ (n : ℕ). MarksChain pages (pages_for size) n old new) named chain;
  whole_is = is ∙ ap (λ (l : List ℕ). l ++ drop 4 value) (read.bytes_are
      ∙ ap (λ (n : ℕ). take n (chain_bytes pages (pages_for n) first)) long
      ∙ ap (λ (n : ℕ). take size (chain_bytes pages (pages_for size) n)) named);
}

pub none_named : (pages : List (Option Sector)) (count first : ℕ) (value : List ℕ) (old : List Bool)
    → first ≡ first_named value → NoMarkedChain pages count first old
    → NoMarkedChain pages count (first_named value) old
none_named pages count first value old named never =
    subst (λ (n : ℕ). NoMarkedChain pages count n old) named never
