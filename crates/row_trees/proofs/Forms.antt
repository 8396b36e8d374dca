-- The form of a tree whose records are in chains, and that of one which has its records itself.
use Rattle.std.proofs.Common.{◌≡◌, ◌≢◌, ◌<◌, ◌≤◌, ◌+◌, ◌-◌, ◌^◌, ◌++◌, ℕ, zero, suc, List, [], ◌∷◌, length, take, drop}
use Rattle.std.proofs.Common.{refl, sym, ap, subst, ◌∙◌, arith}
use Rattle.std.specs.Prelude.{Option}
use Rattle.std.proofs.lemmas.List.{length-append, length-drop}
use Rattle.byteorder.specs.Endian.{big_bytes, big_number}
use Rattle.byteorder.specs.Numbers.{big_number-reads_back}
use Rattle.station.specs.Disk.{Sector}
use Rattle.btree.specs.Entries.{Entry, HasLengths}
use Rattle.chains.specs.Chain.{chain_bytes, pages_for, with_zeros}
use Rattle.chains.specs.Rows.{HasChain, chain_of, chains_of, unrolled_entry}
use Rattle.volume_format.specs.Chained.{form_of}
use Rattle.btree_pages.specs.declared.row_layout.RowLayout.{RowLayout}
use Rattle.row_trees.specs.RowTree.{ChainedTree, HasWholeLengths, whole_length, value_length, FitsForm}

-- the entry of a key and a value
abbrev pub pair : List ℕ → List ℕ → Entry
pair key value = record { key = key; value = value }

-- an entry with a record in the place of its first page
abbrev pub with_record : ℕ → List (Option Sector) → Entry → Entry
with_record n pages entry = pair entry.key
    (take n (chain_bytes pages (pages_for n) (big_number 4 entry.value)) ++ drop 4 entry.value)

-- In a tree with chains.
pub unrolled_long : (n : ℕ) (pages : List (Option Sector)) (entry : Entry) → n ≢ 0
    → unrolled_entry (form_of n) pages entry ≡ with_record n pages entry
unrolled_long zero pages entry long = absurd (long refl)
unrolled_long (suc more) pages entry long = refl

-- what is asked of the chain of an entry
pub of_chain : (n : ℕ) (entry : Entry) (P : ℕ → ℕ → Type 0) → n ≢ 0
    → P (form_of n).count ((form_of n).first entry) → P (pages_for n) (big_number 4 entry.value)
of_chain zero entry P long is = absurd (long refl)
of_chain (suc more) entry P long is = is

pub as_chain : (n : ℕ) (entry : Entry) (P : ℕ → ℕ → Type 0) → n ≢ 0
    → P (pages_for n) (big_number 4 entry.value) → P (form_of n).count ((form_of n).first entry)
as_chain zero entry P long is = absurd (long refl)
as_chain (suc more) entry P long is = is

-- a value with the first page of a chain tells that page
pub first_told : (first : ℕ) (rest : List ℕ) → first < 2 ^ 32 → big_number 4 (big_bytes 4 first ++ rest) ≡ first
first_told first rest small = big_number-reads_back 4 first rest small

take_whole : (bytes rest : List ℕ) → take (length bytes) (bytes ++ rest) ≡ bytes
take_whole [] rest = refl
take_whole (x ∷ bytes) rest = ap (λ (l : List ℕ). x ∷ l) (take_whole bytes rest)

pub take_all : (n : ℕ) (bytes : List ℕ) → n ≡ length bytes → take n bytes ≡ bytes
take_all n bytes is = ap (λ (k : ℕ). take k bytes) is ∙ whole bytes
  where
    whole : (bytes : List ℕ) → take (length bytes) bytes ≡ bytes
    whole [] = refl
    whole (x ∷ bytes) = ap (λ (l : List ℕ). x ∷ l) (whole bytes)

pub record_back : (n : ℕ) (bytes rest : List ℕ) → length bytes ≡ n → take n (bytes ++ rest) ≡ bytes
record_back n bytes rest is = ap (λ (k : ℕ). take k (bytes ++ rest)) (sym is) ∙ take_whole bytes rest

-- an entry whose chain holds a record is seen with that record
pub seen_with : (n : ℕ) (pages : List (Option Sector)) (entry : Entry) (bytes : List ℕ) → n ≢ 0 → length bytes ≡ n
    → chain_bytes pages (pages_for (length bytes)) (big_number 4 entry.value) ≡ with_zeros bytes
    → unrolled_entry (form_of n) pages entry ≡ pair entry.key (bytes ++ drop 4 entry.value)
seen_with n pages entry bytes long is holds =
    let first = big_number 4 entry.value in
    unrolled_long n pages entry long
    ∙ ap (λ (k : ℕ). pair entry.key (take n (chain_bytes pages (pages_for k) first) ++ drop 4 entry.value)) (sym is)
    ∙ ap (λ (l : List ℕ). pair entry.key (take n l ++ drop 4 entry.value)) holds
    ∙ ap (λ (l : List ℕ). pair entry.key (l ++ drop 4 entry.value)) (record_back n bytes _ is)

-- In a tree without chains.
pub unrolled_short : (n : ℕ) (pages : List (Option Sector)) (entry : Entry) → n ≡ 0
    → unrolled_entry (form_of n) pages entry ≡ entry
unrolled_short n pages entry short = ap (λ (k : ℕ). unrolled_entry (form_of k) pages entry) short

pub short_chain : (n : ℕ) (pages : List (Option Sector)) (entry : Entry) → n ≡ 0 → HasChain (form_of n) pages entry
short_chain n pages entry short = subst (λ (k : ℕ). HasChain (form_of k) pages entry) (sym short) refl

pub no_chain : (n : ℕ) (pages : List (Option Sector)) (entry : Entry) → n ≡ 0 → chain_of (form_of n) pages entry ≡ []
no_chain n pages entry short = ap (λ (k : ℕ). chain_of (form_of k) pages entry) short

none_chained : (pages : List (Option Sector)) (entries : List Entry) → chains_of (form_of 0) pages entries ≡ []
none_chained pages [] = refl
none_chained pages (entry ∷ more) = none_chained pages more

pub no_chains : (n : ℕ) (pages : List (Option Sector)) (entries : List Entry) → n ≡ 0
    → chains_of (form_of n) pages entries ≡ []
no_chains n pages entries short =
    ap (λ (k : ℕ). chains_of (form_of k) pages entries) short ∙ none_chained pages entries

-- The lengths of values.
pub whole_short : (n stored size : ℕ) → n ≡ 0 → size ≡ whole_length n stored → size ≡ stored
whole_short n stored size short is = is ∙ ap (λ (k : ℕ). whole_length k stored) short

pub whole_long : (n stored : ℕ) → n ≢ 0 → whole_length n stored ≡ n + (stored - 4)
whole_long zero stored long = absurd (long refl)
whole_long (suc more) stored long = refl

pub fits_long : (n : ℕ) (layout : RowLayout) → n ≢ 0 → FitsForm n layout
    → (4 ≤ layout.value_length) × (layout.value_length ≤ 64)
fits_long zero layout long fits = absurd (long refl)
fits_long (suc more) layout long fits = fits

pub record_within : (n stored size : ℕ) → n ≢ 0 → size ≡ whole_length n stored → n ≤ size
record_within n stored size long is = let whole = is ∙ whole_long n stored long in omega (arith, whole)

-- what follows the record in a whole value has room after the page of its chain
pub rest_few : (n : ℕ) (layout : RowLayout) (size rest : ℕ) → n ≢ 0 → FitsForm n layout
    → size ≡ whole_length n layout.value_length → rest + n ≡ size → rest ≤ 60
rest_few n layout size rest long fits is cut =
    let bounds = fits_long n layout long fits in
    let whole = is ∙ whole_long n layout.value_length long in
    omega (arith, bounds.1, whole, cut)

-- the bounds of a layout that stays
pub fits_still : (n : ℕ) (old new : RowLayout) → new ≡ old → FitsForm n old → FitsForm n new
fits_still n old new same fits = subst (FitsForm n) (sym same) fits

-- A value that was put together of a record and the rest of another value.
pub value_made : (bytes two value made : List ℕ) → made ≡ bytes ++ take (length two - 4) (drop 4 two) → two ≡ value
    → made ≡ bytes ++ drop 4 value
value_made bytes two value made is same =
    is ∙ ap (λ (l : List ℕ). bytes ++ l) (take_all (length two - 4) (drop 4 two) (sym (length-drop 4 two)))
    ∙ ap (λ (l : List ℕ). bytes ++ drop 4 l) same

pub rest_is : (two value rest : List ℕ) → take (length two - 4) (drop 4 two) ≡ rest → two ≡ value
    → drop 4 value ≡ rest
rest_is two value rest is same =
    ap (drop 4) (sym same) ∙ sym (take_all (length two - 4) (drop 4 two) (sym (length-drop 4 two))) ∙ is

-- The lengths of a row with its whole record.
pub lengths_short : (view self : ChainedTree) (row : Entry) → view ≡ self → view.record_bytes ≡ 0
    → HasLengths view.tree.layout row → HasWholeLengths self row
lengths_short view self row same short lengths = subst (λ (t : ChainedTree). HasWholeLengths t row) same
    (lengths.0, lengths.1 ∙ sym (ap (λ (n : ℕ). whole_length n view.tree.layout.value_length) short))

pub lengths_long : (view self : ChainedTree) (row : Entry) (bytes made : List ℕ) → view ≡ self
    → view.record_bytes ≢ 0 → FitsForm view.record_bytes view.tree.layout → HasLengths view.tree.layout row
    → length bytes ≡ view.record_bytes → made ≡ bytes ++ drop 4 row.value → HasWholeLengths self (pair row.key made)
lengths_long view self row bytes made same long fits lengths many is =
    let counted = ap (λ (l : List ℕ). length l) is ∙ length-append bytes (drop 4 row.value) in
    let whole = whole_long view.record_bytes view.tree.layout.value_length long in
    let rest = length-drop 4 row.value in
    let value : length made ≡ value_length view = omega (arith, counted, whole, rest, many, lengths.1) in
    subst (λ (t : ChainedTree). HasWholeLengths t (pair row.key made)) same (lengths.0, value)
