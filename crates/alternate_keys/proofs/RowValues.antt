-- A row, read from its value in the tree of rows.
use Rattle.std.proofs.Common.{◌≡◌, ◌<◌, ◌+◌, ◌*◌, ◌^◌, ◌++◌, Bool, true, false, not, ℕ, zero, suc, List, [], ◌∷◌}
use Rattle.std.proofs.Common.{length, refl, sym, ap, ◌∙◌, arith}
use Rattle.std.specs.Prelude.{take, drop, slice_index_or, if◌then◌else◌}
use Rattle.std.specs.List.{All, flat_map}
use Rattle.std.proofs.lemmas.List.{take_at, drop_at, drop-drop, append-nil, append_assoc, length-append}
use Rattle.std.proofs.lemmas.List.Elements.{All-head, All-tail}
use Rattle.byteorder.specs.Endian.{big_bytes, big_number}
use Rattle.byteorder.specs.Numbers.{big_number-reads_back}
use Rattle.records.specs.declared.file_spec.AlternateKey.{AlternateKey}
use Rattle.records.specs.declared.key.KeyOfReference.TheVariants.{Alternate}
use Rattle.records.specs.Spec.{Spec}
use Rattle.records.specs.Rows.{Row, part, place_of, same_bytes, no_key}
use Rattle.records.specs.Changes.{changes, arrivals_after}
use Rattle.records.proofs.Maps.{bytes_same}
use Rattle.volume_format.specs.Trees.{entry_under}
use Rattle.file_bytes.specs.Rows.{row_value}
use Rattle.alternate_keys.specs.Moved.{IsRowOf, old_key}
use Rattle.alternate_keys.proofs.NewRows.{bytes_long}

-- the arrival at a place of the list
arrival_there : (arrivals : List ℕ) (i : ℕ) (more : List ℕ) → i < length arrivals → All (λ (a : ℕ). a < 256 ^ 8)
    arrivals → big_number 8 (drop (8 * i) (flat_map (big_bytes 8) arrivals ++ more)) ≡ slice_index_or arrivals i 0
arrival_there [] i more within low = absurd (omega (arith, within))
arrival_there (a ∷ arrivals) zero more within low =
    ap (big_number 8) (append_assoc (big_bytes 8 a) (flat_map (big_bytes 8) arrivals) more)
    ∙ big_number-reads_back 8 a (flat_map (big_bytes 8) arrivals ++ more)
    (All-head (λ (x : ℕ). x < 256 ^ 8) a arrivals low)
arrival_there (a ∷ arrivals) (suc i) more within low =
    let eight : 8 * suc i ≡ 8 + 8 * i = omega arith in
    ap (λ (n : ℕ). big_number 8 (drop n (flat_map (big_bytes 8) (a ∷ arrivals) ++ more))) eight
    ∙ ap (big_number 8) (sym (drop-drop (8 * i) 8 (flat_map (big_bytes 8) (a ∷ arrivals) ++ more)))
    ∙ arrival_there arrivals i more (omega (arith, within)) (All-tail (λ (x : ℕ). x < 256 ^ 8) a arrivals low)

module _ (n : ℕ) (bytes arrivals : List ℕ) (long : length bytes ≡ n) where
  pub record_read : take n (bytes ++ flat_map (big_bytes 8) arrivals) ≡ bytes
  record_read = take_at bytes (flat_map (big_bytes 8) arrivals) n long

  pub arrival_read : (i : ℕ) → i < length arrivals → All (λ (a : ℕ). a < 256 ^ 8) arrivals
      → big_number 8 (drop (n + 8 * i) (bytes ++ flat_map (big_bytes 8) arrivals)) ≡ slice_index_or arrivals i 0
  arrival_read i within low =
      ap (big_number 8) (sym (drop-drop (8 * i) n (bytes ++ flat_map (big_bytes 8) arrivals)))
      ∙ ap (λ (l : List ℕ). big_number 8 (drop (8 * i) l)) (drop_at bytes (flat_map (big_bytes 8) arrivals) n long
      ∙ sym (append-nil (flat_map (big_bytes 8) arrivals)))
      ∙ arrival_there arrivals i [] within low

-- the key of its pair
pub old_key_is : (spec : Spec) (i : ℕ) (row : Row)
    → length row.bytes ≡ spec.record_length → i < length row.arrivals → All (λ (a : ℕ). a < 256 ^ 8) row.arrivals
    → old_key spec i (row_value row) ≡ (entry_under spec (Alternate i) row).key
old_key_is spec i row long within low =
    ap (λ (l : List ℕ). part (place_of spec (Alternate i)) l ++ big_bytes 8 (big_number 8
    (drop (spec.record_length + 8 * i) (row_value row)))) (record_read spec.record_length row.bytes row.arrivals long)
    ∙ ap (λ (a : ℕ). part (place_of spec (Alternate i)) row.bytes ++ big_bytes 8 a)
    (arrival_read spec.record_length row.bytes row.arrivals long i within low)

arrivals_count : (arrivals : List ℕ) → length (flat_map (big_bytes 8) arrivals) ≡ 8 * length arrivals
arrivals_count [] = refl
arrivals_count (a ∷ arrivals) =
    let rest = arrivals_count arrivals in
    let all = length-append (big_bytes 8 a) (flat_map (big_bytes 8) arrivals) in
    omega (arith, rest, all)

pub value_count : (n : ℕ) (bytes arrivals : List ℕ) → length bytes ≡ n
    → length (bytes ++ flat_map (big_bytes 8) arrivals) ≡ n + 8 * length arrivals
value_count n bytes arrivals long =
    let rest = arrivals_count arrivals in
    let all = length-append bytes (flat_map (big_bytes 8) arrivals) in
    omega (arith, rest, all, long)

-- the arrivals after another record
pub arrivals_at : (old bytes : List ℕ) (next : ℕ) (keys : List AlternateKey) (arrivals : List ℕ) (i : ℕ)
    → i < length keys → length arrivals ≡ length keys →
    slice_index_or (arrivals_after old bytes next keys arrivals) i 0
    ≡ (if changes old bytes (slice_index_or keys i no_key) then next else slice_index_or arrivals i 0)
arrivals_at old bytes next [] arrivals i within count = absurd (omega (arith, within))
arrivals_at old bytes next (key ∷ keys) [] i within count = absurd (omega (arith, count))
arrivals_at old bytes next (key ∷ keys) (a ∷ arrivals) zero within count = refl
arrivals_at old bytes next (key ∷ keys) (a ∷ arrivals) (suc i) within count =
    arrivals_at old bytes next keys arrivals i (omega (arith, within)) (omega (arith, count))

pub arrivals_then : (old bytes : List ℕ) (next : ℕ) (keys : List AlternateKey) (arrivals : List ℕ)
    → length arrivals ≡ length keys → length (arrivals_after old bytes next keys arrivals) ≡ length keys
arrivals_then old bytes next [] [] count = refl
arrivals_then old bytes next [] (a ∷ arrivals) count = refl
arrivals_then old bytes next (key ∷ keys) [] count = absurd (omega (arith, count))
arrivals_then old bytes next (key ∷ keys) (a ∷ arrivals) count =
    ap (λ (n : ℕ). suc n) (arrivals_then old bytes next keys arrivals (omega (arith, count)))

-- a key that stays has the same value
pub same_part : (old bytes : List ℕ) (key : AlternateKey) → changes old bytes key ≡ false
    → part key.place bytes ≡ part key.place old
same_part old bytes key is = sym (bytes_same (part key.place old) (part key.place bytes)
    (by (same_bytes (part key.place old) (part key.place bytes)) is))
  where
    by : (b : Bool) → not b ≡ false → b ≡ true
    by true is = refl
    by false is = absurd cc

-- one more of them
taken_one : (numbers : List ℕ) (k : ℕ) → k < length numbers → flat_map (big_bytes 8) (take (suc k) numbers) ≡ flat_map
    (big_bytes 8) (take k numbers) ++ big_bytes 8 (slice_index_or numbers k 0)
taken_one [] k low = absurd (omega (arith, low))
taken_one (a ∷ numbers) zero low = refl
taken_one (a ∷ numbers) (suc k) low = ap (λ (l : List ℕ). big_bytes 8 a ++ l) (taken_one numbers k (omega (arith, low)))

pub numbers_more : (numbers : List ℕ) (k : ℕ) → k < length numbers → flat_map (big_bytes 8)
    (take (k + 1) numbers) ≡ flat_map (big_bytes 8) (take k numbers) ++ big_bytes 8 (slice_index_or numbers k 0)
numbers_more numbers k low =
    ap (λ (n : ℕ). flat_map (big_bytes 8) (take n numbers)) (let e : k + 1 ≡ suc k = omega arith in e)
    ∙ taken_one numbers k low

-- the arrival that a row gets with another record, read from its old value
pub arrival_given : (spec : Spec) (row : Row) → IsRowOf spec row → (old bytes : List ℕ) (arrival k given : ℕ)
    → old ≡ row_value row → k < length spec.alternates
    → given ≡ (if changes (take spec.record_length old) bytes (slice_index_or spec.alternates k no_key) then arrival
    else big_number 8 (drop (spec.record_length + 8 * k) old))
    → given ≡ slice_index_or (arrivals_after row.bytes bytes arrival spec.alternates row.arrivals) k 0
arrival_given spec row is old bytes arrival k given same low given_is =
    let n = spec.record_length in
    let key = slice_index_or spec.alternates k no_key in
    given_is
    ∙ ap (λ (l : List ℕ). if changes (take n l) bytes key then arrival else big_number 8 (drop (n + 8 * k) l)) same
    ∙ ap (λ (l : List ℕ). if changes l bytes key then arrival else big_number 8 (drop (n + 8 * k) (row_value row)))
    (record_read n row.bytes row.arrivals is.long)
    ∙ ap (λ (a : ℕ). if changes row.bytes bytes key then arrival else a)
    (arrival_read n row.bytes row.arrivals is.long k (omega (arith, is.count, low)) is.low)
    ∙ sym (arrivals_at row.bytes bytes arrival spec.alternates row.arrivals k low is.count)

-- a record with the first arrivals, and with one more
pub numbers_next : (bytes out next numbers : List ℕ) (k given : ℕ) → k < length numbers
    → given ≡ slice_index_or numbers k 0 → out ≡ bytes ++ flat_map (big_bytes 8) (take k numbers)
    → next ≡ out ++ big_bytes 8 given → next ≡ bytes ++ flat_map (big_bytes 8) (take (k + 1) numbers)
numbers_next bytes out next numbers k given low given_is out_is next_is =
    next_is ∙ ap (λ (a : ℕ). out ++ big_bytes 8 a) given_is
    ∙ ap (λ (l : List ℕ). l ++ big_bytes 8 (slice_index_or numbers k 0)) out_is
    ∙ append_assoc bytes (flat_map (big_bytes 8) (take k numbers)) (big_bytes 8 (slice_index_or numbers k 0))
    ∙ ap (λ (l : List ℕ). bytes ++ l) (sym (numbers_more numbers k low))

pub long_next : (out eight next : List ℕ) (n k given : ℕ) → length out ≡ n + 8 * k → eight ≡ big_bytes 8 given
    → next ≡ out ++ eight → length next ≡ n + 8 * (k + 1)
long_next out eight next n k given long eight_is next_is =
    let eight_long = ap (λ (l : List ℕ). length l) eight_is ∙ bytes_long 8 given in
    let all = ap (λ (l : List ℕ). length l) next_is in
    let parts = length-append out eight in
    omega (arith, long, eight_long, all, parts)
