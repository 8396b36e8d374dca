-- Rows are read again.
use Rattle.std.proofs.Common.{◌≡◌, ◌<◌, ◌≤◌, ◌+◌, ◌*◌, ◌^◌, ℕ, List, [], ◌++◌, length, take, drop, append_assoc}
use Rattle.std.proofs.Common.{length-append, refl, sym, ◌∙◌, ap, arith}
use Rattle.std.specs.List.{flat_map}
use Rattle.std.proofs.lemmas.List.{take_at, drop_at, drop-drop, append-nil, length-take-le, length-drop}
use Rattle.byteorder.specs.Endian.{big_number, big_bytes}
use Rattle.byteorder.specs.Numbers.{big_number-reads_back}
use Rattle.records.specs.declared.file_spec.Organization.{Organization}
use Rattle.records.specs.declared.file_spec.Organization.TheVariants.{Sequential, Relative, Indexed}
use Rattle.records.specs.Spec.{Spec}
use Rattle.records.specs.Rows.{Row, prime_place, prime_pair}
use Rattle.records.specs.Files.{IsRow, IsRowNumber}
use Rattle.file_bytes.specs.Rows.{prime_key_length, prime_key, row_value}
use Rattle.file_bytes.specs.Read.{numbers_in, number_in, row_in}
use Rattle.file_bytes.proofs.Several.{all_same, all_rest, all_long, each_long, all_numbers}

abbrev row_with : ℕ → List ℕ → List ℕ → Row
row_with number bytes arrivals = record { number = number; bytes = bytes; arrivals = arrivals }

pub key_long : (o : Organization) (row : Row) → (prime_place o).offset + (prime_place o).length ≤ length row.bytes
    → length (prime_key o (prime_pair o row)) ≡ prime_key_length o
key_long Sequential row within = refl
key_long Relative row within = refl
key_long (Indexed place) row within = length-take-le place.length (drop place.offset row.bytes)
    (omega (arith, within, length-drop place.offset row.bytes))

-- a row, whatever is after its key and after its arrivals
module _ (spec : Spec) (next : ℕ) (lt : next < 2 ^ 64) (row : Row) (good : IsRow spec next row) where
  abbrev arrived : List ℕ
  arrived = flat_map (big_bytes 8) row.arrivals

  number_of : (o : Organization) (more : List ℕ) → IsRowNumber o next row.number
      → number_in o (prime_key o (prime_pair o row) ++ more) ≡ row.number
  number_of Sequential more is = big_number-reads_back 8 row.number more (let e = is.1 in omega (arith, lt, e))
  number_of Relative more is = big_number-reads_back 4 row.number more (let e = is.1 in omega (arith, e))
  number_of (Indexed place) more is = sym is

  behind_record : (more : List ℕ) → drop spec.record_length (row_value row ++ more) ≡ arrived ++ more
  behind_record more = ap (drop spec.record_length) (append_assoc row.bytes arrived more)
      ∙ drop_at row.bytes (arrived ++ more) spec.record_length good.long

  arrivals_of : (more : List ℕ)
      → numbers_in (length spec.alternates) (drop spec.record_length (row_value row ++ more)) ≡ row.arrivals
  arrivals_of more =
      ap (numbers_in (length spec.alternates)) (behind_record more)
      ∙ ap (λ (n : ℕ). numbers_in n (arrived ++ more)) (sym good.arrivals)
      ∙ all_same 8 (big_number 8) (big_bytes 8) row.arrivals more (all_numbers next row.arrivals lt good.given)

  pub row_read : (key value behind more : List ℕ)
      → key ≡ prime_key spec.organization (prime_pair spec.organization row) ++ behind → value ≡ row_value row ++ more
      → row_in spec key value ≡ row
  row_read key value behind more key_is value_is =
      ap (λ (k : List ℕ). row_in spec k value) key_is
      ∙ ap (row_in spec (prime_key spec.organization (prime_pair spec.organization row) ++ behind)) value_is
      ∙ ap (λ (n : ℕ). row_with n (take spec.record_length (row_value row ++ more)) (numbers_in (length spec.alternates)
      (drop spec.record_length (row_value row ++ more)))) (number_of spec.organization behind good.number)
      ∙ ap (λ (b : List ℕ).
      row_with row.number b (numbers_in (length spec.alternates) (drop spec.record_length (row_value row ++ more))))
      (ap (take spec.record_length) (append_assoc row.bytes arrived more)
      ∙ take_at row.bytes (arrived ++ more) spec.record_length good.long)
      ∙ ap (row_with row.number row.bytes) (arrivals_of more)

  pub row_back : (key value : List ℕ) → prime_key spec.organization (prime_pair spec.organization row) ≡ key
      → row_value row ≡ value → row_in spec key value ≡ row
  row_back key value key_is value_is = row_read
      key value [] [] (sym key_is ∙ sym (append-nil (prime_key spec.organization (prime_pair spec.organization row))))
      (sym value_is ∙ sym (append-nil (row_value row)))

  pub value_rest : (more : List ℕ)
      → drop (spec.record_length + 8 * length spec.alternates) (row_value row ++ more) ≡ more
  value_rest more =
      sym (drop-drop (8 * length spec.alternates) spec.record_length (row_value row ++ more))
      ∙ ap (drop (8 * length spec.alternates)) (behind_record more)
      ∙ ap (λ (n : ℕ). drop (8 * n) (arrived ++ more)) (sym good.arrivals)
      ∙ all_rest 8 (big_number 8) (big_bytes 8) row.arrivals more (all_numbers next row.arrivals lt good.given)

  pub value_long : length (row_value row) ≡ spec.record_length + 8 * length spec.alternates
  value_long = omega (
    arith,
    length-append row.bytes arrived,
    good.long,
    good.arrivals,
    all_long 8 (big_number 8) (big_bytes 8) row.arrivals (each_long 8 (big_bytes 8) (λ n. refl) row.arrivals),
  )
