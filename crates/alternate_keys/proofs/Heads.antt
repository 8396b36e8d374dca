-- What a file is, read from its places in a value of the catalog.
use Rattle.std.proofs.Common.{◌≡◌, ◌<◌, ◌+◌, ◌-◌, ◌*◌, ◌^◌, ◌++◌, ◌==◌, true, ℕ, zero, suc, List, [], ◌∷◌, length, drop}
use Rattle.std.proofs.Common.{refl, sym, ap, ◌∙◌, arith}
use Rattle.std.specs.Prelude.{slice_index, slice_index_or, replicate, if◌then◌else◌}
use Rattle.std.specs.List.{flat_map}
use Rattle.std.proofs.lemmas.List.{drop-drop, append_assoc}
use Rattle.byteorder.specs.Endian.{big_bytes, big_number}
use Rattle.byteorder.specs.Numbers.{big_number-reads_back}
use Rattle.records.specs.declared.file_spec.AlternateKey.{AlternateKey}
use Rattle.btree_pages.specs.declared.row_layout.RowLayout.{RowLayout}
use Rattle.records.specs.declared.file_spec.Organization.{Organization}
use Rattle.records.specs.declared.file_spec.Organization.TheVariants.{Sequential, Relative, Indexed}
use Rattle.records.specs.declared.key.KeyOfReference.TheVariants.{Prime, Alternate}
use Rattle.records.specs.Spec.{is_spec}
use Rattle.records.specs.Rows.{prime_place, no_key}
use Rattle.volume_format.specs.Catalog.{Listing, listing_bytes}
use Rattle.file_bytes.specs.Description.{spec_bytes, key_bytes, filled_to, organization_byte}
use Rattle.file_bytes.specs.Rows.{prime_key_length}
use Rattle.records.proofs.Places.{place_within}
use Rattle.volume_format.proofs.Small.{short_record}

-- the length of a key at its place of the list
length_at : (keys : List AlternateKey) (i : ℕ) (more : List ℕ) → i < length keys
    → ((k : ℕ) → k < length keys → (slice_index_or keys k no_key).place.length < 256 ^ 2) →
    big_number 2 (drop (2 + 5 * i) (flat_map key_bytes keys ++ more)) ≡ (slice_index_or keys i no_key).place.length
length_at [] i more within low = absurd (omega (arith, within))
length_at (key ∷ keys) zero more within low =
    big_number-reads_back 2 key.place.length (drop 4 (flat_map key_bytes (key ∷ keys) ++ more)) (low 0 (omega arith))
length_at (key ∷ keys) (suc i) more within low =
    let five : 2 + 5 * suc i ≡ 5 + (2 + 5 * i) = omega arith in
    ap (λ (n : ℕ). big_number 2 (drop n (flat_map key_bytes (key ∷ keys) ++ more))) five
    ∙ ap (big_number 2) (sym (drop-drop (2 + 5 * i) 5 (flat_map key_bytes (key ∷ keys) ++ more)))
    ∙ length_at keys i more (omega (arith, within)) (λ k inside. low (suc k) (omega (arith, inside)))

module _ (l : Listing) (is : is_spec l.spec ≡ true) where
  abbrev rest : List ℕ
  rest = big_bytes 4 l.prime ++ (filled_to 28 (flat_map (big_bytes 4) l.alternates) ++ big_bytes 8 l.next_arrival)

  pub organization_at : slice_index (listing_bytes l) 0 ≡ organization_byte l.spec.organization
  unfolding listing_bytes spec_bytes
  organization_at = refl

  pub count_at : slice_index (listing_bytes l) 7 ≡ length l.spec.alternates
  unfolding listing_bytes spec_bytes
  count_at = refl

  pub record_at : big_number 2 (drop 1 (listing_bytes l)) ≡ l.spec.record_length
  unfolding listing_bytes spec_bytes
  record_at = let short = short_record l.spec is in
      big_number-reads_back 2 l.spec.record_length (drop 3 (listing_bytes l)) (omega (arith, short))

  pub prime_at : big_number 2 (drop 5 (listing_bytes l)) ≡ (prime_place l.spec.organization).length
  unfolding listing_bytes spec_bytes
  prime_at =
      let short = short_record l.spec is in
      let fits = place_within l.spec Prime is (omega arith) in
      big_number-reads_back 2 (prime_place l.spec.organization).length (drop 7 (listing_bytes l))
      (omega (arith, short, fits))

  keys_at : drop 8 (listing_bytes l) ≡ filled_to 35 (flat_map key_bytes l.spec.alternates) ++ rest
  unfolding listing_bytes spec_bytes
  keys_at = refl

  pub alternate_at : (i : ℕ) → i < length l.spec.alternates
      → big_number 2 (drop (10 + 5 * i) (listing_bytes l)) ≡ (slice_index_or l.spec.alternates i no_key).place.length
  alternate_at i within =
      let keys : List ℕ = flat_map key_bytes l.spec.alternates in
      let eight : 10 + 5 * i ≡ 8 + (2 + 5 * i) = omega arith in
      ap (λ (n : ℕ). big_number 2 (drop n (listing_bytes l))) eight
      ∙ ap (big_number 2) (sym (drop-drop (2 + 5 * i) 8 (listing_bytes l)))
      ∙ ap (λ (s : List ℕ). big_number 2 (drop (2 + 5 * i) s))
      (keys_at ∙ append_assoc keys (replicate (35 - length keys) 0) rest)
      ∙ length_at l.spec.alternates i (replicate (35 - length keys) 0 ++ rest) within
      (λ k inside. let short = short_record l.spec is in let fits =
      place_within l.spec (Alternate k) is (omega (arith, inside)) in omega (arith, short, fits))

-- the lengths in the tree of rows
pub key_by : (o : Organization) → (if organization_byte o == 0 then 8 else if organization_byte o == 1 then 4
    else (prime_place o).length) ≡ prime_key_length o
key_by Sequential = refl
key_by Relative = refl
key_by (Indexed place) = refl

-- the length of the prime key there, by what was read of a value of the catalog
pub key_read : (l : Listing) → is_spec l.spec ≡ true → (value : List ℕ) (own prime : ℕ) → value ≡ listing_bytes l
    → prime ≡ big_number 2 (drop 5 value)
    → own ≡ (if slice_index value 0 == 0 then 8 else if slice_index value 0 == 1 then 4 else prime)
    → own ≡ prime_key_length l.spec.organization
key_read l spec value own prime says prime_is own_is =
    own_is ∙ ap (λ (v : List ℕ). if slice_index v 0 == 0 then 8 else if slice_index v 0 == 1 then 4 else prime) says
    ∙ ap (λ (b : ℕ). if b == 0 then 8 else if b == 1 then 4 else prime) (organization_at l spec)
    ∙ ap (λ (n : ℕ). if organization_byte l.spec.organization == 0 then 8
    else if organization_byte l.spec.organization == 1 then 4 else n)
    (prime_is ∙ ap (λ (v : List ℕ). big_number 2 (drop 5 v)) says ∙ prime_at l spec) ∙ key_by l.spec.organization

abbrev pub layout_as : ℕ → ℕ → RowLayout
layout_as key value = record { key_length = key; value_length = value }
