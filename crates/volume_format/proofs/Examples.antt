-- The definitions on a small file.
use Rattle.std.specs.Prelude.{◌≡◌, ℕ, true, [], ◌∷◌, ◌++◌, replicate, refl}
use Rattle.records.specs.declared.file_spec.KeyPlace.{KeyPlace}
use Rattle.records.specs.declared.file_spec.Organization.TheVariants.{Indexed}
use Rattle.records.specs.declared.key.KeyOfReference.TheVariants.{Prime, Alternate}
use Rattle.records.specs.Spec.{Spec}
use Rattle.records.specs.Rows.{Row}
use Rattle.volume_format.specs.Catalog.{listing_bytes, catalog_value}
use Rattle.file_bytes.specs.Description.{spec_bytes}
use Rattle.volume_format.specs.Chained.{form_of}
use Rattle.volume_format.specs.Trees.{entry_under, prime_layout}

abbrev place : ℕ → ℕ → KeyPlace
place offset length = record { offset = offset; length = length }

-- a key in byte 0, and an alternate one with duplicates in bytes 1 and 2
abbrev sales : Spec
sales = record {
  organization = Indexed (place 0 1);
  record_length = 3;
  alternates = record { place = place 1 2; duplicates = true } ∷ [];
}

abbrev row : Row
row = record { number = 0; bytes = 7 ∷ 88 ∷ 89 ∷ []; arrivals = 258 ∷ [] }

prime_entry : entry_under sales Prime row
    ≡ record { key = 7 ∷ []; value = 7 ∷ 88 ∷ 89 ∷ 0 ∷ 0 ∷ 0 ∷ 0 ∷ 0 ∷ 0 ∷ 1 ∷ 2 ∷ [] }
prime_entry = refl

alternate_entry : entry_under sales (Alternate 0) row
    ≡ record { key = 88 ∷ 89 ∷ 0 ∷ 0 ∷ 0 ∷ 0 ∷ 0 ∷ 0 ∷ 1 ∷ 2 ∷ []; value = 7 ∷ [] }
alternate_entry = refl

layouts : prime_layout sales ≡ record { key_length = 1; value_length = 11 }
layouts = refl

-- the same file with records of 5,000 bytes, each in a chain of two pages: an entry has the first page, and the arrival
layouts_of_long_records : prime_layout (record {
  organization = Indexed (place 0 1);
  record_length = 5000;
  alternates = sales.alternates;
}) ≡ record { key_length = 1; value_length = 12 }
layouts_of_long_records = refl

pages_of_a_long_record : (form_of 5000).count ≡ 2
pages_of_a_long_record = refl

first_page_of_a_long_record :
    (form_of 5000).first (record { key = 7 ∷ []; value = 0 ∷ 0 ∷ 1 ∷ 2 ∷ 9 ∷ [] }) ≡ 258
first_page_of_a_long_record = refl

-- a record of three bytes, were it in a chain, before an arrival of which one byte is shown
record_in_place : (form_of 3).with_bytes (7 ∷ 88 ∷ 89 ∷ 0 ∷ 0 ∷ [])
    (record { key = 7 ∷ []; value = 0 ∷ 0 ∷ 1 ∷ 2 ∷ 9 ∷ [] }) ≡ record { key = 7 ∷ []; value = 7 ∷ 88 ∷ 89 ∷ 9 ∷ [] }
record_in_place = refl

listing : listing_bytes (record { spec = sales; prime = 5; alternates = 260 ∷ []; next_arrival = 259 }) ≡
    (2 ∷ 0 ∷ 3 ∷ 0 ∷ 0 ∷ 0 ∷ 1 ∷ 1 ∷ []) ++ ((0 ∷ 1 ∷ 0 ∷ 2 ∷ 1 ∷ []) ++ (replicate 30 0
    ++ ((0 ∷ 0 ∷ 0 ∷ 5 ∷ 0 ∷ 0 ∷ 1 ∷ 4 ∷ []) ++ (replicate 24 0 ++ 0 ∷ 0 ∷ 0 ∷ 0 ∷ 0 ∷ 0 ∷ 1 ∷ 3 ∷ []))))
unfolding listing_bytes spec_bytes
listing = refl

value_on_a_volume_with_the_first_mark : catalog_value 0 (7 ∷ 8 ∷ []) 258 ≡ 7 ∷ 8 ∷ []
value_on_a_volume_with_the_first_mark = refl

value_on_a_volume_with_the_second_mark :
    catalog_value 1 (7 ∷ 8 ∷ []) 258 ≡ 7 ∷ 8 ∷ 0 ∷ 0 ∷ 0 ∷ 0 ∷ 0 ∷ 0 ∷ 1 ∷ 2 ∷ []
value_on_a_volume_with_the_second_mark = refl
