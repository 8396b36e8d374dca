-- How many alternate keys a file has, and how long its records are.
use Rattle.std.proofs.Common.{◌≡◌, ◌≤◌, ◌<◌, ℕ, Bool, true, false, ◌&&◌, List, length, refl, arith}
use Rattle.std.proofs.Common.{nat_le, nat_lt}
use Rattle.std.proofs.lemmas.Bool.{leb-true, eqb-true, ltb-false}
use Rattle.std.specs.Prelude.{slice_index_or, if◌then◌else◌}
use Rattle.std.specs.List.{list_all}
use Rattle.records.specs.declared.file_spec.AlternateKey.{AlternateKey}
use Rattle.records.specs.declared.file_spec.Organization.{Organization}
use Rattle.records.specs.declared.file_spec.Organization.TheVariants.{Sequential, Relative, Indexed}
use Rattle.records.specs.Spec.{Spec, is_spec, is_long, is_place, are_keys, in_order, begins_elsewhere}
use Rattle.records.specs.declared.file_spec.KeyPlace.{KeyPlace}
use Rattle.records.specs.declared.key.KeyOfReference.{KeyOfReference}
use Rattle.records.specs.declared.key.KeyOfReference.TheVariants.{Prime, Alternate}
use Rattle.records.specs.Rows.{place_of, no_key}
use Rattle.records.specs.Stores.{IsKey}
use Rattle.btree_pages.specs.RowLayouts.{IsRowLayout}
use Rattle.volume_format.specs.Chained.{kept_bytes}
use Rattle.volume_format.specs.Trees.{layout_under}
use Rattle.records.proofs.Places.{both, all_places, spec as spec_with}

pub short_record : (s : Spec) → is_spec s ≡ true → s.record_length ≤ 16000
short_record s is = leb-true s.record_length 16000
    (both (nat_le 1 s.record_length) _ (both (nat_le 1 s.record_length && nat_le s.record_length 16000) _ is).0).1

few_keys : (n : ℕ) (o : Organization) (keys : List AlternateKey) → are_keys n o keys ≡ true → length keys ≤ 7
few_keys n Sequential keys is = let none : length keys ≡ 0 = eqb-true _ _ is in omega arith
few_keys n Relative keys is = let none : length keys ≡ 0 = eqb-true _ _ is in omega arith
few_keys n (Indexed place) keys is =
    leb-true (length keys) 7 (both (is_place n place) _ (both (is_place n place && nat_le (length keys) 7) _
    (both (is_place n place && nat_le (length keys) 7 && in_order keys) _
    (both (is_place n place && nat_le (length keys) 7 && in_order keys && list_all (begins_elsewhere place) keys) _
    is).0).0).0).1

pub few_alternates : (s : Spec) → is_spec s ≡ true → length s.alternates ≤ 7
few_alternates s is = few_keys s.record_length s.organization s.alternates
    (both (nat_le 1 s.record_length && nat_le s.record_length 16000) _ is).1

-- keys have at most 100 bytes, and one at least where the file has keys
sized : (n : ℕ) (place : KeyPlace) → is_place n place ≡ true → (1 ≤ place.length) × (place.length ≤ 100)
sized n place is =
    let first = both (nat_le 1 place.length && nat_le place.length 100) _ is in
    let two = both (nat_le 1 place.length) _ first.0 in
    (leb-true 1 place.length two.0, leb-true place.length 100 two.1)

prime_sized : (n : ℕ) (place : KeyPlace) (keys : List AlternateKey) → are_keys n (Indexed place) keys ≡ true
    → (1 ≤ place.length) × (place.length ≤ 100)
prime_sized n place keys is =
    sized n place (both (is_place n place) _ (both (is_place n place && nat_le (length keys) 7) _
    (both (is_place n place && nat_le (length keys) 7 && in_order keys) _
    (both (is_place n place && nat_le (length keys) 7 && in_order keys && list_all (begins_elsewhere place) keys) _
    is).0).0).0).0

alternate_sized : (n : ℕ) (place : KeyPlace) (keys : List AlternateKey) (i : ℕ)
    → are_keys n (Indexed place) keys ≡ true → i < length keys → (1 ≤ (slice_index_or keys i no_key).place.length)
    × ((slice_index_or keys i no_key).place.length ≤ 100)
alternate_sized n place keys i is within =
    sized n (slice_index_or keys i no_key).place
    (all_places n keys i (both (is_place n place && nat_le (length keys) 7 && in_order keys
    && list_all (begins_elsewhere place) keys) _ is).1 within)

-- at most 1,000 bytes of a row's entry stand for its record, however long that is
kept_by : (n : ℕ) (long : Bool) → nat_lt 1000 n ≡ long → (if long then 4 else n) ≤ 1000
kept_by n true is = omega arith
kept_by n false is = ltb-false 1000 n is

few_kept : (s : Spec) → kept_bytes s ≤ 1000
few_kept s = kept_by s.record_length (is_long s) refl

layout_by : (n : ℕ) (o : Organization) (keys : List AlternateKey) (key : KeyOfReference)
    → kept_bytes (spec_with n o keys) ≤ 1000 → length keys ≤ 7 → are_keys n o keys ≡ true
    → IsKey (spec_with n o keys) key → IsRowLayout (layout_under (spec_with n o keys) key)
layout_by n Sequential keys Prime short few is within =
    record { key = omega arith; leaf = omega (arith, short, few); inner = omega arith }
layout_by n Relative keys Prime short few is within =
    record { key = omega arith; leaf = omega (arith, short, few); inner = omega arith }
layout_by n (Indexed place) keys Prime short few is within =
    let size = prime_sized n place keys is in
    let low = size.0 in
    let high = size.1 in
    record { key = low; leaf = omega (arith, short, few, high); inner = omega (arith, high) }
layout_by n Sequential keys (Alternate i) short few is within =
    absurd (let none : length keys ≡ 0 = eqb-true _ _ is in omega (arith, none, within))
layout_by n Relative keys (Alternate i) short few is within =
    absurd (let none : length keys ≡ 0 = eqb-true _ _ is in omega (arith, none, within))
layout_by n (Indexed place) keys (Alternate i) short few is within =
    let size = prime_sized n place keys is in
    let own = alternate_sized n place keys i is within in
    let high = size.1 in
    let top = own.1 in
    record { key = omega arith; leaf = omega (arith, high, top); inner = omega (arith, top) }

pub layouts_fit : (spec : Spec) (key : KeyOfReference) → is_spec spec ≡ true → IsKey spec key
    → IsRowLayout (layout_under spec key)
layouts_fit spec key is within =
    layout_by spec.record_length spec.organization spec.alternates key (few_kept spec) (few_alternates spec is)
    (both (nat_le 1 spec.record_length && nat_le spec.record_length 16000) _ is).1 within

-- the value of a key is short
short_by : (n : ℕ) (o : Organization) (keys : List AlternateKey) (key : KeyOfReference) → are_keys n o keys ≡ true
    → IsKey (spec_with n o keys) key → (place_of (spec_with n o keys) key).length ≤ 100
short_by n Sequential keys Prime is within = omega arith
short_by n Relative keys Prime is within = omega arith
short_by n (Indexed place) keys Prime is within = (prime_sized n place keys is).1
short_by n Sequential keys (Alternate i) is within =
    absurd (let none : length keys ≡ 0 = eqb-true _ _ is in omega (arith, none, within))
short_by n Relative keys (Alternate i) is within =
    absurd (let none : length keys ≡ 0 = eqb-true _ _ is in omega (arith, none, within))
short_by n (Indexed place) keys (Alternate i) is within = (alternate_sized n place keys i is within).1

pub place_short : (spec : Spec) (key : KeyOfReference) → is_spec spec ≡ true → IsKey spec key
    → (place_of spec key).length ≤ 100
place_short spec key is within = short_by spec.record_length spec.organization spec.alternates key
    (both (nat_le 1 spec.record_length && nat_le spec.record_length 16000) _ is).1 within

pub spec_keys : (spec : Spec) → is_spec spec ≡ true
    → are_keys spec.record_length spec.organization spec.alternates ≡ true
spec_keys spec is = (both (nat_le 1 spec.record_length && nat_le spec.record_length 16000) _ is).1
