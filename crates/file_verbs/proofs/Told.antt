-- What the store tells of a row that was sought, and the row that fits.
use Rattle.std.proofs.Common.{◌≡◌, ◌≤◌, Bool, true, false, ◌&&◌, cond, ℕ, zero, suc, ◌==◌, List, [], length, take, drop}
use Rattle.std.proofs.Common.{refl, sym, ◌∙◌, ap, subst, arith, nat_le}
use Rattle.std.specs.Prelude.{Option, Some, None, unwrap_or}
use Rattle.std.specs.Option.{option_map}
use Rattle.std.proofs.lemmas.Bool.{eqb-true}
use Rattle.std.proofs.lemmas.List.{length-drop, length-take-le}
use Rattle.records.proofs.Places.{place_within}
use Rattle.records.specs.declared.file_spec.AlternateKey.{AlternateKey}
use Rattle.records.specs.declared.file_spec.Organization.{Organization}
use Rattle.records.specs.declared.file_spec.Organization.TheVariants.{Sequential, Relative, Indexed}
use Rattle.records.specs.declared.key.KeyOfReference.{KeyOfReference}
use Rattle.records.specs.declared.key.KeyOfReference.TheVariants.{Prime, Alternate}
use Rattle.records.specs.declared.answer.Found.{Found}
use Rattle.records.specs.declared.verb.Relation.{Relation}
use Rattle.records.specs.Spec.{Spec, is_spec, are_keys}
use Rattle.records.specs.Rows.{Row, Pair, part, place_of, pair_under, number_pair, prime_pair, named_pair}
use Rattle.records.specs.Order.{RowBound, sought_row, found_row}
use Rattle.records.specs.declared.key.Side.{Side}
use Rattle.records.specs.Stores.{IsKey, key_length, record_of, bound_at}
use Rattle.records.specs.Steps.{area_pair, if_fits, side_of, is_relative}
use Rattle.records.specs.FileStep.{area}
use Rattle.file_verbs.specs.Links.{IsFoundRow, if_fitting, fitting_row, number_of}

pub both : (a b : Bool) → (a && b) ≡ true → (a ≡ true) × (b ≡ true)
both true b e = (refl, e)
both false b e = absurd cc

abbrev pub spec_from : ℕ → Organization → List AlternateKey → Spec
spec_from n o keys = record { organization = o; record_length = n; alternates = keys }

no_alternates : (keys : List AlternateKey) (i : ℕ) {A : Type 0} → (length keys == 0) ≡ true → suc i ≤ length keys → A
no_alternates keys i none lt = absurd (let e : length keys ≡ 0 = eqb-true _ _ none in omega (arith, e, lt))

none_of : (count : ℕ) (bytes : List ℕ) → count ≤ 0 → take count bytes ≡ []
none_of zero bytes le = refl
none_of (suc n) bytes le = absurd (omega (arith, le))

named_at : (n : ℕ) (o : Organization) (keys : List AlternateKey) (key : KeyOfReference) (count : ℕ)
    (bytes : List ℕ) (number : ℕ) → are_keys n o keys ≡ true → IsKey (spec_from n o keys) key
    → count ≤ key_length (spec_from n o keys) key
    → area_pair (spec_from n o keys) o key count (area bytes number)
    ≡ record { value = take count (drop (place_of (spec_from n o keys) key).offset bytes); number = number_of o number }
named_at n Sequential keys Prime count bytes number h is le =
    ap (λ (v : List ℕ). let p : Pair = record { value = v; number = number } in p) (sym (none_of count bytes le))
named_at n Relative keys Prime count bytes number h is le =
    ap (λ (v : List ℕ). let p : Pair = record { value = v; number = number } in p) (sym (none_of count bytes le))
named_at n (Indexed place) keys key count bytes number h is le = refl
named_at n Sequential keys (Alternate i) count bytes number h is le = no_alternates keys i h is
named_at n Relative keys (Alternate i) count bytes number h is le = no_alternates keys i h is

pub keys_of : (s : Spec) → is_spec s ≡ true → are_keys s.record_length s.organization s.alternates ≡ true
keys_of s h = (both (nat_le 1 s.record_length && nat_le s.record_length 16000) _ h).1

-- what the area names is the bytes from the key's place on
pub named_is : (s : Spec) (key : KeyOfReference) (count : ℕ) (bytes : List ℕ) (number : ℕ) → is_spec s ≡ true
    → IsKey s key → count ≤ key_length s key
    → area_pair s s.organization key count (area bytes number)
    ≡ record { value = take count (drop (place_of s key).offset bytes); number = number_of s.organization number }
named_is s key count bytes number h is le =
    named_at s.record_length s.organization s.alternates key count bytes number (keys_of s h) is le

value_at : (n : ℕ) (o : Organization) (keys : List AlternateKey) (key : KeyOfReference) (row : Row)
    → (pair_under (spec_from n o keys) key row).value ≡ part (place_of (spec_from n o keys) key) row.bytes
value_at n Sequential keys Prime row = refl
value_at n Relative keys Prime row = refl
value_at n (Indexed place) keys Prime row = refl
value_at n o keys (Alternate i) row = refl

-- the value of a pair is the key's part of the record
pub value_is : (s : Spec) (key : KeyOfReference) (row : Row)
    → (pair_under s key row).value ≡ part (place_of s key) row.bytes
value_is s key row = value_at s.record_length s.organization s.alternates key row

pub pair_is : (s : Spec) (key : KeyOfReference) (row : Row)
    → pair_under s key row ≡ record { value = part (place_of s key) row.bytes; number = (pair_under s key row).number }
pair_is s key row = ap (λ (v : List ℕ). let p : Pair =
    record { value = v; number = (pair_under s key row).number } in p) (value_is s key row)

-- but in an indexed file these are one
abbrev IsNumbered : Organization → ℕ → ℕ → Type 0
IsNumbered Sequential m n = m ≡ n
IsNumbered Relative m n = m ≡ n
IsNumbered (Indexed place) m n = Unit {0}

number_at : (n : ℕ) (o : Organization) (keys : List AlternateKey) (key : KeyOfReference) (row : Row)
    → are_keys n o keys ≡ true → IsKey (spec_from n o keys) key
    → IsNumbered o (pair_under (spec_from n o keys) key row).number row.number
number_at n Sequential keys Prime row h is = refl
number_at n Relative keys Prime row h is = refl
number_at n (Indexed place) keys key row h is = tt
number_at n Sequential keys (Alternate i) row h is = no_alternates keys i h is
number_at n Relative keys (Alternate i) row h is = no_alternates keys i h is

number_is : (s : Spec) (key : KeyOfReference) (row : Row) → is_spec s ≡ true → IsKey s key
    → IsNumbered s.organization (pair_under s key row).number row.number
number_is s key row h is = number_at s.record_length s.organization s.alternates key row (keys_of s h) is

named_same : (o : Organization) (m n : ℕ) (bytes : List ℕ) → IsNumbered o m n
    → named_pair o m bytes ≡ named_pair o n bytes
named_same Sequential m n bytes is = ap number_pair is
named_same Relative m n bytes is = ap number_pair is
named_same (Indexed place) m n bytes is = refl

-- a row's number in an order names it under the prime key
pub prime_is : (s : Spec) (key : KeyOfReference) (row : Row) → is_spec s ≡ true → IsKey s key
    → named_pair s.organization (pair_under s key row).number row.bytes ≡ prime_pair s.organization row
prime_is s key row h is =
    named_same s.organization (pair_under s key row).number row.number row.bytes (number_is s key row h is)

relative_at : (o : Organization) (m n : ℕ) → is_relative o ≡ true → IsNumbered o m n → m ≡ n
relative_at Sequential m n r is = absurd cc
relative_at Relative m n r is = is
relative_at (Indexed place) m n r is = absurd cc

-- and in a relative file it is its number
pub relative_is : (s : Spec) (key : KeyOfReference) (row : Row) → is_spec s ≡ true → IsKey s key
    → is_relative s.organization ≡ true → (pair_under s key row).number ≡ row.number
relative_is s key row h is r =
    relative_at s.organization (pair_under s key row).number row.number r (number_is s key row h is)

abbrev the_bound : Spec → Relation → Pair → RowBound
the_bound spec relation place = record { side = side_of spec.organization relation; pair = place }

pub bound_is : (s : Spec) (key : KeyOfReference) (relation : Relation) (count : ℕ) (bytes : List ℕ) (number : ℕ)
    (side : Side) (value : List ℕ) (from : ℕ) → is_spec s ≡ true → IsKey s key → count ≤ key_length s key
    → side ≡ side_of s.organization relation
    → value ≡ take count (drop (place_of s key).offset bytes) → from ≡ number_of s.organization number
    → bound_at side value from ≡ the_bound s relation (area_pair s s.organization key count (area bytes number))
bound_is s key relation count bytes number side value from h is le side_same value_same number_same =
    ap (λ (t : Side). bound_at t value from) side_same
    ∙ ap (λ (v : List ℕ). bound_at (side_of s.organization relation) v from) value_same
    ∙ ap (λ (n : ℕ). bound_at (side_of s.organization relation) (take count (drop (place_of s key).offset bytes)) n)
    number_same
    ∙ ap (the_bound s relation) (sym (named_is s key count bytes number h is le))

-- what a store tells of the row that it sought
pub sought_told : (spec : Spec) (key : KeyOfReference) (rows : List Row) (before bytes : List ℕ)
    (o : Option Row) (told : Option Found) → told ≡ option_map (found_row spec key rows) o → bytes ≡ record_of before o
    → IsFoundRow spec key rows bytes o told
sought_told spec key rows before bytes None None is put = tt
sought_told spec key rows before bytes None (Some told) is put = absurd cc
sought_told spec key rows before bytes (Some row) None is put = absurd cc
sought_told spec key rows before bytes (Some row) (Some told) is put =
    (ap (λ (o : Option Found). unwrap_or o told) is, put)

-- and of which row
pub told_no_row : (spec : Spec) (key : KeyOfReference) (rows : List Row) (bytes : List ℕ) (o : Option Row)
    → IsFoundRow spec key rows bytes o None → o ≡ None
told_no_row spec key rows bytes None told = refl
told_no_row spec key rows bytes (Some row) told = absurd told

pub told_row : (spec : Spec) (key : KeyOfReference) (rows : List Row) (bytes : List ℕ) (o : Option Row) (f : Found)
    → IsFoundRow spec key rows bytes o (Some f) → (row : Row) × (o ≡ Some row) × (f ≡ found_row spec key rows row)
    × (bytes ≡ row.bytes)
told_row spec key rows bytes None f told = absurd told
told_row spec key rows bytes (Some row) f told = (row, refl, told.0, told.1)

module _ (spec : Spec) (key : KeyOfReference) (rows : List Row) (relation : Relation) (place : Pair) where
  none_by : (bytes : List ℕ) (o : Option Row) → None ≡ option_map (found_row spec key rows) o
      → IsFoundRow spec key rows bytes (if_fitting spec relation key place o) None
  none_by bytes None is = tt
  none_by bytes (Some row) is = absurd cc

  pub told_none : (bytes : List ℕ) (b : RowBound)
      → b ≡ the_bound spec relation place → None ≡ option_map (found_row spec key rows) (sought_row spec key b rows)
      → IsFoundRow spec key rows bytes (fitting_row spec relation key place rows) None
  told_none bytes b same is = none_by bytes (sought_row spec key (the_bound spec relation place) rows)
      (subst (λ (b : RowBound). None ≡ option_map (found_row spec key rows) (sought_row spec key b rows)) same is)

  module _ (before bytes : List ℕ) (told : Found) (test : Bool) (is_test : test ≡ if_fits spec.organization relation
      place (record { value = part (place_of spec key) bytes; number = told.number })) where
    fits_by : (fits : Bool) (row : Row) → (told ≡ found_row spec key rows row) → bytes ≡ row.bytes → (t : Bool)
        → fits ≡ t → IsFoundRow spec key rows bytes (cond fits (Some row) None) (cond t (Some told) None)
    fits_by true row is same true e = (is, same)
    fits_by true row is same false e = absurd cc
    fits_by false row is same true e = absurd cc
    fits_by false row is same false e = tt

    some_by : (o : Option Row) → Some told ≡ option_map (found_row spec key rows) o → bytes ≡ record_of before o
        → IsFoundRow spec key rows bytes (if_fitting spec relation key place o) (cond test (Some told) None)
    some_by None is same = absurd cc
    some_by (Some row) is same =
        let e : told ≡ found_row spec key rows row = ap (λ (o : Option Found). unwrap_or o told) is in
        let p : pair_under spec key row ≡ record { value = part (place_of spec key) bytes; number = told.number } =
        pair_is spec key row ∙ ap (λ (b : List ℕ). let p : Pair =
        record { value = part (place_of spec key) b; number = (pair_under spec key row).number } in p) (sym same)
        ∙ ap (λ (f : Found). let p : Pair =
        record { value = part (place_of spec key) bytes; number = f.number } in p) (sym e) in
        fits_by (if_fits spec.organization relation place (pair_under spec key row)) row e same test
        (ap (if_fits spec.organization relation place) p ∙ sym is_test)

    pub told_some : (b : RowBound) → b ≡ the_bound spec relation place
        → Some told ≡ option_map (found_row spec key rows) (sought_row spec key b rows)
        → bytes ≡ record_of before (sought_row spec key b rows)
        → IsFoundRow spec key rows bytes (fitting_row spec relation key place rows) (cond test (Some told) None)
    told_some b same is put = some_by (sought_row spec key (the_bound spec relation place) rows) (subst
        (λ (b : RowBound). Some told ≡ option_map (found_row spec key rows) (sought_row spec key b rows)) same is)
        (subst (λ (b : RowBound). bytes ≡ record_of before (sought_row spec key b rows)) same put)

-- The row that a store was asked for: of the key and the count of its bytes, from this side, value and number on.
pub record IsSought (s : Spec) (key : KeyOfReference) (relation : Relation) (count : ℕ) (bytes : List ℕ) (number : ℕ)
    (side : Side) (value : List ℕ) (from : ℕ) : Type 0 where
  pub bound : bound_at side value from ≡ the_bound s relation (area_pair s s.organization key count (area bytes number))
  pub place : area_pair s s.organization key count (area bytes number) ≡ record { value = value; number = from }

pub is_sought : (s : Spec) (key : KeyOfReference) (relation : Relation) (count : ℕ) (bytes : List ℕ) (number : ℕ)
    {side : Side} {value : List ℕ} {from : ℕ} → is_spec s ≡ true → IsKey s key → count ≤ key_length s key
    → side ≡ side_of s.organization relation → value ≡ take count (drop (place_of s key).offset bytes)
    → from ≡ number_of s.organization number → IsSought s key relation count bytes number side value from
is_sought s key relation count bytes number {side} {value} {from} h is le side_same value_same number_same = record {
  bound = bound_is s key relation count bytes number side value from h is le side_same value_same number_same;
  place = named_is s key count bytes number h is le
      ∙ ap (λ (v : List ℕ). let p : Pair = record { value = v; number = number_of s.organization number } in p)
      (sym value_same)
      ∙ ap (λ (n : ℕ). let p : Pair = record { value = value; number = n } in p) (sym number_same);
}

-- what is told of it where there is none, and where a test says whether it fits
module _ {s : Spec} {key : KeyOfReference} {relation : Relation} {count : ℕ} {bytes : List ℕ} {number : ℕ}
    {side : Side} {value : List ℕ} {from : ℕ} (sought : IsSought s key relation count bytes number side value from)
    (rows : List Row) where
  pub none_sought : (put : List ℕ)
      → None ≡ option_map (found_row s key rows) (sought_row s key (bound_at side value from) rows)
      → IsFoundRow s key rows put
      (fitting_row s relation key (area_pair s s.organization key count (area bytes number)) rows) None
  none_sought put none = told_none s key rows relation (area_pair s s.organization key count (area bytes number)) put
      (bound_at side value from) sought.bound none

  pub one_sought : (before put : List ℕ) (told : Found) (fits : Bool) {row_value : List ℕ}
      → fits ≡ if_fits s.organization relation (record { value = value; number = from })
      (record { value = row_value; number = told.number })
      → row_value ≡ part (place_of s key) put
      → Some told ≡ option_map (found_row s key rows) (sought_row s key (bound_at side value from) rows)
      → put ≡ record_of before (sought_row s key (bound_at side value from) rows)
      → IsFoundRow s key rows put
      (fitting_row s relation key (area_pair s s.organization key count (area bytes number)) rows)
      (cond fits (Some told) None)
  one_sought before put told fits {row_value} tested row_is found row_put =
      let pair = area_pair s s.organization key count (area bytes number) in
      told_some s key rows relation pair before put told fits
      (tested
      ∙ ap (λ (p : Pair). if_fits s.organization relation p (record { value = row_value; number = told.number }))
      (sym sought.place)
      ∙ ap (λ (v : List ℕ). if_fits s.organization relation pair (record { value = v; number = told.number })) row_is)
      (bound_at side value from) sought.bound found row_put

pub first_bytes_long : (s : Spec) (key : KeyOfReference) (count : ℕ) (bytes : List ℕ) {value : List ℕ}
    → is_spec s ≡ true
    → IsKey s key → count ≤ key_length s key → length bytes ≡ s.record_length
    → value ≡ take count (drop (place_of s key).offset bytes) → length value ≡ count
first_bytes_long s key count bytes h is le size named =
    let within = place_within s key h is in
    ap length named ∙ length-take-le count (drop (place_of s key).offset bytes)
    (omega (arith, le, size, within, length-drop (place_of s key).offset bytes))

-- no more bytes of a key are named than a row has of it
pub no_longer : (s : Spec) (key : KeyOfReference) (count : ℕ) (bytes put : List ℕ) {value row_value : List ℕ}
    → is_spec s ≡ true
    → IsKey s key → count ≤ key_length s key → length bytes ≡ s.record_length → length put ≡ s.record_length
    → value ≡ take count (drop (place_of s key).offset bytes) → row_value ≡ part (place_of s key) put
    → length value ≤ length row_value
no_longer s key count bytes put h is le size put_size named part_is =
    let within = place_within s key h is in
    let own = first_bytes_long s key count bytes h is le size named in
    let row = ap length part_is ∙ length-take-le (place_of s key).length (drop (place_of s key).offset put)
    (omega (arith, put_size, within, length-drop (place_of s key).offset put)) in
    omega (arith, own, row, le)
