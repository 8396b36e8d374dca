-- What a file is: how long its records are, how many keys it has, and where these stand.
use Rattle.std.proofs.Common.{◌≡◌, ◌<◌, ◌≤◌, ◌+◌, ◌==◌, Bool, true, false, ◌&&◌, ℕ, suc, List, [], ◌∷◌, length, refl}
use Rattle.std.proofs.Common.{arith, nat_le}
use Rattle.std.specs.List.{AllByRecursion, list_all}
use Rattle.std.proofs.lemmas.Bool.{leb-true, eqb-true}
use Rattle.records.specs.declared.file_spec.KeyPlace.{KeyPlace}
use Rattle.records.specs.declared.file_spec.AlternateKey.{AlternateKey}
use Rattle.records.specs.declared.file_spec.Organization.{Organization}
use Rattle.records.specs.declared.file_spec.Organization.TheVariants.{Sequential, Relative, Indexed}
use Rattle.records.specs.Spec.{Spec, is_spec, is_place, are_keys, in_order, begins_elsewhere}
use Rattle.records.specs.Rows.{prime_place}

abbrev pub IsSmall : KeyPlace → Type 0
IsSmall place = (place.offset < 65536) × (place.length < 65536)

abbrev pub AreSmall : List AlternateKey → Type 0
AreSmall keys = AllByRecursion (λ (key : AlternateKey). IsSmall key.place) keys

pub both : (a b : Bool) → (a && b) ≡ true → (a ≡ true) × (b ≡ true)
both true b e = (refl, e)
both false b e = absurd cc

pub record IsPlain (spec : Spec) : Type 0 where
  pub long : spec.record_length ≤ 16000
  pub least : 1 ≤ spec.record_length
  pub few : length spec.alternates ≤ 7
  pub small : AreSmall spec.alternates
  pub prime : IsSmall (prime_place spec.organization)
  pub within : (prime_place spec.organization).offset + (prime_place spec.organization).length ≤ spec.record_length

small_place : (n : ℕ) (place : KeyPlace) → n ≤ 16000 → is_place n place ≡ true
    → IsSmall place × (place.offset + place.length ≤ n)
small_place n place le is =
    let within = leb-true (place.offset + place.length) n
    (both (nat_le 1 place.length && nat_le place.length 100) (nat_le (place.offset + place.length) n) is).1 in
    ((omega (arith, within, le), omega (arith, within, le)), within)

small_keys : (n : ℕ) (keys : List AlternateKey) → n ≤ 16000 → list_all (λ key. is_place n key.place) keys ≡ true
    → AreSmall keys
small_keys n [] le all = tt
small_keys n (key ∷ keys) le all =
    let e = both (is_place n key.place) (list_all (λ key. is_place n key.place) keys) all in
    ((small_place n key.place le e.0).0, small_keys n keys le e.1)

no_keys : (keys : List AlternateKey) → (length keys == 0) ≡ true → (length keys ≤ 7) × AreSmall keys
no_keys [] is = (omega arith, tt)
no_keys (key ∷ keys) is = absurd (let e : suc (length keys) ≡ 0 = eqb-true _ _ is in omega arith)

pub record AreGood (n : ℕ) (o : Organization) (keys : List AlternateKey) : Type 0 where
  pub few : length keys ≤ 7
  pub small : AreSmall keys
  pub prime : IsSmall (prime_place o)
  pub within : (prime_place o).offset + (prime_place o).length ≤ n

good_keys : (n : ℕ) (o : Organization) (keys : List AlternateKey) → n ≤ 16000 → are_keys n o keys ≡ true
    → AreGood n o keys
good_keys n Sequential keys le is = let e =
    no_keys keys is in record { few = e.0; small = e.1; prime = (omega arith, omega arith); within = omega arith }
good_keys n Relative keys le is = let e =
    no_keys keys is in record { few = e.0; small = e.1; prime = (omega arith, omega arith); within = omega arith }
good_keys n (Indexed place) keys le is =
    let one = both (is_place n place && nat_le (length keys) 7 && in_order keys
    && list_all (begins_elsewhere place) keys) (list_all (λ key. is_place n key.place) keys) is in
    let two =
    both (is_place n place && nat_le (length keys) 7 && in_order keys) (list_all (begins_elsewhere place) keys) one.0 in
    let three = both (is_place n place && nat_le (length keys) 7) (in_order keys) two.0 in
    let four = both (is_place n place) (nat_le (length keys) 7) three.0 in
    let prime = small_place n place le four.0 in
    record {
      few = leb-true (length keys) 7 four.1;
      small = small_keys n keys le one.1;
      prime = prime.0;
      within = prime.1;
    }

pub plain : (spec : Spec) → is_spec spec ≡ true → IsPlain spec
plain spec is =
    let one = both (nat_le 1 spec.record_length && nat_le spec.record_length 16000)
    (are_keys spec.record_length spec.organization spec.alternates) is in
    let two = both (nat_le 1 spec.record_length) (nat_le spec.record_length 16000) one.0 in
    let long = leb-true spec.record_length 16000 two.1 in
    let good = good_keys spec.record_length spec.organization spec.alternates long one.1 in
    record {
      long = long;
      least = leb-true 1 spec.record_length two.0;
      few = good.few;
      small = good.small;
      prime = good.prime;
      within = good.within;
    }
