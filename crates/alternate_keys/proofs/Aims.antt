-- The key of a place tells what is after it.
use Rattle.std.proofs.Common.{◌≡◌, ◌≤◌, ◌<◌, ◌+◌, ◌-◌, ◌^◌, ◌/◌, lit<, ℕ, zero, suc, Bool, true, false, not, List, []}
use Rattle.std.proofs.Common.{◌∷◌, ◌++◌, length, refl, sym, ap, subst, ◌∙◌, arith}
use Rattle.std.specs.Prelude.{take, replicate, nat_lt, ◌==◌, if◌then◌else◌}
use Rattle.std.specs.List.{All}
use Rattle.std.proofs.Math.Nat.{mod-lt}
use Rattle.std.specs.Int.{byte_at}
use Rattle.std.proofs.lemmas.Bool.{ltb-true, ltb-false, eqb-true, eqb-false}
use Rattle.std.proofs.lemmas.List.{nil_from_length, append-nil, length-append, take-append-le}
use Rattle.std.proofs.lemmas.List.Elements.{All-cons, All-nil, All-append}
use Rattle.std.proofs.lemmas.Cmp.{ranked}
use Rattle.std.specs.Ordering.{nat_cmp, ordering_then, is_lt, is_gt}
use Rattle.std.specs.declared.cmp.Ordering.{Ordering}
use Rattle.std.specs.declared.cmp.Ordering.TheVariants.{Less, Equal, Greater}
use Rattle.byteorder.specs.Endian.{big_bytes}
use Rattle.btree_pages.specs.Keys.{key_cmp}
use Rattle.records.specs.declared.file_spec.Organization.{Organization}
use Rattle.records.specs.declared.file_spec.Organization.TheVariants.{Sequential, Relative, Indexed}
use Rattle.records.specs.declared.key.KeyOfReference.{KeyOfReference}
use Rattle.records.specs.declared.key.KeyOfReference.TheVariants.{Prime, Alternate}
use Rattle.records.specs.Spec.{Spec}
use Rattle.records.specs.Rows.{Pair, bytes_cmp, pair_cmp, prime_place}
use Rattle.volume_format.specs.Trees.{key_under, pair_key}
use Rattle.file_bytes.specs.Rows.{prime_key}
use Rattle.alternate_keys.specs.declared.search_start.SearchStart.TheVariants as aim
use Rattle.volume_format.specs.Pairs.{IsPair, IsPrimePair}
use Rattle.alternate_keys.specs.Aims.{IsBound, fill, extended_bytes, aim_at, aim_short, aim_number, aim_value}
use Rattle.alternate_keys.specs.Aims.{pair_aim_key, prime_aim, prime_aim_key, aim_of, aim_key, accepts}
use Rattle.records.specs.declared.key.Side.{Side}
use Rattle.records.specs.declared.key.Side.TheVariants as side
use Rattle.records.specs.Order.{RowBound, is_after, is_beyond}
use Rattle.records.specs.Stores.{key_length}
use Rattle.std.specs.Cmp.{nat_cmp_is}
use Rattle.volume_format.proofs.Order.{numbers_alone}
use Rattle.btree_pages.proofs.Beginnings.{zeros_least, then_same_lt, high_fill}
use Rattle.btree_pages.proofs.Numbers.{numbers_in_order, cmp_append, then_equal, byte_at_power}

-- a key from zeros on
not_below_none : (key : List ℕ) → is_lt (key_cmp key []) ≡ false
not_below_none [] = refl
not_below_none (x ∷ key) = refl

low_fill : (start key : List ℕ) (count : ℕ) → length key ≡ length start + count
    → is_lt (key_cmp key (start ++ replicate count 0)) ≡ is_lt (key_cmp key start)
low_fill [] key count is = zeros_least count key (omega (arith, is)) ∙ sym (not_below_none key)
low_fill (s ∷ start) [] count is = absurd (omega (arith, is))
low_fill (s ∷ start) (x ∷ key) count is = then_same_lt (nat_cmp x s) (key_cmp key (start ++ replicate count 0))
    (key_cmp key start) (low_fill start key count (omega (arith, is)))

-- a value that is longer than another
longer : (v start tail : List ℕ) → length start < length v → key_cmp (v ++ tail) start ≡ key_cmp v start
longer [] start tail low = absurd (omega (arith, low))
longer (x ∷ v) [] tail low = refl
longer (x ∷ v) (s ∷ start) tail low = ap (ordering_then (nat_cmp x s)) (longer v start tail (omega (arith, low)))

other_by : (o r : Ordering) → (r ≡ Equal → ⊥) → ordering_then o r ≡ Equal → ⊥
other_by Less r other is = let clash : Less ≡ Equal = is in cc
other_by Equal r other is = other is
other_by Greater r other is = let clash : Greater ≡ Equal = is in cc

other : (v start : List ℕ) → length start < length v → key_cmp v start ≡ Equal → ⊥
other [] start low is = omega (arith, low)
other (x ∷ v) [] low is = let clash : Greater ≡ Equal = is in cc
other (x ∷ v) (s ∷ start) low is = other_by (nat_cmp x s) (key_cmp v start) (other v start (omega (arith, low))) is

lt_alone : (o r : Ordering) → (o ≡ Equal → ⊥) → is_lt (ordering_then o r) ≡ is_lt o
lt_alone Less r never = refl
lt_alone Equal r never = absurd (never refl)
lt_alone Greater r never = refl

gt_alone : (o r : Ordering) → (o ≡ Equal → ⊥) → is_gt (ordering_then o r) ≡ not (is_lt o)
gt_alone Less r never = refl
gt_alone Equal r never = absurd (never refl)
gt_alone Greater r never = refl

beyond_right : (count : ℕ) (place pair : Pair) (tail : List ℕ) → length place.value ≤ length pair.value
    → length (pair.value ++ tail) ≡ count → All (λ byte. byte < 256) (pair.value ++ tail) →
    is_beyond place.value pair.value ≡ is_gt (key_cmp (pair.value ++ tail) (extended_bytes count 255 place.value))
beyond_right count place pair tail low is bytes =
    let whole : length (pair.value ++ tail) ≡ length place.value + (count - length place.value) =
    omega (arith, length-append pair.value tail) in
    sym (high_fill place.value (pair.value ++ tail) (count - length place.value) whole bytes
    ∙ ap (λ v. is_gt (key_cmp v place.value)) (take-append-le (length place.value) pair.value tail low))

-- a place of a part of a value
short_right : (count : ℕ) (s : Side) (place pair : Pair) (tail : List ℕ) → length place.value < length pair.value
    → length (pair.value ++ tail) ≡ count → All (λ byte. byte < 256) (pair.value ++ tail) →
    is_after s place pair ≡ accepts (aim_short s) (extended_bytes count (fill s) place.value) (pair.value ++ tail)
short_right count side.From place pair tail low is bytes =
    let whole : length (pair.value ++ tail) ≡ length place.value + (count - length place.value) =
    omega (arith, length-append pair.value tail) in
    ap not
    (lt_alone (bytes_cmp pair.value place.value) (nat_cmp pair.number place.number) (other pair.value place.value low)
    ∙ sym (low_fill place.value (pair.value ++ tail) (count - length place.value) whole
    ∙ ap is_lt (longer pair.value place.value tail low)))
short_right count side.After place pair tail low is bytes =
    let whole : length (pair.value ++ tail) ≡ length place.value + (count - length place.value) =
    omega (arith, length-append pair.value tail) in
    gt_alone (bytes_cmp pair.value place.value) (nat_cmp pair.number place.number) (other pair.value place.value low)
    ∙ ap not (sym (low_fill place.value (pair.value ++ tail) (count - length place.value) whole
    ∙ ap is_lt (longer pair.value place.value tail low)))
short_right count side.Beyond place pair tail low is bytes = beyond_right count place pair tail (omega arith) is bytes

all_bytes : (n x : ℕ) → All (λ byte. byte < 256) (big_bytes n x)
all_bytes zero x = All-nil (λ byte. byte < 256)
all_bytes (suc n) x = All-cons (λ byte. byte < 256) (byte_at n x) (big_bytes n x)
    (rw (byte_at_power n x) (mod-lt (x / 256 ^ n) (lit< tt))) (all_bytes n x)

extended_full : (count byte : ℕ) (bytes : List ℕ) → length bytes ≡ count → extended_bytes count byte bytes ≡ bytes
extended_full count byte bytes is =
    let none : count - length bytes ≡ 0 = omega arith in
    ap (λ n. bytes ++ replicate n byte) none ∙ append-nil bytes

-- numbers alone
number_right : (n : ℕ) (s : Side) (place pair : Pair) → pair.value ≡ [] → place.value ≡ [] → pair.number < 256 ^ n
    → place.number < 256 ^ n →
    is_after s place pair ≡ accepts (aim_number s) (big_bytes n place.number) (big_bytes n pair.number)
number_right n side.From place pair first second low high =
    ap (λ o. not (is_lt o)) (sym (numbers_alone n pair place first second low high))
number_right n side.After place pair first second low high =
    ap is_gt (sym (numbers_alone n pair place first second low high))
number_right n side.Beyond place pair first second low high =
    ap (λ v. is_gt (bytes_cmp (take (length place.value) v) place.value)) first
    ∙ ap (λ v. is_gt (bytes_cmp (take (length v) []) v)) second

less_by : (x y : ℕ) → x < y → nat_cmp x y ≡ Less
less_by x y low = sym (nat_cmp_is x y Less low)

beyond_number : (s : Side) (place pair : Pair) → pair.value ≡ [] → place.value ≡ [] → pair.number < place.number
    → is_after s place pair ≡ false
beyond_number s place pair first second low =
    let less : pair_cmp pair place ≡ Less =
    ap (λ v. ordering_then (bytes_cmp v place.value) (nat_cmp pair.number place.number)) first
    ∙ ap (λ v. ordering_then (bytes_cmp [] v) (nat_cmp pair.number place.number)) second
    ∙ less_by pair.number place.number low in
    elim s as (λ (t : Side). is_after t place pair ≡ false) [
      | side.From ↦ ap (λ o. not (is_lt o)) less
      | side.After ↦ ap is_gt less
      | side.Beyond ↦ ap (λ v. is_gt (bytes_cmp (take (length place.value) v) place.value)) first
          ∙ ap (λ v. is_gt (bytes_cmp (take (length v) []) v)) second
    ]

relative_by : (c : Bool) (s : Side) (place pair : Pair) → nat_lt place.number (256 ^ 4) ≡ c → pair.value ≡ []
    → place.value ≡ [] → pair.number < 256 ^ 4 →
    is_after s place pair
    ≡ accepts (if c then aim_number s else aim.Nothing) (big_bytes 4 place.number) (big_bytes 4 pair.number)
relative_by true s place pair is first second low =
    number_right 4 s place pair first second low (ltb-true place.number (256 ^ 4) is)
relative_by false s place pair is first second low = beyond_number s place pair first second
    (let high : 256 ^ 4 ≤ place.number = ltb-false place.number (256 ^ 4) is in omega arith)

-- a whole value in the order of the prime key
zero_not_above : (o : Ordering) (n : ℕ) → o ≡ nat_cmp 0 n → is_gt o ≡ false
zero_not_above Less n is = refl
zero_not_above Equal n is = refl
zero_not_above Greater n is = let low : n < 0 = ranked 0 n Greater is in absurd (omega arith)

gt_then : (o r : Ordering) → is_gt r ≡ false → is_gt (ordering_then o r) ≡ is_gt o
gt_then Less r is = refl
gt_then Equal r is = is
gt_then Greater r is = refl

not_lt_then : (o : Ordering) → not (is_lt (ordering_then o Less)) ≡ is_gt o
not_lt_then Less = refl
not_lt_then Equal = refl
not_lt_then Greater = refl

value_by : (c : Bool) (place pair : Pair) → (place.number == 0) ≡ c → pair.number ≡ 0
    → is_after side.From place pair ≡ accepts (if c then aim.From else aim.After) place.value pair.value
value_by true place pair is zero_number =
    let none : place.number ≡ 0 = eqb-true place.number 0 is in
    ap (λ n. not (is_lt (ordering_then (bytes_cmp pair.value place.value) (nat_cmp n place.number)))) zero_number
    ∙ ap (λ n. not (is_lt (ordering_then (bytes_cmp pair.value place.value) (nat_cmp 0 n)))) none
    ∙ ap (λ o. not (is_lt o)) (then_equal (bytes_cmp pair.value place.value))
value_by false place pair is zero_number =
    let never = eqb-false place.number 0 is in
    let some : 0 < place.number = omega (arith, never) in
    ap (λ n. not (is_lt (ordering_then (bytes_cmp pair.value place.value) (nat_cmp n place.number)))) zero_number
    ∙ ap (λ o. not (is_lt (ordering_then (bytes_cmp pair.value place.value) o))) (less_by 0 place.number some)
    ∙ not_lt_then (bytes_cmp pair.value place.value)

value_right : (count : ℕ) (s : Side) (place pair : Pair) → length place.value ≡ count → length pair.value ≡ count
    → pair.number ≡ 0 → All (λ byte. byte < 256) pair.value →
    is_after s place pair ≡ accepts (aim_value s place.number) (extended_bytes count (fill s) place.value) pair.value
value_right count side.From place pair full is none bytes =
    value_by (place.number == 0) place pair refl none
    ∙ ap (λ at. accepts (aim_value side.From place.number) at pair.value) (sym (extended_full count 0 place.value full))
value_right count side.After place pair full is none bytes =
    ap (λ n. is_gt (ordering_then (bytes_cmp pair.value place.value) (nat_cmp n place.number))) none
    ∙ gt_then (bytes_cmp pair.value place.value) (nat_cmp 0 place.number)
    (zero_not_above (nat_cmp 0 place.number) place.number refl)
    ∙ ap (λ at. is_gt (key_cmp pair.value at)) (sym (extended_full count 0 place.value full))
value_right count side.Beyond place pair full is none bytes =
    subst (λ v. is_beyond place.value pair.value ≡ is_gt (key_cmp v (extended_bytes count 255 place.value)))
    (append-nil pair.value)
    (beyond_right count place pair [] (omega arith) (ap length (append-nil pair.value) ∙ is)
    (subst (All (λ byte. byte < 256)) (sym (append-nil pair.value)) bytes))

indexed_by : (c : Bool) (count : ℕ) (s : Side) (place pair : Pair) → nat_lt (length place.value) count ≡ c
    → length place.value ≤ count → length pair.value ≡ count → pair.number ≡ 0 → All (λ byte. byte < 256) pair.value →
    is_after s place pair ≡ accepts (if c then aim_short s else aim_value s place.number)
    (extended_bytes count (fill s) place.value) pair.value
indexed_by true count s place pair is fits long none bytes =
    let low : length place.value < count = ltb-true (length place.value) count is in
    subst (λ v. is_after s place pair ≡ accepts (aim_short s) (extended_bytes count (fill s) place.value) v)
    (append-nil pair.value)
    (short_right count s place pair [] (omega arith) (ap length (append-nil pair.value) ∙ long)
    (subst (All (λ byte. byte < 256)) (sym (append-nil pair.value)) bytes))
indexed_by false count s place pair is fits long none bytes =
    let high : count ≤ length place.value = ltb-false (length place.value) count is in
    value_right count s place pair (omega arith) long none bytes

prime_right : (organization : Organization) (bound : RowBound) (pair : Pair)
    → length bound.pair.value ≤ (prime_place organization).length → bound.pair.number < 256 ^ 8
    → IsPrimePair organization pair → All (λ byte. byte < 256) pair.value →
    is_after bound.side bound.pair pair
    ≡ accepts (prime_aim organization bound) (prime_aim_key organization bound) (prime_key organization pair)
prime_right Sequential bound pair fits number is bytes =
    number_right 8 bound.side bound.pair pair is.0 (nil_from_length bound.pair.value (omega arith)) is.1 number
prime_right Relative bound pair fits number is bytes =
    relative_by (nat_lt bound.pair.number (256 ^ 4)) bound.side bound.pair pair refl is.0
    (nil_from_length bound.pair.value (omega arith)) is.1
prime_right (Indexed place) bound pair fits number is bytes = indexed_by (nat_lt (length bound.pair.value) place.length)
    place.length bound.side bound.pair pair refl fits is.0 is.1 bytes

-- a whole value with its number
pair_right : (count : ℕ) (s : Side) (place pair : Pair) → length place.value ≡ length pair.value
    → length pair.value + 8 ≡ count → pair.number < 256 ^ 8 → place.number < 256 ^ 8
    → All (λ byte. byte < 256) pair.value →
    is_after s place pair ≡ accepts (aim_at s) (pair_aim_key count s place) (pair_key pair)
pair_right count side.From place pair same is low high bytes =
    ap (λ o. not (is_lt o))
    (sym (cmp_append pair.value place.value (big_bytes 8 pair.number) (big_bytes 8 place.number) (sym same)
    ∙ ap (ordering_then (bytes_cmp pair.value place.value)) (numbers_in_order 8 pair.number place.number low high)))
pair_right count side.After place pair same is low high bytes =
    ap is_gt (sym (cmp_append pair.value place.value (big_bytes 8 pair.number) (big_bytes 8 place.number) (sym same)
    ∙ ap (ordering_then (bytes_cmp pair.value place.value)) (numbers_in_order 8 pair.number place.number low high)))
pair_right count side.Beyond place pair same is low high bytes =
    beyond_right count place pair (big_bytes 8 pair.number) (omega arith)
    (length-append pair.value (big_bytes 8 pair.number) ∙ is)
    (All-append (λ byte. byte < 256) pair.value (big_bytes 8 pair.number) bytes (all_bytes 8 pair.number))

alternate_by : (c : Bool) (count : ℕ) (s : Side) (place pair : Pair) → nat_lt (length place.value) count ≡ c
    → length place.value ≤ count → length pair.value ≡ count → pair.number < 256 ^ 8 → place.number < 256 ^ 8
    → All (λ byte. byte < 256) pair.value →
    is_after s place pair ≡ accepts (if c then aim_short s else aim_at s) (if c
    then extended_bytes (count + 8) (fill s) place.value else pair_aim_key (count + 8) s place) (pair_key pair)
alternate_by true count s place pair is fits long low high bytes =
    let less : length place.value < count = ltb-true (length place.value) count is in
    short_right (count + 8) s place pair (big_bytes 8 pair.number) (omega arith)
    (length-append pair.value (big_bytes 8 pair.number) ∙ ap (λ n. n + 8) long)
    (All-append (λ byte. byte < 256) pair.value (big_bytes 8 pair.number) bytes (all_bytes 8 pair.number))
alternate_by false count s place pair is fits long low high bytes =
    let more : count ≤ length place.value = ltb-false (length place.value) count is in
    pair_right (count + 8) s place pair (omega arith) (ap (λ n. n + 8) long) low high bytes

pub aims_right : (spec : Spec) (key : KeyOfReference) (bound : RowBound) (pair : Pair) → IsBound spec key bound
    → IsPair spec key pair → All (λ byte. byte < 256) pair.value →
    is_after bound.side bound.pair pair
    ≡ accepts (aim_of spec key bound) (aim_key spec key bound) (key_under spec key pair)
aims_right spec Prime bound pair fits is bytes =
    prime_right spec.organization bound pair fits.value fits.number is bytes
aims_right spec (Alternate i) bound pair fits is bytes =
    alternate_by (nat_lt (length bound.pair.value) (key_length spec (Alternate i))) (key_length spec (Alternate i))
    bound.side bound.pair pair refl fits.value is.0 is.1 fits.number bytes
