-- Names and descriptions are read again.
use Rattle.std.proofs.Common.{◌≡◌, ◌≤◌, ◌+◌, ◌-◌, ◌*◌, ◌==◌, Bool, true, false, not, ◌&&◌, ℕ, zero, suc, List, [], ◌∷◌}
use Rattle.std.proofs.Common.{◌++◌, length, drop, replicate, append_assoc, length-append, refl, sym, ◌∙◌, ap, arith}
use Rattle.std.proofs.Common.{nat_le}
use Rattle.std.specs.Prelude.{Option, Some, None, Ok, Vec, is_some, IfSome, slice_index, if◌then◌else◌}
use Rattle.std.specs.declared.alloc.Global.{Global}
use Rattle.std.specs.List.{AllByRecursion, list_all, flat_map}
use Rattle.std.proofs.lemmas.Bool.{leb-true, eqb-true, cond-false}
use Rattle.std.proofs.lemmas.List.{length-replicate, append-nil}
use Rattle.byteorder.specs.Endian.{big_number, big_bytes}
use Rattle.byteorder.specs.Numbers.{big_number-reads_back}
use Rattle.records.specs.declared.file_spec.FileSpec.{FileSpec}
use Rattle.records.specs.declared.file_spec.KeyPlace.{KeyPlace}
use Rattle.records.specs.declared.file_spec.AlternateKey.{AlternateKey}
use Rattle.records.specs.declared.file_spec.Organization.{Organization}
use Rattle.records.specs.declared.file_spec.Organization.TheVariants.{Sequential, Relative, Indexed}
use Rattle.records.specs.Stores.{spec_of}
use Rattle.records.specs.Spec.{Spec, is_letter, is_name, is_spec}
use Rattle.records.specs.Rows.{prime_place}
use Rattle.file_bytes.specs.Description.{OneSpec, spec_bytes, key_bytes, place_bytes, padded_name, filled_to}
use Rattle.file_bytes.specs.Description.{organization_byte, spec_head}
use Rattle.file_bytes.specs.Read.{IfRead, name_in, place_in, key_in, keys_in, organization_in}
use Rattle.file_bytes.proofs.Several.{Back, all_same, all_long, each_long}
use Rattle.file_bytes.proofs.Plain.{IsSmall, AreSmall, both, plain}

-- places and alternate keys
pub place_back : (place : KeyPlace) (more : List ℕ) → IsSmall place → place_in (place_bytes place ++ more) ≡ place
place_back place more small =
    ap (λ (n : ℕ). let p : KeyPlace = record { offset = n; length = big_number 2 (big_bytes 2 place.length ++ more) } in
    p) (big_number-reads_back 2 place.offset (big_bytes 2 place.length ++ more) small.0)
    ∙ ap (λ (n : ℕ). let p : KeyPlace =
    record { offset = place.offset; length = n } in p) (big_number-reads_back 2 place.length more small.1)

flag_back : (b : Bool) → not ((if b then 1 else 0) == 0) ≡ b
flag_back true = refl
flag_back false = refl

key_back : (key : AlternateKey) → IsSmall key.place → Back 5 key_in key_bytes key
key_back key small = record {
  same = λ more.
      ap (λ (p : KeyPlace). let k : AlternateKey =
      record { place = p; duplicates = not ((if key.duplicates then 1 else 0) == 0) } in k)
      (place_back key.place ((if key.duplicates then 1 else 0) ∷ more) small)
      ∙ ap (λ (b : Bool). let k : AlternateKey =
      record { place = key.place; duplicates = b } in k) (flag_back key.duplicates);
  rest = λ more. refl;
}

all_keys : (keys : List AlternateKey) → AreSmall keys → AllByRecursion (Back 5 key_in key_bytes) keys
all_keys [] all = tt
all_keys (key ∷ keys) all = (key_back key all.0, all_keys keys all.1)

-- names
name_zeros : (k : ℕ) → name_in (replicate k 0) ≡ []
name_zeros zero = refl
name_zeros (suc k) = refl

pub not_zero : (n : ℕ) → 1 ≤ n → (n == 0) ≡ false
not_zero n le = go (n == 0) refl
  where
    go : (b : Bool) → (n == 0) ≡ b → (n == 0) ≡ false
    go true is = absurd (let e : n ≡ 0 = eqb-true n 0 is in omega (arith, le))
    go false is = is

letters_back : (name : List ℕ) (k : ℕ) → list_all is_letter name ≡ true → name_in (name ++ replicate k 0) ≡ name
letters_back [] k all = name_zeros k
letters_back (byte ∷ name) k all =
    let parts = both (is_letter byte) (list_all is_letter name) all in
    let least = leb-true 1 byte (both (nat_le 1 byte) (nat_le byte 255) parts.0).0 in
    cond-false (byte == 0) [] (byte ∷ name_in (name ++ replicate k 0)) (not_zero byte least)
    ∙ ap (λ (l : List ℕ). byte ∷ l) (letters_back name k parts.1)

pub name_back : (name : List ℕ) → is_name name ≡ true → name_in (padded_name name) ≡ name
name_back name is = letters_back name (30 - length name)
    (both (nat_le 1 (length name) && nat_le (length name) 30) (list_all is_letter name) is).1

pub padded_long : (name : List ℕ) → is_name name ≡ true → length (padded_name name) ≡ 30
padded_long name is =
    let few = leb-true (length name) 30 (both (nat_le 1 (length name)) (nat_le (length name) 30)
    (both (nat_le 1 (length name) && nat_le (length name) 30) (list_all is_letter name) is).0).1 in
    omega
    (arith, few, length-append name (replicate (30 - length name) 0), length-replicate {A = ℕ} (30 - length name) 0)

-- how long a description is
pub filled_long : (count : ℕ) (bytes : List ℕ) → length bytes ≤ count → length (filled_to count bytes) ≡ count
filled_long count bytes fits =
    let zeros : List ℕ = replicate (count - length bytes) 0 in
    let all : length (bytes ++ zeros) ≡ length bytes + length zeros = length-append bytes zeros in
    let rest : length zeros ≡ count - length bytes = length-replicate (count - length bytes) 0 in
    omega (arith, all, rest)

keys_long : (keys : List AlternateKey) → length (flat_map key_bytes keys) ≡ 5 * length keys
keys_long keys = all_long 5 key_in key_bytes keys (each_long 5 key_bytes (λ key. refl) keys)

pub keys_filled : (keys : List AlternateKey) (count : ℕ) → count ≡ 35 - 5 * length keys
    → flat_map key_bytes keys ++ replicate count 0 ≡ filled_to 35 (flat_map key_bytes keys)
keys_filled keys count is =
    ap (λ (m : ℕ). flat_map key_bytes keys ++ replicate m 0) (is ∙ ap (λ (m : ℕ). 35 - m) (sym (keys_long keys)))

-- a description is written: its head, its keys, and zeros
pub spec_spelled : (spec : Spec) (out one two three : List ℕ) (n : ℕ) → n ≡ length spec.alternates
    → one ≡ out ++ spec_head spec → two ≡ one ++ flat_map key_bytes spec.alternates
    → three ≡ two ++ replicate (35 - 5 * n) 0 → three ≡ out ++ spec_bytes spec
unfolding spec_bytes
spec_spelled spec out one two three n counted first second third =
    let head = spec_head spec in
    let keys = flat_map key_bytes spec.alternates in
    let zeros : List ℕ = replicate (35 - 5 * n) 0 in
    third ∙ ap (λ l. l ++ zeros) (second ∙ ap (λ l. l ++ keys) first) ∙ append_assoc (out ++ head) keys zeros
    ∙ ap (λ l. (out ++ head) ++ l) (keys_filled spec.alternates (35 - 5 * n) (ap (λ m. 35 - 5 * m) counted))
    ∙ append_assoc out head (filled_to 35 keys)

pub spec_long : (spec : Spec) → length spec.alternates ≤ 7 → length (spec_bytes spec) ≡ 43
unfolding spec_bytes
spec_long spec few =
    let keys : length (filled_to 35 (flat_map key_bytes spec.alternates)) ≡ 35 =
    filled_long 35 (flat_map key_bytes spec.alternates) (let k = keys_long spec.alternates in omega arith) in
    omega (arith, keys)

-- a description is read again, whatever is after it
module _ (spec : Spec) (more bytes : List ℕ) (sound : is_spec spec ≡ true) (is : bytes ≡ spec_bytes spec ++ more) where
  abbrev zeros : List ℕ
  zeros = replicate (35 - length (flat_map key_bytes spec.alternates)) 0

  pub kind_read : slice_index bytes 0 ≡ organization_byte spec.organization
  unfolding spec_bytes
  kind_read = ap (λ (l : List ℕ). slice_index l 0) is

  pub count_read : slice_index bytes 7 ≡ length spec.alternates
  unfolding spec_bytes
  count_read = ap (λ (l : List ℕ). slice_index l 7) is

  pub few_keys : length spec.alternates ≤ 7
  few_keys = (plain spec sound).few

  pub length_read : big_number 2 (drop 1 bytes) ≡ spec.record_length
  unfolding spec_bytes
  length_read = ap (λ (l : List ℕ). big_number 2 (drop 1 l)) is
      ∙ big_number-reads_back 2 spec.record_length (drop 3 (spec_bytes spec ++ more)) (let e =
      (plain spec sound).long in omega (arith, e))

  pub place_read : place_in (drop 3 bytes) ≡ prime_place spec.organization
  unfolding spec_bytes
  place_read = ap (λ (l : List ℕ). place_in (drop 3 l)) is
      ∙ place_back (prime_place spec.organization) (drop 7 (spec_bytes spec ++ more)) (plain spec sound).prime

  keys_there : drop 8 bytes ≡ flat_map key_bytes spec.alternates ++ (zeros ++ more)
  unfolding spec_bytes
  keys_there = ap (drop 8) is ∙ append_assoc (flat_map key_bytes spec.alternates) zeros more

  pub keys_read : (k : ℕ) → k ≡ length spec.alternates → keys_in k (drop 8 bytes) ≡ spec.alternates
  keys_read k same =
      ap (λ (n : ℕ). keys_in n (drop 8 bytes)) same
      ∙ ap (keys_in (length spec.alternates)) keys_there
      ∙ all_same 5 key_in key_bytes spec.alternates (zeros ++ more) (all_keys spec.alternates (plain spec sound).small)

pub organization_back : (o : Organization) → organization_in (organization_byte o) (prime_place o) ≡ Some o
organization_back Sequential = refl
organization_back Relative = refl
organization_back (Indexed place) = refl

pub kind_back : (byte : ℕ) (place : KeyPlace) (o : Organization) → byte ≡ organization_byte o → place ≡ prime_place o
    → organization_in byte place ≡ Some o
kind_back byte place o is same =
    ap (λ (b : ℕ). organization_in b place) is ∙ ap (organization_in (organization_byte o)) same ∙ organization_back o

pub spec_told : (result : Option FileSpec) (name : Vec ℕ Global) (o : Organization) (n : ℕ)
    (keys : Vec AlternateKey Global) (name' : List ℕ) (spec : Spec)
    → is_some result
    ≡ (is_name name.items && is_spec (record { organization = o; record_length = n; alternates = keys.items }))
    → IfSome result (λ f. (f.name ≡ name) × (f.organization ≡ o) × (f.record_length ≡ n) × (f.alternates ≡ keys))
    → name.items ≡ name' → o ≡ spec.organization → n ≡ spec.record_length → keys.items ≡ spec.alternates
    → is_name name' ≡ true → is_spec spec ≡ true
    → IfRead (Ok result) (λ f. (f.name.items ≡ name') × (spec_of f ≡ spec))
spec_told None name o n keys name' spec some file a b c d named sound = absurd (let e : false ≡ true = some ∙ ap
    (λ (l : List ℕ). is_name l && is_spec (record { organization = o; record_length = n; alternates = keys.items })) a
    ∙ ap (λ (x : Organization).
    is_name name' && is_spec (record { organization = x; record_length = n; alternates = keys.items })) b
    ∙ ap (λ (x : ℕ). is_name name'
    && is_spec (record { organization = spec.organization; record_length = x; alternates = keys.items })) c
    ∙ ap (λ (x : List AlternateKey). is_name name'
    && is_spec (record { organization = spec.organization; record_length = spec.record_length; alternates = x })) d
    ∙ ap (λ (b : Bool). b && is_spec spec) named ∙ sound in cc)
spec_told (Some f) name o n keys name' spec some file a b c d named sound = (
  ap (λ (v : Vec ℕ Global). v.items) file.0 ∙ a,
  ap (λ (x : Organization). let s : Spec =
      record { organization = x; record_length = f.record_length; alternates = f.alternates.items } in s) (file.1 ∙ b)
      ∙ ap (λ (x : ℕ). let s : Spec =
      record { organization = spec.organization; record_length = x; alternates = f.alternates.items } in s) (file.2 ∙ c)
      ∙ ap (λ (x : List AlternateKey). let s : Spec =
      record { organization = spec.organization; record_length = spec.record_length; alternates = x } in s)
      (ap (λ (v : Vec AlternateKey Global). v.items) file.3 ∙ d),
)

-- bytes are the description of at most one file, and a name has one spelling
some_is : {A : Type 0} {a b : A} → Some a ≡ Some b → a ≡ b
some_is e = cc

abbrev spec_with : Organization → ℕ → List AlternateKey → Spec
spec_with o n keys = record { organization = o; record_length = n; alternates = keys }

pub one_spec_in : (one two : Spec) (more more' bytes : List ℕ) → is_spec one ≡ true → is_spec two ≡ true
    → bytes ≡ spec_bytes one ++ more → bytes ≡ spec_bytes two ++ more' → one ≡ two
one_spec_in one two more more' bytes first second is is' =
    ap (λ (o : Organization). spec_with o one.record_length one.alternates)
    (some_is (sym (kind_back (slice_index bytes 0) (place_in (drop 3 bytes)) one.organization
    (kind_read one more bytes first is) (place_read one more bytes first is))
    ∙ kind_back (slice_index bytes 0) (place_in (drop 3 bytes)) two.organization (kind_read two more' bytes second is')
    (place_read two more' bytes second is')))
    ∙ ap (λ (n : ℕ). spec_with two.organization n one.alternates) (sym (length_read one more bytes first is)
    ∙ length_read two more' bytes second is')
    ∙ ap (λ (keys : List AlternateKey). spec_with two.organization two.record_length keys)
    (sym (keys_read one more bytes first is (slice_index bytes 7) (count_read one more bytes first is))
    ∙ keys_read two more' bytes second is' (slice_index bytes 7) (count_read two more' bytes second is'))

pub one_spec : OneSpec
one_spec one two first second same =
    one_spec_in one two [] [] (spec_bytes one) first second (sym (append-nil (spec_bytes one)))
    (same ∙ sym (append-nil (spec_bytes two)))

pub one_name : (one two : List ℕ) → is_name one ≡ true → is_name two ≡ true → padded_name one ≡ padded_name two
    → one ≡ two
one_name one two first second same = sym (name_back one first) ∙ ap name_in same ∙ name_back two second
