-- Parts as far as they are known before a run.
use Rattle.std.proofs.Common.{◌≡◌, ℕ, ◌+◌, ◌-◌, ◌≤◌, refl, arith, Option, Some, None}
use Rattle.std.specs.Prelude.{Bool, true, false, nat_le, ◌&&◌, if◌then◌else◌}
use Rattle.std.proofs.lemmas.Bool.{and_parts}
use Rattle.std.proofs.lemmas.Bool.Decides.{nat_tests}
use Rattle.source_tree.specs.declared.reference.Subscript as written
use Rattle.source_tree.specs.declared.reference.Subscript.TheVariants as subscript
use Rattle.source_tree.specs.Integers.{number_of}
use Rattle.source_tree.specs.Parts.{known_literal, length_from, known_length}
use Rattle.data_instructions.specs.PartForms.{known_begin}

abbrev given : {A : Type 0} → A → Option A
given x = Some x

-- what a test lets pass
pub passed : {A : Type 0} (b : Bool) (x y : A) → (if b then Some x else None) ≡ given y → (b ≡ true) × (x ≡ y)
passed true x y e = (refl, cc)
passed false x y e = absurd cc

pub record IsLengthWithin (size n : ℕ) : Type 0 where
  pub some : 1 ≤ n
  pub most : n ≤ size

-- a literal that counts as known is from 1 to the size
pub literal_within : (size : ℕ) (one : written.Subscript) (n : ℕ) → known_literal size one ≡ Some n
    → IsLengthWithin size n
literal_within size (subscript.Literal m) n e =
    let tested = passed (nat_le 1 (number_of m) && nat_le (number_of m) size) (number_of m) n e in
    let both = and_parts (nat_le 1 (number_of m)) (nat_le (number_of m) size) tested.0 in
    let least : 1 ≤ number_of m = grind (arith, nat_tests, both.0) in
    let greatest : number_of m ≤ size = grind (arith, nat_tests, both.1) in
    record { some = omega (arith, least, tested.1); most = omega (arith, greatest, tested.1) }
literal_within size (subscript.Item item adjustment) n e = absurd cc

from_within : (size : ℕ) (first : Option ℕ) (n : ℕ)
    → ((m : ℕ) → first ≡ Some m → IsLengthWithin size m) → length_from size first ≡ Some n → IsLengthWithin size n
from_within size None n within e = absurd cc
from_within size (Some m) n within e =
    let is : size + 1 - m ≡ n = cc in
    let first = within m refl in
    let few = first.some in
    let most = first.most in
    record { some = omega (arith, is, few, most); most = omega (arith, is, few, most) }

pub known_within : (size : ℕ) (first : written.Subscript) (length : Option written.Subscript) (n : ℕ)
    → known_length size first length ≡ Some n → IsLengthWithin size n
known_within size first None n e =
    from_within size (known_literal size first) n (λ m is. literal_within size first m is) e
known_within size first (Some length) n e = literal_within size length n e

-- a settled part ends within its item
pub record IsSettled (size before : ℕ) (first : written.Subscript) (known : Option ℕ) : Type 0 where
  pub length : ℕ
  pub known_is : known ≡ Some length
  pub end : before + length ≤ size

pub settled : (size : ℕ) (first : written.Subscript) (known : Option ℕ) (before : ℕ)
    → known_begin size first known ≡ Some before → IsSettled size before first known
settled size first None before e = absurd cc
settled size (subscript.Literal m) (Some n) before e =
    let tested = passed (nat_le 1 (number_of m) && nat_le (number_of m + n) (size + 1)) (number_of m - 1) before e in
    let both = and_parts (nat_le 1 (number_of m)) (nat_le (number_of m + n) (size + 1)) tested.0 in
    let least : 1 ≤ number_of m = grind (arith, nat_tests, both.0) in
    let last : number_of m + n ≤ size + 1 = grind (arith, nat_tests, both.1) in
    record { length = n; known_is = refl; end = omega (arith, least, last, tested.1) }
settled size (subscript.Item item adjustment) (Some n) before e = absurd cc
