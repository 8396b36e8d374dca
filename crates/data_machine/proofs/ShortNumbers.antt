-- Numbers of 64 bits: their order with integers, their whole parts, and what items keep of them.
use Rattle.std.proofs.Common.{◌≡◌, ℕ, suc, ◌+◌, ◌-◌, ◌*◌, ◌/◌, ◌^◌, ◌<◌, Bool, false, sym, ◌∙◌, ap, subst, arith, ℤ}
use Rattle.std.proofs.Common.{pos, negsuc, neg_ℤ, ◌*ℤ◌, unsigned_abs, if◌then◌else◌, nat_lt, Result, Ok, ◌%◌, ◌==◌}
use Rattle.std.proofs.Common.{int_div, Some, None, inl, inr}
use Rattle.std.specs.Ordering.{int_cmp}
use Rattle.std.specs.declared.cmp.Ordering.{Ordering}
use Rattle.std.proofs.lemmas.Bool.{cases_lt, le-leb, le-ltb, lt-ltb}
use Rattle.decimal18.specs.Fraction.{Fraction, aligned_coefficient, absolute, signed_integer, is_negative}
use Rattle.decimal18.specs.Arithmetic.{size_error}
use Rattle.decimal18.specs.Order.{order}
use Rattle.decimal18.specs.Receiver.{carry, digits_at, fitted_decimal, low_digits}
use Rattle.decimal18.specs.declared.size_error.Size.{Size}
use Rattle.decimal18.specs.declared.receiver.Rounding.{Rounding}
use Rattle.decimal18.specs.declared.receiver.Rounding.TheVariants.{Truncated}
use Rattle.decimal18.specs.Digits.{digit_text, integer_of}
use Rattle.decimal18.proofs.SumLaws.{div_one}
use Rattle.std.proofs.lemmas.Nat.{mod_below}
use Rattle.std.proofs.Math.Nat.{mod-eq_of_lt}
use Rattle.decimal18.proofs.Receivers.{fitted_by, low_by}
use Rattle.decimal18.proofs.Signs.{signed_itself}
use Rattle.items.specs.declared.usage.Usage.{Usage}
use Rattle.items.specs.declared.usage.Usage.TheVariants as usage
use Rattle.items.specs.declared.usage.OperationalSign.TheVariants as sign
use Rattle.items.specs.declared.numeric.Numeric.{Numeric}
use Rattle.items.specs.Numbers.{is_signed, usage_is_signed, usage_length, length_of}
use Rattle.items.specs.Display.{display_bytes}
use Rattle.items.specs.Values.{bytes_of, spelled_in}
use Rattle.items.specs.declared.item.Kind.{Kind}
use Rattle.edited_move.specs.Moves.{received_number}
use Rattle.source_tree.specs.Evaluated.{◌>>=◌, evaluation_of}
use Rattle.source_tree.specs.References.{ItemPlace, storage_with}
use Rattle.source_tree.specs.Computed.{ArithmeticValue}
use Rattle.source_tree.specs.Arithmetic.{NumberReceiver, StoreResult, held_by, receiver_of, rounding_of, storing_fitted}
use Rattle.source_tree.specs.Arithmetic.{storing_computed}
use Rattle.data_instructions.specs.Scratch.{Scratch, Step, Continues}
use Rattle.data_instructions.specs.Table.{stored_number}
use Rattle.data_machine.specs.Superinstructions.{storing_number}
use Rattle.data_machine.specs.KeptAtScale.{at_scale, FitsDigits, bytes_at_scale, KeepsAs}

times_one : (z : ℤ) → z *ℤ pos 1 ≡ z
times_one (pos n) = let same : n * 1 ≡ n = omega arith in ap pos same
times_one (negsuc n) = let same : suc n * 1 ≡ suc n = omega arith in ap (λ m. neg_ℤ (pos m)) same

-- the order of a number and an integer, at the scale of the number
pub order_by : (x y : Fraction) (a b : ℤ) (o : Ordering) → a ≡ x.coefficient → y.scale ≡ 0
    → b ≡ aligned_coefficient y x.scale → o ≡ int_cmp a b → o ≡ order x y
unfolding order
order_by x y a b o first none second is =
    let zeros : x.scale - y.scale ≡ x.scale = omega arith in
    is
    ∙ ap (λ z. int_cmp z b) (first ∙ sym (times_one x.coefficient) ∙ ap (λ n. x.coefficient *ℤ pos (10 ^ n)) (sym none))
    ∙ ap (int_cmp (x.coefficient *ℤ pos (10 ^ y.scale))) (second ∙ ap (λ n. y.coefficient *ℤ pos (10 ^ n)) zeros)

-- the digits of a number at its own scale
own_digits : (m scale : ℕ) (rounding : Rounding) → digits_at m scale scale rounding ≡ m
own_digits m scale rounding =
    let none : scale - scale ≡ 0 = omega arith in
    let once : m * 1 ≡ m = omega arith in
    ap (λ (b : Bool). if b then m * 10 ^ (scale - scale)
    else m / 10 ^ (scale - scale) + carry rounding m (scale - scale)) (le-leb scale scale (omega arith))
    ∙ ap (λ n. m * 10 ^ n) none ∙ once

-- What a receiver of a number's own scale holds, where it has no more digits, is that number.
pub fitted_same : (x : Fraction) (n : ℤ) (digits scale : ℕ) (rounding : Rounding) → n ≡ x.coefficient → x.scale ≡ scale
    → unsigned_abs n < 10 ^ digits
    → fitted_decimal x digits scale rounding ≡ Ok (record { coefficient = n; scale = scale })
fitted_same x n digits scale rounding same own small =
    let held : ℕ → Result Fraction Size = λ m. if nat_lt m (10 ^ digits)
    then Ok (record { coefficient = signed_integer (is_negative x.coefficient) m; scale = scale }) else size_error in
    let m : ℕ = unsigned_abs x.coefficient in
    let less : m < 10 ^ digits = subst (λ (z : ℤ). unsigned_abs z < 10 ^ digits) same small in
    fitted_by x digits scale rounding
    ∙ ap held (ap (λ from. digits_at m from scale rounding) own ∙ own_digits m scale rounding)
    ∙ ap (λ (b : Bool). if b
    then Ok (record { coefficient = signed_integer (is_negative x.coefficient) m; scale = scale }) else size_error)
    (lt-ltb m (10 ^ digits) less)
    ∙ ap (λ (z : ℤ). Ok (record { coefficient = z; scale = scale })) (signed_itself x.coefficient ∙ sym same)

abbrev given : Fraction → Result Fraction Size
given f = Ok f

same_given : (f g : Fraction) → given f ≡ given g → f ≡ g
same_given f g e = cc

-- What fits is all that a receiver takes of a number where no size error is told.
pub fitted_low : (x f : Fraction) (digits scale : ℕ) (rounding : Rounding)
    → fitted_decimal x digits scale rounding ≡ Ok f → low_digits x digits scale rounding ≡ f
fitted_low x f digits scale rounding is =
    let m : ℕ = digits_at (unsigned_abs x.coefficient) x.scale scale rounding in
    let held : ℕ → Fraction =
    λ n. record { coefficient = signed_integer (is_negative x.coefficient) n; scale = scale } in
    let chosen : Bool → Result Fraction Size = λ b. if b then given (held m) else size_error in
    let fitted : chosen (nat_lt m (10 ^ digits)) ≡ given f = sym (fitted_by x digits scale rounding) ∙ is in
    elim (cases_lt m (10 ^ digits)) [
      | inl below ↦
          low_by x digits scale rounding ∙ ap held (mod-eq_of_lt below)
          ∙ same_given (held m) f (sym (ap chosen (lt-ltb m (10 ^ digits) below)) ∙ fitted)
      | inr above ↦
          let none : size_error ≡ given f = sym (ap chosen (le-ltb m (10 ^ digits) above)) ∙ fitted in
          absurd cc
    ]

-- So a numeric item receives a number that fits as it keeps it.
pub received_fitted : (n : Numeric) (x : Fraction) (z : ℤ)
    → fitted_decimal x n.digits n.scale Truncated ≡ Ok (record { coefficient = z; scale = n.scale })
    → bytes_of n (held_by n (at_scale n z)) ≡ bytes_of n (received_number n x)
received_fitted n x z is =
    ap (λ (f : Fraction). bytes_of n (if is_signed n then f else absolute f))
    (sym (fitted_low x (at_scale n z) n.digits n.scale Truncated is))

-- What an unsigned item in DISPLAY usage holds is digits alone.
pub unsigned_bytes : (n : Numeric) (z : ℤ) → n.usage ≡ usage.Display sign.Unsigned
    → bytes_of n (held_by n (at_scale n z)) ≡ digit_text n.digits (unsigned_abs z)
unfolding bytes_of
unsigned_bytes n z is =
    let x = at_scale n z in
    ap (bytes_of n) (ap (λ (u : Usage). if usage_is_signed u then x else absolute x) is)
    ∙ ap (λ (u : Usage). spelled_in u n.digits false (unsigned_abs z)) is

pub unsigned_length : (n : Numeric) → n.usage ≡ usage.Display sign.Unsigned → length_of n ≡ n.digits
unsigned_length n is = let none : n.digits + 0 ≡ n.digits =
    omega arith in ap (λ (u : Usage). usage_length u n.digits) is ∙ none

-- What an item in DISPLAY usage holds that has its sign in the last digit: the number's own digits and sign.
pub trailing_bytes : (n : Numeric) (z : ℤ) → n.usage ≡ usage.Display sign.Trailing
    → bytes_of n (held_by n (at_scale n z)) ≡ display_bytes sign.Trailing n.digits (is_negative z) (unsigned_abs z)
unfolding bytes_of
trailing_bytes n z is =
    let x = at_scale n z in
    ap (bytes_of n) (ap (λ (u : Usage). if usage_is_signed u then x else absolute x) is)
    ∙ ap (λ (u : Usage). spelled_in u n.digits (is_negative z) (unsigned_abs z)) is

pub trailing_length : (n : Numeric) → n.usage ≡ usage.Display sign.Trailing → length_of n ≡ n.digits
trailing_length n is = let none : n.digits + 0 ≡ n.digits =
    omega arith in ap (λ (u : Usage). usage_length u n.digits) is ∙ none

-- What is kept as it is of a number of an item's own scale is stored, with no size error.
module _ (place : ItemPlace) (rounded keep : Bool) (x : ArithmeticValue) (n : ℤ)
    (kept : KeepsAs place.item.kind rounded x n) where
  abbrev receiver : NumberReceiver
  receiver = record {
    digits = kept.item.digits;
    scale = kept.item.scale;
    bytes = λ y. bytes_of kept.item (held_by kept.item y);
  }

  pub kept_digits : FitsDigits place.item.kind n
  kept_digits = subst (λ (k : Kind). FitsDigits k n) (sym kept.numeric) kept.digits

  pub stored_as : (s : Scratch) → storing_number rounded keep x place s ≡ Continues
      (record s { storage = storage_with place (bytes_at_scale place.item.kind n) s.storage })
  stored_as s =
      let before : StoreResult = record { storage = s.storage; size_error = s.truth } in
      let by : ArithmeticValue → Step =
      λ y. stored_number (Ok (storing_computed keep (rounding_of rounded) place receiver y before)) s in
      ap (λ to.
      stored_number (evaluation_of to >>= (λ to. Ok (storing_computed keep (rounding_of rounded) place to x before))) s)
      (ap (λ (k : Kind). receiver_of k place.editing) kept.numeric)
      ∙ ap by kept.some
      ∙ ap (λ fit.
      stored_number (Ok (storing_fitted keep (rounding_of rounded) place receiver kept.number fit before)) s) kept.fits
      ∙ ap (λ (k : Kind). Continues (record s { storage = storage_with place (bytes_at_scale k n) s.storage }))
      (sym kept.numeric)

-- an integer is its own whole part
pub whole_integer : (x : Fraction) (z : ℤ) → z ≡ x.coefficient → x.scale ≡ 0 → integer_of x ≡ Some z
whole_integer x z same none =
    let least : unsigned_abs x.coefficient % 1 < 1 = mod_below (unsigned_abs x.coefficient) 1 (omega arith) in
    let rest : unsigned_abs x.coefficient % 1 ≡ 0 = omega arith in
    ap (λ n. if unsigned_abs x.coefficient % 10 ^ n == 0 then Some (int_div x.coefficient (pos (10 ^ n))) else None)
    none
    ∙ ap (λ (r : ℕ). if r == 0 then Some (int_div x.coefficient (pos 1)) else None) rest
    ∙ ap Some (div_one x.coefficient ∙ sym same)
