-- Literals of a range, compared.
use Rattle.std.proofs.Common.{◌≡◌, ℕ, ◌≤◌, Bool, true, false, not, ◌&&◌, ◌||◌, List, ◌++◌, length}
use Rattle.std.proofs.Common.{Some, refl, sym, ap, ◌∙◌, length-append, unsigned_abs, zero}
use Rattle.std.proofs.Common.{suc, ◌+◌, ◌-◌, arith}
use Rattle.std.specs.declared.cmp.Ordering.{Ordering}
use Rattle.std.specs.declared.cmp.Ordering.TheVariants.{Less, Equal, Greater}
use Rattle.std.specs.Ordering.{is_gt}
use Rattle.std.specs.Char.{is_ascii_digit}
use Rattle.std.specs.List.{list_all}
use Rattle.std.proofs.lemmas.List.Folds.{list_all-append}
use Rattle.decimal18.specs.Fraction.{Fraction, is_negative, signed_integer}
use Rattle.decimal18.specs.Digits.{digits_after}
use Rattle.decimal18.specs.Order.{order}
use Rattle.items.specs.declared.numeric.Numeric.{Numeric}
use Rattle.items.specs.Numbers.{IsNumeric, CanHold, has_sign}
use Rattle.items.specs.Values.{value_of, bytes_of}
use Rattle.lexical.specs.declared.number.Sign.{Sign}
use Rattle.lexical.specs.declared.number.Sign.TheVariants as sign
use Rattle.lexical.specs.declared.number.NumericLiteral.{NumericLiteral}
use Rattle.source_tree.specs.declared.literal.Figurative.TheVariants as figurative
use Rattle.source_tree.specs.declared.literal.LiteralValue.TheVariants as literal
use Rattle.text_ops.specs.Compare as compare
use Rattle.text_ops.specs.Compare.{comparison_of, order_of_texts, both}
use Rattle.source_tree.specs.declared.literal.LiteralValue.{LiteralValue}
use Rattle.source_tree.specs.Literals.{Sender, literal_sender, literal_number, literal_numeric, literal_sign, is_minus}
use Rattle.source_tree.specs.ValueRules.{has_form, are_some, once, order_once, literals_order, is_greater}
use Rattle.data_entries.proofs.Digits.{digits_below}
use Rattle.entry_rules.specs.Ranges.{text_taken, IsNumeral, number_of_literal}

-- two texts compared are in the order of texts
pub texts : (ones others : List ℕ)
    → comparison_of (text_taken ones) ones (text_taken others) others ≡ Some (order_of_texts ones others)
unfolding comparison_of
texts ones others = refl

pub once_order : (one other : Sender) (ones others : List ℕ) → Some ones ≡ once one.taken one.bytes
    → Some others ≡ once other.taken other.bytes
    → literals_order one other ≡ comparison_of (text_taken ones) ones (text_taken others) others
once_order one other ones others e f =
    ap (λ o. order_once one other o (once other.taken other.bytes)) (sym e)
    ∙ ap (λ o. order_once one other (Some ones) o) (sym f)
    ∙ sym (texts ones others)

-- ---- numbers

abbrev ComeBack : Type 0
ComeBack = (n : Numeric) (x : Fraction) → IsNumeric n → CanHold n x → value_of n (bytes_of n x) ≡ Some x

and_left : (a b : Bool) → (a && b) ≡ true → a ≡ true
and_left true b e = refl
and_left false b e = cc

and_right : (a b : Bool) → (a && b) ≡ true → b ≡ true
and_right true b e = e
and_right false b e = cc

magnitude : (b : Bool) (n : ℕ) → unsigned_abs (signed_integer b n) ≡ n
magnitude false n = refl
magnitude true zero = refl
magnitude true (suc n) = refl

all_joined : (xs ys : List ℕ) → list_all is_ascii_digit xs ≡ true → list_all is_ascii_digit ys ≡ true
    → list_all is_ascii_digit (xs ++ ys) ≡ true
all_joined xs ys e f = list_all-append is_ascii_digit xs ys ∙ ap (λ b. b && list_all is_ascii_digit ys) e ∙ f

count_parts : (n : ℕ) → are_some 18 n ≡ true → (1 ≤ n) × (n ≤ 18)
count_parts n e = (grind arith, grind arith)

sign_holds : (s : Sign) (n : ℕ) → has_sign (literal_sign s) || not (is_negative (signed_integer (is_minus s) n)) ≡ true
sign_holds sign.Unsigned n = refl
sign_holds sign.Plus n = refl
sign_holds sign.Minus n = refl

-- A literal with the form of one is the number that its bytes are.
came_back : ComeBack → (one : NumericLiteral) → has_form (literal.Numeric one) ≡ true
    → value_of (literal_numeric one) (bytes_of (literal_numeric one) (literal_number one)) ≡ Some (literal_number one)
came_back back one e =
    let both_digits : Bool = list_all is_ascii_digit one.whole && list_all is_ascii_digit one.decimals in
    let count : Bool = are_some 18 (length (one.whole ++ one.decimals)) in
    let digits = and_left both_digits count e in
    let written = and_left (list_all is_ascii_digit one.whole) (list_all is_ascii_digit one.decimals) digits in
    let parts = count_parts (length (one.whole ++ one.decimals)) (and_right both_digits count e) in
    let below = digits_below 0 (one.whole ++ one.decimals) (all_joined one.whole one.decimals written
    (and_right (list_all is_ascii_digit one.whole) (list_all is_ascii_digit one.decimals) digits)) in
    let same = magnitude (is_minus one.sign) (digits_after 0 (one.whole ++ one.decimals)) in
    let joined = length-append one.whole one.decimals in
    back (literal_numeric one) (literal_number one)
    (record { some = parts.0; most = parts.1; decimals = omega (arith, joined) })
    (record {
      scale = refl;
      digits = omega (arith, below, same);
      sign = sign_holds one.sign (digits_after 0 (one.whole ++ one.decimals));
    })

sent : ComeBack → (value : LiteralValue) → IsNumeral value
    → compare.operand_number (literal_sender value).taken (literal_sender value).bytes ≡ Some (number_of_literal value)
sent back (literal.Numeric one) h = came_back back one h.form
sent back (literal.Figurative constant) h = refl
sent back (literal.Nonnumeric bytes) h = let no : false ≡ true = h.class in cc
sent back (literal.All bytes) h = let no : false ≡ true = h.class in cc

is_sent : (value : LiteralValue) → IsNumeral value → compare.is_number_operand (literal_sender value).taken ≡ true
is_sent (literal.Numeric one) h = refl
is_sent (literal.Figurative figurative.Zero) h = refl
is_sent (literal.Figurative figurative.Space) h = h.class
is_sent (literal.Figurative figurative.HighValue) h = h.class
is_sent (literal.Figurative figurative.LowValue) h = h.class
is_sent (literal.Figurative figurative.Quote) h = h.class
is_sent (literal.Nonnumeric bytes) h = h.class
is_sent (literal.All bytes) h = h.class

numbers : ComeBack → (one other : LiteralValue) → IsNumeral one → IsNumeral other
    → comparison_of (literal_sender one).taken (literal_sender one).bytes (literal_sender other).taken
    (literal_sender other).bytes ≡ Some (order (number_of_literal one) (number_of_literal other))
unfolding comparison_of
numbers back one other h k =
    rw (is_sent one h) (rw (is_sent other k)
    (ap (λ o. both order o (compare.operand_number (literal_sender other).taken (literal_sender other).bytes))
    (sent back one h)
    ∙ ap (λ o. both order (Some (number_of_literal one)) o) (sent back other k)))

greater_order : (o : Ordering) → is_gt o ≡ is_greater (Some o)
greater_order Less = refl
greater_order Equal = refl
greater_order Greater = refl

abbrev Same : LiteralValue → LiteralValue → Type 0
Same one other = is_gt (order (number_of_literal one) (number_of_literal other))
    ≡ is_greater (literals_order (literal_sender one) (literal_sender other))

never : {A : Type 0} → false ≡ true → A
never e = cc

beside_zero : ComeBack → (other : LiteralValue) → IsNumeral (literal.Figurative figurative.Zero) → IsNumeral other
    → Same (literal.Figurative figurative.Zero) other
unfolding order order_of_texts
beside_zero back (literal.Numeric other) h k =
    greater_order (order (number_of_literal (literal.Figurative figurative.Zero)) (literal_number other))
    ∙ ap is_greater (sym (numbers back (literal.Figurative figurative.Zero) (literal.Numeric other) h k))
beside_zero back (literal.Figurative figurative.Zero) h k = refl
beside_zero back (literal.Figurative figurative.Space) h k = never k.class
beside_zero back (literal.Figurative figurative.HighValue) h k = never k.class
beside_zero back (literal.Figurative figurative.LowValue) h k = never k.class
beside_zero back (literal.Figurative figurative.Quote) h k = never k.class
beside_zero back (literal.Nonnumeric bytes) h k = never k.class
beside_zero back (literal.All bytes) h k = never k.class

pub greater_numbers : ComeBack → (one other : LiteralValue) → IsNumeral one → IsNumeral other → Same one other
greater_numbers back (literal.Numeric one) other h k =
    greater_order (order (literal_number one) (number_of_literal other))
    ∙ ap is_greater (sym (numbers back (literal.Numeric one) other h k))
greater_numbers back (literal.Figurative figurative.Zero) other h k = beside_zero back other h k
greater_numbers back (literal.Figurative figurative.Space) other h k = never h.class
greater_numbers back (literal.Figurative figurative.HighValue) other h k = never h.class
greater_numbers back (literal.Figurative figurative.LowValue) other h k = never h.class
greater_numbers back (literal.Figurative figurative.Quote) other h k = never h.class
greater_numbers back (literal.Nonnumeric bytes) other h k = never h.class
greater_numbers back (literal.All bytes) other h k = never h.class
