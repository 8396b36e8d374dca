-- What senders give: the size of numbers, and when a number is wanted.
use Rattle.std.proofs.Common.{◌≡◌, ◌<◌, ◌≤◌, ◌^◌, ℕ, Bool, true, false, not, ◌&&◌, ◌||◌, ℤ, nat_lt, if◌then◌else◌}
use Rattle.std.proofs.Common.{unsigned_abs, List, length, Option, Some, None, refl, subst, arith}
use Rattle.std.proofs.lemmas.Bool.Decides.{nat_tests}
use Rattle.std.proofs.lemmas.Bool.{leb-true}
use Rattle.decimal18.specs.Fraction.{Fraction}
use Rattle.items.specs.declared.numeric.Numeric.{Numeric}
use Rattle.items.specs.declared.item.Item.{Item}
use Rattle.items.specs.declared.item.Kind.{Kind}
use Rattle.items.specs.declared.item.Kind.TheVariants as k
use Rattle.items.specs.declared.taken.Taken.{Taken}
use Rattle.items.specs.Numbers.{IsNumeric, length_of}
use Rattle.items.specs.Items.{IsItem, IsOfLength, HasLengthOf}
use Rattle.items.specs.Values.{integer_in, is_held, value_if_held, value_of}
use Rattle.edited_move.specs.Moves.{is_readable, is_group, is_group_kind, has_group, needs_number, is_number_sender}
use Rattle.edited_move.specs.Moves.{is_short}

split : (a b : Bool) → (a && b) ≡ true → (a ≡ true) × (b ≡ true)
split true b e = (refl, e)
split false b e = cc

some_is : {A : Type 0} {a b : A} → Some a ≡ Some b → a ≡ b
some_is e = cc

below : (n : Numeric) (z : ℤ) (x : Fraction) → value_if_held n (Some z) ≡ Some x
    → unsigned_abs x.coefficient < 10 ^ n.digits
below n z x e = go (is_held n z) refl e
  where
    go : (b : Bool) → is_held n z ≡ b → (if b then Some (record { coefficient = z; scale = n.scale }) else None) ≡ Some
        x → unsigned_abs x.coefficient < 10 ^ n.digits
    go true is e =
        let small = (split (nat_lt (unsigned_abs z) (10 ^ n.digits)) _ is).0 in
        let less : unsigned_abs z < 10 ^ n.digits = grind (arith, nat_tests) in
        subst (λ (y : Fraction). unsigned_abs y.coefficient < 10 ^ n.digits) (some_is e) less
    go false is e = cc

-- the number of bytes has no more digits than the item
pub read_small : (n : Numeric) (bytes : List ℕ) (x : Fraction) → value_of n bytes ≡ Some x
    → unsigned_abs x.coefficient < 10 ^ n.digits
unfolding value_of
read_small n bytes x e = go (integer_in n.usage bytes) e
  where
    go : (o : Option ℤ) → value_if_held n o ≡ Some x → unsigned_abs x.coefficient < 10 ^ n.digits
    go None e = cc
    go (Some z) e = below n z x e

pub numeric_form : (item : Item) (n : Numeric) → item.kind ≡ k.Numeric n → IsItem item
    → IsNumeric n × (item.length ≡ length_of n)
numeric_form item n e h = subst (λ kind. IsOfLength kind item.length) e h

-- characters from which a number is wanted
readable_form : (kind : Kind) (size : ℕ) → IsOfLength kind size → is_readable kind size ≡ true
    → ((n : Numeric) → kind ≡ k.Numeric n → ⊥) → (1 ≤ size) × (size ≤ 18)
readable_form (k.Numeric n) size form short other = absurd (other n refl)
readable_form k.Group size form short other = (form.0, leb-true size 18 short)
readable_form (k.Alphabetic right) size form short other = (form.0, leb-true size 18 short)
readable_form (k.Alphanumeric right) size form short other = (form.0, leb-true size 18 short)
readable_form k.AlphanumericEdited size form short other = (form.0, leb-true size 18 short)
readable_form (k.NumericEdited blank) size form short other = (form.0, leb-true size 18 short)

pub readable : (item : Item) (bytes : List ℕ) → HasLengthOf item bytes → is_readable item.kind item.length ≡ true
    → ((n : Numeric) → item.kind ≡ k.Numeric n → ⊥) → (1 ≤ length bytes) × (length bytes ≤ 18)
readable item bytes h short other =
    let f = readable_form item.kind item.length h.form short other in
    let size = h.size in (omega arith, omega arith)

pub short_number : (receiver : Item) (taken : Taken) → is_short receiver taken ≡ true → has_group receiver taken ≡ false
    → needs_number receiver.kind ≡ true → is_number_sender taken ≡ true
short_number receiver taken short group wants = go (needs_number receiver.kind) (is_group taken)
    (is_group_kind receiver.kind) (is_number_sender taken) short group wants
  where
    go : (wants group kind sender : Bool) → (not wants || group || sender) ≡ true → (group || kind) ≡ false
        → wants ≡ true → sender ≡ true
    go true false kind sender e f g = e
    go true true kind sender e f g = cc
    go false group kind sender e f g = cc
