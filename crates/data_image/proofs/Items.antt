-- Items, read and spelled.
use Rattle.std.proofs.Common.{◌≡◌, ℕ, true, false, eqb, List, [], ◌∷◌, ◌++◌, Ok, refl, sym, ap, subst, ◌∙◌}
use Rattle.std.proofs.Common.{append_assoc, inl, inr}
use Rattle.std.specs.Prelude.{Some}
use Rattle.items.specs.declared.item.Item.{Item}
use Rattle.items.specs.declared.item.Kind.{Kind}
use Rattle.items.specs.declared.item.Kind.TheVariants as k
use Rattle.items.specs.declared.numeric.Numeric.{Numeric}
use Rattle.items.specs.declared.usage.Usage.{Usage}
use Rattle.items.specs.declared.usage.Usage.TheVariants as u
use Rattle.items.specs.declared.usage.OperationalSign.TheVariants as s
use Rattle.data_image.specs.Spelling.{IsBytes, short_bytes, IsByte, IsAny}
use Rattle.data_image.specs.Reading.{◌>>=◌, or_value, byte_at, short_at, told_at}
use Rattle.data_image.specs.Items.{usage_byte, kind_bytes, item_bytes, HasByteDigits, IsItemSpelled, usage_of}
use Rattle.data_image.specs.Items.{plain_kind_of, numeric_at, numeric_kind_at, kind_from, kind_at, item_at}
use Rattle.data_image.proofs.Forms.{ok_is, chosen, takes_then, IsForm, part, part_again, Took, form_of, first_took}
use Rattle.data_image.proofs.Forms.{byte_is, behind_took, told_took, first_told, told_in, byte_told}
use Rattle.data_image.proofs.Numbers.{byte_form, short_form}

-- ---- usages

abbrev usages : List (ℕ × Usage)
usages =
    (1, u.Display s.Unsigned) ∷ (2, u.Display s.Trailing) ∷ (3, u.Display s.Leading) ∷ (4, u.Display s.TrailingSeparate)
    ∷ (5, u.Display s.LeadingSeparate)
    ∷ (6, u.Binary false) ∷ (7, u.Binary true) ∷ (8, u.Packed false) ∷ (9, u.Packed true) ∷ []

usage_told : (n : ℕ) → usage_of n ≡ first_told usages n
unfolding usage_of
usage_told n = refl

usage_again : (usage : Usage) → usage_of (usage_byte usage) ≡ Some usage
unfolding usage_of
usage_again (u.Display s.Unsigned) = refl
usage_again (u.Display s.Trailing) = refl
usage_again (u.Display s.Leading) = refl
usage_again (u.Display s.TrailingSeparate) = refl
usage_again (u.Display s.LeadingSeparate) = refl
usage_again (u.Binary false) = refl
usage_again (u.Binary true) = refl
usage_again (u.Packed false) = refl
usage_again (u.Packed true) = refl

abbrev usage_bytes : Usage → List ℕ
usage_bytes usage = usage_byte usage ∷ []

usage_form : IsForm (told_at usage_of) usage_bytes IsAny
usage_form =
    byte_told usage_bytes usage_of usages (
      (refl, tt),
      (
        (refl, tt),
        ((refl, tt), ((refl, tt), ((refl, tt), ((refl, tt), ((refl, tt), ((refl, tt), ((refl, tt), tt))))))),
      ),
    ) usage_told
    (λ usage. (usage_byte usage, refl, usage_again usage))

-- ---- numeric items

abbrev numeric_bytes : Numeric → List ℕ
numeric_bytes n = n.digits ∷ n.scale ∷ usage_byte n.usage ∷ []

abbrev IsNumericSpelled : Numeric → Type 0
IsNumericSpelled n = IsByte n.digits × IsByte n.scale

numeric_took : (bytes : List ℕ) (x : Numeric × List ℕ) → IsBytes bytes → numeric_at bytes ≡ Ok x
    → Took numeric_bytes IsNumericSpelled bytes x
unfolding numeric_at
numeric_took bytes x is e =
    let a = part byte_form bytes _ x is e in
    let b = part byte_form a.rest _ x a.takes.rest_fits a.goes in
    let c = part usage_form b.rest _ x b.takes.rest_fits b.goes in
    let two = takes_then bytes (a.value ∷ []) a.rest (b.value ∷ []) b.rest a.takes b.takes in
    let three = takes_then bytes (a.value ∷ b.value ∷ []) b.rest (usage_bytes c.value) c.rest two c.takes in
    let made : Numeric = record { digits = a.value; scale = b.value; usage = c.value } in
    subst (Took numeric_bytes IsNumericSpelled bytes) {x =
    (made, c.rest)} (ok_is (made, c.rest) x c.goes) (three, (a.sound, b.sound))

numeric_again : (n : Numeric) (rest : List ℕ) → IsNumericSpelled n → numeric_at (numeric_bytes n ++ rest) ≡ Ok (n, rest)
unfolding numeric_at byte_at
numeric_again n rest h = part_again usage_form n.usage rest
    (λ usage. Ok (record { digits = n.digits; scale = n.scale; usage = usage.0 }, usage.1)) tt

numeric_form : IsForm numeric_at numeric_bytes IsNumericSpelled
numeric_form = form_of numeric_at numeric_bytes IsNumericSpelled numeric_took numeric_again

-- ---- kinds

abbrev plain_kinds : List (ℕ × Kind)
plain_kinds =
    (1, k.Group) ∷ (2, k.Alphabetic false) ∷ (3, k.Alphabetic true) ∷ (4, k.Alphanumeric false)
    ∷ (5, k.Alphanumeric true)
    ∷ (6, k.AlphanumericEdited) ∷ (7, k.NumericEdited false) ∷ (8, k.NumericEdited true) ∷ []

kind_told : (n : ℕ) → plain_kind_of n ≡ first_told plain_kinds n
unfolding plain_kind_of
kind_told n = refl

plain_kind_is : (n : ℕ) (kind : Kind) → plain_kind_of n ≡ Some kind → (kind_bytes kind ≡ n ∷ []) × HasByteDigits kind
plain_kind_is n kind e =
    told_in kind_bytes HasByteDigits plain_kinds
    ((refl, tt), ((refl, tt), ((refl, tt), ((refl, tt), ((refl, tt), ((refl, tt), ((refl, tt), ((refl, tt), tt))))))))
    n kind (sym (kind_told n) ∙ e)

kind_from_took : (n : ℕ) (rest : List ℕ) (x : Kind × List ℕ) → IsBytes rest → kind_from n rest ≡ Ok x
    → Took kind_bytes HasByteDigits (n ∷ rest) x
kind_from_took n rest x is e =
    elim (chosen (eqb n 9) (numeric_kind_at rest) (or_value (plain_kind_of n) >>= λ kind. Ok (kind, rest)) (Ok x) e) [
      | inl p ↦ byte_is kind_bytes HasByteDigits 9 n rest x p.0
          (behind_took kind_bytes HasByteDigits numeric_form 9 k.Numeric (λ a. refl) (λ a h. h) rest x is p.1)
      | inr q ↦ told_took kind_bytes HasByteDigits plain_kind_of plain_kind_is n rest x is q.1
    ]

kind_took : (bytes : List ℕ) (x : Kind × List ℕ) → IsBytes bytes → kind_at bytes ≡ Ok x
    → Took kind_bytes HasByteDigits bytes x
unfolding kind_at
kind_took bytes x is e = first_took kind_bytes HasByteDigits kind_from kind_from_took bytes x is e

kind_again : (kind : Kind) (rest : List ℕ) → HasByteDigits kind → kind_at (kind_bytes kind ++ rest) ≡ Ok (kind, rest)
unfolding kind_at byte_at plain_kind_of
kind_again k.Group rest h = refl
kind_again (k.Alphabetic false) rest h = refl
kind_again (k.Alphabetic true) rest h = refl
kind_again (k.Alphanumeric false) rest h = refl
kind_again (k.Alphanumeric true) rest h = refl
kind_again k.AlphanumericEdited rest h = refl
kind_again (k.NumericEdited false) rest h = refl
kind_again (k.NumericEdited true) rest h = refl
kind_again (k.Numeric n) rest h = part_again numeric_form n rest (λ numeric. Ok (k.Numeric numeric.0, numeric.1)) h

kind_form : IsForm kind_at kind_bytes HasByteDigits
kind_form = form_of kind_at kind_bytes HasByteDigits kind_took kind_again

-- ---- items

item_took : (bytes : List ℕ) (x : Item × List ℕ) → IsBytes bytes → item_at bytes ≡ Ok x
    → Took item_bytes IsItemSpelled bytes x
unfolding item_at
item_took bytes x is e =
    let a = part kind_form bytes _ x is e in
    let b = part short_form a.rest _ x a.takes.rest_fits a.goes in
    let both = takes_then bytes (kind_bytes a.value) a.rest (short_bytes b.value) b.rest a.takes b.takes in
    let made : Item = record { kind = a.value; length = b.value } in
    subst (Took item_bytes IsItemSpelled bytes) {x =
    (made, b.rest)} (ok_is (made, b.rest) x b.goes) (both, (a.sound, b.sound))

item_again : (item : Item) (rest : List ℕ) → IsItemSpelled item → item_at (item_bytes item ++ rest) ≡ Ok (item, rest)
unfolding item_at
item_again item rest h =
    ap item_at (append_assoc (kind_bytes item.kind) (short_bytes item.length) rest)
    ∙ part_again kind_form item.kind (short_bytes item.length ++ rest)
    (λ kind. short_at kind.1 >>= λ length. Ok (record { kind = kind.0; length = length.0 }, length.1)) h.0
    ∙ part_again short_form item.length rest (λ length. Ok (record { kind = item.kind; length = length.0 }, length.1))
    h.1

pub item_form : IsForm item_at item_bytes IsItemSpelled
item_form = form_of item_at item_bytes IsItemSpelled item_took item_again
