-- The two sides of a relation by their characters.
use Rattle.std.proofs.Common.{◌≡◌, ◌&&◌, ℕ, Bool, true, false, List, Option, Some, None, refl, ap, sym, subst, ◌∙◌}
use Rattle.std.specs.Option.{option_map}
use Rattle.std.specs.declared.cmp.Ordering.{Ordering}
use Rattle.std.specs.declared.cmp.Ordering.TheVariants.{Equal}
use Rattle.std.specs.Ordering.{ordering_reverse}
use Rattle.items.specs.declared.item.Kind.{Kind}
use Rattle.items.specs.declared.item.Kind.TheVariants as k
use Rattle.items.specs.declared.item.Item.{Item}
use Rattle.items.specs.declared.taken.Taken.{Taken}
use Rattle.items.specs.declared.taken.Taken.TheVariants as t
use Rattle.items.specs.Texts.{characters, characters_in, plain_bytes}
use Rattle.text_ops.specs.Compare.{order_of_texts, is_number_kind, is_number_operand, is_numeric_item, both, size_of}
use Rattle.text_ops.specs.Compare.{size_in}
use Rattle.text_ops.proofs.Orders.{texts_reversed}

plain_kind : (kind : Kind) (bytes : List ℕ) → is_number_kind kind ≡ false → characters_in kind bytes ≡ Some bytes
plain_kind (k.Numeric n) bytes e = cc
plain_kind k.Group bytes e = refl
plain_kind (k.Alphabetic j) bytes e = refl
plain_kind (k.Alphanumeric j) bytes e = refl
plain_kind k.AlphanumericEdited bytes e = refl
plain_kind (k.NumericEdited b) bytes e = refl

-- the characters of an operand that is no numeric item
pub plain : (one : Taken) (bytes : List ℕ) (size : ℕ) → is_numeric_item one ≡ false
    → characters one bytes size ≡ Some (plain_bytes one bytes size)
plain (t.Item item) bytes size e = plain_kind item.kind bytes e
plain (t.Figurative constant) bytes size e = refl
plain t.All bytes size e = refl

both_right : (o : Option (List ℕ)) (p : List ℕ)
    → both order_of_texts o (Some p) ≡ option_map (λ text. order_of_texts text p) o
both_right None p = refl
both_right (Some text) p = refl

both_left : (o : Option (List ℕ)) (p : List ℕ)
    → both order_of_texts (Some p) o ≡ option_map ordering_reverse (option_map (λ text. order_of_texts text p) o)
both_left None p = refl
both_left (Some text) p = ap Some (texts_reversed p text)

-- an item before an operand that is no numeric item
pub item_first : (item : Item) (ones : List ℕ) (other : Taken) (others : List ℕ)
    → is_numeric_item other ≡ false → both order_of_texts (characters (t.Item item) ones (size_of other others))
    (characters other others (size_of (t.Item item) ones)) ≡ option_map (λ text.
    order_of_texts text (plain_bytes other others (size_in item.kind item.length))) (characters_in item.kind ones)
item_first item ones other others e =
    let size = size_in item.kind item.length in
    ap (λ o. both order_of_texts (characters_in item.kind ones) o) (plain other others size e)
    ∙ both_right (characters_in item.kind ones) (plain_bytes other others size)

-- an item after one
pub item_second : (one : Taken) (ones : List ℕ) (item : Item) (others : List ℕ)
    → is_numeric_item one ≡ false → both order_of_texts (characters one ones (size_of (t.Item item) others))
    (characters (t.Item item) others (size_of one ones)) ≡ option_map ordering_reverse (option_map (λ text.
    order_of_texts text (plain_bytes one ones (size_in item.kind item.length))) (characters_in item.kind others))
item_second one ones item others e =
    let size = size_in item.kind item.length in
    ap (λ o. both order_of_texts o (characters_in item.kind others)) (plain one ones size e)
    ∙ both_left (characters_in item.kind others) (plain_bytes one ones size)

-- not both are numbers
number_item : (one : Taken) → is_numeric_item one ≡ true → is_number_operand one ≡ true
number_item (t.Item item) e = e
number_item (t.Figurative constant) e = cc
number_item t.All e = cc

both_false : (b c : Bool) → b ≡ true → c ≡ true → (b && c) ≡ false → ⊥
both_false true true p q e = cc
both_false true false p q e = cc
both_false false c p q e = cc

pub no_item : (one other : Taken) (b : Bool) → is_numeric_item one ≡ b
    → (is_number_operand one && is_number_operand other) ≡ false → is_numeric_item other ≡ true
    → is_numeric_item one ≡ false
no_item one other false is e number = is
no_item one other true is e number =
    let first-is = number_item one is in
    let second-is = number_item other number in
    absurd (both_false (is_number_operand one) (is_number_operand other) first-is second-is e)

pub both_reversed : (one other : Option (List ℕ))
    → both order_of_texts one other ≡ option_map ordering_reverse (both order_of_texts other one)
both_reversed None None = refl
both_reversed None (Some other) = refl
both_reversed (Some one) None = refl
both_reversed (Some one) (Some other) = ap Some (texts_reversed one other)

pub no_numeric_item : (one : Taken) → ((item : Item) → one ≡ t.Item item → ⊥) → is_numeric_item one ≡ false
no_numeric_item (t.Item item) never = absurd (never item refl)
no_numeric_item (t.Figurative constant) never = refl
no_numeric_item t.All never = refl

-- two that are repeated
pub no_items : (one : Taken) (ones : List ℕ) (other : Taken) (others : List ℕ) → ((item : Item) → one ≡ t.Item item → ⊥)
    → ((item : Item) → other ≡ t.Item item → ⊥) → both order_of_texts (characters one ones (size_of other others))
    (characters other others (size_of one ones)) ≡ Some Equal
unfolding order_of_texts
no_items (t.Item item) ones other others a b = absurd (a item refl)
no_items (t.Figurative c) ones (t.Item item) others a b = absurd (b item refl)
no_items t.All ones (t.Item item) others a b = absurd (b item refl)
no_items (t.Figurative c) ones (t.Figurative d) others a b = refl
no_items (t.Figurative c) ones t.All others a b = refl
no_items t.All ones (t.Figurative d) others a b = refl
no_items t.All ones t.All others a b = refl

-- the three ways of a plain operand and another
abbrev pub Plain : Taken → List ℕ → Taken → List ℕ → Option Ordering → Type 0
Plain one ones other others result = result
    ≡ both order_of_texts (characters one ones (size_of other others)) (characters other others (size_of one ones))

pub behind : (one : Taken) (ones : List ℕ) (other : Taken) (others : List ℕ) (item : Item) (result : Option Ordering)
    → is_numeric_item one ≡ false → other ≡ t.Item item → result ≡ option_map ordering_reverse (option_map (λ text.
    order_of_texts text (plain_bytes one ones (size_in item.kind item.length))) (characters_in item.kind others))
    → Plain one ones other others result
behind one ones other others item result kind is e =
    let P : Taken → Type 0 = λ o. Plain one ones o others result in
    subst P (sym is) (e ∙ sym (item_second one ones item others kind))

pub before : (one : Taken) (ones : List ℕ) (other : Taken) (others : List ℕ) (item : Item) (result : Option Ordering)
    → ((i : Item) → other ≡ t.Item i → ⊥) → one ≡ t.Item item
    → result ≡ option_map (λ text. order_of_texts text (plain_bytes other others (size_in item.kind item.length)))
    (characters_in item.kind ones) → Plain one ones other others result
before one ones other others item result never is e =
    let P : Taken → Type 0 = λ o. Plain o ones other others result in
    subst P (sym is) (e ∙ sym (item_first item ones other others (no_numeric_item other never)))

-- the other way round
pub turned : (one : Taken) (ones : List ℕ) (other : Taken) (others : List ℕ) (told : Option Ordering)
    → Plain other others one ones told → Plain one ones other others (option_map ordering_reverse told)
turned one ones other others told e =
    ap (option_map ordering_reverse) e
    ∙ sym (both_reversed (characters one ones (size_of other others)) (characters other others (size_of one ones)))
