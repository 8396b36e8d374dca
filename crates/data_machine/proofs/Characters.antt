-- The comparison of items of characters: of one character each, and of one length.
use Rattle.std.proofs.Common.{◌≡◌, ℕ, List, [], ◌∷◌, length, Option, Some, refl, sym, ◌∙◌, ap}
use Rattle.std.specs.Prelude.{Bool, true, false, not, ◌&&◌, if◌then◌else◌, Ok}
use Rattle.std.specs.Cmp.Lexicographic.{slice_cmp}
use Rattle.std.specs.Ordering.{nat_cmp, ordering_then}
use Rattle.std.specs.declared.cmp.Ordering.{Ordering}
use Rattle.std.specs.declared.cmp.Ordering.TheVariants.{Less, Equal, Greater}
use Rattle.decimal18.specs.Order.{order}
use Rattle.items.specs.declared.item.Item.{Item}
use Rattle.items.specs.declared.item.Kind.{Kind}
use Rattle.items.specs.declared.item.Kind.TheVariants as k
use Rattle.items.specs.declared.taken.Taken.{Taken}
use Rattle.items.specs.declared.taken.Taken.TheVariants as t
use Rattle.items.specs.Texts.{characters_in}
use Rattle.text_ops.specs.Compare.{order_of_texts, is_number_kind, number_in, both, comparison_of}
use Rattle.text_ops.proofs.Orders.{same_size}
use Rattle.source_tree.specs.Conditions.{satisfies, senders_satisfy}
use Rattle.source_tree.specs.Evaluated.{evaluation_of, ◌>>=◌}
use Rattle.source_tree.specs.declared.condition.Relation.{Relation}

then_none : (o : Ordering) → ordering_then o Equal ≡ o
then_none Less = refl
then_none Equal = refl
then_none Greater = refl

order_of_two : (a b : ℕ) → order_of_texts (a ∷ []) (b ∷ []) ≡ nat_cmp a b
unfolding order_of_texts
order_of_two a b = then_none (nat_cmp a b)

own_characters : (kind : Kind) (bytes : List ℕ) → not (is_number_kind kind) ≡ true
    → (is_number_kind kind ≡ false) × (characters_in kind bytes ≡ Some bytes)
own_characters (k.Numeric n) bytes text = absurd cc
own_characters k.Group bytes text = (refl, refl)
own_characters (k.Alphabetic justified) bytes text = (refl, refl)
own_characters (k.Alphanumeric justified) bytes text = (refl, refl)
own_characters k.AlphanumericEdited bytes text = (refl, refl)
own_characters (k.NumericEdited blank) bytes text = (refl, refl)

texts_satisfy : (relation : Relation) (one other : Item) (a b : List ℕ) → not (is_number_kind one.kind) ≡ true
    → not (is_number_kind other.kind) ≡ true
    → senders_satisfy relation (record { taken = t.Item one; bytes = a }) (record { taken = t.Item other; bytes = b })
    ≡ Ok (satisfies relation (order_of_texts a b))
unfolding comparison_of
texts_satisfy relation one other a b left right =
    let ones = own_characters one.kind a left in
    let others = own_characters other.kind b right in
    ap (λ (c : Bool). evaluation_of (if c && is_number_kind other.kind
    then both order (number_in one.kind a) (number_in other.kind b)
    else both order_of_texts (characters_in one.kind a) (characters_in other.kind b))
    >>= (λ ordering. Ok (satisfies relation ordering))) ones.0
    ∙ ap (λ (o : Option (List ℕ)). evaluation_of (both order_of_texts o (characters_in other.kind b))
    >>= (λ ordering. Ok (satisfies relation ordering))) ones.1
    ∙ ap (λ (o : Option (List ℕ)). evaluation_of (both order_of_texts (Some a) o)
    >>= (λ ordering. Ok (satisfies relation ordering))) others.1

characters_satisfy : (relation : Relation) (one other : Item) (a b : ℕ) → not (is_number_kind one.kind) ≡ true
    → not (is_number_kind other.kind) ≡ true
    → senders_satisfy relation (record { taken = t.Item one; bytes = a ∷ [] })
    (record { taken = t.Item other; bytes = b ∷ [] }) ≡ Ok (satisfies relation (nat_cmp a b))
characters_satisfy relation one other a b left right =
    texts_satisfy relation one other (a ∷ []) (b ∷ []) left right
    ∙ ap (λ (o : Ordering). Ok (satisfies relation o)) (order_of_two a b)

pub order_by_length : (one other : List ℕ) (found : Ordering) → length one ≡ length other
    → found ≡ slice_cmp nat_cmp one other → found ≡ order_of_texts one other
order_by_length one other found same is = is ∙ sym (same_size one other same)

-- Two items that are no numbers are compared by their characters.
pub texts_tell : (relation : Relation) (one : Taken) (other : Item) (ones others : List ℕ) (left : Item)
    (found : Ordering) (told : Bool) → one ≡ t.Item left → not (is_number_kind left.kind) ≡ true
    → not (is_number_kind other.kind) ≡ true → found ≡ order_of_texts ones others → told ≡ satisfies relation found
    → senders_satisfy relation (record { taken = one; bytes = ones })
    (record { taken = t.Item other; bytes = others }) ≡ Ok told
texts_tell relation one other ones others left found told is text other_text order_is tells =
    ap (λ (k : Taken). senders_satisfy relation (record { taken = k; bytes = ones })
    (record { taken = t.Item other; bytes = others })) is
    ∙ texts_satisfy relation left other ones others text other_text
    ∙ ap (λ (o : Ordering). Ok (satisfies relation o)) (sym order_is) ∙ ap (λ (b : Bool). Ok b) (sym tells)

pub characters_tell : (relation : Relation) (one other : Taken) (ones others : List ℕ) (left right : Item) (a b : ℕ)
    (told : Bool) → one ≡ t.Item left → other ≡ t.Item right → ones ≡ a ∷ [] → others ≡ b ∷ []
    → not (is_number_kind left.kind) ≡ true → not (is_number_kind right.kind) ≡ true
    → told ≡ satisfies relation (nat_cmp a b)
    → senders_satisfy relation (record { taken = one; bytes = ones }) (record { taken = other; bytes = others })
    ≡ Ok told
characters_tell relation one other ones others left right a b told is other_is ones_are others_are text other_text
    tells =
    ap (λ (k : Taken). senders_satisfy relation (record { taken = k; bytes = ones })
    (record { taken = other; bytes = others })) is
    ∙ ap (λ (k : Taken). senders_satisfy relation (record { taken = t.Item left; bytes = ones })
    (record { taken = k; bytes = others })) other_is
    ∙ ap (λ (l : List ℕ). senders_satisfy relation (record { taken = t.Item left; bytes = l })
    (record { taken = t.Item right; bytes = others })) ones_are
    ∙ ap (λ (l : List ℕ). senders_satisfy relation (record { taken = t.Item left; bytes = a ∷ [] })
    (record { taken = t.Item right; bytes = l })) others_are
    ∙ characters_satisfy relation left right a b text other_text
    ∙ ap (λ (b : Bool). Ok b) (sym tells)
