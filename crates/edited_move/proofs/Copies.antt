-- Between texts that aren't justified a move copies from the left.
use Rattle.std.proofs.Common.{◌≡◌, ℕ, Bool, false, List, Some, ◌⊎◌, inl, inr, refl, ap, sym, ◌∙◌, subst}
use Rattle.items.specs.declared.item.Item.{Item}
use Rattle.items.specs.declared.item.Kind.{Kind}
use Rattle.items.specs.declared.item.Kind.TheVariants as k
use Rattle.items.specs.declared.numeric.Numeric.{Numeric}
use Rattle.items.specs.declared.taken.Taken.TheVariants as t
use Rattle.items.specs.Texts.{padded_text}
use Rattle.edited_move.specs.Moves.{moved_bytes}

abbrev item : Kind → ℕ → Item
item kind size = record { kind = kind; length = size }

-- what is moved is what stands there
abbrev Copies : Kind → ℕ → Item → List ℕ → Type 0
Copies kind size sender from = moved_bytes (item kind size) (t.Item sender) from ≡ Some (padded_text size from)

group : (kind : Kind) (size length : ℕ) (from : List ℕ) → Copies k.Group size (item kind length) from
unfolding moved_bytes
group k.Group size length from = refl
group (k.Alphabetic right) size length from = refl
group (k.Alphanumeric right) size length from = refl
group k.AlphanumericEdited size length from = refl
group (k.NumericEdited blank) size length from = refl
group (k.Numeric n) size length from = refl

alphabetic : (kind : Kind) (size length : ℕ) (from : List ℕ) → ((n : Numeric) → kind ≡ k.Numeric n → ⊥)
    → Copies (k.Alphabetic false) size (item kind length) from
unfolding moved_bytes
alphabetic k.Group size length from other = refl
alphabetic (k.Alphabetic right) size length from other = refl
alphabetic (k.Alphanumeric right) size length from other = refl
alphabetic k.AlphanumericEdited size length from other = refl
alphabetic (k.NumericEdited blank) size length from other = refl
alphabetic (k.Numeric n) size length from other = absurd (other n refl)

alphanumeric : (kind : Kind) (size length : ℕ) (from : List ℕ) → ((n : Numeric) → kind ≡ k.Numeric n → ⊥)
    → Copies (k.Alphanumeric false) size (item kind length) from
unfolding moved_bytes
alphanumeric k.Group size length from other = refl
alphanumeric (k.Alphabetic right) size length from other = refl
alphanumeric (k.Alphanumeric right) size length from other = refl
alphanumeric k.AlphanumericEdited size length from other = refl
alphanumeric (k.NumericEdited blank) size length from other = refl
alphanumeric (k.Numeric n) size length from other = absurd (other n refl)

pub to_group : (receiver sender : Item) (from : List ℕ) → receiver.kind ≡ k.Group
    → moved_bytes receiver (t.Item sender) from ≡ Some (padded_text receiver.length from)
to_group receiver sender from e = subst (λ kind. Copies kind receiver.length sender from) (sym e)
    (group sender.kind receiver.length sender.length from)

to_alphabetic : (receiver sender : Item) (right : Bool) (from : List ℕ) → receiver.kind ≡ k.Alphabetic right
    → right ≡ false → ((n : Numeric) → sender.kind ≡ k.Numeric n → ⊥)
    → moved_bytes receiver (t.Item sender) from ≡ Some (padded_text receiver.length from)
to_alphabetic receiver sender right from e h other =
    subst (λ kind. Copies kind receiver.length sender from) (sym (e ∙ ap (λ b. k.Alphabetic b) h))
    (alphabetic sender.kind receiver.length sender.length from other)

to_alphanumeric : (receiver sender : Item) (right : Bool) (from : List ℕ) → receiver.kind ≡ k.Alphanumeric right
    → right ≡ false → ((n : Numeric) → sender.kind ≡ k.Numeric n → ⊥)
    → moved_bytes receiver (t.Item sender) from ≡ Some (padded_text receiver.length from)
to_alphanumeric receiver sender right from e h other =
    subst (λ kind. Copies kind receiver.length sender from) (sym (e ∙ ap (λ b. k.Alphanumeric b) h))
    (alphanumeric sender.kind receiver.length sender.length from other)

pub to_text : (receiver sender : Item) (right : Bool) (from : List ℕ)
    → (receiver.kind ≡ k.Alphabetic right) ⊎ (receiver.kind ≡ k.Alphanumeric right) → right ≡ false
    → ((n : Numeric) → sender.kind ≡ k.Numeric n → ⊥)
    → moved_bytes receiver (t.Item sender) from ≡ Some (padded_text receiver.length from)
to_text receiver sender right from (inl e) h other = to_alphabetic receiver sender right from e h other
to_text receiver sender right from (inr e) h other = to_alphanumeric receiver sender right from e h other
