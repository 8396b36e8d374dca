-- Values that their items take.
use Rattle.std.proofs.Common.{◌≡◌, Bool, true, false, not, ◌||◌, refl, subst}
use Rattle.items.specs.declared.numeric.Numeric.{Numeric}
use Rattle.items.specs.declared.item.Kind.TheVariants as kind
use Rattle.items.specs.declared.item.Item.{Item}
use Rattle.items.specs.declared.taken.Taken.{Taken}
use Rattle.edited_move.specs.Moves.{needs_number, is_group, is_number_sender, is_short}
use Rattle.initial_storage.specs.Fits.{Suits}

or_last : (a b c : Bool) → c ≡ true → (a || b || c) ≡ true
or_last true b c e = refl
or_last false true c e = refl
or_last false false c e = e

-- A number is moved, and no long text.
pub short : (item : Item) (taken : Taken) (numeric : Numeric) → item.kind ≡ kind.Numeric numeric → Suits item.kind taken
    → is_short item taken ≡ true
short item taken numeric e h =
    or_last (not (needs_number item.kind)) (is_group taken) (is_number_sender taken) (subst (λ k. Suits k taken) e h)
