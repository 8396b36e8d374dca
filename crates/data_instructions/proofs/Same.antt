-- Equal shapes of places, and equal senders.
use Rattle.std.proofs.Common.{◌≡◌, ℕ, List, refl, sym, ap, ◌∙◌, inl, inr, ⊎_elim, arith}
use Rattle.std.specs.Prelude.{Bool, true, false, not, nat_eq, ◌&&◌, Option, None, Some}
use Rattle.std.specs.Bool.{Decides}
use Rattle.std.specs.Option.{option_eq}
use Rattle.std.proofs.lemmas.Bool.Decides.{nat_tests}
use Rattle.std.proofs.lemmas.Option.{same_Some}
use Rattle.items.specs.declared.taken.Taken.{Taken}
use Rattle.items.specs.contracts.taken.TakenPartialEq.TheImpl.{eq-value}
use Rattle.data_instructions.specs.declared.shape.PlaceShape.{PlaceShape}
use Rattle.data_instructions.specs.declared.shape.Shape.{Shape}
use Rattle.data_instructions.specs.Shapes.{Covers}
use Rattle.data_instructions.specs.Joining.{Joins}

pub one_place : (a b : PlaceShape) → Decides (nat_eq a.item.number b.item.number && nat_eq a.reach b.reach) (a ≡ b)
one_place a b = grind (arith, nat_tests)

one_taken : (a b : Taken) → Decides (eq-value.it a b) (a ≡ b)
one_taken a b = grind (arith, nat_tests)

one_sender : (a b : Option Taken) → Decides (option_eq eq-value.it a b) (a ≡ b)
one_sender None None = (λ e. refl, λ e. refl)
one_sender None (Some b) = (λ e. absurd cc, λ e. absurd cc)
one_sender (Some a) None = (λ e. absurd cc, λ e. absurd cc)
one_sender (Some a) (Some b) = (λ e. ap Some ((one_taken a b).0 e), λ e. (one_taken a b).1 (same_Some a b e))

not_false : (b : Bool) → not b ≡ false → b ≡ true
not_false true e = refl
not_false false e = absurd cc

not_true : (b : Bool) → not b ≡ true → b ≡ true → ⊥
not_true true off on = absurd cc
not_true false off on = absurd cc

-- Shapes of the same stacks and line join, and what was taken stays known where it is the same.
module _ (one other : Shape) (numbers : one.stacks.numbers ≡ other.stacks.numbers)
    (places : one.stacks.places ≡ other.stacks.places) (line : one.line ≡ other.line) where
  same_stacks : one.stacks ≡ other.stacks
  same_stacks =
      ap (λ (n : ℕ). record one.stacks { numbers = n }) numbers
      ∙ ap (λ (shapes : List PlaceShape). record other.stacks { places = shapes }) places

  pub joins_same : (r : Bool) → r ≡ not (option_eq eq-value.it one.sender other.sender) → r ≡ false
      → Joins true one other one
  joins_same r is off =
      let same : one.sender ≡ other.sender =
      (one_sender one.sender other.sender).0
      (not_false (option_eq eq-value.it one.sender other.sender) (sym is ∙ off)) in (
        record { stacks = refl; line = refl; sender = inr refl },
        record { stacks = sym same_stacks; line = sym line; sender = inr same },
        λ t covers also. covers,
      )

  pub joins_none : (r : Bool) → r ≡ not (option_eq eq-value.it one.sender other.sender) → r ≡ true
      → Joins true one other (record one { sender = None })
  joins_none r is on =
      let differ : one.sender ≡ other.sender → ⊥ = λ same. not_true (option_eq eq-value.it one.sender other.sender)
      (sym is ∙ on) ((one_sender one.sender other.sender).1 same) in (
        record { stacks = refl; line = refl; sender = inl refl },
        record { stacks = sym same_stacks; line = sym line; sender = inl refl },
        λ t covers also. record {
          stacks = covers.stacks;
          line = covers.line;
          sender =
              ⊎_elim (λ none. inl none) (λ left. ⊎_elim (λ none. inl none) (λ right. absurd (differ (sym left ∙ right)))
              also.sender) covers.sender;
        },
      )
