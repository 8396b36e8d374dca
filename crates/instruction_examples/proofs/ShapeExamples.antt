-- What is known after instructions, and where ways meet.
use Rattle.std.proofs.Common.{◌≡◌, ◌⊎◌, inl, inr, ◌∙◌, sym, ap, Bool, true, false, ℕ, List, [], ◌∷◌, length}
use Rattle.std.proofs.Common.{Option, None, Some, refl}
use Rattle.items.specs.declared.taken.Taken.{Taken}
use Rattle.items.specs.declared.taken.Taken.TheVariants as taken
use Rattle.data_instructions.specs.declared.tables.LiteralSender.{LiteralSender}
use Rattle.data_instructions.specs.declared.part.Part.TheVariants as part
use Rattle.data_instructions.specs.declared.shape.PlaceShape.{PlaceShape}
use Rattle.data_instructions.specs.declared.shape.Shape.{Shape}
use Rattle.data_instructions.specs.declared.shape.Stacks.{Stacks}
use Rattle.data_instructions.specs.declared.instruction.DataInstruction.{DataInstruction}
use Rattle.data_instructions.specs.declared.instruction.DataInstruction.TheVariants as i
use Rattle.data_instructions.specs.Shapes.{Covers, empty, shape_after_accept, shape_after_date, shape_after_show}
use Rattle.data_instructions.specs.Joining.{Joins}
use Rattle.data_instructions.specs.Chains.{effects}
use Rattle.instruction_examples.proofs.SampleTables.{tables, ab, twelve}

abbrev shape_after : List DataInstruction → Option Shape
shape_after code = effects tables code empty

abbrev place : ℕ → DataInstruction
place item = i.Place (record { number = item })

abbrev number : DataInstruction
number = i.Literal (record { number = 0 })

abbrev send : ℕ → DataInstruction
send literal = i.TakeLiteral (record { number = literal })

-- the first occurrence of an item
abbrev at : ℕ → PlaceShape
at item = record { item = record { number = item }; reach = 0 }

abbrev with_stacks : ℕ → List PlaceShape → Shape
with_stacks numbers places = record empty { stacks = record { numbers = numbers; places = places } }

abbrev with_sender : LiteralSender → Shape
with_sender literal = record empty { sender = Some literal.taken }

-- ---- operands

row_without_a_subscript : shape_after (place 0 ∷ i.Index 24 3 ∷ []) ≡ None
row_without_a_subscript = refl

-- MOVE "AB" TO N, MOVE -12.5 TO E, and MOVE -12.5 TO X
text_to_a_number : shape_after (send 0 ∷ place 6 ∷ i.Move ∷ []) ≡ Some (with_sender ab)
text_to_a_number = refl

decimals_to_an_edited_item : shape_after (send 1 ∷ place 4 ∷ i.Move ∷ []) ≡ Some (with_sender twelve)
decimals_to_an_edited_item = refl

decimals_to_a_text : shape_after (send 1 ∷ place 5 ∷ i.Move ∷ []) ≡ None
decimals_to_a_text = refl

-- ---- parts, which leave the number below the first place

rest_of_a_text : shape_after (place 5 ∷ number ∷ number ∷ i.Part part.Rest ∷ []) ≡ Some (with_stacks 1 (at 5 ∷ []))
rest_of_a_text = refl

part_of_all_digits : shape_after (place 2 ∷ number ∷ number ∷ i.Part (part.Fixed 2) ∷ [])
    ≡ Some (with_stacks 1 (at 2 ∷ []))
part_of_all_digits = refl

-- ---- two places of D: one is given a line, the other one the date

two_places : shape_after (place 7 ∷ place 7 ∷ []) ≡ Some (with_stacks 0 (at 7 ∷ at 7 ∷ []))
two_places = refl

line_is_given : shape_after_accept (with_stacks 0 (at 7 ∷ at 7 ∷ [])) ≡ Some (with_stacks 0 (at 7 ∷ []))
line_is_given = refl

date_is_given : shape_after_date tables (with_stacks 0 (at 7 ∷ [])) ≡ Some empty
date_is_given = refl

no_place_to_accept : shape_after_accept empty ≡ None
no_place_to_accept = refl

-- ---- DISPLAY "E="

line_is_known : shape_after (i.AppendLiteral (record { number = 0 }) ∷ []) ≡ Some (record empty { line = 2 })
line_is_known = refl

line_is_shown : shape_after_show (record empty { line = 2 }) ≡ empty
line_is_shown = refl

nothing_is_shown : shape_after_show empty ≡ empty
nothing_is_shown = refl

-- ---- where ways meet

-- `join` answers true over these two ways, and this is known then
abbrev MeetsAs : Shape → Shape → Shape → Type 0
MeetsAs one other all = (answer : Bool) (after : Shape) → Joins answer one other after → (answer ≡ true) × (after ≡ all)

same_senders : (a b : Option Taken) → (a ≡ None) ⊎ (a ≡ b) → (b ≡ None) ⊎ (b ≡ a) → a ≡ b
same_senders a b (inl e) (inl h) = e ∙ sym h
same_senders a b (inl e) (inr h) = sym h
same_senders a b (inr e) h = e

abbrev shape : Stacks → ℕ → Option Taken → Shape
shape stacks line sender = record { stacks = stacks; line = line; sender = sender }

same_shape : (a b : Shape) → Covers a b → Covers b a → a ≡ b
same_shape a b one other =
    ap (λ x. shape x a.line a.sender) one.stacks ∙ ap (λ x. shape b.stacks x a.sender) one.line
    ∙ ap (shape b.stacks b.line) (same_senders a.sender b.sender other.sender one.sender)

-- `join` meets its clause with one answer and one shape alone
meet_as : (one other all : Shape) → Joins true one other all → MeetsAs one other all
meet_as one other all joined true after answers =
    (refl, same_shape after all (answers.2 all joined.0 joined.1) (joined.2 after answers.0 answers.1))
meet_as one other all joined false after answers = absurd (answers all joined.0 joined.1)

covers_itself : (one : Shape) → Covers one one
covers_itself one = record { stacks = refl; line = refl; sender = inr refl }

-- ways with the same sender, and with two
known_text : shape_after (send 0 ∷ []) ≡ Some (with_sender ab)
known_text = refl

known_decimals : shape_after (send 1 ∷ []) ≡ Some (with_sender twelve)
known_decimals = refl

same_sender_stays : MeetsAs (with_sender ab) (with_sender ab) (with_sender ab)
same_sender_stays = meet_as (with_sender ab) (with_sender ab) (with_sender ab) (
  covers_itself (with_sender ab),
  covers_itself (with_sender ab),
  λ t one other. one,
)

covers_without_sender : (literal : LiteralSender) → Covers (with_sender literal) empty
covers_without_sender literal = record { stacks = refl; line = refl; sender = inl refl }

abbrev sent_length : Option Taken → ℕ
sent_length (Some (taken.Item item)) = item.length
sent_length _ = 0

two_senders : (t : Option Taken) → (t ≡ None) ⊎ (t ≡ Some ab.taken) → (t ≡ None) ⊎ (t ≡ Some twelve.taken) → t ≡ None
two_senders t (inl e) h = e
two_senders t (inr e) (inl h) = h
two_senders t (inr e) (inr h) = let two_is_three = ap sent_length (sym e ∙ h) in absurd cc

two_senders_are_none : MeetsAs (with_sender ab) (with_sender twelve) empty
two_senders_are_none = meet_as (with_sender ab) (with_sender twelve) empty (
  covers_without_sender ab,
  covers_without_sender twelve,
  λ t one other. record {
    stacks = one.stacks;
    line = one.line;
    sender = inl (two_senders t.sender one.sender other.sender);
  },
)

-- a way with a place more
known_place : shape_after (place 2 ∷ []) ≡ Some (with_stacks 0 (at 2 ∷ []))
known_place = refl

place_more_meets_nothing : (answer : Bool) (after : Shape) → Joins answer empty (with_stacks 0 (at 2 ∷ [])) after
    → answer ≡ false
place_more_meets_nothing true after joined =
    let one_is_none = ap (λ (s : Stacks). length s.places) (joined.1.stacks ∙ sym joined.0.stacks) in
    absurd cc
place_more_meets_nothing false after joined = refl
