-- Literals that are sent, read and spelled.
use Rattle.std.proofs.Common.{◌≡◌, ℕ, eqb, List, [], ◌∷◌, ◌++◌, Ok, refl, sym, ap, subst, ◌∙◌, append_assoc, inl, inr}
use Rattle.std.specs.Prelude.{Some}
use Rattle.items.specs.declared.taken.Taken.{Taken}
use Rattle.items.specs.declared.taken.Taken.TheVariants as t
use Rattle.items.specs.declared.taken.Figurative.TheVariants as f
use Rattle.data_instructions.specs.declared.tables.LiteralSender.{LiteralSender}
use Rattle.data_image.specs.Spelling.{IsBytes, text_bytes}
use Rattle.data_image.specs.Reading.{◌>>=◌, or_value, byte_at, text_at}
use Rattle.data_image.specs.Senders.{taken_bytes, sender_bytes, IsTakenSpelled, IsSenderSpelled, plain_taken_of}
use Rattle.data_image.specs.Senders.{item_taken_at, taken_from, taken_at, sender_at}
use Rattle.data_image.proofs.Forms.{ok_is, chosen, takes_then, IsForm, part, part_again, Took, form_of, first_took}
use Rattle.data_image.proofs.Forms.{byte_is, behind_took, told_took, first_told, told_in}
use Rattle.data_image.proofs.TableForms.{text_form}
use Rattle.data_image.proofs.Items.{item_form}

abbrev plain_taken : List (ℕ × Taken)
plain_taken =
    (1, t.All) ∷ (2, t.Figurative f.Zero) ∷ (3, t.Figurative f.Space) ∷ (4, t.Figurative f.HighValue)
    ∷ (5, t.Figurative f.LowValue) ∷ (6, t.Figurative f.Quote) ∷ []

taken_told : (n : ℕ) → plain_taken_of n ≡ first_told plain_taken n
unfolding plain_taken_of
taken_told n = refl

plain_taken_is : (n : ℕ) (taken : Taken) → plain_taken_of n ≡ Some taken
    → (taken_bytes taken ≡ n ∷ []) × IsTakenSpelled taken
plain_taken_is n taken e =
    told_in taken_bytes IsTakenSpelled plain_taken
    ((refl, tt), ((refl, tt), ((refl, tt), ((refl, tt), ((refl, tt), ((refl, tt), tt))))))
    n taken (sym (taken_told n) ∙ e)

taken_from_took : (n : ℕ) (rest : List ℕ) (x : Taken × List ℕ) → IsBytes rest → taken_from n rest ≡ Ok x
    → Took taken_bytes IsTakenSpelled (n ∷ rest) x
taken_from_took n rest x is e =
    elim (chosen (eqb n 7) (item_taken_at rest) (or_value (plain_taken_of n) >>= λ taken. Ok (taken, rest)) (Ok x) e) [
      | inl p ↦ byte_is taken_bytes IsTakenSpelled 7 n rest x p.0
          (behind_took taken_bytes IsTakenSpelled item_form 7 t.Item (λ a. refl) (λ a h. h) rest x is p.1)
      | inr q ↦ told_took taken_bytes IsTakenSpelled plain_taken_of plain_taken_is n rest x is q.1
    ]

taken_took : (bytes : List ℕ) (x : Taken × List ℕ) → IsBytes bytes → taken_at bytes ≡ Ok x
    → Took taken_bytes IsTakenSpelled bytes x
unfolding taken_at
taken_took bytes x is e = first_took taken_bytes IsTakenSpelled taken_from taken_from_took bytes x is e

taken_again : (taken : Taken) (rest : List ℕ) → IsTakenSpelled taken
    → taken_at (taken_bytes taken ++ rest) ≡ Ok (taken, rest)
unfolding taken_at byte_at plain_taken_of
taken_again t.All rest h = refl
taken_again (t.Figurative f.Zero) rest h = refl
taken_again (t.Figurative f.Space) rest h = refl
taken_again (t.Figurative f.HighValue) rest h = refl
taken_again (t.Figurative f.LowValue) rest h = refl
taken_again (t.Figurative f.Quote) rest h = refl
taken_again (t.Item item) rest h = part_again item_form item rest (λ item. Ok (t.Item item.0, item.1)) h

taken_form : IsForm taken_at taken_bytes IsTakenSpelled
taken_form = form_of taken_at taken_bytes IsTakenSpelled taken_took taken_again

sender_took : (bytes : List ℕ) (x : LiteralSender × List ℕ) → IsBytes bytes → sender_at bytes ≡ Ok x
    → Took sender_bytes IsSenderSpelled bytes x
unfolding sender_at
sender_took bytes x is e =
    let a = part taken_form bytes _ x is e in
    let b = part text_form a.rest _ x a.takes.rest_fits a.goes in
    let both = takes_then bytes (taken_bytes a.value) a.rest (text_bytes b.value) b.rest a.takes b.takes in
    let made : LiteralSender = record { taken = a.value; bytes = b.value } in
    subst (Took sender_bytes IsSenderSpelled bytes) {x =
    (made, b.rest)} (ok_is (made, b.rest) x b.goes) (both, (a.sound, b.sound))

sender_again : (one : LiteralSender) (rest : List ℕ) → IsSenderSpelled one
    → sender_at (sender_bytes one ++ rest) ≡ Ok (one, rest)
unfolding sender_at
sender_again one rest h =
    ap sender_at (append_assoc (taken_bytes one.taken) (text_bytes one.bytes) rest)
    ∙ part_again taken_form one.taken (text_bytes one.bytes ++ rest)
    (λ taken. text_at taken.1 >>= λ text. Ok (record { taken = taken.0; bytes = text.0 }, text.1)) h.0
    ∙ part_again text_form one.bytes rest (λ text. Ok (record { taken = one.taken; bytes = text.0 }, text.1)) h.1

pub sender_form : IsForm sender_at sender_bytes IsSenderSpelled
sender_form = form_of sender_at sender_bytes IsSenderSpelled sender_took sender_again
