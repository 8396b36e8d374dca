-- Instructions on data, read and spelled.
use Rattle.std.proofs.Common.{◌≡◌, ℕ, ◌<◌, ◌^◌, eqb, true, false, List, [], ◌∷◌, ◌++◌, Ok, refl, sym, ap, subst, ◌∙◌}
use Rattle.std.proofs.Common.{append_assoc, inl, inr}
use Rattle.std.specs.Prelude.{Some}
use Rattle.data_instructions.specs.declared.calculation.Calculation.TheVariants as c
use Rattle.data_instructions.specs.declared.test.Test.TheVariants as t
use Rattle.data_instructions.specs.declared.gather.Gather.TheVariants as g
use Rattle.data_instructions.specs.declared.part.Part.TheVariants as p
use Rattle.data_instructions.specs.declared.index.InspectionIndex.{InspectionIndex}
use Rattle.data_instructions.specs.declared.instruction.DataInstruction.{DataInstruction}
use Rattle.data_instructions.specs.declared.instruction.DataInstruction.TheVariants as i
use Rattle.data_image.specs.Spelling.{IsBytes, short_bytes}
use Rattle.data_image.specs.Reading.{◌>>=◌, byte_at, short_at}
use Rattle.data_image.specs.Instructions.{data_instruction_bytes, HasShorts, store, plain_instruction_of, naming_at}
use Rattle.data_image.specs.Instructions.{index_at, truncate, place_instruction, literal, take_literal, append_literal}
use Rattle.data_image.specs.Instructions.{duplicate, text_from, test_from, instruction_from, data_instruction_at}
use Rattle.data_image.specs.Instructions.{measured_at, inspect_measured, convert_measured, measured_from}
use Rattle.data_image.specs.Tests.{compare, compare_numbers, or_equal, or_within}
use Rattle.data_image.specs.Gathers.{inspect, convert, overlay, up_to_text, text_up_to_place}
use Rattle.data_image.specs.Parts.{part_fixed}
use Rattle.data_image.proofs.Forms.{ok_is, chosen, takes_then, takes_kind, IsForm, part, part_again, Took, form_of}
use Rattle.data_image.proofs.Forms.{first_took, byte_is, behind_took, told_took, first_told, AreTold, told_in}
use Rattle.data_image.proofs.Forms.{told_append}
use Rattle.data_image.proofs.Numbers.{byte_form, short_form}
use Rattle.data_image.proofs.Tests.{relation_form, class_form, compare_literal_took, compare_literal_again}

abbrev move_instructions : List (ℕ × DataInstruction)
move_instructions =
    (18, i.Push) ∷ (20, i.Take) ∷ (22, i.Move) ∷ (23, i.Append) ∷ (25, i.ClearTruth) ∷ (26, i.VoidIfTrue) ∷ []

abbrev store_instructions : List (ℕ × DataInstruction)
store_instructions =
    (28, store false false) ∷ (29, store true false) ∷ (30, store false true) ∷ (31, store true true) ∷ []

abbrev calculations : List (ℕ × DataInstruction)
calculations =
    (32, i.Calculate c.Add) ∷ (33, i.Calculate c.Subtract) ∷ (34, i.Calculate c.Multiply) ∷ (35, i.Calculate c.Divide)
    ∷ (36, i.Calculate c.Negate) ∷ (39, i.Calculate c.Discard) ∷ []

abbrev place_instructions : List (ℕ × DataInstruction)
place_instructions =
    (46, i.Test t.Invert) ∷ (61, i.DropPlace) ∷ (62, i.Gather g.Bytes) ∷ (63, i.Gather g.UpToPlace) ∷ []

abbrev text_instructions : List (ℕ × DataInstruction)
text_instructions =
    (66, i.String false) ∷ (67, i.String true) ∷ (68, i.Gather g.Sized) ∷ (71, i.Part p.Counted) ∷ (72, i.Part p.Rest)
    ∷ (74, i.Gather g.Measured) ∷ []

-- from calculations on
abbrev later_instructions : List (ℕ × DataInstruction)
later_instructions = calculations ++ (place_instructions ++ text_instructions)

abbrev plain_instructions : List (ℕ × DataInstruction)
plain_instructions = move_instructions ++ (store_instructions ++ later_instructions)

instruction_told : (n : ℕ) → plain_instruction_of n ≡ first_told plain_instructions n
unfolding plain_instruction_of
instruction_told n = refl

later_told : AreTold data_instruction_bytes HasShorts later_instructions
later_told =
    told_append data_instruction_bytes HasShorts calculations (place_instructions ++ text_instructions)
    ((refl, tt), ((refl, tt), ((refl, tt), ((refl, tt), ((refl, tt), ((refl, tt), tt))))))
    (told_append data_instruction_bytes HasShorts place_instructions text_instructions
    ((refl, tt), ((refl, tt), ((refl, tt), ((refl, tt), tt))))
    ((refl, tt), ((refl, tt), ((refl, tt), ((refl, tt), ((refl, tt), ((refl, tt), tt)))))))

plain_told : AreTold data_instruction_bytes HasShorts plain_instructions
plain_told =
    told_append data_instruction_bytes HasShorts move_instructions (store_instructions ++ later_instructions)
    ((refl, tt), ((refl, tt), ((refl, tt), ((refl, tt), ((refl, tt), ((refl, tt), tt))))))
    (told_append data_instruction_bytes HasShorts store_instructions later_instructions
    ((refl, tt), ((refl, tt), ((refl, tt), ((refl, tt), tt)))) later_told)

plain_instruction_is : (n : ℕ) (one : DataInstruction) → plain_instruction_of n ≡ Some one
    → (data_instruction_bytes one ≡ n ∷ []) × HasShorts one
plain_instruction_is n one e =
    told_in data_instruction_bytes HasShorts plain_instructions plain_told n one (sym (instruction_told n) ∙ e)

-- so does an instruction with this first byte
abbrev Reads : ℕ → List ℕ → DataInstruction × List ℕ → Type 0
Reads n rest x = Took data_instruction_bytes HasShorts (n ∷ rest) x

index_took : (rest : List ℕ) (x : DataInstruction × List ℕ) → IsBytes rest → index_at rest ≡ Ok x → Reads 17 rest x
index_took rest x is e =
    let a = part short_form rest _ x is e in
    let b = part short_form a.rest _ x a.takes.rest_fits a.goes in
    let both = takes_then rest (short_bytes a.value) a.rest (short_bytes b.value) b.rest a.takes b.takes in
    let t = takes_kind 17 rest (short_bytes a.value ++ short_bytes b.value) b.rest both in
    subst (Reads 17 rest) (ok_is (i.Index a.value b.value, b.rest) x b.goes) (t, (a.sound, b.sound))

inspect_measured_took : (rest : List ℕ) (x : DataInstruction × List ℕ) → IsBytes rest
    → measured_at inspect_measured rest ≡ Ok x → Reads 75 rest x
inspect_measured_took rest x is e =
    let a = part short_form rest _ x is e in
    let b = part short_form a.rest _ x a.takes.rest_fits a.goes in
    let both = takes_then rest (short_bytes a.value) a.rest (short_bytes b.value) b.rest a.takes b.takes in
    let t = takes_kind 75 rest (short_bytes a.value ++ short_bytes b.value) b.rest both in
    subst (Reads 75 rest) (ok_is (i.InspectMeasured (record { number = a.value }) b.value, b.rest) x b.goes)
    (t, (a.sound, b.sound))

convert_measured_took : (rest : List ℕ) (x : DataInstruction × List ℕ) → IsBytes rest
    → measured_at convert_measured rest ≡ Ok x → Reads 76 rest x
convert_measured_took rest x is e =
    let a = part short_form rest _ x is e in
    let b = part short_form a.rest _ x a.takes.rest_fits a.goes in
    let both = takes_then rest (short_bytes a.value) a.rest (short_bytes b.value) b.rest a.takes b.takes in
    let t = takes_kind 76 rest (short_bytes a.value ++ short_bytes b.value) b.rest both in
    subst (Reads 76 rest) (ok_is (i.ConvertMeasured (record { number = a.value }) b.value, b.rest) x b.goes)
    (t, (a.sound, b.sound))

-- texts that were measured, or an instruction without numbers
measured_from_took : (n : ℕ) (rest : List ℕ) (x : DataInstruction × List ℕ) → IsBytes rest
    → measured_from n rest ≡ Ok x → Reads n rest x
measured_from_took n rest x is e =
    elim (chosen (eqb n 75) _ _ _ e) [
      | inl p ↦ byte_is data_instruction_bytes HasShorts 75 n rest x p.0 (inspect_measured_took rest x is p.1)
      | inr q ↦ elim (chosen (eqb n 76) _ _ _ q.1) [
        | inl p ↦ byte_is data_instruction_bytes HasShorts 76 n rest x p.0 (convert_measured_took rest x is p.1)
        | inr r ↦ told_took data_instruction_bytes HasShorts plain_instruction_of plain_instruction_is n rest x is r.1
      ]
    ]

text_from_took : (n : ℕ) (rest : List ℕ) (x : DataInstruction × List ℕ) → IsBytes rest → text_from n rest ≡ Ok x
    → Reads n rest x
text_from_took n rest x is e =
    elim (chosen (eqb n 60) _ _ _ e) [
      | inl p ↦ byte_is data_instruction_bytes HasShorts 60 n rest x p.0
          (behind_took data_instruction_bytes HasShorts short_form 60 overlay (λ a. refl) (λ a h. h) rest x is p.1)
      | inr q ↦ elim (chosen (eqb n 64) _ _ _ q.1) [
        | inl p ↦ byte_is data_instruction_bytes HasShorts 64 n rest x p.0
            (behind_took data_instruction_bytes HasShorts short_form 64 up_to_text (λ a. refl) (λ a h. h) rest x is p.1)
        | inr r ↦ elim (chosen (eqb n 65) _ _ _ r.1) [
          | inl p ↦ byte_is data_instruction_bytes HasShorts 65 n rest x p.0 (behind_took data_instruction_bytes
              HasShorts short_form 65 text_up_to_place (λ a. refl) (λ a h. h) rest x is p.1)
          | inr s ↦ elim (chosen (eqb n 69) _ _ _ s.1) [
            | inl p ↦ byte_is data_instruction_bytes HasShorts 69 n rest x p.0 (behind_took data_instruction_bytes
                HasShorts short_form 69 inspect (λ a. refl) (λ a h. h) rest x is p.1)
            | inr u ↦ elim (chosen (eqb n 70) _ _ _ u.1) [
              | inl p ↦ byte_is data_instruction_bytes HasShorts 70 n rest x p.0 (behind_took data_instruction_bytes
                  HasShorts short_form 70 part_fixed (λ a. refl) (λ a h. h) rest x is p.1)
              | inr v ↦ elim (chosen (eqb n 73) _ _ _ v.1) [
                | inl p ↦ byte_is data_instruction_bytes HasShorts 73 n rest x p.0 (behind_took data_instruction_bytes
                    HasShorts short_form 73 convert (λ a. refl) (λ a h. h) rest x is p.1)
                | inr w ↦ measured_from_took n rest x is w.1
              ]
            ]
          ]
        ]
      ]
    ]

test_from_took : (n : ℕ) (rest : List ℕ) (x : DataInstruction × List ℕ) → IsBytes rest → test_from n rest ≡ Ok x
    → Reads n rest x
test_from_took n rest x is e =
    elim (chosen (eqb n 40) _ _ _ e) [
      | inl p ↦ byte_is data_instruction_bytes HasShorts 40 n rest x p.0
          (behind_took data_instruction_bytes HasShorts relation_form 40 compare (λ a. refl) (λ a h. h) rest x is p.1)
      | inr q ↦ elim (chosen (eqb n 41) _ _ _ q.1) [
        | inl p ↦ byte_is data_instruction_bytes HasShorts 41 n rest x p.0 (compare_literal_took rest x is p.1)
        | inr r ↦ elim (chosen (eqb n 42) _ _ _ r.1) [
          | inl p ↦ byte_is data_instruction_bytes HasShorts 42 n rest x p.0 (behind_took data_instruction_bytes
              HasShorts relation_form 42 compare_numbers (λ a. refl) (λ a h. h) rest x is p.1)
          | inr s ↦ elim (chosen (eqb n 43) _ _ _ s.1) [
            | inl p ↦ byte_is data_instruction_bytes HasShorts 43 n rest x p.0 (behind_took data_instruction_bytes
                HasShorts class_form 43 (λ a. i.Test (t.Class a)) (λ a. refl) (λ a h. h) rest x is p.1)
            | inr u ↦ elim (chosen (eqb n 44) _ _ _ u.1) [
              | inl p ↦ byte_is data_instruction_bytes HasShorts 44 n rest x p.0 (behind_took data_instruction_bytes
                  HasShorts short_form 44 or_equal (λ a. refl) (λ a h. h) rest x is p.1)
              | inr v ↦ elim (chosen (eqb n 45) _ _ _ v.1) [
                | inl p ↦ byte_is data_instruction_bytes HasShorts 45 n rest x p.0 (behind_took data_instruction_bytes
                    HasShorts short_form 45 or_within (λ a. refl) (λ a h. h) rest x is p.1)
                | inr w ↦ text_from_took n rest x is w.1
              ]
            ]
          ]
        ]
      ]
    ]

instruction_from_took : (n : ℕ) (rest : List ℕ) (x : DataInstruction × List ℕ) → IsBytes rest
    → instruction_from n rest ≡ Ok x → Reads n rest x
instruction_from_took n rest x is e =
    elim (chosen (eqb n 16) _ _ _ e) [
      | inl p ↦ byte_is data_instruction_bytes HasShorts 16 n rest x p.0 (behind_took data_instruction_bytes HasShorts
          short_form 16 place_instruction (λ a. refl) (λ a h. h) rest x is p.1)
      | inr q ↦ elim (chosen (eqb n 17) _ _ _ q.1) [
        | inl p ↦ byte_is data_instruction_bytes HasShorts 17 n rest x p.0 (index_took rest x is p.1)
        | inr r ↦ elim (chosen (eqb n 19) _ _ _ r.1) [
          | inl p ↦ byte_is data_instruction_bytes HasShorts 19 n rest x p.0
              (behind_took data_instruction_bytes HasShorts short_form 19 literal (λ a. refl) (λ a h. h) rest x is p.1)
          | inr s ↦ elim (chosen (eqb n 21) _ _ _ s.1) [
            | inl p ↦ byte_is data_instruction_bytes HasShorts 21 n rest x p.0 (behind_took data_instruction_bytes
                HasShorts short_form 21 take_literal (λ a. refl) (λ a h. h) rest x is p.1)
            | inr t ↦ elim (chosen (eqb n 24) _ _ _ t.1) [
              | inl p ↦ byte_is data_instruction_bytes HasShorts 24 n rest x p.0 (behind_took data_instruction_bytes
                  HasShorts short_form 24 append_literal (λ a. refl) (λ a h. h) rest x is p.1)
              | inr u ↦ elim (chosen (eqb n 37) _ _ _ u.1) [
                | inl p ↦ byte_is data_instruction_bytes HasShorts 37 n rest x p.0 (behind_took data_instruction_bytes
                    HasShorts byte_form 37 truncate (λ a. refl) (λ a h. h) rest x is p.1)
                | inr v ↦ elim (chosen (eqb n 38) _ _ _ v.1) [
                  | inl p ↦ byte_is data_instruction_bytes HasShorts 38 n rest x p.0 (behind_took data_instruction_bytes
                      HasShorts short_form 38 duplicate (λ a. refl) (λ a h. h) rest x is p.1)
                  | inr w ↦ test_from_took n rest x is w.1
                ]
              ]
            ]
          ]
        ]
      ]
    ]

instruction_took : (bytes : List ℕ) (x : DataInstruction × List ℕ) → IsBytes bytes → data_instruction_at bytes ≡ Ok x
    → Took data_instruction_bytes HasShorts bytes x
unfolding data_instruction_at
instruction_took bytes x is e =
    first_took data_instruction_bytes HasShorts instruction_from instruction_from_took bytes x is e

naming_again : (make : ℕ → DataInstruction) (number : ℕ) (rest : List ℕ) → number < 2 ^ 32
    → naming_at make (short_bytes number ++ rest) ≡ Ok (make number, rest)
naming_again make number rest h = part_again short_form number rest (λ n. Ok (make n.0, n.1)) h

measured_again : (make : InspectionIndex → ℕ → DataInstruction) (index : InspectionIndex) (numbers : ℕ) (rest : List ℕ)
    → index.number < 2 ^ 32 → numbers < 2 ^ 32
    → measured_at make ((short_bytes index.number ++ short_bytes numbers) ++ rest) ≡ Ok (make index numbers, rest)
measured_again make index numbers rest h k =
    ap (measured_at make) (append_assoc (short_bytes index.number) (short_bytes numbers) rest)
    ∙ part_again short_form index.number (short_bytes numbers ++ rest)
    (λ s. short_at s.1 >>= λ n. Ok (make (record { number = s.0 }) n.0, n.1)) h
    ∙ part_again short_form numbers rest (λ n. Ok (make (record { number = index.number }) n.0, n.1)) k

instruction_again : (one : DataInstruction) (rest : List ℕ) → HasShorts one
    → data_instruction_at (data_instruction_bytes one ++ rest) ≡ Ok (one, rest)
unfolding data_instruction_at byte_at plain_instruction_of
instruction_again (i.Place item) rest h = naming_again place_instruction item.number rest h
instruction_again (i.Index stride count) rest h =
    ap index_at (append_assoc (short_bytes stride) (short_bytes count) rest)
    ∙ part_again short_form stride (short_bytes count ++ rest) (λ s. short_at s.1 >>= λ n. Ok (i.Index s.0 n.0, n.1))
    h.0
    ∙ part_again short_form count rest (λ n. Ok (i.Index stride n.0, n.1)) h.1
instruction_again i.Push rest h = refl
instruction_again (i.Literal number) rest h = naming_again literal number.number rest h
instruction_again i.Take rest h = refl
instruction_again (i.TakeLiteral literal) rest h = naming_again take_literal literal.number rest h
instruction_again i.Move rest h = refl
instruction_again i.Append rest h = refl
instruction_again (i.AppendLiteral text) rest h = naming_again append_literal text.number rest h
instruction_again i.ClearTruth rest h = refl
instruction_again i.VoidIfTrue rest h = refl
instruction_again (i.Store false false) rest h = refl
instruction_again (i.Store true false) rest h = refl
instruction_again (i.Store false true) rest h = refl
instruction_again (i.Store true true) rest h = refl
instruction_again (i.Calculate c.Add) rest h = refl
instruction_again (i.Calculate c.Subtract) rest h = refl
instruction_again (i.Calculate c.Multiply) rest h = refl
instruction_again (i.Calculate c.Divide) rest h = refl
instruction_again (i.Calculate c.Negate) rest h = refl
instruction_again (i.Calculate (c.Truncate scale)) rest h = refl
instruction_again (i.Calculate (c.Duplicate depth)) rest h = naming_again duplicate depth rest h
instruction_again (i.Calculate c.Discard) rest h = refl
instruction_again (i.Test (t.Compare one)) rest h = part_again relation_form one rest (λ r. Ok (compare r.0, r.1)) tt
instruction_again (i.Test (t.CompareLiteral one literal)) rest h = compare_literal_again one literal.number rest h
instruction_again (i.Test (t.CompareNumbers one)) rest h =
    part_again relation_form one rest (λ r. Ok (compare_numbers r.0, r.1)) tt
instruction_again (i.Test (t.Class one)) rest h =
    part_again class_form one rest (λ r. Ok (i.Test (t.Class r.0), r.1)) tt
instruction_again (i.Test (t.OrEqual literal)) rest h = naming_again or_equal literal.number rest h
instruction_again (i.Test (t.OrWithin first)) rest h = naming_again or_within first.number rest h
instruction_again (i.Test t.Invert) rest h = refl
instruction_again (i.Overlay text) rest h = naming_again overlay text.number rest h
instruction_again i.DropPlace rest h = refl
instruction_again (i.Gather g.Bytes) rest h = refl
instruction_again (i.Gather g.UpToPlace) rest h = refl
instruction_again (i.Gather (g.UpToText delimiter)) rest h = naming_again up_to_text delimiter.number rest h
instruction_again (i.Gather (g.TextUpToPlace text)) rest h = naming_again text_up_to_place text.number rest h
instruction_again (i.String false) rest h = refl
instruction_again (i.String true) rest h = refl
instruction_again (i.Gather g.Sized) rest h = refl
instruction_again (i.Gather g.Measured) rest h = refl
instruction_again (i.Part (p.Fixed size)) rest h = naming_again part_fixed size rest h
instruction_again (i.Part p.Counted) rest h = refl
instruction_again (i.Part p.Rest) rest h = refl
instruction_again (i.Inspect inspection) rest h = naming_again inspect inspection.number rest h
instruction_again (i.Convert inspection) rest h = naming_again convert inspection.number rest h
instruction_again (i.InspectMeasured inspection numbers) rest h =
    measured_again inspect_measured inspection numbers rest h.0 h.1
instruction_again (i.ConvertMeasured inspection numbers) rest h =
    measured_again convert_measured inspection numbers rest h.0 h.1

pub data_instruction_form : IsForm data_instruction_at data_instruction_bytes HasShorts
data_instruction_form = form_of data_instruction_at data_instruction_bytes HasShorts instruction_took instruction_again
