-- What INSPECT does, read and spelled.
use Rattle.std.proofs.Common.{◌≡◌, ℕ, eqb, List, ◌∷◌, ◌++◌, Ok, refl, ap, subst, ◌∙◌, append_assoc, inl, inr}
use Rattle.std.specs.Prelude.{Option, None, Some}
use Rattle.text_ops.specs.declared.entry.Span.{Span}
use Rattle.text_ops.specs.declared.entry.Fit.{Fit}
use Rattle.text_ops.specs.declared.entry.Fit.TheVariants as f
use Rattle.text_ops.specs.declared.entry.Entry.{Entry}
use Rattle.data_instructions.specs.declared.tables.Inspection.{Inspection}
use Rattle.data_image.specs.declared.fault.ImageFault.TheVariants as faults
use Rattle.data_image.specs.Spelling.{IsBytes, short_bytes, table_bytes, FitsFourBytes, AreSpelled}
use Rattle.data_image.specs.Reading.{ReadResult, ◌>>=◌, byte_at, short_at, table_at}
use Rattle.data_image.specs.Inspections.{span_bytes, fit_bytes, text_bytes, entry_bytes, inspection_bytes}
use Rattle.data_image.specs.Inspections.{IsSpanSpelled, IsFitSpelled, IfSpanSpelled, IsEntrySpelled}
use Rattle.data_image.specs.Inspections.{IsInspectionSpelled, span_at, fit_from, fit_at, text_from, text_at, entry_at}
use Rattle.data_image.specs.Inspections.{inspection_at}
use Rattle.data_image.proofs.Forms.{ok_is, failed, chosen, takes_then, IsForm, part, part_again, Took, form_of}
use Rattle.data_image.proofs.Forms.{first_took, byte_is, behind_took, alone_took}
use Rattle.data_image.proofs.Numbers.{short_form}
use Rattle.data_image.proofs.TableForms.{table_form}

-- ---- spans

span_took : (bytes : List ℕ) (x : Span × List ℕ) → IsBytes bytes → span_at bytes ≡ Ok x
    → Took span_bytes IsSpanSpelled bytes x
unfolding span_at
span_took bytes x is e =
    let a = part short_form bytes _ x is e in
    let b = part short_form a.rest _ x a.takes.rest_fits a.goes in
    let both = takes_then bytes (short_bytes a.value) a.rest (short_bytes b.value) b.rest a.takes b.takes in
    let made : Span = record { start = a.value; length = b.value } in
    subst (Took span_bytes IsSpanSpelled bytes) {x =
    (made, b.rest)} (ok_is (made, b.rest) x b.goes) (both, (a.sound, b.sound))

span_again : (one : Span) (rest : List ℕ) → IsSpanSpelled one → span_at (span_bytes one ++ rest) ≡ Ok (one, rest)
unfolding span_at
span_again one rest h =
    ap span_at (append_assoc (short_bytes one.start) (short_bytes one.length) rest)
    ∙ part_again short_form one.start (short_bytes one.length ++ rest)
    (λ start. short_at start.1 >>= λ length. Ok (record { start = start.0; length = length.0 }, length.1)) h.0
    ∙ part_again short_form one.length rest (λ length. Ok (record { start = one.start; length = length.0 }, length.1))
    h.1

span_form : IsForm span_at span_bytes IsSpanSpelled
span_form = form_of span_at span_bytes IsSpanSpelled span_took span_again

-- ---- what an entry fits

abbrev all : Span → Fit
all text = f.All text

abbrev leading : Span → Fit
leading text = f.Leading text

abbrev first : Span → Fit
first text = f.First text

fit_from_took : (n : ℕ) (rest : List ℕ) (x : Fit × List ℕ) → IsBytes rest → fit_from n rest ≡ Ok x
    → Took fit_bytes IsFitSpelled (n ∷ rest) x
fit_from_took n rest x is e =
    elim (chosen (eqb n 1) _ _ _ e) [
      | inl p ↦ byte_is fit_bytes IsFitSpelled 1 n rest x p.0
          (alone_took fit_bytes IsFitSpelled 1 f.Characters rest x (refl, tt) is p.1)
      | inr q ↦ elim (chosen (eqb n 2) _ _ _ q.1) [
        | inl p ↦ byte_is fit_bytes IsFitSpelled 2 n rest x p.0
            (behind_took fit_bytes IsFitSpelled span_form 2 all (λ a. refl) (λ a h. h) rest x is p.1)
        | inr r ↦ elim (chosen (eqb n 3) _ _ _ r.1) [
          | inl p ↦ byte_is fit_bytes IsFitSpelled 3 n rest x p.0
              (behind_took fit_bytes IsFitSpelled span_form 3 leading (λ a. refl) (λ a h. h) rest x is p.1)
          | inr s ↦ elim (chosen (eqb n 4) _ _ _ s.1) [
            | inl p ↦ byte_is fit_bytes IsFitSpelled 4 n rest x p.0
                (behind_took fit_bytes IsFitSpelled span_form 4 first (λ a. refl) (λ a h. h) rest x is p.1)
            | inr t ↦ absurd (failed faults.Value x t.1)
          ]
        ]
      ]
    ]

fit_took : (bytes : List ℕ) (x : Fit × List ℕ) → IsBytes bytes → fit_at bytes ≡ Ok x
    → Took fit_bytes IsFitSpelled bytes x
unfolding fit_at
fit_took bytes x is e = first_took fit_bytes IsFitSpelled fit_from fit_from_took bytes x is e

fit_again : (fit : Fit) (rest : List ℕ) → IsFitSpelled fit → fit_at (fit_bytes fit ++ rest) ≡ Ok (fit, rest)
unfolding fit_at byte_at
fit_again f.Characters rest h = refl
fit_again (f.All text) rest h = part_again span_form text rest (λ text. Ok (all text.0, text.1)) h
fit_again (f.Leading text) rest h = part_again span_form text rest (λ text. Ok (leading text.0, text.1)) h
fit_again (f.First text) rest h = part_again span_form text rest (λ text. Ok (first text.0, text.1)) h

fit_form : IsForm fit_at fit_bytes IsFitSpelled
fit_form = form_of fit_at fit_bytes IsFitSpelled fit_took fit_again

-- ---- a text, where there is one

abbrev some_text : Span → Option Span
some_text text = Some text

text_from_took : (n : ℕ) (rest : List ℕ) (x : Option Span × List ℕ) → IsBytes rest → text_from n rest ≡ Ok x
    → Took text_bytes IfSpanSpelled (n ∷ rest) x
text_from_took n rest x is e =
    elim (chosen (eqb n 0) _ _ _ e) [
      | inl p ↦ byte_is text_bytes IfSpanSpelled 0 n rest x p.0
          (alone_took text_bytes IfSpanSpelled 0 None rest x (refl, tt) is p.1)
      | inr q ↦ elim (chosen (eqb n 1) _ _ _ q.1) [
        | inl p ↦ byte_is text_bytes IfSpanSpelled 1 n rest x p.0
            (behind_took text_bytes IfSpanSpelled span_form 1 some_text (λ a. refl) (λ a h. h) rest x is p.1)
        | inr r ↦ absurd (failed faults.Value x r.1)
      ]
    ]

text_took : (bytes : List ℕ) (x : Option Span × List ℕ) → IsBytes bytes → text_at bytes ≡ Ok x
    → Took text_bytes IfSpanSpelled bytes x
unfolding text_at
text_took bytes x is e = first_took text_bytes IfSpanSpelled text_from text_from_took bytes x is e

text_again : (text : Option Span) (rest : List ℕ) → IfSpanSpelled text
    → text_at (text_bytes text ++ rest) ≡ Ok (text, rest)
unfolding text_at byte_at
text_again None rest h = refl
text_again (Some text) rest h = part_again span_form text rest (λ text. Ok (some_text text.0, text.1)) h

text_form : IsForm text_at text_bytes IfSpanSpelled
text_form = form_of text_at text_bytes IfSpanSpelled text_took text_again

-- ---- entries

regroup : (a b c d e : List ℕ) → a ++ b ++ c ++ d ++ e ≡ a ++ (b ++ (c ++ (d ++ e)))
regroup a b c d e = simp append_assoc

entry_took : (bytes : List ℕ) (x : Entry × List ℕ) → IsBytes bytes → entry_at bytes ≡ Ok x
    → Took entry_bytes IsEntrySpelled bytes x
unfolding entry_at
entry_took bytes x is e =
    let a = part fit_form bytes _ x is e in
    let b = part text_form a.rest _ x a.takes.rest_fits a.goes in
    let c = part text_form b.rest _ x b.takes.rest_fits b.goes in
    let d = part text_form c.rest _ x c.takes.rest_fits c.goes in
    let two = takes_then bytes (fit_bytes a.value) a.rest (text_bytes b.value) b.rest a.takes b.takes in
    let three =
    takes_then bytes (fit_bytes a.value ++ text_bytes b.value) b.rest (text_bytes c.value) c.rest two c.takes in
    let four = takes_then bytes (fit_bytes a.value ++ text_bytes b.value ++ text_bytes c.value) c.rest
    (text_bytes d.value) d.rest three d.takes in
    let made : Entry = record { fit = a.value; before = b.value; after = c.value; by = d.value } in
    let fits : IsEntrySpelled made = record { fit = a.sound; before = b.sound; after = c.sound; by = d.sound } in
    subst (Took entry_bytes IsEntrySpelled bytes) {x = (made, d.rest)} (ok_is (made, d.rest) x d.goes) (four, fits)

abbrev by_from : Entry → Option Span × List ℕ → ReadResult Entry
by_from one by = Ok (record one { by = by.0 }, by.1)

abbrev after_from : Entry → Option Span × List ℕ → ReadResult Entry
after_from one after = text_at after.1 >>= by_from (record one { after = after.0 })

abbrev before_from : Entry → Option Span × List ℕ → ReadResult Entry
before_from one before = text_at before.1 >>= after_from (record one { before = before.0 })

entry_again : (one : Entry) (rest : List ℕ) → IsEntrySpelled one → entry_at (entry_bytes one ++ rest) ≡ Ok (one, rest)
unfolding entry_at
entry_again one rest h =
    let a = fit_bytes one.fit in
    let b = text_bytes one.before in
    let c = text_bytes one.after in
    let d = text_bytes one.by in
    ap entry_at (regroup a b c d rest)
    ∙ part_again fit_form one.fit (b ++ (c ++ (d ++ rest)))
    (λ fit. text_at fit.1 >>= before_from (record one { fit = fit.0 })) h.fit
    ∙ part_again text_form one.before (c ++ (d ++ rest)) (before_from one) h.before
    ∙ part_again text_form one.after (d ++ rest) (after_from one) h.after
    ∙ part_again text_form one.by rest (by_from one) h.by

entry_form : IsForm entry_at entry_bytes IsEntrySpelled
entry_form = form_of entry_at entry_bytes IsEntrySpelled entry_took entry_again

-- ---- inspections

number_table : IsForm (table_at short_at) (table_bytes short_bytes) (AreSpelled FitsFourBytes)
number_table = table_form short_at short_bytes FitsFourBytes short_form

entry_table : IsForm (table_at entry_at) (table_bytes entry_bytes) (AreSpelled IsEntrySpelled)
entry_table = table_form entry_at entry_bytes IsEntrySpelled entry_form

inspection_took : (bytes : List ℕ) (x : Inspection × List ℕ) → IsBytes bytes → inspection_at bytes ≡ Ok x
    → Took inspection_bytes IsInspectionSpelled bytes x
unfolding inspection_at
inspection_took bytes x is e =
    let a = part short_form bytes _ x is e in
    let b = part number_table a.rest _ x a.takes.rest_fits a.goes in
    let c = part entry_table b.rest _ x b.takes.rest_fits b.goes in
    let d = part entry_table c.rest _ x c.takes.rest_fits c.goes in
    let counters = table_bytes short_bytes b.value in
    let tallying = table_bytes entry_bytes c.value in
    let two = takes_then bytes (short_bytes a.value) a.rest counters b.rest a.takes b.takes in
    let three = takes_then bytes (short_bytes a.value ++ counters) b.rest tallying c.rest two c.takes in
    let four = takes_then bytes (short_bytes a.value ++ counters ++ tallying) c.rest (table_bytes entry_bytes d.value)
    d.rest three d.takes in
    let made : Inspection = record { size = a.value; counters = b.value; tallying = c.value; replacing = d.value } in
    let fits : IsInspectionSpelled made =
    record { size = a.sound; counters = b.sound; tallying = c.sound; replacing = d.sound } in
    subst (Took inspection_bytes IsInspectionSpelled bytes) {x =
    (made, d.rest)} (ok_is (made, d.rest) x d.goes) (four, fits)

abbrev replacing_from : Inspection → List Entry × List ℕ → ReadResult Inspection
replacing_from one replacing = Ok (record one { replacing = replacing.0 }, replacing.1)

abbrev tallying_from : Inspection → List Entry × List ℕ → ReadResult Inspection
tallying_from one tallying = table_at entry_at tallying.1 >>= replacing_from (record one { tallying = tallying.0 })

abbrev counters_from : Inspection → List ℕ × List ℕ → ReadResult Inspection
counters_from one counters = table_at entry_at counters.1 >>= tallying_from (record one { counters = counters.0 })

inspection_again : (one : Inspection) (rest : List ℕ) → IsInspectionSpelled one
    → inspection_at (inspection_bytes one ++ rest) ≡ Ok (one, rest)
unfolding inspection_at
inspection_again one rest h =
    let a = short_bytes one.size in
    let b = table_bytes short_bytes one.counters in
    let c = table_bytes entry_bytes one.tallying in
    let d = table_bytes entry_bytes one.replacing in
    ap inspection_at (regroup a b c d rest)
    ∙ part_again short_form one.size (b ++ (c ++ (d ++ rest)))
    (λ size. table_at short_at size.1 >>= counters_from (record one { size = size.0 })) h.size
    ∙ part_again number_table one.counters (c ++ (d ++ rest)) (counters_from one) h.counters
    ∙ part_again entry_table one.tallying (d ++ rest) (tallying_from one) h.tallying
    ∙ part_again entry_table one.replacing rest (replacing_from one) h.replacing

pub inspection_form : IsForm inspection_at inspection_bytes IsInspectionSpelled
inspection_form = form_of inspection_at inspection_bytes IsInspectionSpelled inspection_took inspection_again
