-- Pictures, read and spelled.
use Rattle.std.proofs.Common.{◌≡◌, ℕ, eqb, List, [], ◌∷◌, ◌++◌, Ok, Err, refl, sym, ap, subst, ◌∙◌, inl, inr}
use Rattle.std.specs.Prelude.{Option, None, Some, Result}
use Rattle.answers.specs.Answer.{Gives}
use Rattle.picture.specs.declared.run.Run.{Run}
use Rattle.picture.specs.declared.symbol.Symbol.{Symbol}
use Rattle.picture.specs.declared.symbol.Symbol.TheVariants as s
use Rattle.picture.specs.declared.description.Description.{Description}
use Rattle.picture.specs.declared.fault.PictureError.{PictureError}
use Rattle.picture.specs.declared.fault.PictureError.TheVariants.{Refused}
use Rattle.picture.specs.declared.fault.PictureFault.TheVariants.{NoForm}
use Rattle.picture.specs.Faults as picture_faults
use Rattle.picture.specs.Faults.{or_no_form}
use Rattle.picture.specs.Pictures.{IsAnyPicture, IsOfRuns, IsAnswer, picture_from}
use Rattle.picture.specs.Text as text_of
use Rattle.picture.specs.Text.{letter}
use Rattle.picture.proofs.Pictures.{from_form, from_only}
use Rattle.data_image.specs.declared.fault.ImageFault.TheVariants as faults
use Rattle.data_image.specs.Spelling.{IsBytes, wide_bytes, table_bytes, IsAny, AreSpelled}
use Rattle.data_image.specs.Reading.{◌>>=◌, or_value, byte_at, wide_at, told_at, table_at}
use Rattle.data_image.specs.Pictures.{run_bytes, picture_bytes, editing_bytes, IsRunSpelled, IsPictureSpelled}
use Rattle.data_image.specs.Pictures.{IsEditingSpelled, symbol_of, run_at, picture_of, picture_at, editing_from}
use Rattle.data_image.specs.Pictures.{editing_at}
use Rattle.data_image.proofs.Forms.{bind_ok, ok_is, failed, value_ok, chosen, Takes, takes_then, IsForm, part}
use Rattle.data_image.proofs.Forms.{part_again, Took, form_of, first_took, byte_is, behind_took, alone_took, first_told}
use Rattle.data_image.proofs.Forms.{byte_told, AreTold, told_append}
use Rattle.data_image.proofs.Numbers.{wide_form}
use Rattle.data_image.proofs.TableForms.{table_form}

-- ---- symbols

abbrev data_symbols : List (ℕ × Symbol)
data_symbols = (65, s.A) ∷ (88, s.X) ∷ (57, s.Nine) ∷ (83, s.S) ∷ (86, s.V) ∷ []

abbrev insertion_symbols : List (ℕ × Symbol)
insertion_symbols = (66, s.B) ∷ (48, s.Zero) ∷ (47, s.Slash) ∷ (44, s.Comma) ∷ (46, s.Point) ∷ []

-- of suppression, signs and currency
abbrev other_symbols : List (ℕ × Symbol)
other_symbols = (90, s.Z) ∷ (42, s.Star) ∷ (43, s.Plus) ∷ (45, s.Minus) ∷ (36, s.Currency) ∷ []

abbrev text_symbols : List (ℕ × Symbol)
text_symbols = data_symbols ++ (insertion_symbols ++ other_symbols)

abbrev symbols : List (ℕ × Symbol)
symbols = (67, s.Cr) ∷ (68, s.Db) ∷ text_symbols

symbol_told : (n : ℕ) → symbol_of n ≡ first_told symbols n
unfolding symbol_of text_of.symbol_of
symbol_told n = refl

symbol_again : (symbol : Symbol) → symbol_of (letter symbol) ≡ Some symbol
unfolding symbol_of text_of.symbol_of
symbol_again s.A = refl
symbol_again s.X = refl
symbol_again s.Nine = refl
symbol_again s.S = refl
symbol_again s.V = refl
symbol_again s.B = refl
symbol_again s.Zero = refl
symbol_again s.Slash = refl
symbol_again s.Comma = refl
symbol_again s.Point = refl
symbol_again s.Z = refl
symbol_again s.Star = refl
symbol_again s.Plus = refl
symbol_again s.Minus = refl
symbol_again s.Currency = refl
symbol_again s.Cr = refl
symbol_again s.Db = refl

abbrev symbol_bytes : Symbol → List ℕ
symbol_bytes symbol = letter symbol ∷ []

text_symbols_told : AreTold symbol_bytes IsAny text_symbols
text_symbols_told =
    told_append symbol_bytes IsAny data_symbols (insertion_symbols ++ other_symbols)
    ((refl, tt), ((refl, tt), ((refl, tt), ((refl, tt), ((refl, tt), tt)))))
    (told_append symbol_bytes IsAny insertion_symbols other_symbols
    ((refl, tt), ((refl, tt), ((refl, tt), ((refl, tt), ((refl, tt), tt)))))
    ((refl, tt), ((refl, tt), ((refl, tt), ((refl, tt), ((refl, tt), tt))))))

symbols_told : AreTold symbol_bytes IsAny symbols
symbols_told = ((refl, tt), ((refl, tt), text_symbols_told))

symbol_form : IsForm (told_at symbol_of) symbol_bytes IsAny
symbol_form =
    byte_told symbol_bytes symbol_of symbols symbols_told symbol_told
    (λ symbol. (letter symbol, refl, symbol_again symbol))

-- ---- runs

run_took : (bytes : List ℕ) (x : Run × List ℕ) → IsBytes bytes → run_at bytes ≡ Ok x
    → Took run_bytes IsRunSpelled bytes x
unfolding run_at
run_took bytes x is e =
    let a = part symbol_form bytes _ x is e in
    let b = part wide_form a.rest _ x a.takes.rest_fits a.goes in
    let both = takes_then bytes (symbol_bytes a.value) a.rest (wide_bytes b.value) b.rest a.takes b.takes in
    let made : Run = record { symbol = a.value; count = b.value } in
    subst (Took run_bytes IsRunSpelled bytes) {x = (made, b.rest)} (ok_is (made, b.rest) x b.goes) (both, b.sound)

run_again : (run : Run) (rest : List ℕ) → IsRunSpelled run → run_at (run_bytes run ++ rest) ≡ Ok (run, rest)
unfolding run_at
run_again run rest h =
    part_again symbol_form run.symbol (wide_bytes run.count ++ rest)
    (λ symbol. wide_at symbol.1 >>= λ count. Ok (record { symbol = symbol.0; count = count.0 }, count.1)) tt
    ∙ part_again wide_form run.count rest (λ count. Ok (record { symbol = run.symbol; count = count.0 }, count.1)) h

run_form : IsForm run_at run_bytes IsRunSpelled
run_form = form_of run_at run_bytes IsRunSpelled run_took run_again

runs_form : IsForm (table_at run_at) (table_bytes run_bytes) (AreSpelled IsRunSpelled)
runs_form = table_form run_at run_bytes IsRunSpelled run_form

-- ---- pictures

-- an answer that the definition is given by
abbrev answered : Option Description → Result Description PictureError
answered None = Err (Refused NoForm)
answered (Some picture) = Ok picture

gives : (o : Option Description) → Gives (λ p. p) picture_faults.fault_of (answered o) (or_no_form o)
gives None = refl
gives (Some picture) = refl

answer_is : (o : Option Description) (picture : Description) → IsAnswer picture (answered o) → o ≡ Some picture
answer_is None picture h = absurd h
answer_is (Some found) picture h = ap (λ (p : Description). Some p) h

-- the picture of the runs that were read has these runs
from_is : (runs : List Run) (picture : Description) → picture_from runs ≡ Some picture → IsOfRuns runs picture
from_is runs picture e = from_form runs (Ok picture) (ap or_no_form e)

-- a picture is that of its runs
from_again : (picture : Description) → IsAnyPicture picture → picture_from picture.runs ≡ Some picture
from_again picture h =
    let runs = picture.runs in
    answer_is (picture_from runs) picture (from_only runs (answered (picture_from runs)) (gives (picture_from runs))
    picture (record { read = h; same = refl }))

picture_took : (bytes : List ℕ) (x : Description × List ℕ) → IsBytes bytes → picture_at bytes ≡ Ok x
    → Took picture_bytes IsPictureSpelled bytes x
unfolding picture_at
picture_took bytes x is e =
    let a = part runs_form bytes (λ runs. picture_of runs.0 >>= λ picture. Ok (picture, runs.1)) x is e in
    let b = bind_ok (picture_of a.value) (λ picture. Ok (picture, a.rest)) x a.goes in
    let of : IsOfRuns a.value b.0 = from_is a.value b.0 (value_ok (picture_from a.value) b.0 b.1) in
    let t : Takes bytes (picture_bytes b.0) a.rest =
    subst (λ (runs : List Run). Takes bytes (table_bytes run_bytes runs) a.rest) (sym of.same) a.takes in
    let fits : IsPictureSpelled b.0 =
    record { any = of.read; runs = subst (AreSpelled IsRunSpelled) (sym of.same) a.sound } in
    subst (Took picture_bytes IsPictureSpelled bytes) {x = (b.0, a.rest)} (ok_is (b.0, a.rest) x b.2) (t, fits)

picture_again : (picture : Description) (rest : List ℕ) → IsPictureSpelled picture
    → picture_at (picture_bytes picture ++ rest) ≡ Ok (picture, rest)
unfolding picture_at
picture_again picture rest h =
    part_again runs_form picture.runs rest (λ runs. picture_of runs.0 >>= λ picture. Ok (picture, runs.1)) h.runs
    ∙ ap (λ (o : Option Description). or_value o >>= λ picture. Ok (picture, rest)) (from_again picture h.any)

picture_form : IsForm picture_at picture_bytes IsPictureSpelled
picture_form = form_of picture_at picture_bytes IsPictureSpelled picture_took picture_again

-- ---- the picture by which an item is edited

abbrev some_picture : Description → Option Description
some_picture picture = Some picture

editing_from_took : (n : ℕ) (rest : List ℕ) (x : Option Description × List ℕ) → IsBytes rest
    → editing_from n rest ≡ Ok x → Took editing_bytes IsEditingSpelled (n ∷ rest) x
editing_from_took n rest x is e =
    elim (chosen (eqb n 0) _ _ _ e) [
      | inl p ↦ byte_is editing_bytes IsEditingSpelled 0 n rest x p.0
          (alone_took editing_bytes IsEditingSpelled 0 None rest x (refl, tt) is p.1)
      | inr q ↦ elim (chosen (eqb n 1) _ _ _ q.1) [
        | inl p ↦ byte_is editing_bytes IsEditingSpelled 1 n rest x p.0 (behind_took editing_bytes IsEditingSpelled
            picture_form 1 some_picture (λ a. refl) (λ a h. h) rest x is p.1)
        | inr r ↦ absurd (failed faults.Value x r.1)
      ]
    ]

editing_took : (bytes : List ℕ) (x : Option Description × List ℕ) → IsBytes bytes → editing_at bytes ≡ Ok x
    → Took editing_bytes IsEditingSpelled bytes x
unfolding editing_at
editing_took bytes x is e = first_took editing_bytes IsEditingSpelled editing_from editing_from_took bytes x is e

editing_again : (editing : Option Description) (rest : List ℕ) → IsEditingSpelled editing
    → editing_at (editing_bytes editing ++ rest) ≡ Ok (editing, rest)
unfolding editing_at byte_at
editing_again None rest h = refl
editing_again (Some picture) rest h = part_again picture_form picture rest (λ picture. Ok (Some picture.0, picture.1)) h

pub editing_form : IsForm editing_at editing_bytes IsEditingSpelled
editing_form = form_of editing_at editing_bytes IsEditingSpelled editing_took editing_again
