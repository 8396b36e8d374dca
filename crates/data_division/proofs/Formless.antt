-- The first picture without a form, in one list of entries after another, and in the entries of files.
use Rattle.std.proofs.Common.{◌≡◌, ℕ, suc, ◌+◌, ◌<◌, ◌≤◌, List, [], ◌∷◌, ◌++◌, length, get_or, drop, refl, sym, ap, ◌∙◌}
use Rattle.std.proofs.Common.{add-one}
use Rattle.std.proofs.Math.Seq.{drop-cons}
use Rattle.std.proofs.Math.ListN.{drop_of_length-le}
use Rattle.std.specs.Prelude.{Option, None, Some}
use Rattle.lexical.specs.declared.place.Place.{Place}
use Rattle.source_tree.specs.declared.entry.Entry.{Entry}
use Rattle.source_tree.specs.declared.select.FileDescription.{FileDescription}
use Rattle.data_division.specs.Forms.{first_formless, file_entries, formless_of, this_or}

regrouped : (a b c : Option Place) → this_or a (this_or b c) ≡ this_or (this_or a b) c
regrouped None b c = refl
regrouped (Some place) b c = refl

pub formless_behind : (a b : List Entry) → first_formless (a ++ b) ≡ this_or (first_formless a) (first_formless b)
unfolding first_formless
formless_behind [] b = refl
formless_behind (one ∷ more) b =
    ap (this_or (formless_of one)) (formless_behind more b)
    ∙ regrouped (formless_of one) (first_formless more) (first_formless b)

pub formless_first : (a b : List Entry) (place : Place) → Some place ≡ first_formless a
    → first_formless (a ++ b) ≡ Some place
formless_first a b place is = formless_behind a b ∙ ap (λ o. this_or o (first_formless b)) (sym is)

pub formless_second : (a b : List Entry) → None ≡ first_formless a → first_formless (a ++ b) ≡ first_formless b
formless_second a b is = formless_behind a b ∙ ap (λ o. this_or o (first_formless b)) (sym is)

-- ---- files that are still to be looked at

next_file : (files : List FileDescription) (n : ℕ) (one : FileDescription) → n < length files → one ≡ get_or files n one
    → file_entries (drop n files) ≡ one.entries ++ file_entries (drop (n + 1) files)
next_file files n one below is =
    rw add-one (ap file_entries (drop-cons files n one below)
    ∙ ap (λ (x : FileDescription). x.entries ++ file_entries (drop (suc n) files)) (sym is))

pub formless_here : (files : List FileDescription) (n : ℕ) (one : FileDescription) (place : Place) → n < length files
    → one ≡ get_or files n one
    → Some place ≡ first_formless one.entries → first_formless (file_entries (drop n files)) ≡ Some place
formless_here files n one place below is here =
    ap first_formless (next_file files n one below is)
    ∙ formless_first one.entries (file_entries (drop (n + 1) files)) place here

pub formless_later : (files : List FileDescription) (n : ℕ) (one : FileDescription) → n < length files
    → one ≡ get_or files n one
    → None ≡ first_formless one.entries
    → first_formless (file_entries (drop n files)) ≡ first_formless (file_entries (drop (n + 1) files))
formless_later files n one below is none =
    ap first_formless (next_file files n one below is)
    ∙ formless_second one.entries (file_entries (drop (n + 1) files)) none

pub formless_nowhere : (files : List FileDescription) (n : ℕ) → length files ≤ n
    → first_formless (file_entries (drop n files)) ≡ None
unfolding first_formless
formless_nowhere files n over = ap (λ l. first_formless (file_entries l)) (drop_of_length-le files {i = n} over)
