-- What is written after a text.
use Rattle.std.proofs.Common.{◌≡◌, ℕ, suc, ◌+◌, ◌-◌, ◌/◌, ◌%◌, ◌==◌, ◌<◌, ◌≤◌, false, List, [], ◌∷◌, ◌++◌, drop, length}
use Rattle.std.proofs.Common.{get_or, if◌then◌else◌, ap, sym, ◌∙◌, add-one, arith}
use Rattle.std.proofs.lemmas.Bool.{lt-ltb, le-ltb}
use Rattle.std.proofs.lemmas.List.{append_assoc, append-nil}
use Rattle.std.proofs.Math.Seq.{drop-cons}
use Rattle.picture.specs.declared.run.Run.{Run}
use Rattle.picture.specs.Text.{left_parenthesis, right_parenthesis}
use Rattle.picture.specs.Spelling.{decimal, repeat_count_text, letters, run_text, spelling_of, most_count_digits}

pub none_written : (text : List ℕ) (number : ℕ) → text ≡ text ++ decimal 0 number
unfolding decimal
none_written text number = sym (append-nil text)

digit_of : (most number : ℕ) → number < 10 → decimal (suc most) number ≡ (48 + number) ∷ []
unfolding decimal
digit_of most number h = ap
    (λ b. if b then (48 + number) ∷ [] else decimal most (number / 10) ++ (48 + number % 10) ∷ []) (lt-ltb number 10 h)

digits_of : (most number : ℕ) → 10 ≤ number
    → decimal (suc most) number ≡ decimal most (number / 10) ++ (48 + number % 10) ∷ []
unfolding decimal
digits_of most number h = ap
    (λ b. if b then (48 + number) ∷ [] else decimal most (number / 10) ++ (48 + number % 10) ∷ []) (le-ltb number 10 h)

pub one_written : (text new : List ℕ) (most number : ℕ) → 0 < most → number < 10 → new ≡ text ++ (48 + number) ∷ []
    → new ≡ text ++ decimal most number
one_written text new most number some h e =
    let one : suc (most - 1) ≡ most = omega arith in
    e ∙ ap (λ t. text ++ t) (sym (digit_of (most - 1) number h) ∙ ap (λ k. decimal k number) one)

pub more_written : (text front new : List ℕ) (most number : ℕ)
    → 0 < most → 10 ≤ number → front ≡ text ++ decimal (most - 1) (number / 10) → new ≡ front ++ (48 + number % 10) ∷ []
    → new ≡ text ++ decimal most number
more_written text front new most number some h e f =
    let one : suc (most - 1) ≡ most = omega arith in
    f ∙ ap (λ t. t ++ (48 + number % 10) ∷ []) e
    ∙ append_assoc text (decimal (most - 1) (number / 10)) ((48 + number % 10) ∷ [])
    ∙ ap (λ t. text ++ t) (sym (digits_of (most - 1) number h) ∙ ap (λ k. decimal k number) one)

pub once_written : (text new : List ℕ) (run : Run) → run.count ≡ 1 → new ≡ text ++ letters run.symbol
    → new ≡ text ++ run_text run
once_written text new run once e =
    e ∙ ap (λ t. text ++ t)
    (sym (append-nil (letters run.symbol)) ∙ ap (λ n. letters run.symbol ++ repeat_count_text n) (sym once))

behind_often : (count : ℕ) → (count == 1) ≡ false
    → repeat_count_text count ≡ left_parenthesis ∷ (decimal most_count_digits count ++ right_parenthesis ∷ [])
behind_often count e =
    ap (λ b. if b then [] else left_parenthesis ∷ (decimal most_count_digits count ++ right_parenthesis ∷ [])) e

pub often_written : (text a b c new : List ℕ) (run : Run) → (run.count == 1) ≡ false → a ≡ text ++ letters run.symbol
    → b ≡ a ++ 40 ∷ [] → c ≡ b ++ decimal 27 run.count → new ≡ c ++ 41 ∷ [] → new ≡ text ++ run_text run
often_written text a b c new run often e f g h =
    h ∙ ap (λ t. t ++ 41 ∷ []) (g ∙ ap (λ t. t ++ decimal 27 run.count) (f ∙ ap (λ t. t ++ 40 ∷ []) e))
    ∙ append_assoc ((text ++ letters run.symbol) ++ 40 ∷ []) (decimal 27 run.count) (41 ∷ [])
    ∙ append_assoc (text ++ letters run.symbol) (40 ∷ []) (decimal 27 run.count ++ 41 ∷ [])
    ∙ append_assoc text (letters run.symbol) (40 ∷ (decimal 27 run.count ++ 41 ∷ []))
    ∙ ap (λ t. text ++ (letters run.symbol ++ t)) (sym (behind_often run.count often))

pub next_written : (text new all : List ℕ) (runs : List Run) (i : ℕ) (d : Run)
    → i < length runs → new ≡ text ++ run_text (get_or runs i d) → text ++ spelling_of (drop i runs) ≡ all
    → new ++ spelling_of (drop (i + 1) runs) ≡ all
next_written text new all runs i d h e before =
    ap (λ t. t ++ spelling_of (drop (i + 1) runs)) e
    ∙ append_assoc text (run_text (get_or runs i d)) (spelling_of (drop (i + 1) runs))
    ∙ ap (λ k. text ++ (run_text (get_or runs i d) ++ spelling_of (drop k runs))) (add-one i)
    ∙ ap (λ (l : List Run). text ++ spelling_of l) (sym (drop-cons runs i d h)) ∙ before
