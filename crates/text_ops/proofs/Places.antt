-- The first place of a text, from some place on.
use Rattle.std.proofs.Common.{◌≡◌, ℕ, suc, ◌+◌, ◌<◌, true, false, List, ◌∷◌, length, drop, get_or, Option, Some, None}
use Rattle.std.proofs.Common.{refl, ap, ◌∙◌, arith, drop-cons, add-one}
use Rattle.std.specs.Option.{option_map}
use Rattle.text_ops.specs.Places.{begins_text, first_place}

-- a place counted from further on
abbrev pub from_place : ℕ → Option ℕ → Option ℕ
from_place by o = option_map (λ n. n + by) o

pub from_none : (o : Option ℕ) → o ≡ from_place 0 o
from_none None = refl
from_none (Some n) = ap Some (omega arith)

pub one_on : (by : ℕ) (o : Option ℕ) → from_place by (option_map (λ n. n + 1) o) ≡ from_place (by + 1) o
one_on by None = refl
one_on by (Some n) = ap Some (omega arith)

first_at : (sought : List ℕ) (c : ℕ) (rest : List ℕ) → begins_text sought (c ∷ rest) ≡ true
    → first_place sought (c ∷ rest) ≡ Some 0
first_at sought c rest stands = rw stands

not_at : (sought : List ℕ) (c : ℕ) (rest : List ℕ) → begins_text sought (c ∷ rest) ≡ false
    → first_place sought (c ∷ rest) ≡ option_map (λ at. at + 1) (first_place sought rest)
not_at sought c rest stands = rw stands

pub found_here : (sought text : List ℕ) (at : ℕ) → at < length text → begins_text sought (drop at text) ≡ true
    → from_place at (first_place sought (drop at text)) ≡ Some at
found_here sought text at h stands =
    let e = drop-cons text at 0 h in
    let s : begins_text sought (get_or text at 0 ∷ drop (suc at) text) ≡ true = rw e at stands in
    rw (e, first_at sought (get_or text at 0) (drop (suc at) text) s) (ap Some (omega arith))

pub not_here : (sought text : List ℕ) (at : ℕ) → at < length text → begins_text sought (drop at text) ≡ false
    → from_place at (first_place sought (drop at text)) ≡ from_place (at + 1) (first_place sought (drop (at + 1) text))
not_here sought text at h stands =
    let e = drop-cons text at 0 h in
    let s : begins_text sought (get_or text at 0 ∷ drop (suc at) text) ≡ false = rw e at stands in
    rw (e, add-one at, not_at sought (get_or text at 0) (drop (suc at) text) s)
    (one_on at (first_place sought (drop (suc at) text))
    ∙ ap (λ n. from_place n (first_place sought (drop (suc at) text))) (add-one at))
