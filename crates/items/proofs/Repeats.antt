-- A text over and over.
use Rattle.std.proofs.Common.{◌≡◌, ℕ, zero, suc, ◌+◌, ◌-◌, ◌<◌, ◌≤◌, ◌⊎◌, inl, inr, List, [], ◌∷◌, ◌++◌, length, take}
use Rattle.std.proofs.Common.{drop, get_or, set, ap, sym, ◌∙◌, arith, subst}
use Rattle.std.proofs.lemmas.List.{append_assoc, append-nil, length-append, length-set, take-append-le, at_drop_more}
use Rattle.std.proofs.lemmas.List.{take_more_set, drop_all}
use Rattle.std.specs.List.{repeat}
use Rattle.std.specs.Prelude.{replicate}
use Rattle.items.specs.Texts.{repeated_text, padded_text, space}

repeat_long : (n : ℕ) (text : List ℕ) → 1 ≤ length text → n ≤ length (repeat n text)
repeat_long zero text h = omega arith
repeat_long (suc n) text h = omega (arith, repeat_long n text h, length-append text (repeat n text))

repeat_other_end : (n : ℕ) (text : List ℕ) → text ++ repeat n text ≡ repeat n text ++ text
repeat_other_end zero text = append-nil text
repeat_other_end (suc n) text =
    ap (λ t. text ++ t) (repeat_other_end n text) ∙ sym (append_assoc text (repeat n text) text)

-- a text in front changes nothing of the beginning
pub once_more : (m n : ℕ) (text : List ℕ) → 1 ≤ length text → m ≤ n
    → take m (text ++ repeat n text) ≡ take m (repeat n text)
once_more m n text h k =
    let room : m ≤ length (repeat n text) = omega (arith, repeat_long n text h) in
    ap (take m) (repeat_other_end n text) ∙ take-append-le m (repeat n text) text room

-- what is to be written, from a place in the text on
abbrev pub to_come : ℕ → ℕ → List ℕ → ℕ → List ℕ
to_come count size text at = take count (drop at text ++ repeat size text)

come_next : (k size at : ℕ) (text : List ℕ) → at < length text
    → to_come (suc k) size text at ≡ get_or text at 0 ∷ take k (drop (at + 1) text ++ repeat size text)
come_next k size at text h = at_drop_more (λ rest. take (suc k) (rest ++ repeat size text)) text at 0 h

-- one character written
pub written_next : (bytes text : List ℕ) (i at : ℕ) → i < length bytes → at < length text
    → take i bytes ++ to_come (length bytes - i) (length bytes) text at ≡ repeated_text (length bytes) text
    → take (i + 1) (set bytes i (get_or text at 0)) ++ to_come (length bytes - (i + 1)) (length bytes) text (at + 1)
    ≡ repeated_text (length bytes) text
written_next bytes text i at h w e =
    let c = get_or text at 0 in
    let k = length bytes - (i + 1) in
    let left : length bytes - i ≡ suc k = omega arith in
    ap (λ t. t ++ to_come k (length bytes) text (at + 1)) (take_more_set bytes i c h)
    ∙ append_assoc (take i bytes) (c ∷ []) (to_come k (length bytes) text (at + 1))
    ∙ ap (λ t. take i bytes ++ t) (sym (come_next k (length bytes) at text w))
    ∙ ap (λ n. take i bytes ++ to_come n (length bytes) text at) (sym left)
    ∙ e

-- at the text's end it begins again
pub come_again : (k size : ℕ) (text : List ℕ) (at : ℕ) → 1 ≤ length text → k ≤ size → at ≡ length text
    → to_come k size text at ≡ to_come k size text 0
come_again k size text at some few e =
    let past : length text ≤ at = omega arith in
    ap (λ t. take k (t ++ repeat size text)) (drop_all at text past) ∙ sym (once_more k size text some few)

-- one turn: the place of the next character begins again at the text's end
pub turn : (bytes text : List ℕ) (i at next : ℕ) → 1 ≤ length text → i < length bytes → at < length text
    → take i bytes ++ to_come (length bytes - i) (length bytes) text at ≡ repeated_text (length bytes) text
    → ((at + 1 ≡ length text) × (next ≡ 0)) ⊎ ((at + 1 ≡ length text → ⊥) × (next ≡ at + 1))
    → let new = set bytes i (get_or text at 0) in
    (next < length text)
    × (take (i + 1) new ++ to_come (length new - (i + 1)) (length new) text next ≡ repeated_text (length new) text)
turn bytes text i at next some h w e place =
    let new = set bytes i (get_or text at 0) in
    let P : ℕ → Type 0 =
    λ n. (next < length text) × (take (i + 1) new ++ to_come (n - (i + 1)) n text next ≡ repeated_text n text) in
    subst P (sym (length-set bytes i (get_or text at 0))) (by_place place)
  where
    by_place : ((at + 1 ≡ length text) × (next ≡ 0)) ⊎ ((at + 1 ≡ length text → ⊥) × (next ≡ at + 1))
        → (next < length text) × (take (i + 1) (set bytes i (get_or text at 0))
        ++ to_come (length bytes - (i + 1)) (length bytes) text next ≡ repeated_text (length bytes) text)
    by_place (inl again) =
        let k = length bytes - (i + 1) in
        let few : k ≤ length bytes = omega arith in
        let begin = again.1 in
        let first : next < length text = omega arith in (
          first,
          ap (λ p. take (i + 1) (set bytes i (get_or text at 0)) ++ to_come k (length bytes) text p) begin
              ∙ ap (λ t. take (i + 1) (set bytes i (get_or text at 0)) ++ t)
              (sym (come_again k (length bytes) text (at + 1) some few again.0))
              ∙ written_next bytes text i at h w e,
        )
    by_place (inr on) =
        let end = on.0 in
        let step = on.1 in
        let inside : next < length text = omega (arith, end, step) in (
          inside,
          ap (λ p. take (i + 1) (set bytes i (get_or text at 0))
              ++ to_come (length bytes - (i + 1)) (length bytes) text p) on.1
              ∙ written_next bytes text i at h w e,
        )

pub begin : (size : ℕ) (text : List ℕ) → 1 ≤ length text → to_come (size - 0) size text 0 ≡ repeated_text size text
begin size text some =
    let all : size - 0 ≡ size = omega arith in
    let enough : size ≤ size = omega arith in
    ap (λ n. to_come n size text 0) all ∙ once_more size size text some enough

-- ---- a text that fills its room

-- A text that is no shorter than its room has no spaces after it.
pub full_text : (size : ℕ) (new text : List ℕ) → size ≤ length text → new ≡ take size text → new ≡ padded_text size text
full_text size new text h e =
    let none : 0 ≡ size - length text = omega arith in
    e ∙ sym (append-nil (take size text)) ∙ ap (λ n. take size text ++ replicate n space) none
