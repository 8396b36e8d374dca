-- A text and the character after it.
use Rattle.std.proofs.Common.{◌≡◌, ℕ, ◌-◌, List, [], ◌∷◌, ◌++◌, take, length, length-append, get_or, refl, ap, ◌∙◌}
use Rattle.std.proofs.Common.{arith}
use Rattle.std.proofs.Math.Seq.{take-append_seam}

at_seam : (text : List ℕ) (c : ℕ) → get_or (text ++ c ∷ []) (length text) 0 ≡ c
at_seam [] c = refl
at_seam (d ∷ text) c = at_seam text c

length_one : (text : List ℕ) (c : ℕ) → length (text ++ c ∷ []) - 1 ≡ length text
length_one text c = omega (arith, length-append text (c ∷ []))

pub last_is : (text : List ℕ) (c : ℕ) → get_or (text ++ c ∷ []) (length (text ++ c ∷ []) - 1) 0 ≡ c
last_is text c = ap (λ n. get_or (text ++ c ∷ []) n 0) (length_one text c) ∙ at_seam text c

pub all_but_last : (text : List ℕ) (c : ℕ) → take (length (text ++ c ∷ []) - 1) (text ++ c ∷ []) ≡ text
all_but_last text c = ap (λ n. take n (text ++ c ∷ [])) (length_one text c) ∙ take-append_seam text (c ∷ [])
