-- No two lists of bytes have one text.
use Rattle.std.proofs.Common.{◌≡◌, ◌⊎◌, ℕ, zero, suc, ◌<◌, ◌-◌, ◌+◌, ◌*◌, ◌/◌, ◌%◌, Bool, true, false, cond, eqb, ltb}
use Rattle.std.proofs.Common.{List, [], ◌∷◌, ◌++◌, inl, inr, refl, sym, ap, ◌∙◌, arith}
use Rattle.std.proofs.lemmas.Bool.{eqb-true, eqb-false}
use Rattle.std.proofs.lemmas.Nat.{div-add-mod', div_below, mod_below}
use Rattle.std.specs.List.{AllByRecursion}
use Rattle.records.specs.Files.{IsByte}
use Rattle.volume_commands.specs.Text.{is_visible, hexadecimal_digit, hexadecimal_text, byte_text, bytes_text}

digit_value : ℕ → ℕ
digit_value code = cond (ltb code 97) (code - 48) (code - 87)

value_back : (value : ℕ) → value < 16 → digit_value (hexadecimal_digit value) ≡ value
unfolding digit_value
value_back zero _ = refl
value_back (suc zero) _ = refl
value_back (suc (suc zero)) _ = refl
value_back (suc (suc (suc zero))) _ = refl
value_back (suc (suc (suc (suc zero)))) _ = refl
value_back (suc (suc (suc (suc (suc zero))))) _ = refl
value_back (suc (suc (suc (suc (suc (suc zero)))))) _ = refl
value_back (suc (suc (suc (suc (suc (suc (suc zero))))))) _ = refl
value_back (suc (suc (suc (suc (suc (suc (suc (suc zero)))))))) _ = refl
value_back (suc (suc (suc (suc (suc (suc (suc (suc (suc zero))))))))) _ = refl
value_back (suc (suc (suc (suc (suc (suc (suc (suc (suc (suc zero)))))))))) _ = refl
value_back (suc (suc (suc (suc (suc (suc (suc (suc (suc (suc (suc zero))))))))))) _ = refl
value_back (suc (suc (suc (suc (suc (suc (suc (suc (suc (suc (suc (suc zero)))))))))))) _ = refl
value_back (suc (suc (suc (suc (suc (suc (suc (suc (suc (suc (suc (suc (suc zero))))))))))))) _ = refl
value_back (suc (suc (suc (suc (suc (suc (suc (suc (suc (suc (suc (suc (suc (suc zero)))))))))))))) _ = refl
value_back (suc (suc (suc (suc (suc (suc (suc (suc (suc (suc (suc (suc (suc (suc (suc zero))))))))))))))) _ = refl
value_back (suc (suc (suc (suc (suc (suc (suc (suc (suc (suc (suc (suc (suc (suc (suc (suc n)))))))))))))))) lt =
    absurd (omega (arith, lt))

same_digit : (one two : ℕ) → one < 16 → two < 16 → hexadecimal_digit one ≡ hexadecimal_digit two → one ≡ two
same_digit one two lt lt' e = sym (value_back one lt) ∙ ap digit_value e ∙ value_back two lt'

-- a doubled backslash, the byte itself, or its digits
abbrev Shape : ℕ → List ℕ → Type 0
Shape byte text =
    ((byte ≡ 92) × (text ≡ 92 ∷ 92 ∷ [])) ⊎
    (((byte ≡ 92 → ⊥) × (text ≡ byte ∷ [])) ⊎ (text ≡ hexadecimal_text byte))

shape_by : (byte : ℕ) (doubled itself : Bool) → eqb byte 92 ≡ doubled
    → Shape byte (cond doubled (92 ∷ 92 ∷ []) (cond itself (byte ∷ []) (hexadecimal_text byte)))
shape_by byte true itself e = inl (eqb-true byte 92 e, refl)
shape_by byte false true e = inr (inl (eqb-false byte 92 e, refl))
shape_by byte false false e = inr (inr refl)

shape_of : (byte : ℕ) → Shape byte (byte_text byte)
shape_of byte = shape_by byte (eqb byte 92) (is_visible byte) refl

joined : (one two front front' rest rest' : List ℕ) → one ≡ front → two ≡ front'
    → one ++ rest ≡ two ++ rest' → front ++ rest ≡ front' ++ rest'
joined one two front front' rest rest' e e' same =
    sym (ap (λ (l : List ℕ). l ++ rest) e) ∙ same ∙ ap (λ (l : List ℕ). l ++ rest') e'

first_is : (a b : ℕ) (rest rest' : List ℕ) → a ∷ rest ≡ b ∷ rest' → a ≡ b
first_is a b rest rest' e = cc

second_is : (a b c d : ℕ) (rest rest' : List ℕ) → a ∷ c ∷ rest ≡ b ∷ d ∷ rest' → c ≡ d
second_is a b c d rest rest' e = cc

same_start : (a b : ℕ) (one two rest rest' : List ℕ) → a < 256 → b < 256 → Shape a one → Shape b two
    → one ++ rest ≡ two ++ rest' → (a ≡ b) × (rest ≡ rest')
same_start a b one two rest rest' la lb (inl x) (inl y) e =
    let h : 92 ∷ 92 ∷ rest ≡ 92 ∷ 92 ∷ rest' = joined one two _ _ rest rest' x.1 y.1 e in (x.0 ∙ sym y.0, cc)
same_start a b one two rest rest' la lb (inl x) (inr (inl y)) e =
    let h : 92 ∷ 92 ∷ rest ≡ b ∷ rest' = joined one two _ _ rest rest' x.1 y.1 e in
    absurd (y.0 (sym (first_is _ _ _ _ h)))
same_start a b one two rest rest' la lb (inl x) (inr (inr y)) e =
    let h : 92 ∷ 92 ∷ rest ≡ hexadecimal_text b ++ rest' = joined one two _ _ rest rest' x.1 y e in
    absurd (omega (arith, second_is _ _ _ _ _ _ h))
same_start a b one two rest rest' la lb (inr (inl x)) (inl y) e =
    let h : a ∷ rest ≡ 92 ∷ 92 ∷ rest' = joined one two _ _ rest rest' x.1 y.1 e in
    absurd (x.0 (first_is _ _ _ _ h))
same_start a b one two rest rest' la lb (inr (inl x)) (inr (inl y)) e =
    let h : a ∷ rest ≡ b ∷ rest' = joined one two _ _ rest rest' x.1 y.1 e in (cc, cc)
same_start a b one two rest rest' la lb (inr (inl x)) (inr (inr y)) e =
    let h : a ∷ rest ≡ hexadecimal_text b ++ rest' = joined one two _ _ rest rest' x.1 y e in
    absurd (x.0 (first_is _ _ _ _ h))
same_start a b one two rest rest' la lb (inr (inr x)) (inl y) e =
    let h : hexadecimal_text a ++ rest ≡ 92 ∷ 92 ∷ rest' = joined one two _ _ rest rest' x y.1 e in
    absurd (omega (arith, second_is _ _ _ _ _ _ h))
same_start a b one two rest rest' la lb (inr (inr x)) (inr (inl y)) e =
    let h : hexadecimal_text a ++ rest ≡ b ∷ rest' = joined one two _ _ rest rest' x y.1 e in
    absurd (y.0 (sym (first_is _ _ _ _ h)))
same_start a b one two rest rest' la lb (inr (inr x)) (inr (inr y)) e =
    let h : hexadecimal_text a ++ rest ≡ hexadecimal_text b ++ rest' = joined one two _ _ rest rest' x y e in
    let high : hexadecimal_digit (a / 16) ≡ hexadecimal_digit (b / 16) = cc in
    let low : hexadecimal_digit (a % 16) ≡ hexadecimal_digit (b % 16) = cc in
    let q = same_digit (a / 16) (b / 16)
    (div_below a 16 16 (omega arith) la) (div_below b 16 16 (omega arith) lb) high in
    let r = same_digit (a % 16) (b % 16) (mod_below a 16 (omega arith)) (mod_below b 16 (omega arith)) low in (
      sym (div-add-mod' a 16) ∙ ap (λ (n : ℕ). n * 16 + a % 16) q
          ∙ ap (λ (n : ℕ). b / 16 * 16 + n) r ∙ div-add-mod' b 16,
      cc,
    )

no_text : (byte : ℕ) (one rest : List ℕ) → Shape byte one → [] ≡ one ++ rest → ⊥
no_text byte one rest (inl x) e = let h : [] ≡ 92 ∷ 92 ∷ rest = e ∙ ap (λ (l : List ℕ). l ++ rest) x.1 in cc
no_text byte one rest (inr (inl x)) e = let h : [] ≡ byte ∷ rest = e ∙ ap (λ (l : List ℕ). l ++ rest) x.1 in cc
no_text byte one rest (inr (inr x)) e =
    let h : [] ≡ hexadecimal_text byte ++ rest = e ∙ ap (λ (l : List ℕ). l ++ rest) x in cc

pub same_from_text : (bytes others : List ℕ) → AllByRecursion IsByte bytes → AllByRecursion IsByte others
    → bytes_text bytes ≡ bytes_text others → bytes ≡ others
same_from_text [] [] all all' e = refl
same_from_text [] (b ∷ others) all all' e = absurd (no_text b (byte_text b) (bytes_text others) (shape_of b) e)
same_from_text (a ∷ bytes) [] all all' e = absurd (no_text a (byte_text a) (bytes_text bytes) (shape_of a) (sym e))
same_from_text (a ∷ bytes) (b ∷ others) all all' e =
    let h = same_start a b (byte_text a) (byte_text b) (bytes_text bytes) (bytes_text others)
    all.0 all'.0 (shape_of a) (shape_of b) e in
    ap (λ (n : ℕ). n ∷ bytes) h.0 ∙ ap (λ (l : List ℕ). b ∷ l) (same_from_text bytes others all.1 all'.1 h.1)
