-- Numbers of four bytes, read and written.
use Rattle.std.proofs.Common.{◌≡◌, ◌<◌, ◌*◌, ◌^◌, ℕ, zero, suc, List, [], ◌∷◌, length, drop, get_or, refl, sym, ◌∙◌, ap}
use Rattle.std.proofs.Common.{arith}
use Rattle.std.specs.Prelude.{true, ◌==◌, replicate}
use Rattle.std.specs.List.{All, list_all}
use Rattle.std.proofs.lemmas.Bool.{and_parts, eqb-true}
use Rattle.std.proofs.lemmas.List.{ext_get_or}
use Rattle.std.proofs.lemmas.List.Elements.{All-head, All-tail}
use Rattle.byteorder.specs.Endian.{big_number, big_bytes, IsRead}
use Rattle.byteorder.specs.Numbers.{big_number-reads_back}
use Rattle.pages.specs.Layout.{words, number_bytes, zeros}

-- as many numbers as there are four bytes
pub length-words : (n : ℕ) (xs : List ℕ) → length xs ≡ 4 * n → length (words xs) ≡ n
unfolding words
length-words zero [] all = refl
length-words (suc n) [] all = absurd (omega (arith, all))
length-words n (a ∷ []) all = absurd (omega (arith, all))
length-words n (a ∷ b ∷ []) all = absurd (omega (arith, all))
length-words n (a ∷ b ∷ c ∷ []) all = absurd (omega (arith, all))
length-words zero (a ∷ b ∷ c ∷ d ∷ more) all = absurd (omega (arith, all))
length-words (suc n) (a ∷ b ∷ c ∷ d ∷ more) all = ap suc (length-words n more (omega (arith, all)))

word_at : (n k : ℕ) (xs : List ℕ) → length xs ≡ 4 * n → k < n → get_or (words xs) k 0 ≡ big_number 4 (drop (4 * k) xs)
unfolding words
word_at zero k xs all lt = absurd (omega (arith, lt))
word_at (suc n) k [] all lt = absurd (omega (arith, all))
word_at (suc n) k (a ∷ []) all lt = absurd (omega (arith, all))
word_at (suc n) k (a ∷ b ∷ []) all lt = absurd (omega (arith, all))
word_at (suc n) k (a ∷ b ∷ c ∷ []) all lt = absurd (omega (arith, all))
word_at (suc n) zero (a ∷ b ∷ c ∷ d ∷ more) all lt = refl
word_at (suc n) (suc k) (a ∷ b ∷ c ∷ d ∷ more) all lt =
    let four : 4 * suc k ≡ suc (suc (suc (suc (4 * k)))) = omega arith in
    word_at n k more (omega (arith, all)) (omega (arith, lt))
    ∙ sym (ap (λ (m : ℕ). big_number 4 (drop m (a ∷ b ∷ c ∷ d ∷ more))) four)

pub all_words : (n : ℕ) (xs numbers : List ℕ) → length xs ≡ 4 * n → length numbers ≡ n → IsRead big_number 4 xs numbers
    → numbers ≡ words xs
all_words n xs numbers all count reads = ext_get_or 0 numbers (words xs) (count ∙ sym (length-words n xs all))
    (λ i lt. reads i lt ∙ sym (word_at n i xs all (omega (arith, lt, count))))

-- what is written is read again
pub words-spelled : (numbers : List ℕ) → All (λ n. n < 2 ^ 32) numbers → words (number_bytes numbers) ≡ numbers
unfolding words
words-spelled [] small = refl
words-spelled (n ∷ numbers) small =
    let first : big_number 4 (big_bytes 4 n) ≡ n =
    big_number-reads_back 4 n [] (All-head (λ (m : ℕ). m < 2 ^ 32) n numbers small) in
    rw first (ap (λ (l : List ℕ). n ∷ l) (words-spelled numbers (All-tail (λ (m : ℕ). m < 2 ^ 32) n numbers small)))

blanks : (numbers : List ℕ) → list_all (λ n. n == 0) numbers ≡ true → numbers ≡ replicate (length numbers) 0
blanks [] all = refl
blanks (n ∷ numbers) all =
    let both = and_parts (n == 0) (list_all (λ m. m == 0) numbers) all in
    rw (eqb-true n 0 both.0) (ap (λ (l : List ℕ). 0 ∷ l) (blanks numbers both.1))

-- a map sector that names nothing
pub all_zeros : (numbers : List ℕ) → length numbers ≡ 1024 → list_all (λ n. n == 0) numbers ≡ true → numbers ≡ zeros
unfolding zeros
all_zeros numbers count all = blanks numbers all ∙ ap (λ (n : ℕ). replicate n 0) count
