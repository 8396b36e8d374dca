-- Items of one size, one after the other, are read again.
use Rattle.std.proofs.Common.{◌≡◌, ◌<◌, ◌+◌, ◌*◌, ◌^◌, ℕ, zero, suc, List, [], ◌∷◌, ◌++◌, length, drop, append_assoc}
use Rattle.std.proofs.Common.{length-append, refl, sym, ◌∙◌, ap, arith}
use Rattle.std.specs.List.{AllByRecursion, flat_map}
use Rattle.std.proofs.lemmas.List.{drop-drop, append-nil}
use Rattle.byteorder.specs.Endian.{big_number, big_bytes}
use Rattle.byteorder.specs.Numbers.{big_number-reads_back}
use Rattle.records.specs.Files.{IsArrival}
use Rattle.file_bytes.specs.Read.{several}

-- one more
module _ {A : Type 0} (size : ℕ) (one : List ℕ → A) where
  pub several_more : (k : ℕ) (bytes : List ℕ)
      → several size one (k + 1) bytes ≡ several size one k bytes ++ one (drop (size * k) bytes) ∷ []
  several_more zero bytes = ap (λ (n : ℕ). one (drop n bytes) ∷ []) (let e : 0 ≡ size * 0 = omega arith in e)
  several_more (suc k) bytes =
      ap (λ (n : ℕ). several size one n bytes) (let e : suc k + 1 ≡ suc (k + 1) = omega arith in e)
      ∙ ap (λ (l : List A). one bytes ∷ l) (several_more k (drop size bytes))
      ∙ ap (λ (l : List ℕ). (one bytes ∷ several size one k (drop size bytes)) ++ one l ∷ []) (drop-drop (size * k) size
      bytes ∙ ap (λ (n : ℕ). drop n bytes) (let e : size + size * k ≡ size * suc k = omega arith in e))

  pub one_more : (k : ℕ) (bytes : List ℕ) (so_far after : List A) (next : A) → so_far ≡ several size one k bytes
      → next ≡ one (drop (size * k) bytes) → after ≡ so_far ++ next ∷ [] → after ≡ several size one (k + 1) bytes
  one_more k bytes so_far after next is read pushed = pushed ∙ ap (λ (l : List A). l ++ next ∷ []) is
      ∙ ap (λ (x : A). several size one k bytes ++ x ∷ []) read ∙ sym (several_more k bytes)

-- what a spelling has in front is read, and what is after it stays
pub record Back {A : Type 0} (size : ℕ) (one : List ℕ → A) (spelled : A → List ℕ) (a : A) : Type 0 where
  pub same : (more : List ℕ) → one (spelled a ++ more) ≡ a
  pub rest : (more : List ℕ) → drop size (spelled a ++ more) ≡ more

module _ {A : Type 0} (size : ℕ) (one : List ℕ → A) (spelled : A → List ℕ) where
  pub all_same : (items : List A) (more : List ℕ) → AllByRecursion (Back size one spelled) items
      → several size one (length items) (flat_map spelled items ++ more) ≡ items
  all_same [] more all = refl
  all_same (a ∷ items) more all =
      ap (several size one (suc (length items))) (append_assoc (spelled a) (flat_map spelled items) more)
      ∙ ap (λ (x : A). x ∷ several size one (length items) (drop size (spelled a ++ (flat_map spelled items ++ more))))
      (all.0.same (flat_map spelled items ++ more))
      ∙ ap (λ (l : List ℕ). a ∷ several size one (length items) l) (all.0.rest (flat_map spelled items ++ more))
      ∙ ap (λ (l : List A). a ∷ l) (all_same items more all.1)

  pub all_rest : (items : List A) (more : List ℕ) → AllByRecursion (Back size one spelled) items
      → drop (size * length items) (flat_map spelled items ++ more) ≡ more
  all_rest [] more all = ap (λ (n : ℕ). drop n more) (let e : size * 0 ≡ 0 = omega arith in e)
  all_rest (a ∷ items) more all =
      ap (λ (l : List ℕ). drop (size * suc (length items)) l) (append_assoc (spelled a) (flat_map spelled items) more)
      ∙ ap (λ (n : ℕ). drop n (spelled a ++ (flat_map spelled items ++ more)))
      (let e : size * suc (length items) ≡ size + size * length items = omega arith in e)
      ∙ sym (drop-drop (size * length items) size (spelled a ++ (flat_map spelled items ++ more)))
      ∙ ap (drop (size * length items)) (all.0.rest (flat_map spelled items ++ more))
      ∙ all_rest items more all.1

  pub all_long : (items : List A) → AllByRecursion (λ a. length (spelled a) ≡ size) items
      → length (flat_map spelled items) ≡ size * length items
  all_long [] long = omega arith
  all_long (a ∷ items) long =
      omega (arith, length-append (spelled a) (flat_map spelled items), long.0, all_long items long.1)

-- numbers
pub same_number : (n x y : ℕ) → x < 256 ^ n → y < 256 ^ n → big_bytes n x ≡ big_bytes n y → x ≡ y
same_number n x y low high same = sym (back x low) ∙ ap (big_number n) same ∙ back y high
  where
    back : (x : ℕ) → x < 256 ^ n → big_number n (big_bytes n x) ≡ x
    back x low = ap (big_number n) (sym (append-nil (big_bytes n x))) ∙ big_number-reads_back n x [] low

number_back : (n : ℕ) → n < 2 ^ 64 → Back 8 (big_number 8) (big_bytes 8) n
number_back n lt = record { same = λ more. big_number-reads_back 8 n more lt; rest = λ more. refl }

pub all_numbers : (next : ℕ) (arrivals : List ℕ) → next < 2 ^ 64 → AllByRecursion (IsArrival next) arrivals
    → AllByRecursion (Back 8 (big_number 8) (big_bytes 8)) arrivals
all_numbers next [] lt all = tt
all_numbers next (a ∷ arrivals) lt all =
    (number_back a (omega (arith, lt, all.0.1)), all_numbers next arrivals lt all.1)

pub each_long : {A : Type 0} (size : ℕ) (spelled : A → List ℕ) → ((a : A) → length (spelled a) ≡ size)
    → (items : List A) → AllByRecursion (λ a. length (spelled a) ≡ size) items
each_long size spelled long [] = tt
each_long size spelled long (a ∷ items) = (long a, each_long size spelled long items)
